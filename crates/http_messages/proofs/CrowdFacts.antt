-- Whether a prefix of some bytes is crowded.
use Rattle.std.proofs.Common.{◌≡◌, ◌≢◌, ℕ, ◌+◌, ◌-◌, ◌<◌, ◌≤◌, List, [], ◌∷◌, ◌++◌, length, take, drop, slice_index, refl, sym, ap, ◌∙◌, subst, arith, append_assoc, append-nil, length-append, length-take, take-append-drop, get_or-take, Some, None}
use Rattle.std.proofs.lemmas.List.{take-append-le, take_all, drop_more}
use Rattle.httparse.specs.Grammar.{RequestHead, IsRequestHead, LineEnd, crlf, lf, print_end}
use Rattle.http_messages.specs.Heads.{IsHead, open_head, IsCrowded}
use Rattle.http_messages.proofs.HeadFacts.{print_open, closed_is}
use Rattle.http_messages.specs.declared.decision.TheConstants.{MOST_FIELDS}

push_same : (a b : List ℕ) (c d : ℕ) → a ++ c ∷ [] ≡ b ++ d ∷ [] → (a ≡ b) × (c ≡ d)
push_same [] [] c d e = (refl, cc)
push_same [] (y ∷ b) c d e = absurd (omega (arith, ap length e, length-append b (d ∷ [])))
push_same (x ∷ a) [] c d e = absurd (omega (arith, ap length e, length-append a (c ∷ [])))
push_same (x ∷ a) (y ∷ b) c d e =
    let tails = push_same a b c d (cc) in
    let heads : x ≡ y = cc in
    (rw (heads, tails.0) refl, tails.1)

at_length : (a r : List ℕ) (b : ℕ) → slice_index (a ++ b ∷ r) (length a) ≡ b
at_length [] r b = refl
at_length (x ∷ a) r b = at_length a r b

take_front : (a b : List ℕ) → take (length a) (a ++ b) ≡ a
take_front a b = take-append-le (length a) a b (omega arith) ∙ take_all (length a) a (omega arith)

whole : (bytes q r : List ℕ) → bytes ≡ q ++ r → (k : IsCrowded q) → bytes ≡ open_head k.head ++ k.byte ∷ r
whole bytes q r e k = e ∙ ap (λ (t : List ℕ). t ++ r) k.bytes_are ∙ append_assoc (open_head k.head) (k.byte ∷ []) r

place_of : (bytes q r : List ℕ) (at : ℕ) → ((h : RequestHead) (b : ℕ) (rest : List ℕ) → IsRequestHead h → length h.fields ≡ MOST_FIELDS
    → bytes ≡ open_head h ++ b ∷ rest → Some at ≡ Some (length (open_head h)))
    → bytes ≡ q ++ r → (k : IsCrowded q) → at ≡ length (open_head k.head)
place_of bytes q r at found e k = let same = found k.head k.byte r k.good k.full (whole bytes q r e k) in cc

pub none_crowded : (bytes q r : List ℕ) → ((h : RequestHead) (b : ℕ) (rest : List ℕ) → IsRequestHead h → length h.fields ≡ MOST_FIELDS
    → bytes ≡ open_head h ++ b ∷ rest → None ≡ Some (length (open_head h)))
    → bytes ≡ q ++ r → IsCrowded q → ⊥
none_crowded bytes q r found e k = let same = found k.head k.byte r k.good k.full (whole bytes q r e k) in absurd (cc)

pub return_not_crowded : (bytes q r : List ℕ) (at : ℕ) → ((h : RequestHead) (b : ℕ) (rest : List ℕ) → IsRequestHead h
    → length h.fields ≡ MOST_FIELDS → bytes ≡ open_head h ++ b ∷ rest → Some at ≡ Some (length (open_head h)))
    → slice_index bytes at ≡ 13 → bytes ≡ q ++ r → IsCrowded q → ⊥
return_not_crowded bytes q r at found is e k =
    k.no_return (sym (at_length (open_head k.head) r k.byte) ∙ sym (ap (λ (t : List ℕ). slice_index t (length (open_head k.head)))
    (whole bytes q r e k)) ∙ ap (λ (n : ℕ). slice_index bytes n) (sym (place_of bytes q r at found e k)) ∙ is)

pub feed_not_crowded : (bytes q r : List ℕ) (at : ℕ) → ((h : RequestHead) (b : ℕ) (rest : List ℕ) → IsRequestHead h → length h.fields ≡ MOST_FIELDS
    → bytes ≡ open_head h ++ b ∷ rest → Some at ≡ Some (length (open_head h)))
    → slice_index bytes at ≡ 10 → bytes ≡ q ++ r → IsCrowded q → ⊥
feed_not_crowded bytes q r at found is e k =
    k.no_feed (sym (at_length (open_head k.head) r k.byte) ∙ sym (ap (λ (t : List ℕ). slice_index t (length (open_head k.head)))
    (whole bytes q r e k)) ∙ ap (λ (n : ℕ). slice_index bytes n) (sym (place_of bytes q r at found e k)) ∙ is)

pub unclosed_not_crowded : (bytes q r : List ℕ) (at : ℕ) → ((h : RequestHead) (b : ℕ) (rest : List ℕ) → IsRequestHead h
    → length h.fields ≡ MOST_FIELDS → bytes ≡ open_head h ++ b ∷ rest → Some at ≡ Some (length (open_head h)))
    → ((h : RequestHead) → IsHead (take at bytes ++ 10 ∷ []) h → length h.fields ≡ MOST_FIELDS → ⊥) → bytes ≡ q ++ r → IsCrowded q → ⊥
unclosed_not_crowded bytes q r at found unclosed e k =
    let front : take at bytes ≡ open_head k.head = ap (λ (n : ℕ). take n bytes) (place_of bytes q r at found e k)
    ∙ ap (λ (t : List ℕ). take (length (open_head k.head)) t) (whole bytes q r e k) ∙ take_front (open_head k.head) (k.byte ∷ r) in
    unclosed (record k.head { last = lf }) (subst (λ (t : List ℕ). IsHead (t
    ++ 10 ∷ []) (record k.head { last = lf })) (sym front) (closed_is k.head k.good)) k.full

last_of_take : (bytes a : List ℕ) (at b : ℕ) → at ≤ length bytes → take at bytes ≡ a ++ b ∷ [] → slice_index bytes (at - 1) ≡ b
last_of_take bytes a at b fits e =
    let size : at ≡ length a + 1 = omega (arith, length-take at bytes, ap length e, length-append a (b ∷ [])) in
    let same : slice_index (a ++ b ∷ []) (length a) ≡ slice_index bytes (at - 1) =
    ap (λ (t : List ℕ). slice_index t (length a)) (sym e) ∙ rw (get_or-take at bytes (length a) 0 (omega (arith, size))) (ap (λ
    (n : ℕ). slice_index bytes n) (omega (arith, size))) in
    sym same ∙ at_length a [] b

open_is_front : (h : RequestHead) (last : LineEnd) (bytes : List ℕ) (at : ℕ) → at ≤ length bytes → slice_index bytes (at - 1) ≡ 10
    → take at bytes ++ 10 ∷ [] ≡ open_head h ++ print_end last → take at bytes ≡ open_head h
open_is_front h crlf bytes at fits fed e =
    let front = (push_same (take at bytes) (open_head h ++ 13 ∷ []) 10 10 (e ∙ sym (append_assoc (open_head h) (13 ∷ []) (10 ∷ [])))).0 in
    let last = last_of_take bytes (open_head h) at 13 fits front in
    absurd (omega (arith, last, fed))
open_is_front h lf bytes at fits fed e = (push_same (take at bytes) (open_head h) 10 10 e).0

pub closed_crowded : (bytes : List ℕ) (at : ℕ) → at < length bytes → slice_index bytes (at - 1) ≡ 10 → slice_index bytes at ≢ 13
    → slice_index bytes at ≢ 10
    → (h : RequestHead) → IsHead (take at bytes ++ 10 ∷ []) h → length h.fields ≡ MOST_FIELDS → (q r : List ℕ) × (bytes ≡ q ++ r) × IsCrowded q
closed_crowded bytes at inside fed no_return no_feed h reads full =
    let front = open_is_front h h.last bytes at (omega arith) fed (reads.1 ∙ append-nil _ ∙ print_open h) in (
      take at bytes ++ slice_index bytes at ∷ [],
      drop (at + 1) bytes,
      sym (take-append-drop at bytes) ∙ ap (λ (t : List ℕ). take at bytes ++ t) (drop_more bytes at 0 inside)
          ∙ sym (append_assoc (take at bytes) (slice_index bytes at ∷ []) (drop (at + 1) bytes)),
      record {
        head = h;
        byte = slice_index bytes at;
        good = reads.0;
        full = full;
        no_return = no_return;
        no_feed = no_feed;
        bytes_are = ap (λ
            (t : List ℕ). t ++ slice_index bytes at ∷ []) front;
      },
    )
