-- Whether some bytes end inside a request's target.
use Rattle.std.proofs.Common.{◌≡◌, ◌≢◌, ℕ, zero, suc, ◌+◌, ◌<◌, ◌≤◌, Bool, true, false, List, [], ◌∷◌, ◌++◌, length, take, drop, slice_index, All, refl, sym, ap, ◌∙◌, subst, arith, append_assoc, length-take, take-append-drop, inl, inr, ◌⊎◌, get_or-take}
use Rattle.std.specs.Prelude.{IsTrue}
use Rattle.std.proofs.lemmas.List.{drop_more}
use Rattle.std.proofs.lemmas.List.Elements.{All-head, All-tail, All-from_get_or}
use Rattle.std.proofs.lemmas.Bool.{false≢true}
use Rattle.httparse.specs.Grammar.{LineEnd, crlf, lf, print_blank, EndsInTarget, AllPass, is_uri_byte, is_token_byte}
use Rattle.httparse.specs.Pieces.{Stops, is_newline}
use Rattle.httparse.proofs.PieceLemmas.{space_ends_token, Stops_token}
use Rattle.http_messages.specs.Feeds.{IsFirstOther, IsFirstVisible, HasWholeEnds, IsOpenTarget}
use Rattle.http_messages.proofs.LineFacts.{first_at, blank_all}

-- where the first byte that fails is
other_at : (test : ℕ → Bool) (p x : List ℕ) (c at : ℕ) → AllPass test p → test c ≡ false → IsFirstOther test (p ++ c ∷ x) at → at ≡ length p
other_at test [] x c zero all fails v = refl
other_at test [] x c (suc n) all fails v = absurd (false≢true (sym fails ∙ v.earlier 0 (omega arith)))
other_at test (d ∷ p) x c zero all fails v = absurd (false≢true (sym v.fails ∙ All-head (λ b. test b ≡ true) d p all))
other_at test (d ∷ p) x c (suc n) all fails v =
    let rest = other_at test p x c n (All-tail (λ b. test b ≡ true) d p all) fails (record {
      within = omega
          (arith, v.within);
      fails = v.fails;
      earlier = λ k below. v.earlier (suc k) (omega arith);
    }) in
    omega (arith, rest)

at_length : (a r : List ℕ) (b : ℕ) → slice_index (a ++ b ∷ r) (length a) ≡ b
at_length [] r b = refl
at_length (x ∷ a) r b = at_length a r b

drop_past : (a r : List ℕ) (b n : ℕ) → n ≡ length a → drop (n + 1) (a ++ b ∷ r) ≡ r
drop_past a r b n e = cut ∙ refl
  where
    go : (a : List ℕ) → drop (suc (length a)) (a ++ b ∷ r) ≡ r
    go [] = refl
    go (x ∷ a) = go a

    cut : drop (n + 1) (a ++ b ∷ r) ≡ r
    cut = let same : n + 1 ≡ suc (length a) = omega (arith, e) in rw same (go a)

pub open_target : (text : List ℕ) (at : ℕ) → IsFirstOther is_token_byte text at → at ≢ 0 → slice_index text at ≡ 32
    → ((k : ℕ) → k < length (drop (at + 1) text) → is_uri_byte (slice_index (drop (at + 1) text) k) ≡ true) → IsOpenTarget text
open_target text at v some space uri = (
  take at text,
  drop (at + 1) text,
  (
    omega (arith, v.within, some, length-take at text),
    All-from_get_or (λ b. IsTrue (is_token_byte b)) _ 0 λ k below. let inside : k < at = omega (arith, length-take at text) in rw
        (get_or-take at text k 0 inside) (v.earlier k inside),
  ),
  All-from_get_or (λ b. IsTrue (is_uri_byte b)) _ 0 uri,
  sym (take-append-drop at text) ∙ ap (λ (t : List ℕ). take at text ++ t) (drop_more text at 0 v.within)
      ∙ ap (λ (b : ℕ). take at text ++ b ∷ drop (at + 1) text) space,
)

place : (text : List ℕ) (at : ℕ) → IsFirstOther is_token_byte text at → (o : IsOpenTarget text) → at ≡ length o.0
place text at v o = other_at is_token_byte o.0 o.1 32 at o.2.1 space_ends_token (subst (λ (t : List ℕ). IsFirstOther is_token_byte t at) o.4 v)

pub not_at_start : (text : List ℕ) (at : ℕ) → IsFirstOther is_token_byte text at → at ≡ 0 → IsOpenTarget text → ⊥
not_at_start text at v zero_at o = omega (arith, place text at v o, zero_at, o.2.0)

pub not_space : (text : List ℕ) (at : ℕ) → IsFirstOther is_token_byte text at → slice_index text at ≢ 32 → IsOpenTarget text → ⊥
not_space text at v other o = other (ap (λ (n : ℕ). slice_index text n) (place text at v o) ∙ ap (λ (t : List ℕ). slice_index t (length o.0)) o.4
    ∙ at_length o.0 o.1 32)

pub not_uri : (text : List ℕ) (at : ℕ) → IsFirstOther is_token_byte text at → (AllPass is_uri_byte (drop (at + 1) text) → ⊥) → IsOpenTarget text → ⊥
not_uri text at v none o =
    let back : drop (at + 1) text ≡ o.1 = ap (λ (t : List ℕ). drop (at + 1) t) o.4 ∙ drop_past o.0 o.1 32 at (place text at v o) in
    none (subst (AllPass is_uri_byte) (sym back) o.3)

none_other_at : (test : ℕ → Bool) (p x : List ℕ) (c : ℕ) → test c ≡ false → ((k : ℕ) → k < length (p ++ c ∷ x)
    → test (slice_index (p ++ c ∷ x) k) ≡ true) → ⊥
none_other_at test [] x c fails none = false≢true (sym fails ∙ none 0 (omega arith))
none_other_at test (d ∷ p) x c fails none = none_other_at test p x c fails (λ k below. none (suc k) (omega (arith, below)))

pub none_other : (text : List ℕ) → ((k : ℕ) → k < length text → is_token_byte (slice_index text k) ≡ true) → IsOpenTarget text → ⊥
none_other text none o = none_other_at is_token_byte o.0 o.1 32 space_ends_token (subst (λ (t : List ℕ). (k : ℕ) → k < length t
    → is_token_byte (slice_index t k) ≡ true) o.4 none)

-- ---- the empty lines

is_one : (b : ℕ) → is_newline b ≡ true → (b ≡ 13) ⊎ (b ≡ 10)
is_one b e = grind arith

-- each CR of the front has its LF
abbrev Whole : List ℕ → List ℕ → Type 0
Whole p x = (k : ℕ) → k < length p → slice_index (p ++ x) k ≡ 13 → slice_index (p ++ x) (suc k) ≡ 10

-- the bytes are empty lines
abbrev AreBlank : List ℕ → Type 0
AreBlank p = (es : List LineEnd) × (p ≡ print_blank es)

-- so are all shorter ones
abbrev Shorter : ℕ → List ℕ → Type 0
Shorter n x = (p : List ℕ) → length p ≤ n → All (λ b. is_newline b ≡ true) p → Whole p x → AreBlank p

after_return : (n : ℕ) (p x : List ℕ) → Shorter n x → length p ≤ n → All (λ b. is_newline b ≡ true) p → Stops is_newline x
    → slice_index (p ++ x) 0 ≡ 10 → Whole p x → AreBlank (13 ∷ p)
after_return n [] [] shorter few all stops feed ends = absurd stops
after_return n [] (b ∷ x) shorter few all stops feed ends = absurd (false≢true (sym (subst (λ (v : ℕ). is_newline v ≡ false) feed stops)))
after_return n (d ∷ p) x shorter few all stops feed ends =
    let more = shorter p (omega (arith, few)) (All-tail (λ b. is_newline b ≡ true) d p all) (λ k below. ends (suc k) (omega (arith, below))) in
    (crlf ∷ more.0, ap (λ (b : ℕ). 13 ∷ b ∷ p) feed ∙ ap (λ (t : List ℕ). 13 ∷ 10 ∷ t) more.1)

one_more : (n c : ℕ) (p x : List ℕ) → Shorter n x → length p ≤ n → All (λ b. is_newline b ≡ true) p → Stops is_newline x → Whole (c ∷ p) x
    → (c ≡ 13) ⊎ (c ≡ 10) → AreBlank (c ∷ p)
one_more n c p x shorter few all stops ends (inl e) =
    let more = after_return n p x shorter few all stops (ends 0 (omega arith) e) (λ k below. ends (suc k) (omega (arith, below))) in
    (more.0, ap (λ (b : ℕ). b ∷ p) e ∙ more.1)
one_more n c p x shorter few all stops ends (inr e) =
    let more = shorter p few all (λ k below. ends (suc k) (omega (arith, below))) in
    (lf ∷ more.0, ap (λ (b : ℕ). b ∷ p) e ∙ ap (λ (t : List ℕ). 10 ∷ t) more.1)

-- bytes of line ends, each CR with its LF, are empty lines
blank_of : (n : ℕ) (x p : List ℕ) → Stops is_newline x → length p ≤ n → All (λ b. is_newline b ≡ true) p → Whole p x → AreBlank p
blank_of n x [] stops few all ends = ([], refl)
blank_of zero x (c ∷ p) stops few all ends = absurd (omega (arith, few))
blank_of (suc n) x (c ∷ p) stops few all ends =
    one_more n c p x (λ q less every whole. blank_of n x q stops less every whole) (omega (arith, few)) (All-tail
    (λ b. is_newline b ≡ true) c p all) stops ends
    (is_one c (All-head (λ b. is_newline b ≡ true) c p all))

-- in empty lines each CR has its LF
blank_ends : (es : List LineEnd) (x : List ℕ) (k : ℕ) → k < length (print_blank es) → slice_index (print_blank es ++ x) k ≡ 13
    → slice_index (print_blank es ++ x) (suc k) ≡ 10
blank_ends [] x k below return = absurd (omega (arith, below))
blank_ends (crlf ∷ es) x zero below return = refl
blank_ends (crlf ∷ es) x (suc zero) below return = absurd (omega (arith, return))
blank_ends (crlf ∷ es) x (suc (suc k)) below return = blank_ends es x k (omega (arith, below)) return
blank_ends (lf ∷ es) x zero below return = absurd (omega (arith, return))
blank_ends (lf ∷ es) x (suc k) below return = blank_ends es x k (omega (arith, below)) return

visible : (bytes : List ℕ) (start : ℕ) → IsFirstVisible bytes start → Stops is_newline (drop start bytes)
visible bytes start v = rw (drop_more bytes start 0 v.within) v.visible

pub in_target_yes : (bytes : List ℕ) (start : ℕ) → IsFirstVisible bytes start → HasWholeEnds bytes start → IsOpenTarget (drop start bytes)
    → EndsInTarget bytes
in_target_yes bytes start v ends o =
    let whole : take start bytes ++ drop start bytes ≡ bytes = take-append-drop start bytes in
    let blank = blank_of (length (take start bytes)) (drop start bytes) (take start bytes) (visible bytes start v) (omega arith)
    (All-from_get_or (λ b. is_newline b ≡ true) _ 0 λ k below. let inside : k < start = omega (arith, length-take start bytes) in rw
    (get_or-take start bytes k 0 inside) (v.earlier k inside))
    (subst (λ (t : List ℕ). (k : ℕ) → k < length (take start bytes) → slice_index t k ≡ 13 → slice_index t (suc k) ≡ 10) (sym whole)
    (λ k below return. let same : suc k ≡ k + 1 = omega arith in rw same (ends k (omega (arith, length-take start bytes)) return))) in (
      blank.0,
      o.0,
      o.1,
      o.2,
      o.3,
      sym whole ∙ ap (λ (t : List ℕ). t ++ drop start bytes) blank.1 ∙ ap (λ (t : List ℕ). print_blank blank.0 ++ t) o.4
          ∙ sym (append_assoc (print_blank blank.0) o.0 (32 ∷ o.1)),
    )

start_of : (bytes : List ℕ) (start : ℕ) → IsFirstVisible bytes start → (x : EndsInTarget bytes) → start ≡ length (print_blank x.0)
start_of bytes start v x =
    first_at (print_blank x.0) (x.1 ++ 32 ∷ x.2) start (blank_all x.0) (Stops_token x.1 (32 ∷ x.2) x.3.0 x.3.1)
    (subst (λ (t : List ℕ). IsFirstVisible t start) (x.5 ∙ append_assoc (print_blank x.0) x.1 (32 ∷ x.2)) v)

pub no_ends : (bytes : List ℕ) (start : ℕ) → IsFirstVisible bytes start → (HasWholeEnds bytes start → ⊥) → EndsInTarget bytes → ⊥
no_ends bytes start v none x =
    let e = x.5 ∙ append_assoc (print_blank x.0) x.1 (32 ∷ x.2) in
    none (subst (λ (t : List ℕ). (k : ℕ) → k < start → slice_index t k ≡ 13 → slice_index t (k + 1) ≡ 10) (sym e)
    (λ k below return. let same : k + 1 ≡ suc k = omega arith in rw same (blank_ends x.0 (x.1
    ++ 32 ∷ x.2) k (omega (arith, start_of bytes start v x)) return)))

drop_front : (a b : List ℕ) → drop (length a) (a ++ b) ≡ b
drop_front [] b = refl
drop_front (x ∷ a) b = drop_front a b

pub not_open : (bytes : List ℕ) (start : ℕ) → IsFirstVisible bytes start → (IsOpenTarget (drop start bytes) → ⊥) → EndsInTarget bytes → ⊥
not_open bytes start v none x =
    let e = x.5 ∙ append_assoc (print_blank x.0) x.1 (32 ∷ x.2) in
    none (
      x.1,
      x.2,
      x.3,
      x.4,
      ap (λ (n : ℕ). drop n bytes) (start_of bytes start v x) ∙ ap (λ (t : List ℕ). drop (length (print_blank x.0)) t) e
          ∙ drop_front (print_blank x.0) (x.1 ++ 32 ∷ x.2),
    )

none_shown : (p x : List ℕ) → Stops is_newline x → ((k : ℕ) → k < length (p ++ x) → is_newline (slice_index (p ++ x) k) ≡ true) → ⊥
none_shown [] [] stops none = stops
none_shown [] (c ∷ x) stops none = false≢true (sym stops ∙ none 0 (omega arith))
none_shown (c ∷ p) x stops none = none_shown p x stops (λ k below. none (suc k) (omega (arith, below)))

pub not_visible : (bytes : List ℕ) → ((k : ℕ) → k < length bytes → is_newline (slice_index bytes k) ≡ true) → EndsInTarget bytes → ⊥
not_visible bytes none x =
    let e = x.5 ∙ append_assoc (print_blank x.0) x.1 (32 ∷ x.2) in
    none_shown (print_blank x.0) (x.1 ++ 32 ∷ x.2) (Stops_token x.1 (32 ∷ x.2) x.3.0 x.3.1)
    (subst (λ (t : List ℕ). (k : ℕ) → k < length t → is_newline (slice_index t k) ≡ true) e none)
