-- Reads, one after another, of bytes that are known where the source tells.
use Rattle.std.proofs.Common.{arith, ℕ, ◌-◌, ◌≡◌, ◌≤◌, ◌<◌, ◌==◌, Bool, true, false, List, [], ◌∷◌, ◌++◌, length, Option, Some, None, All, refl, sym, suc, take, length-take, slice_index, cond, append-nil, ◌∙◌, ap, append_assoc, drop, ◌+◌, get_or, get_or-take, slice_range, drop-drop, drop-cons, add-one, subst}
use Rattle.std.specs.Io.KnownBytes.{Consumes, Keeps, prepend_known}
use Rattle.std.proofs.lemmas.List.Elements.{All-append, All-from_get_or}
use Rattle.memchr.specs.Find.{IsFirstByte, is_byte}
use Rattle.std.proofs.lemmas.List.{nil_from_length, drop-take, take-append-drop}
use Rattle.std.proofs.Math.Seq.{take-length}
use Rattle.std.specs.List.{slice_split}
use Rattle.std.specs.Str.Lines.{lines, lines_of_parts, strip_carriage_return}
use Rattle.std.proofs.lemmas.List.Splits.{slice_split_at, slice_split_none, length-slice_split}
use Rattle.grid_exact.specs.declared.text.TheConstants.{LINE_LIMIT}
use Rattle.oe_http.specs.Lines.{IsPlain, HasFeed, TakesPart, GivesLine}
use Rattle.oe_http.specs.Pending.{Pending, FellBy}
use Rattle.oe_http.specs.Pieces.{Kept, HasRead, TakesRaw, FirstFeed, FeedAt, IsSized}
use Rattle.oe_http.specs.declared.lines.TheConstants.{LONGEST}
use Rattle.oe_http.specs.declared.lines.Next.{Next}
use Rattle.oe_http.specs.declared.lines.Next.TheVariants as next

pub fell_on : (x y z : Option (List ℕ)) (a b c : ℕ) → a ≤ b → b ≤ c → FellBy (b - a) x y → FellBy (c - b) y z → FellBy (c - a) x z
fell_on None y z a b c p q h k = tt
fell_on (Some xs) None z a b c p q h k = absurd h
fell_on (Some xs) (Some ys) None a b c p q h k = absurd k
fell_on (Some xs) (Some ys) (Some zs) a b c p q h k = omega arith

pub consumes_on : (x y z : Option (List ℕ)) (p q : List ℕ) → Consumes x y p → Consumes y z q → Consumes x z (p ++ q)
consumes_on None y z p q h k = tt
consumes_on (Some xs) None z p q h k = absurd h
consumes_on (Some xs) (Some ys) None p q h k = absurd k
consumes_on (Some xs) (Some ys) (Some zs) p q h k = h ∙ ap (λ t. p ++ t) k ∙ sym (append_assoc p q zs)

pub consumes_keep : (x y z : Option (List ℕ)) (p : List ℕ) → Consumes x y p → Keeps y z → Consumes x z p
consumes_keep None y z p h k = tt
consumes_keep (Some xs) None z p h k = absurd h
consumes_keep (Some xs) (Some ys) None p h k = absurd k
consumes_keep (Some xs) (Some ys) (Some zs) p h k = rw k h

pub read_part : (x y z : Option (List ℕ)) (long : Bool) (line : List ℕ) → HasRead x y long line → Keeps y z → TakesPart x z
read_part x y z long line h k = (h.raw, consumes_keep x y z h.raw h.takes k, h.plain)

-- the first of some pending bytes are taken
consumes_front : (bs : List ℕ) (left : Option (List ℕ)) (n : ℕ) → Consumes (prepend_known bs left) (prepend_known (drop n bs) left) (take n bs)
consumes_front bs None n = tt
consumes_front bs (Some ys) n = ap (λ t. t ++ ys) (sym (take-append-drop n bs)) ∙ append_assoc (take n bs) (drop n bs) ys

pub read_on : (x y left : Option (List ℕ)) (long long' : Bool) (line line' bs bs' : List ℕ) (n : ℕ) → HasRead x y long line → Keeps y (prepend_known bs left)
    → bs' ≡ drop n bs → IsPlain (take n bs) → ((raw : List ℕ) → Kept line long raw → Kept line' long' (raw ++ take n bs)) → HasRead x (prepend_known bs' left) long' line'
read_on x y left long long' line line' bs bs' n h k e plain kept = rw e (record {
  raw = h.raw ++ take n bs;
  takes = consumes_on x (prepend_known bs left) (prepend_known (drop n bs) left) h.raw (take n bs) (consumes_keep x y (prepend_known bs left) h.raw h.takes k) (consumes_front bs left n);
  plain = All-append (λ c. (c == 10) ≡ false) h.raw (take n bs) h.plain plain;
  kept = kept h.raw h.kept;
})

-- a line feed is next
consumes_feed : (bs : List ℕ) (left : Option (List ℕ)) → bs ≡ 10 ∷ drop 1 bs → Consumes (prepend_known bs left) (prepend_known (drop 1 bs) left) (10 ∷ [])
consumes_feed bs None e = tt
consumes_feed bs (Some ys) e = ap (λ t. t ++ ys) e

-- the last piece of a line, and its line feed
pub read_end : (x y left : Option (List ℕ)) (long long' : Bool) (line line' bs mid new : List ℕ) (at : ℕ) → HasRead x y long line → Keeps y (prepend_known bs left)
    → FeedAt bs at → mid ≡ drop at bs → new ≡ drop 1 mid → ((raw : List ℕ) → Kept line long raw → Kept line' long' (raw ++ take at bs))
    → TakesRaw x (prepend_known new left) true long' line'
read_end x y left long long' line line' bs mid new at h k f e n kept =
    let r = read_on x y left long long' line line' bs mid at h k e f.plain kept in
    let one : drop 1 mid ≡ drop (at + 1) bs = ap (drop 1) e ∙ drop-drop 1 at bs in
    let feed : mid ≡ 10 ∷ drop 1 mid = e ∙ f.feed ∙ ap (λ t. 10 ∷ t) (sym one) in
    rw n (record {
      raw = r.raw;
      takes = consumes_on x (prepend_known mid left) (prepend_known (drop 1 mid) left) r.raw (10 ∷ []) r.takes (consumes_feed mid left feed);
      ends = λ e. absurd (cc);
      plain = r.plain;
      kept = r.kept;
    })

-- a line that ends with a line feed
lines_fed : (raw ys : List ℕ) → All (λ b. (b == 10) ≡ false) raw → lines ((raw ++ 10 ∷ []) ++ ys) ≡ strip_carriage_return raw ∷ lines ys
lines_fed raw ys plain =
    rw (append_assoc raw (10 ∷ []) ys, slice_split_at (λ b. b == 10) raw 10 ys plain refl) (parts (slice_split (λ b. b == 10) ys) (omega (arith, length-slice_split (λ b. b == 10) ys)))
  where
    parts : (more : List (List ℕ)) → 0 < length more → lines_of_parts (raw ∷ more) ≡ strip_carriage_return raw ∷ lines_of_parts more
    parts [] h = absurd (omega arith)
    parts (y ∷ more) h = refl

suc_test : (n : ℕ) → (suc n == 0) ≡ false
suc_test n = grind arith

-- where nothing follows, the bytes that were taken are all
all_taken : (raw xs ys : List ℕ) → xs ≡ (raw ++ []) ++ ys → ys ≡ [] → xs ≡ raw
all_taken raw xs ys e f = rw (e, f, append-nil (raw ++ []), append-nil raw) refl

-- a line that ends with the input
lines_last : (raw xs ys : List ℕ) → xs ≡ (raw ++ []) ++ ys → ys ≡ [] → 0 < length raw → All (λ b. (b == 10) ≡ false) raw → lines xs ≡ raw ∷ lines ys
lines_last [] xs ys e f h plain = absurd (omega arith)
lines_last (b ∷ raw) xs ys e f h plain =
    rw (all_taken (b ∷ raw) xs ys e f, f, slice_split_none (λ c. c == 10) (b ∷ raw) plain, suc_test (length raw)) refl

-- taking a carriage return off a line that is too long leaves it too long
strip_long : (raw : List ℕ) → LONGEST < length raw → LINE_LIMIT < length (strip_carriage_return raw)
strip_long raw h =
    elim (slice_index raw (length raw - 1) == 13) as (λ b. LINE_LIMIT < length (cond b (take (length raw - 1) raw) raw)) [
      | true ↦ omega (arith, length-take {A = ℕ})
      | false ↦ omega arith
    ]

pub gives_long : (x y : Option (List ℕ)) (fed : Bool) (line line' : List ℕ) → TakesRaw x y fed true line → GivesLine x y next.TooLong line'
gives_long None y fed line line' t = tt
gives_long (Some xs) None fed line line' t = absurd t.takes
gives_long (Some xs) (Some ys) true line line' t = (strip_carriage_return t.raw, rw t.takes (lines_fed t.raw ys t.plain), strip_long t.raw t.kept)
gives_long (Some xs) (Some ys) false line line' t = (t.raw, lines_last t.raw xs ys t.takes (t.ends refl) (omega (arith, t.kept)) t.plain, omega (arith, t.kept))

pub gives_fed : (x y : Option (List ℕ)) (line line' : List ℕ) (n : Next) → TakesRaw x y true false line → line' ≡ strip_carriage_return line → IsSized n line' → GivesLine x y n line'
gives_fed None y line line' n t e s = tt
gives_fed (Some xs) None line line' n t e s = absurd t.takes
gives_fed (Some xs) (Some ys) line line' next.Whole t e s = (rw (t.takes, e, t.kept.0) (lines_fed t.raw ys t.plain), s)
gives_fed (Some xs) (Some ys) line line' next.TooLong t e s = (line', rw (t.takes, e, t.kept.0) (lines_fed t.raw ys t.plain), s)
gives_fed (Some xs) (Some ys) line line' next.End t e s = absurd s

pub gives_last : (x y : Option (List ℕ)) (line line' : List ℕ) (n : Next) → TakesRaw x y false false line → 0 < length line → IsSized n line → line' ≡ line → GivesLine x y n line'
gives_last None y line line' n t some s e = tt
gives_last (Some xs) None line line' n t some s e = absurd t.takes
gives_last (Some xs) (Some ys) line line' next.Whole t some s e = (rw (e, t.kept.0) (lines_last t.raw xs ys t.takes (t.ends refl) (omega (arith, ap length t.kept.0)) t.plain), omega (arith, ap length e))
gives_last (Some xs) (Some ys) line line' next.TooLong t some s e = (line, rw t.kept.0 (lines_last t.raw xs ys t.takes (t.ends refl) (omega (arith, ap length t.kept.0)) t.plain), s)
gives_last (Some xs) (Some ys) line line' next.End t some s e = absurd s

pub gives_end : (x y : Option (List ℕ)) (line line' : List ℕ) → TakesRaw x y false false line → length line ≡ 0 → GivesLine x y next.End line'
gives_end None y line line' t none = tt
gives_end (Some xs) None line line' t none = absurd t.takes
gives_end (Some xs) (Some ys) line line' t none = (all_taken t.raw xs ys t.takes (t.ends refl) ∙ nil_from_length t.raw (omega (arith, ap length t.kept.0)), t.ends refl)

pub fell_none : (x : Option (List ℕ)) (a : ℕ) → FellBy (a - a) x x
fell_none None a = tt
fell_none (Some xs) a = omega arith

not_true : (b : Bool) → (b ≡ true → ⊥) → b ≡ false
not_true true h = absurd (h refl)
not_true false h = refl

pub first_feed : (bs : List ℕ) (r : Option ℕ) → IsFirstByte (is_byte 10) bs r → FirstFeed bs r
first_feed bs None h = All-from_get_or (λ b. (b == 10) ≡ false) bs 0 (λ j lt. not_true _ (h j (omega arith) lt))
first_feed bs (Some k) h = record {
  within = h.0.high;
  feed = (let byte : get_or bs k 0 ≡ 10 = grind (arith, h.1) in rw (add-one, drop-cons bs k 0 h.0.high, byte) refl);
  plain = All-from_get_or (λ b. (b == 10) ≡ false) (take k bs) 0 (λ j lt. let small : j < k = omega (arith, lt, length-take k bs) in
      rw (get_or-take k bs j 0 small) (not_true _ (h.0.before j (omega arith) small)));
}

-- among bytes that have a line feed are some, and not all are plain
pub has_some : (bs : List ℕ) → HasFeed bs → 0 < length bs
has_some bs h = omega (arith, h.1)

plain_none : (bs : List ℕ) → IsPlain bs → HasFeed bs → ⊥
plain_none bs p h = let e = p h.0 0 h.1 in let f : (get_or bs h.0 0 == 10) ≡ true = rw h.2 refl in cc

-- a line whose end was pending at first has no later piece: such a piece would be all plain
pub late : {A P : Type 0} (old now new : Pending) (x y z : A) (piece : List ℕ) → (HasFeed old.bytes → (now ≡ old) × (y ≡ x))
    → (0 < length now.bytes → (new ≡ now) × (z ≡ y)) → piece ≡ new.bytes → IsPlain piece → HasFeed old.bytes → P
late old now new x y z piece same kept e plain feed =
    let a : now.bytes ≡ old.bytes = ap (λ p. p.bytes) (same feed).0 in
    let b = kept (rw a (has_some old.bytes feed)) in
    absurd (plain_none old.bytes (subst IsPlain (e ∙ ap (λ p. p.bytes) b.0 ∙ a) plain) feed)

pub take_plain : (bs piece : List ℕ) → piece ≡ bs → IsPlain bs → IsPlain (take (length piece) bs)
take_plain bs piece e plain = rw (e, take-length bs) plain

pub skipped : (xs bs : List ℕ) (start end count : ℕ) → slice_range xs start end ≡ bs → start ≤ end → count ≤ length bs → slice_range xs (start + count) end ≡ drop count bs
skipped xs bs start end count e le small =
    let short : count ≤ end - start = omega (arith, ap length e, length-take (end - start) (drop start xs)) in
    let m : end - start ≡ count + (end - (start + count)) = omega (arith, le, short) in
    rw (← e, m, drop-take count (end - (start + count)) (drop start xs), drop-drop count start xs) refl
