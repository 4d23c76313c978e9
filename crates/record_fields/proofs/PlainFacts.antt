-- A plain line is the record of its parts.
use Rattle.std.proofs.Common.{arith, ℕ, ◌+◌, ◌^◌, ◌<◌, ◌≤◌, ◌≡◌, ◌==◌, Bool, true, false, ◌||◌, List, [], ◌∷◌, ◌++◌, take, drop, length, get_or, Some, None, All, refl, sym, ◌∙◌, cond, ap, append-nil, append_assoc, length-append}
use Rattle.std.specs.List.{slice_split, onto_first, flat_map}
use Rattle.std.proofs.lemmas.List.Sums.{count_by-le-length}
use Rattle.std.proofs.lemmas.List.Splits.{slice_split_at, slice_split_none, length-slice_split}
use Rattle.std.proofs.lemmas.List.Elements.{All-nil, All-head, All-tail, All-append, All-cons, All-more, All-same, All-from_get_or}
use Rattle.std.proofs.lemmas.List.{take-append-drop, drop_more, take_all}
use Rattle.memchr.specs.Find.{IsFirstByte, is_byte, is_byte3}
use Rattle.csv.specs.Machine.{next_record}
use Rattle.csv.specs.Reading.{default_config, strip_bom}
use Rattle.csv.specs.declared.parser.State.TheVariants as st
use Rattle.record_fields.specs.Fields.{IsPlain, IsOrdinary, one_record}

-- the parts, with some bytes before the first
onto : List ℕ → List (List ℕ) → List (List ℕ)
onto p [] = p ∷ []
onto p (f ∷ fs) = (p ++ f) ∷ fs

onto_next : (p : List ℕ) (c : ℕ) (ys : List (List ℕ)) → onto p (onto_first c ys) ≡ onto (p ++ c ∷ []) ys
unfolding onto
onto_next p c [] = refl
onto_next p c (f ∷ fs) = ap (λ h. h ∷ fs) (sym (append_assoc p (c ∷ []) f))

onto_none : (xs : List ℕ) → onto [] (slice_split (λ b. b == 44) xs) ≡ slice_split (λ b. b == 44) xs
unfolding onto
onto_none [] = refl
onto_none (c ∷ xs) =
    elim (c == 44) as (λ b. onto [] (cond b ([] ∷ slice_split (λ b. b == 44) xs) (onto_first c (slice_split (λ b. b == 44) xs))) ≡ cond b ([] ∷ slice_split (λ b. b == 44) xs) (onto_first c (slice_split (λ b. b == 44) xs))) [
      | true ↦ refl
      | false ↦ elim (slice_split (λ b. b == 44) xs) as (λ ys. onto [] (onto_first c ys) ≡ onto_first c ys) [ [] ↦ refl | (f ∷ fs) ↦ refl ]
    ]

-- at the start of a field the reader goes on as inside of one
start_as_in : (fields : List (List ℕ)) (field xs : List ℕ) → All IsPlain xs → next_record default_config st.StartField fields field xs ≡ next_record default_config st.InField fields field xs
unfolding next_record
start_as_in fields field [] plain = refl
start_as_in fields field (c ∷ xs) plain = rw (All-head IsPlain c xs plain).0 refl

-- inside of a field the parts are the fields to come
in_read : (fields : List (List ℕ)) (field xs : List ℕ) → All IsPlain xs
    → next_record default_config st.InField fields field xs ≡ Some (fields ++ onto field (slice_split (λ b. b == 44) xs), st.StartRecord, [])
unfolding next_record onto
in_read fields field [] plain = rw (append-nil field) refl
in_read fields field (c ∷ xs) plain =
    let h = All-head IsPlain c xs plain in
    let more = All-tail IsPlain c xs plain in
    elim (c == 44) as (λ b. (c == 44) ≡ b → next_record default_config st.InField fields field (c ∷ xs) ≡ Some (fields ++ onto field (slice_split (λ b. b == 44) (c ∷ xs)), st.StartRecord, [])) [
      | true ↦ λ e. rw (e, append-nil field) (start_as_in (fields ++ field ∷ []) [] xs more ∙ in_read (fields ++ field ∷ []) [] xs more
          ∙ rw (onto_none xs, append_assoc fields (field ∷ []) (slice_split (λ b. b == 44) xs)) refl)
      | false ↦ λ e. rw (e, h.1, h.2, onto_next field c (slice_split (λ b. b == 44) xs)) (in_read fields (field ++ c ∷ []) xs more)
    ] refl

no_mark : (line : List ℕ) → All IsPlain line → strip_bom line ≡ line
unfolding strip_bom
no_mark [] plain = refl
no_mark (a ∷ []) plain = refl
no_mark (a ∷ b ∷ []) plain = refl
no_mark (a ∷ b ∷ c ∷ rest) plain = rw (All-head IsPlain a (b ∷ c ∷ rest) plain).3 refl

begin_as_in : (c : ℕ) (xs : List ℕ) → All IsPlain (c ∷ xs) → next_record default_config st.StartRecord [] [] (c ∷ xs) ≡ next_record default_config st.InField [] [] (c ∷ xs)
unfolding next_record
begin_as_in c xs plain = let h = All-head IsPlain c xs plain in rw (h.0, h.1, h.2) refl

nothing_left : next_record default_config st.StartRecord [] [] [] ≡ None
unfolding next_record
nothing_left = refl

pub one_record_plain : (line : List ℕ) → 0 < length line → All IsPlain line → one_record line ≡ Some (slice_split (λ b. b == 44) line)
one_record_plain [] some plain = absurd (omega arith)
one_record_plain (c ∷ xs) some plain =
    rw (no_mark (c ∷ xs) plain, begin_as_in c xs plain, in_read [] [] (c ∷ xs) plain, nothing_left, onto_none (c ∷ xs)) refl

-- an empty line is no record
pub no_record : (line : List ℕ) → length line ≡ 0 → one_record line ≡ None
unfolding next_record strip_bom
no_record [] e = refl
no_record (c ∷ xs) e = absurd (omega arith)

not_comma : (xs : List ℕ) → All IsOrdinary xs → All (λ b. (b == 44) ≡ false) xs
not_comma xs h k d lt = (h k d lt).1

are_plain : (xs : List ℕ) → All IsOrdinary xs → All IsPlain xs
are_plain xs h k d lt = (h k d lt).0

-- a text in which the searches for marks find nothing is plain
not_passed : (b : Bool) → (b ≡ true → ⊥) → b ≡ false
not_passed true h = absurd (h refl)
not_passed false h = refl

none_of : (a b c : Bool) → ((a || b || c) ≡ true → ⊥) → (a ≡ false) × (b ≡ false) × (c ≡ false)
none_of true b c h = absurd (h refl)
none_of false true c h = absurd (h refl)
none_of false false true h = absurd (h refl)
none_of false false false h = (refl, refl, refl)

pub no_marks : (text : List ℕ) → IsFirstByte (is_byte3 34 13 0xEF) text None → IsFirstByte (is_byte 10) text None → All IsPlain text
no_marks text marks feeds = All-from_get_or IsPlain text 0 (λ j lt.
    let m = none_of (get_or text j 0 == 34) (get_or text j 0 == 13) (get_or text j 0 == 0xEF) (marks j (omega arith) lt) in
    (m.0, m.1, not_passed (get_or text j 0 == 10) (feeds j (omega arith) lt), m.2))

-- what holds of all items before a place, and of the one there
pub one_more : (P : ℕ → Type 0) (xs : List ℕ) (i : ℕ) → All P (take i xs) → i < length xs → P (get_or xs i 0) → All P (take (i + 1) xs)
one_more P xs i before lt h = All-more P xs i 0 lt before h

pub all_of : (P : ℕ → Type 0) (xs : List ℕ) (i : ℕ) → All P (take i xs) → length xs ≤ i → All P xs
all_of P xs i h le = All-same P xs (take i xs) (sym (take_all i xs le)) h

-- the first part of a text ends at its first comma
around : (text : List ℕ) (at : ℕ) → at < length text → get_or text at 0 ≡ 44 → text ≡ take at text ++ 44 ∷ drop (at + 1) text
around text at lt e = sym (take-append-drop at text) ∙ ap (λ t. take at text ++ t) (drop_more text at 0 lt ∙ ap (λ b. b ∷ drop (at + 1) text) e)

pub first_part : (text : List ℕ) (at : ℕ) → at < length text → get_or text at 0 ≡ 44 → All (λ b. (b == 44) ≡ false) (take at text)
    → slice_split (λ b. b == 44) text ≡ take at text ∷ slice_split (λ b. b == 44) (drop (at + 1) text)
first_part text at lt e none =
    ap (slice_split (λ b. b == 44)) (around text at lt e) ∙ slice_split_at (λ b. b == 44) (take at text) 44 (drop (at + 1) text) none refl

pub only_part : (text : List ℕ) → All (λ b. (b == 44) ≡ false) text → slice_split (λ b. b == 44) text ≡ text ∷ []
only_part text none = slice_split_none (λ b. b == 44) text none

pub few_parts : (text : List ℕ) → length text < 2 ^ 63 → length (slice_split (λ b. b == 44) text) < 2 ^ 64
few_parts text few = rw (length-slice_split (λ b. b == 44) text) (omega (arith, few, count_by-le-length (λ b. b == 44) text))

-- fields without commas, with a comma before each but the first, are cut into those fields
split_again : (first : List ℕ) (more : List (List ℕ)) → All IsOrdinary first → All (All IsOrdinary) more
    → slice_split (λ b. b == 44) (first ++ flat_map (λ f. 44 ∷ f) more) ≡ first ∷ more
split_again first [] p q = rw (append-nil first) (slice_split_none (λ b. b == 44) first (not_comma first p))
split_again first (f ∷ fs) p q =
    slice_split_at (λ b. b == 44) first 44 (f ++ flat_map (λ g. 44 ∷ g) fs) (not_comma first p) refl
    ∙ ap (λ parts. first ∷ parts) (split_again f fs (All-head (All IsOrdinary) f fs q) (All-tail (All IsOrdinary) f fs q))

plain_again : (more : List (List ℕ)) → All (All IsOrdinary) more → All IsPlain (flat_map (λ f. 44 ∷ f) more)
plain_again [] q = All-nil IsPlain
plain_again (f ∷ fs) q =
    All-cons IsPlain 44 (f ++ flat_map (λ g. 44 ∷ g) fs) (refl, refl, refl, refl)
    (All-append IsPlain f (flat_map (λ g. 44 ∷ g) fs) (are_plain f (All-head (All IsOrdinary) f fs q)) (plain_again fs (All-tail (All IsOrdinary) f fs q)))

-- so such a line is the record of those fields
pub one_record_joined : (first : List ℕ) (more : List (List ℕ)) → 0 < length first → All IsOrdinary first → All (All IsOrdinary) more
    → one_record (first ++ flat_map (λ f. 44 ∷ f) more) ≡ Some (first ∷ more)
one_record_joined first more some p q =
    one_record_plain (first ++ flat_map (λ f. 44 ∷ f) more) (simp length-append (omega (arith, some)))
    (All-append IsPlain first (flat_map (λ f. 44 ∷ f) more) (are_plain first p) (plain_again more q))
    ∙ ap Some (split_again first more p q)
