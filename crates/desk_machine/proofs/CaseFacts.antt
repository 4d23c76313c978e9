-- The cases, after one of them was changed or one was added.
use Rattle.std.proofs.Common.{◌≡◌, refl, sym, ap, ◌∙◌, arith, ℕ, zero, suc, ◌+◌, ◌-◌, ◌==◌, ◌<◌, ◌≤◌, nat_eq, nat_lt, ◌≢◌, Bool, true, false, cond, List, [], ◌∷◌, ◌++◌, length, Option, Some, None, slice_get, slice_set}
use Rattle.std.proofs.lemmas.Grind.{common_steps}
use Rattle.std.proofs.lemmas.Bool.Decides.{Decides-eqb}
use Rattle.std.specs.Option.{option_map}
use Rattle.case_records.specs.declared.case.KeptCase.{KeptCase}
use Rattle.review_marks.proofs.Turning.{apart, by_places, eq_suc, same_number, suc_zero, zero_suc}
use Rattle.desk_machine.specs.States.{case_at, cases_changed_at, with_case}

map_same : (o : Option KeptCase) → o ≡ option_map (λ c. c) o
map_same None = refl
map_same (Some c) = refl

map_apart : (b : Bool) (f : KeptCase → KeptCase) (o : Option KeptCase) → b ≡ false → o ≡ option_map (λ c. cond b (f c) c) o
map_apart true f o h = absurd (cc (h))
map_apart false f o h = map_same o

abbrev put_by_found : List KeptCase → ℕ → (KeptCase → KeptCase) → Option KeptCase → List KeptCase
put_by_found cases k f None = cases
put_by_found cases k f (Some c) = slice_set cases k (f c)

kept_head : (c : KeptCase) (cases : List KeptCase) (k : ℕ) (f : KeptCase → KeptCase) (v : Option KeptCase) → put_by_found (c ∷ cases) (suc k) f v ≡ c ∷ put_by_found cases k f v
kept_head c cases k f None = refl
kept_head c cases k f (Some d) = refl

case_placed : (cases : List KeptCase) (f : KeptCase → KeptCase) (k j : ℕ) → slice_get (put_by_found cases k f (slice_get cases k)) j ≡ option_map (λ c. cond (nat_eq k j) (f c) c) (slice_get cases j)
case_placed [] f k j = refl
case_placed (c ∷ cases) f zero zero = refl
case_placed (c ∷ cases) f zero (suc j) = map_apart (nat_eq 0 (suc j)) f (slice_get cases j) (zero_suc j)
case_placed (c ∷ cases) f (suc k) zero = ap (λ (xs : List KeptCase). slice_get xs 0) (kept_head c cases k f (slice_get cases k)) ∙ map_apart (nat_eq (suc k) 0) f (Some c) (suc_zero k)
case_placed (c ∷ cases) f (suc k) (suc j) =
    ap (λ (xs : List KeptCase). slice_get xs (suc j)) (kept_head c cases k f (slice_get cases k)) ∙ case_placed cases f k j
    ∙ ap (λ (b : Bool). option_map (λ d. cond b (f d) d) (slice_get cases j)) (sym (eq_suc k j))

changed_put : (number : ℕ) (f : KeptCase → KeptCase) (cases : List KeptCase) (v : Option KeptCase) → cases_changed_at number f cases v ≡ put_by_found cases (number - 1) f v
changed_put number f cases None = refl
changed_put number f cases (Some c) = refl

case_by : (k : ℕ) (f : KeptCase → KeptCase) (cases : List KeptCase) (n : ℕ) (b d : Bool) → (k == 0) ≡ b → (n == 0) ≡ d
    → cond d None (slice_get (cases_changed_at k f cases (cond b None (slice_get cases (k - 1)))) (n - 1)) ≡ option_map (λ c. cond (nat_eq k n) (f c) c) (cond d None (slice_get cases (n - 1)))
case_by k f cases n b true h e = refl
case_by k f cases n true false h e = map_same (slice_get cases (n - 1)) ∙ ap (λ (x : Bool). option_map (λ c. cond x (f c) c) (slice_get cases (n - 1))) (sym (apart k n h e))
case_by k f cases n false false h e =
    ap (λ (xs : List KeptCase). slice_get xs (n - 1)) (changed_put k f cases (slice_get cases (k - 1))) ∙ case_placed cases f (k - 1) (n - 1)
    ∙ ap (λ (x : Bool). option_map (λ c. cond x (f c) c) (slice_get cases (n - 1))) (by_places k n h e)

-- the case of a number after the one of a number was changed
pub case_changed : (k : ℕ) (f : KeptCase → KeptCase) (cases : List KeptCase) (n : ℕ) → case_at (with_case k f cases) n ≡ option_map (λ c. cond (nat_eq k n) (f c) c) (case_at cases n)
case_changed k f cases n = case_by k f cases n (k == 0) (n == 0) refl refl

-- past the last case there is none
slice_past : (cases : List KeptCase) (i : ℕ) → length cases ≤ i → slice_get cases i ≡ None
slice_past [] i h = refl
slice_past (c ∷ cases) zero h = absurd (omega (arith, h))
slice_past (c ∷ cases) (suc i) h = slice_past cases i (omega (arith, h))

past_by : (b : Bool) (cases : List KeptCase) (i : ℕ) → length cases ≤ i → cond b None (slice_get cases i) ≡ None
past_by true cases i h = refl
past_by false cases i h = slice_past cases i h

pub case_past : (cases : List KeptCase) (n : ℕ) → length cases < n → case_at cases n ≡ None
case_past cases n h = past_by (n == 0) cases (n - 1) (omega (arith, h))

-- a case that is there has a number up to theirs
pub case_within : (cases : List KeptCase) (n : ℕ) (c : KeptCase) (b : Bool) → nat_lt (length cases) n ≡ b → case_at cases n ≡ Some c → n ≤ length cases
case_within cases n c true e at = let past = case_past cases n (grind (arith, common_steps, e)) in absurd (cc (sym past ∙ at))
case_within cases n c false e at = grind (arith, common_steps, e)

-- one more is behind the others
slice_more : (cases : List KeptCase) (c : KeptCase) (i : ℕ) → slice_get (cases ++ c ∷ []) i ≡ cond (nat_eq (length cases) i) (Some c) (slice_get cases i)
slice_more [] c zero = refl
slice_more [] c (suc i) = sym (ap (λ b. cond b (Some c) None) (zero_suc i))
slice_more (d ∷ cases) c zero = sym (ap (λ b. cond b (Some c) (Some d)) (suc_zero (length cases)))
slice_more (d ∷ cases) c (suc i) = slice_more cases c i ∙ ap (λ b. cond b (Some c) (slice_get cases i)) (sym (eq_suc (length cases) i))

unequal : (cases : List KeptCase) (n : ℕ) (b : Bool) → (n == 0) ≡ false → nat_eq (length cases) (n - 1) ≡ b → n ≢ length cases + 1 → b ≡ false
unequal cases n true e f other = let is = same_number (length cases) (n - 1) f in absurd (other (grind (arith, common_steps, is, e)))
unequal cases n false e f other = refl

more_by : (cases : List KeptCase) (c : KeptCase) (n : ℕ) (b : Bool) → (n == 0) ≡ b → n ≢ length cases + 1 → cond b None (slice_get (cases ++ c ∷ []) (n - 1)) ≡ cond b None (slice_get cases (n - 1))
more_by cases c n true e other = refl
more_by cases c n false e other =
    slice_more cases c (n - 1) ∙ ap (λ b. cond b (Some c) (slice_get cases (n - 1))) (unequal cases n (nat_eq (length cases) (n - 1)) e refl other)

pub case_other : (cases : List KeptCase) (c : KeptCase) (n : ℕ) → n ≢ length cases + 1 → case_at (cases ++ c ∷ []) n ≡ case_at cases n
case_other cases c n other = more_by cases c n (n == 0) refl other

new_by : (cases : List KeptCase) (c : KeptCase) (n : ℕ) (b : Bool) → (n == 0) ≡ b → n ≡ length cases + 1 → cond b None (slice_get (cases ++ c ∷ []) (n - 1)) ≡ Some c
new_by cases c n true e is = let none : n ≡ 0 = (Decides-eqb n 0).0 e in absurd (omega (arith, none, is))
new_by cases c n false e is =
    let same : nat_eq (length cases) (n - 1) ≡ true = grind (arith, common_steps, is) in
    slice_more cases c (n - 1) ∙ ap (λ b. cond b (Some c) (slice_get cases (n - 1))) same

pub case_new : (cases : List KeptCase) (c : KeptCase) → case_at (cases ++ c ∷ []) (length cases + 1) ≡ Some c
case_new cases c = new_by cases c (length cases + 1) (length cases + 1 == 0) refl refl

-- the case that was changed, and the others
pub case_itself : (k : ℕ) (f : KeptCase → KeptCase) (cases : List KeptCase) (c : KeptCase) → case_at cases k ≡ Some c → case_at (with_case k f cases) k ≡ Some (f c)
case_itself k f cases c at =
    let same : nat_eq k k ≡ true = grind (arith, common_steps) in
    case_changed k f cases k ∙ ap (option_map (λ d. cond (nat_eq k k) (f d) d)) at ∙ ap (λ (b : Bool). Some (cond b (f c) c)) same

pub case_unchanged : (k : ℕ) (f : KeptCase → KeptCase) (cases : List KeptCase) (n : ℕ) → n ≢ k → case_at (with_case k f cases) n ≡ case_at cases n
case_unchanged k f cases n other = case_changed k f cases n ∙ sym (map_apart (nat_eq k n) f (case_at cases n) (unequal (nat_eq k n) refl))
  where
    unequal : (b : Bool) → nat_eq k n ≡ b → b ≡ false
    unequal true e = absurd (other (sym (same_number k n e)))
    unequal false e = refl
