-- The cases are closed one by one, from the last to the first.
use Rattle.std.proofs.Common.{◌≡◌, refl, sym, ap, ◌∙◌, subst, arith, ℕ, ◌-◌, ◌≤◌, nat_eq, nat_lt, Bool, true, false, not, ◌&&◌, ◌||◌, cond, List, length, Option, None}
use Rattle.std.proofs.lemmas.Grind.{common_steps}
use Rattle.review_marks.specs.Books.{row_at, rows_after_close}
use Rattle.review_marks.specs.declared.row.Row.{Row}
use Rattle.desk_machine.specs.States.{State}
use Rattle.desk_machine.specs.Marks.{stands_in}
use Rattle.filing_desk.proofs.MarksAfter.{closed_row, row_past}
use Rattle.review_marks.proofs.Turning.{same_number}

-- the cases above a number are closed, where their determinations do not stand
abbrev pub IsClosedTo : State → List (Option Row) → ℕ → List (Option Row) → Type 0
IsClosedTo s old k rows = (n : ℕ) → row_at rows n ≡ cond (nat_lt k n && not (stands_in s n)) None (row_at old n)

begun : (b d : Bool) (o : Option Row) → (b ≡ true → o ≡ None) → o ≡ cond (b && d) None o
begun false d o h = refl
begun true false o h = refl
begun true true o h = h refl

pub closed_none : (s : State) (rows : List (Option Row)) → IsClosedTo s rows (length rows) rows
closed_none s rows n = begun (nat_lt (length rows) n) (not (stands_in s n)) (row_at rows n) (λ h. row_past rows n h)

split : (k n : ℕ) → 1 ≤ k → nat_lt (k - 1) n ≡ (nat_lt k n || nat_eq k n)
split k n h = by_cases (nat_lt k n) (nat_eq k n) refl refl
  where
    by_cases : (b d : Bool) → nat_lt k n ≡ b → nat_eq k n ≡ d → nat_lt (k - 1) n ≡ (b || d)
    by_cases true d p q = grind (arith, common_steps, p, h)
    by_cases false true p q = grind (arith, common_steps, q, h)
    by_cases false false p q = grind (arith, common_steps, p, q, h)

pub closed_on : (s : State) (old rows : List (Option Row)) (k : ℕ) (b : Bool) → 1 ≤ k → stands_in s k ≡ b → IsClosedTo s old k rows → IsClosedTo s old (k - 1) (cond b rows (rows_after_close k rows))
closed_on s old rows k true low is h n =
    h n ∙ stood (nat_lt k n) (nat_eq k n) (stands_in s n) (row_at old n) (λ e. ap (stands_in s) (sym (same_number k n e)) ∙ is) ∙ ap (λ (x : Bool). cond (x && not (stands_in s n)) None (row_at old n)) (sym (split k n low))
  where
    stood : (lower here d : Bool) (o : Option Row) → (here ≡ true → d ≡ true) → cond (lower && not d) None o ≡ cond ((lower || here) && not d) None o
    stood true here d o h = refl
    stood false true true o h = refl
    stood false true false o h = absurd (cc (h refl))
    stood false false d o h = refl
closed_on s old rows k false low is h n =
    closed_row rows k n ∙ ap (cond (nat_eq k n) None) (h n) ∙ fell (nat_lt k n) (nat_eq k n) (stands_in s n) (row_at old n) (λ e. ap (stands_in s) (sym (same_number k n e)) ∙ is)
    ∙ ap (λ (x : Bool). cond (x && not (stands_in s n)) None (row_at old n)) (sym (split k n low))
  where
    fell : (lower here d : Bool) (o : Option Row) → (here ≡ true → d ≡ false) → cond here None (cond (lower && not d) None o) ≡ cond ((lower || here) && not d) None o
    fell true true true o h = absurd (cc (h refl))
    fell true true false o h = refl
    fell false true true o h = absurd (cc (h refl))
    fell false true false o h = refl
    fell true false d o h = refl
    fell false false d o h = refl

abbrev no_row : Option Row
no_row = None

zero_none : (d : Bool) → no_row ≡ cond d None None
zero_none true = refl
zero_none false = refl

pub closed_all : (s : State) (old rows : List (Option Row)) → IsClosedTo s old 0 rows → (n : ℕ) → row_at rows n ≡ cond (not (stands_in s n)) None (row_at old n)
closed_all s old rows h n = h n ∙ above (nat_lt 0 n) n refl
  where
    above : (b : Bool) (n : ℕ) → nat_lt 0 n ≡ b → cond (b && not (stands_in s n)) None (row_at old n) ≡ cond (not (stands_in s n)) None (row_at old n)
    above true n e = refl
    above false n e = (let z : n ≡ 0 = grind (arith, common_steps, e) in subst (λ (k : ℕ). row_at old k ≡ cond (not (stands_in s k)) None (row_at old k)) (sym z) (zero_none (not (stands_in s 0))))
