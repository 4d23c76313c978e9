-- The marks stay exact as a case comes into the book and goes out of it.
use Rattle.std.specs.Prelude.{IfOk}
use Rattle.std.proofs.Common.{Result, Ok, Err, ◌≡◌, ◌⊎◌, inl, inr, ℕ, zero, suc, ◌-◌, ◌==◌, Bool, true, false, cond, nat_lt, List, [], ◌∷◌, length, Option, Some, None, IfSome, slice_get, slice_set, refl, sym, ◌∙◌, subst}
use Rattle.airfields.specs.declared.airfield.Airfield.{Airfield}
use Rattle.review_marks.specs.Books.{joined, row_at, rows_after_close, rows_after_commit, rows_after_put, differs, IsExact, IsExactRow}
use Rattle.oe_findings.specs.List.{findings_of}
use Rattle.review_marks.specs.declared.change.MarkChange.{MarkChange}
use Rattle.review_marks.specs.declared.change.MarkChange.TheVariants as changes
use Rattle.review_marks.specs.declared.row.Row.{Row}

-- each place of a list has what it had, or what was put
put_at : (rows : List (Option Row)) (k j : ℕ) (o : Option Row) → (joined (slice_get (slice_set rows k o) j) ≡ joined (slice_get rows j)) ⊎ (joined (slice_get (slice_set rows k o) j) ≡ o)
put_at [] k j o = inl refl
put_at (p ∷ rows) zero zero o = inr refl
put_at (p ∷ rows) zero (suc j) o = inl refl
put_at (p ∷ rows) (suc k) zero o = inl refl
put_at (p ∷ rows) (suc k) (suc j) o = put_at rows k j o

put_row : (rows : List (Option Row)) (k n : ℕ) (o : Option Row) → (row_at (slice_set rows k o) n ≡ row_at rows n) ⊎ (row_at (slice_set rows k o) n ≡ o)
put_row rows k n o = at (n == 0)
  where
    at : (b : Bool) → (cond b None (joined (slice_get (slice_set rows k o) (n - 1))) ≡ cond b None (joined (slice_get rows (n - 1)))) ⊎ (cond b None (joined (slice_get (slice_set rows k o) (n - 1))) ≡ o)
    at true = inl refl
    at false = put_at rows k (n - 1) o

-- an exact row is put, or none
pub exact_put : (airfields : List Airfield) (rows : List (Option Row)) (k : ℕ) (o : Option Row) → IfSome o (IsExactRow airfields) → IsExact airfields rows → IsExact airfields (slice_set rows k o)
exact_put airfields rows k o is exact n = elim (put_row rows k n o) [
  | inl same ↦ subst (λ (q : Option Row). IfSome q (IsExactRow airfields)) (sym same) (exact n)
  | inr put ↦ subst (λ (q : Option Row). IfSome q (IsExactRow airfields)) (sym put) is
]

pub exact_same : (airfields : List Airfield) (old new : List (Option Row)) → ((n : ℕ) → row_at new n ≡ row_at old n) → IsExact airfields old → IsExact airfields new
exact_same airfields old new same exact n = subst (λ (q : Option Row). IfSome q (IsExactRow airfields)) (sym (same n)) (exact n)

pub exact_close : (airfields : List Airfield) (rows : List (Option Row)) (number : ℕ) → IsExact airfields rows → IsExact airfields (rows_after_close number rows)
exact_close airfields rows number exact = by_zero (number == 0)
  where
    by_room : (b : Bool) → IsExact airfields (cond b (slice_set rows (number - 1) None) rows)
    by_room true = exact_put airfields rows (number - 1) None tt exact
    by_room false = exact

    by_zero : (b : Bool) → IsExact airfields (cond b rows (cond (nat_lt (number - 1) (length rows)) (slice_set rows (number - 1) None) rows))
    by_zero true = exact
    by_zero false = by_room (nat_lt (number - 1) (length rows))

-- ---- the change that adds a case

exact_row : (airfields : List Airfield) (rows : List (Option Row)) (case : ℕ) (row : Row) → IsExactRow airfields row → IsExact airfields rows → IsExact airfields (rows_after_put case row rows)
exact_row airfields rows case row is exact = by_zero (case == 0)
  where
    by_zero : (b : Bool) → IsExact airfields (cond b rows (slice_set rows (case - 1) (Some row)))
    by_zero true = exact
    by_zero false = exact_put airfields rows (case - 1) (Some row) is exact

commits : (airfields : List Airfield) (c : MarkChange) (old new : List (Option Row)) (case : ℕ) (row : Row) → c ≡ changes.Added case row → IsExactRow airfields row → ((n : ℕ) → row_at new n ≡ row_at old n)
    → IsExact airfields old → IsExact airfields (rows_after_commit c new)
commits airfields c old new case row e is same exact =
    subst (λ (x : MarkChange). IsExact airfields (rows_after_commit x new)) (sym e) (exact_row airfields new case row is (exact_same airfields old new same exact))

pub exact_added : {E : Type 0} (airfields : List Airfield) (r : Result MarkChange E) (old new : List (Option Row)) (case : ℕ) (row : Row) → IfOk r (λ c. c ≡ changes.Added case row) → IsExactRow airfields row
    → ((n : ℕ) → row_at new n ≡ row_at old n) → IfOk r (λ c. IsExact airfields old → IsExact airfields (rows_after_commit c new))
exact_added airfields (Ok c) old new case row e is same = commits airfields c old new case row e is same
exact_added airfields (Err x) old new case row e is same = tt

-- one that is not marked, over airfields that give the stored list
pub exact_unmarked : {E : Type 0} (r : Result MarkChange E) (old new : List (Option Row)) (case : ℕ) (row : Row) → row.marked ≡ false → IfOk r (λ c. c ≡ changes.Added case row)
    → ((n : ℕ) → row_at new n ≡ row_at old n)
    → IfOk r (λ c. (airfields : List Airfield) → differs row.stored (findings_of airfields row.filing) ≡ false → IsExact airfields old → IsExact airfields (rows_after_commit c new))
exact_unmarked (Ok c) old new case row plain e same = λ airfields told. commits airfields c old new case row e (plain ∙ sym told) same
exact_unmarked (Err x) old new case row plain e same = tt
