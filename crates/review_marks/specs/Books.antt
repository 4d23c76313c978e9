-- The book of marks: the cases whose determinations are watched, and which of these are marked for review.
use Rattle.std.specs.Prelude.{◌≡◌, ◌≤◌, ℕ, nat_lt, zero, suc, ◌-◌, ◌==◌, Bool, false, not, cond, List, [], ◌∷◌, ◌++◌, length, Option, Some, None, IfSome, slice_get, slice_set}
use Rattle.std.specs.Option.{option_map, option_map_or}
use Rattle.std.specs.Cmp.Lexicographic.{pointwise}
use Rattle.airfields.specs.declared.airfield.Airfield.{Airfield}
use Rattle.finding_lists.specs.contracts.finding.FindingPartialEq.TheImpl.{eq-value as finding_eq}
use Rattle.finding_lists.specs.declared.finding.Finding.{Finding}
use Rattle.oe_findings.specs.List.{findings_of}
use Rattle.review_marks.specs.declared.row.Row.{Row}
use Rattle.review_marks.specs.declared.change.Mark.{Mark}
use Rattle.review_marks.specs.declared.change.MarkChange.{MarkChange}
use Rattle.review_marks.specs.declared.change.MarkChange.TheVariants.{Added, Marked}

-- two lists of findings differ, in an entry, an excess or their order
abbrev pub differs : List Finding → List Finding → Bool
differs stored found = not (pointwise finding_eq.it stored found)

-- ---- the book: its rows by case number, from case 1 on

abbrev pub joined : {A : Type 0} → Option (Option A) → Option A
joined None = None
joined (Some o) = o

-- the row of a case; none for a case that is not in the book
abbrev pub row_at : List (Option Row) → ℕ → Option Row
row_at rows number = cond (number == 0) None (joined (slice_get rows (number - 1)))

abbrev pub is_marked_row : Option Row → Bool
is_marked_row o = option_map_or (λ r. r.marked) o false

-- a case is marked
abbrev pub is_marked_in : List (Option Row) → ℕ → Bool
is_marked_in rows number = is_marked_row (row_at rows number)

-- the numbers from 1 to n that pass the test, in rising order
abbrev pub numbers_up_to : (ℕ → Bool) → ℕ → List ℕ
numbers_up_to f zero = []
numbers_up_to f (suc n) = numbers_up_to f n ++ cond (f (suc n)) (suc n ∷ []) []

-- the marked cases of the book, in rising order
abbrev pub marked_cases : List (Option Row) → List ℕ
marked_cases rows = numbers_up_to (is_marked_in rows) (length rows)

-- ---- the marks are exact

-- a case is marked where its stored list differs from its list over the airfields
abbrev pub IsExactRow : List Airfield → Row → Type 0
IsExactRow airfields r = r.marked ≡ differs r.stored (findings_of airfields r.filing)

abbrev pub IsExact : List Airfield → List (Option Row) → Type 0
IsExact airfields rows = (number : ℕ) → IfSome (row_at rows number) (IsExactRow airfields)

-- ---- changes of the book

-- the row with this mark
abbrev pub row_marked_as : Bool → Row → Row
row_marked_as m r = record { filing = r.filing; stored = r.stored; marked = m }

abbrev pub changed_place : List (Option Row) → ℕ → (Row → Row) → Option (Option Row) → List (Option Row)
changed_place rows place f None = rows
changed_place rows place f (Some o) = slice_set rows place (option_map f o)

-- the book with this mark of a case, where the case is in the book
abbrev pub with_mark : Mark → List (Option Row) → List (Option Row)
with_mark m rows = cond (m.case == 0) rows (changed_place rows (m.case - 1) (row_marked_as m.marked) (slice_get rows (m.case - 1)))

abbrev pub with_marks : List Mark → List (Option Row) → List (Option Row)
with_marks [] rows = rows
with_marks (m ∷ ms) rows = with_marks ms (with_mark m rows)

-- the book has room for the case that a change adds
abbrev pub HasRoom : List (Option Row) → MarkChange → Type 0
HasRoom rows (Added number row) = number ≤ length rows
HasRoom rows (Marked marks) = Unit {0}

-- the book without a case
abbrev pub rows_after_close : ℕ → List (Option Row) → List (Option Row)
rows_after_close number rows = cond (number == 0) rows (cond (nat_lt (number - 1) (length rows)) (slice_set rows (number - 1) None) rows)

-- the book with this row of a case; no case has the number 0
abbrev pub rows_after_put : ℕ → Row → List (Option Row) → List (Option Row)
rows_after_put number row rows = cond (number == 0) rows (slice_set rows (number - 1) (Some row))

-- the book after a change
abbrev pub rows_after_commit : MarkChange → List (Option Row) → List (Option Row)
rows_after_commit (Added number row) rows = rows_after_put number row rows
rows_after_commit (Marked marks) rows = with_marks marks.items rows
