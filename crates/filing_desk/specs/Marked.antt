-- The marks of the desk's cases.
use Rattle.std.specs.Prelude.{◌≡◌, ℕ, nat_le, cond, List, [], Option, None}
use Rattle.review_marks.specs.Books.{row_at}
use Rattle.review_marks.specs.declared.row.Row.{Row}
use Rattle.desk_machine.specs.States.{State}
use Rattle.desk_machine.specs.Marks.{row_of}

-- the book has the cases whose determinations stand, each with its structure, its stored list, and its mark, as the state determines it
abbrev pub AreMarks : State → List (Option Row) → Type 0
AreMarks s rows = (number : ℕ) → row_at rows number ≡ row_of s number

-- there are no cases before there is a day
abbrev pub HasDay : State → Type 0
HasDay s = s.day ≡ None → s.cases ≡ []

-- ---- for proofs alone

-- as above, for the cases up to a number
abbrev pub AreMarksTo : State → ℕ → List (Option Row) → Type 0
AreMarksTo s last rows = (number : ℕ) → row_at rows number ≡ cond (nat_le number last) (row_of s number) None
