-- The counts of a desk.
use Rattle.std.specs.Prelude.{ℕ, ◌-◌, ◌^◌, length, min}
use Rattle.desk_machine.specs.States.{State, last_number}
use Rattle.desk_machine.specs.Marks.{marks}
use Rattle.desk_generator.specs.declared.tally.Tally.{Tally}

-- the numbers of airfields, cases and accepted requests, and of the cases marked for review; the count of cases stops at
-- the greatest value of its type
abbrev pub tally_of : State → Tally
tally_of s = record { airfields = length s.register; cases = min (length s.cases) (2 ^ 32 - 1); entries = last_number s; marked = length (marks s) }
