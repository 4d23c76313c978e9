-- Lists of findings over a version that a seat showed.
use Rattle.std.specs.Prelude.{◌≡◌, ℕ, ◌+◌, List, length, Option, IfSome}
use Rattle.std.specs.Option.{option_map}
use Rattle.airfields.specs.Sites.{Site}
use Rattle.airfields.specs.declared.airfield.Airfield.{Airfield}
use Rattle.airport_register.specs.Registers.{IsRegister}
use Rattle.finding_lists.specs.declared.finding.Finding.{Finding}
use Rattle.oe_findings.specs.List.{findings_of}
use Rattle.wire_cursor.specs.Groups.{IsValidSite}
use Rattle.desk_machine.specs.declared.entry.Entry.{Entry}
use Rattle.desk_machine.specs.Evaluations.{Given}
use Rattle.desk_machine.specs.Fronts.{register_after}

-- a structure, the front of the version that it was evaluated over, and its list
pub record Evaluating : Type 0 where
  pub filing : Site
  pub front : List Entry
  pub list : List Finding

-- the list is that of the structure over this register
pub record IsOver (e : Evaluating) (register : List Airfield) : Type 0 where
  pub valid : IsRegister register
  pub list : e.list ≡ findings_of register e.filing

-- a record can spell the structure, and its list is over the airfields after the front, where the airfields at the opening are known
pub record IsEvaluation (first : Option (List Airfield)) (e : Evaluating) : Type 0 where
  pub site : IsValidSite e.filing
  pub over : IfSome first (λ register. IsOver e (register_after register e.front))

-- as a decision takes it: the front by its number
abbrev pub given_as : ℕ → Evaluating → Given
given_as base e = record { filing = e.filing; last = base + length e.front; list = e.list }

abbrev pub given_in : ℕ → Option Evaluating → Option Given
given_in base evaluated = option_map (given_as base) evaluated
