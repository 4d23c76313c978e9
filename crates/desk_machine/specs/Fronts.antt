-- Fronts: lists of entries that follow the last one at the opening.
use Rattle.std.specs.Prelude.{ℕ, ◌+◌, List, [], ◌∷◌, length}
use Rattle.airfields.specs.declared.airfield.Airfield.{Airfield}
use Rattle.airport_register.specs.Amendments.{after_amendment}
use Rattle.case_requests.specs.declared.act.Act.{Act}
use Rattle.case_requests.specs.declared.act.Act.TheVariants as acts
use Rattle.desk_machine.specs.declared.entry.Entry.{Entry}
use Rattle.desk_machine.specs.States.{State, last_number}

-- the airfields after an act: only an amendment changes them
abbrev pub register_after_act : List Airfield → Act → List Airfield
register_after_act airfields (acts.Amend a) = after_amendment airfields a
register_after_act airfields (acts.Day d) = airfields
register_after_act airfields (acts.Closed d) = airfields
register_after_act airfields (acts.File n) = airfields
register_after_act airfields (acts.Form number) = airfields
register_after_act airfields (acts.Determine number finding) = airfields
register_after_act airfields (acts.Petition number party) = airfields
register_after_act airfields (acts.Dispose number affirm) = airfields
register_after_act airfields (acts.Extend number months started filed warranted) = airfields
register_after_act airfields (acts.Revise number started terrain height finding) = airfields
register_after_act airfields (acts.Fcc number completion) = airfields
register_after_act airfields (acts.Abandon number) = airfields

-- the airfields after the amendments of these entries, in order
abbrev pub register_after : List Airfield → List Entry → List Airfield
register_after airfields [] = airfields
register_after airfields (e ∷ es) = register_after (register_after_act airfields e.change.act) es

-- the number of a front: that of the last entry at the opening, and one for each entry of the front
abbrev pub front_number : State → List Entry → ℕ
front_number opening front = last_number opening + length front
