-- What speaks of planned approaches.
use Rattle.std.specs.Prelude.{◌≡◌, ℕ, List, Bool, false, IfSome}
use Rattle.std.specs.List.{All}
use Rattle.airfields.specs.Runways.{is_planned}
use Rattle.airfields.specs.declared.runway.Runway.{Runway}
use Rattle.airport_register.specs.declared.amendment.Amendment.{Amendment}
use Rattle.airport_register.specs.declared.amendment.Amendment.TheVariants.{PutAirport, PutRunway, DropRunway, PutHeliport, Drop}
use Rattle.case_requests.specs.declared.act.Act.{Act}
use Rattle.case_requests.specs.declared.act.Act.TheVariants as acts
use Rattle.desk_machine.specs.States.{State}
use Rattle.desk_machine.specs.declared.entry.Entry.{Entry}
use Rattle.desk_tables.specs.Tables.{RunwayName, runway_of}
use Rattle.desk_tables.specs.declared.value.RowValue.{RowValue}
use Rattle.desk_tables.specs.declared.value.RowValue.TheVariants.{Airfield, Runway as ARunway, Desk, Case, Request}

-- an amendment puts a runway with a planned approach
abbrev pub plans_amendment : Amendment → Bool
plans_amendment (PutAirport id category arp elevation) = false
plans_amendment (PutRunway id runway) = is_planned runway
plans_amendment (DropRunway id name) = false
plans_amendment (PutHeliport heliport) = false
plans_amendment (Drop id) = false

abbrev pub plans_act : Act → Bool
plans_act (acts.Amend amendment) = plans_amendment amendment
plans_act (acts.Day date) = false
plans_act (acts.Closed date) = false
plans_act (acts.File submission) = false
plans_act (acts.Form n) = false
plans_act (acts.Determine n finding) = false
plans_act (acts.Petition n party) = false
plans_act (acts.Dispose n affirm) = false
plans_act (acts.Extend n months started filed warranted) = false
plans_act (acts.Revise n started terrain height finding) = false
plans_act (acts.Fcc n completion) = false
plans_act (acts.Abandon n) = false

-- a row is that of a runway with a planned approach, or of a request that put one
abbrev pub plans_row : RowValue → Bool
plans_row (Airfield v) = false
plans_row (ARunway v) = is_planned v.runway
plans_row (Desk v) = false
plans_row (Case v) = false
plans_row (Request v) = plans_act v.change.act

-- nothing is planned in a desk: no approach of a runway, and none in an accepted request
pub record PlansNothing (s : State) : Type 0 where
  pub runways : (n : RunwayName) → IfSome (runway_of s.register n) (λ (r : Runway). is_planned r ≡ false)
  pub entries : All (λ (e : Entry). plans_act e.change.act ≡ false) s.entries
