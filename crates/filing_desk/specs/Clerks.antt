-- The clerk as contracts see it.
use Rattle.std.specs.Prelude.{◌≡◌, ◌≢◌, ℕ, ◌≤◌, List, ◌++◌}
use Rattle.oe_keeper.specs.Kept.{Kept}
use Rattle.case_records.specs.declared.refusal.Refusal.TheVariants as refusals
use Rattle.desk_machine.specs.declared.entry.Entry.{Entry}
use Rattle.desk_machine.specs.States.{State, last_number}
use Rattle.desk_machine.specs.Machine.{Answer as Decided, No, state_after, entries_of_answer, replay}
use Rattle.filing_desk.specs.declared.answer.Answer.{Answer}
use Rattle.filing_desk.specs.declared.answer.Answer.TheVariants as answers
use Rattle.desk_tables.specs.Reachable.{IsDesk}
use Rattle.filing_desk.specs.Answers.{answer_of}
use Rattle.desk_receipts.specs.Handed.{Told}

-- the state, the requests accepted since the opening, and the keeper
pub record Clerking (K : Type 0) : Type 0 where
  pub state : State
  pub accepted : List Entry
  pub keeper : K

-- the state is the replay of the accepted requests from the opening state
abbrev pub IsReplay : {K : Type 0} → State → Clerking K → Type 0
IsReplay opening k = k.state ≡ replay opening k.accepted

-- there is such an opening state, whose last entry has this number
abbrev pub HasOpening : {K : Type 0} → ℕ → Clerking K → Type 0
HasOpening base k = ∥ ((opening : State) × (last_number opening ≡ base) × IsReplay opening k) ∥₁

-- the invariant of a clerk: the entries behind that number were accepted since the opening, the state is a storable desk, and the keeper
-- was loaded, and its rows, where known, are those of the state
pub record IsClerk {K : Type 0} (Tells : K → Kept → Type 0) (IsLoaded : K → Type 0) (base : ℕ) (k : Clerking K) : Type 0 where
  pub within : base ≤ last_number k.state
  pub opening : HasOpening base k
  pub desk : IsDesk k.state
  pub told : Told Tells k.keeper k.state
  pub loaded : ∥ IsLoaded k.keeper ∥₁

-- a request is accepted as decided, and the clerk goes from k to l; it is refused as decided, or because memory ran out or
-- the keeper failed, and nothing changes
abbrev pub Advances : {K : Type 0} → Decided → Clerking K → Clerking K → Answer → Type 0
Advances d k l (answers.Accepted number outcome) = (answer_of d ≡ answers.Accepted number outcome) × (l.state ≡ state_after k.state d) × (l.accepted ≡ k.accepted ++ entries_of_answer d)
Advances d k l (answers.Refused why) = (why ≢ refusals.NoMemory → why ≢ refusals.KeeperFault → d ≡ No why) × (l.state ≡ k.state) × (l.accepted ≡ k.accepted)
