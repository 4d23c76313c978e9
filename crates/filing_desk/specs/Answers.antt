-- The clerk's answers.
use Rattle.std.specs.Prelude.{◌≡◌, ◌≢◌, None}
use Rattle.wire_requests.specs.Changes.{Asked}
use Rattle.case_records.specs.declared.refusal.Refusal.{Refusal}
use Rattle.case_records.specs.declared.refusal.Refusal.TheVariants as refusals
use Rattle.desk_machine.specs.States.{State, last_number}
use Rattle.desk_machine.specs.Machine.{Answer as Decided, Kept, No, Done, decide, state_after}
use Rattle.filing_desk.specs.declared.answer.Answer.{Answer}
use Rattle.filing_desk.specs.declared.answer.Answer.TheVariants as answers

-- the answer for a decision: an existing entry is answered like a new one
abbrev pub answer_of : Decided → Answer
answer_of (Kept e) = answers.Accepted e.number e.outcome
answer_of (No why) = answers.Refused why
answer_of (Done e step) = answers.Accepted e.number e.outcome

-- the desk's own decision: all its entries are published, and no list is given
abbrev pub decision : State → Asked → Decided
decision s q = decide s (last_number s) q None

-- the request makes an entry
abbrev pub MakesEntry : Decided → Type 0
MakesEntry (Kept e) = ⊥
MakesEntry (No why) = ⊥
MakesEntry (Done e step) = Unit {0}

-- what is so of the cause of a refusal
abbrev pub IfRefused : Answer → (Refusal → Type 0) → Type 0
IfRefused (answers.Accepted number outcome) P = Unit {0}
IfRefused (answers.Refused why) P = P why

-- a request is accepted as decided, and state s becomes state t; it is refused as decided, or because memory
-- ran out or the keeper failed, and nothing changes
abbrev pub Answers : Decided → State → State → Answer → Type 0
Answers d s t (answers.Accepted number outcome) = (answer_of d ≡ answers.Accepted number outcome) × (t ≡ state_after s d)
Answers d s t (answers.Refused why) = (why ≢ refusals.NoMemory → why ≢ refusals.KeeperFault → d ≡ No why) × (t ≡ s)
