-- The keeper and the desk after a step, and after a decision.
use Rattle.std.specs.Prelude.{◌≡◌, ◌≢◌, ℕ, List, Result, OnOk, OnErr, IfErr, Some, None}
use Rattle.oe_keeper.specs.Kept.{Kept}
use Rattle.oe_keeper.specs.declared.change.RowChange.{RowChange}
use Rattle.case_records.specs.declared.refusal.Refusal.{Refusal}
use Rattle.case_records.specs.declared.refusal.Refusal.TheVariants as refusals
use Rattle.case_acts.specs.declared.effect.Step.{Step}
use Rattle.desk_machine.specs.declared.entry.Entry.{Entry}
use Rattle.desk_machine.specs.States.{State, state_after_step, with_entry}
use Rattle.desk_machine.specs.Machine.{Answer as Decided, register_rule}
use Rattle.desk_receipts.specs.Handed.{Handed, Told}
use Rattle.desk_receipts.specs.Keepers.{IsLater, HasFailed}
use Rattle.filing_desk.specs.declared.answer.Answer.{Answer}
use Rattle.filing_desk.specs.Answers.{IfRefused, MakesEntry}

-- a step was done, with the entry of its request, where the rules of the register allow that and the keeper made the changes; where a rule
-- is broken, the keeper was not asked
pub record TakesStep {K T : Type 0} (Tells : K → Kept → Type 0) (IsLoaded : K → Type 0) (IsSteady : K → Type 0) (faults : K → ℕ)
    (old new : K) (changes : List RowChange) (entry : Entry) (step : Step) (s t : State) (result : Result T Refusal) : Type 0 where
  pub done : OnOk result ((register_rule s.register step ≡ None) × (t ≡ with_entry entry (state_after_step step s)))
  pub same : OnErr result (t ≡ s)
  pub refused : IfErr result (λ why. why ≢ refusals.NoMemory → why ≢ refusals.KeeperFault → register_rule s.register step ≡ Some why)
  pub handed : Handed Tells IsLoaded IsSteady faults old new changes result
  pub unasked : (register_rule s.register step ≡ None → ⊥) → new ≡ old
  pub allowed : IfErr result (λ why. why ≡ refusals.KeeperFault → register_rule s.register step ≡ None)

-- the keeper after a decision: it was not asked where no entry is made, and a fault is reported only where one was to be made and it failed
pub record HasCause {K : Type 0} (IsSteady : K → Type 0) (faults : K → ℕ) (d : Decided) (old new : K) (answer : Answer) : Type 0 where
  pub later : IsLater IsSteady faults old new
  pub unasked : (MakesEntry d → ⊥) → new ≡ old
  pub failed : IfRefused answer (λ why. why ≡ refusals.KeeperFault → MakesEntry d × HasFailed IsSteady faults old new)

-- a request was decided that takes state s to state t: known rows stay known
pub record Serves {K : Type 0} (Tells : K → Kept → Type 0) (IsLoaded : K → Type 0) (IsSteady : K → Type 0) (faults : K → ℕ)
    (d : Decided) (old new : K) (s t : State) (answer : Answer) : Type 0 where
  pub told : Told Tells old s → Told Tells new t
  pub loaded : ∥ IsLoaded new ∥₁
  pub cause : HasCause IsSteady faults d old new answer
