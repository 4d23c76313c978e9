-- Over a keeper that never fails, each line is answered as over none.
use Rattle.std.proofs.Common.{ℕ, List, Option}
use Rattle.oe_keeper.specs.Kept.{Kept}
use Rattle.desk_machine.specs.States.{State}
use Rattle.oe_http.specs.Session.{Answered, AnsweredFront, AnsweredRead, Begun}
use Rattle.line_desk.specs.Desk.{Serving, Plain, Step, Served, NotKept, StepOver}
use Rattle.line_desk.proofs.SeenFacts as seen

module _ {K : Type 0} (Tells : K → Kept → Type 0) (IsSteady : K → Type 0) (faults : K → ℕ) where
  plain_step : (s t : Serving K) (line text : List ℕ) → Step IsSteady faults s line text t → IsSteady s.keeper → Plain s.state line text t.state
  plain_step s t line text (Served p later) steady = p
  plain_step s t line text (NotKept change is makes e same later failed) steady = absurd (failed.unsteady steady)

  steady_step : (s t : Serving K) (line text : List ℕ) → Step IsSteady faults s line text t → IsSteady s.keeper → IsSteady t.keeper
  steady_step s t line text (Served p later) steady = later.steady steady
  steady_step s t line text (NotKept change is makes e same later failed) steady = later.steady steady

  pub plain : (s t : Serving K) (line text : List ℕ) → IsSteady s.keeper → StepOver Tells IsSteady faults s line text t → Plain s.state line text t.state
  plain s t line text steady h = plain_step s t line text h.step steady

  pub steady_on : (s t : Serving K) (line text : List ℕ) → IsSteady s.keeper → StepOver Tells IsSteady faults s line text t → IsSteady t.keeper
  steady_on s t line text steady h = steady_step s t line text h.step steady

  abbrev IsSteadyIn : Serving K → Type 0
  IsSteadyIn s = IsSteady s.keeper

  abbrev state_in : Serving K → State
  state_in s = s.state

  pub answered : (s t : Serving K) (input x y : Option (List ℕ)) → IsSteady s.keeper → Answered (StepOver Tells IsSteady faults) s t input x y → Answered Plain s.state t.state input x y
  answered s t input x y steady h = seen.answered (StepOver Tells IsSteady faults) Plain state_in IsSteadyIn plain steady_on s t input x y steady h

  pub front : (s : Serving K) (input x y : Option (List ℕ)) → IsSteady s.keeper → AnsweredFront (StepOver Tells IsSteady faults) s input x y → AnsweredFront Plain s.state input x y
  front s input x y steady h = seen.front (StepOver Tells IsSteady faults) Plain state_in IsSteadyIn plain steady_on s input x y steady h

  pub read : (s t : Serving K) (input left x y : Option (List ℕ)) → IsSteady s.keeper → AnsweredRead (StepOver Tells IsSteady faults) s t input left x y → AnsweredRead Plain s.state t.state input left x y
  read s t input left x y steady h = seen.read (StepOver Tells IsSteady faults) Plain state_in IsSteadyIn plain steady_on s t input left x y steady h

  pub begun : (s : Serving K) (input x y : Option (List ℕ)) → IsSteady s.keeper → Begun (StepOver Tells IsSteady faults) s input x y → Begun Plain s.state input x y
  begun s input x y steady h = seen.begun (StepOver Tells IsSteady faults) Plain state_in IsSteadyIn plain steady_on s input x y steady h
