-- Over a keeper that never fails, each line is answered as over none.
use Rattle.std.proofs.Common.{ℕ, List, ap, subst, sym}
use Rattle.oe_keeper.specs.Kept.{Kept}
use Rattle.desk_machine.specs.States.{State}
use Rattle.line_desk.specs.Desk.{Serving}
use Rattle.line_desk.proofs.PlainFacts.{plain, steady_on}
use Rattle.oe_asof.specs.Sessions.{DatedOver, DatedPlain, DatedStep, Dating, Served, Told}

-- the session without its keeper
abbrev pub unkept : {K : Type 0} → Dating (Serving K) → Dating State
unkept d = record { serving = d.serving.state; base = d.base; opening = d.opening }

module _ {K : Type 0} (Tells : K → Kept → Type 0) (IsSteady : K → Type 0) (faults : K → ℕ) where
  abbrev pub IsSteadyIn : Dating (Serving K) → Type 0
  IsSteadyIn d = IsSteady d.serving.keeper

  pub plain_step : (d e : Dating (Serving K)) (line text : List ℕ) → IsSteadyIn d → DatedOver Tells IsSteady faults d line text e → DatedPlain (unkept d) line text (unkept e)
  plain_step d e line text steady (Told asks told same) = DatedStep.Told asks told (ap unkept same)
  plain_step d e line text steady (Served other step base opening) = DatedStep.Served other (plain Tells IsSteady faults d.serving e.serving line text steady step) base opening

  pub steady_after : (d e : Dating (Serving K)) (line text : List ℕ) → IsSteadyIn d → DatedOver Tells IsSteady faults d line text e → IsSteadyIn e
  steady_after d e line text steady (Told asks told same) = subst (λ (f : Dating (Serving K)). IsSteady f.serving.keeper) (sym same) steady
  steady_after d e line text steady (Served other step base opening) = steady_on Tells IsSteady faults d.serving e.serving line text steady step
