-- How a run ends whose desk was not opened.
use Rattle.std.proofs.Common.{ℕ, List, Option, ◌≡◌, ◌≢◌, subst}
use Rattle.oe_keeper.specs.Kept.{Kept, place}
use Rattle.oe_keeper.specs.declared.change.Table.{Table}
use Rattle.desk_tables.specs.Opening.{IsFirstBad}
use Rattle.filing_desk.specs.Loads.{HasOpenCause}
use Rattle.desk_receipts.specs.declared.renewal.OpenRefusal.{OpenRefusal}
use Rattle.desk_receipts.specs.declared.renewal.OpenRefusal.TheVariants as refusals
use Rattle.oe_commands.specs.Runs.{IsUnopened, RunCauses}
use Rattle.oe_commands.specs.Statuses.{refused_by}
use Rattle.oe_commands.specs.declared.status.Status.TheVariants as statuses

pub no_usage : (why : OpenRefusal) → refused_by why ≢ statuses.Usage
no_usage refusals.KeeperFault h = cc
no_usage (refusals.BadRow table key) h = cc
no_usage refusals.NoMemory h = cc

pub no_gate : (why : OpenRefusal) → refused_by why ≢ statuses.GateFault
no_gate refusals.KeeperFault h = cc
no_gate (refusals.BadRow table key) h = cc
no_gate refusals.NoMemory h = cc

-- no stream was asked
pub causes : (why : OpenRefusal) (x y : Option (List ℕ)) (r0 r1 w0 w1 : ℕ) → RunCauses (refused_by why) x y r0 r1 w0 w1
causes refusals.KeeperFault x y r0 r1 w0 w1 = record { read = λ e. cc; write = λ e. cc; long = λ e. cc }
causes (refusals.BadRow table key) x y r0 r1 w0 w1 = record { read = λ e. cc; write = λ e. cc; long = λ e. cc }
causes refusals.NoMemory x y r0 r1 w0 w1 = record { read = λ e. cc; write = λ e. cc; long = λ e. cc }

module _ {K : Type 0} (Tells : K → Kept → Type 0) (Finds : K → Option (List ℕ) → Kept → Type 0) (IsSteady : K → Type 0) (faults : K → ℕ) (keeper : K) (path : Option (List ℕ)) where
  pub unopened : (why : OpenRefusal) → HasOpenCause Tells Finds IsSteady faults keeper path why → IsUnopened Finds IsSteady keeper path (refused_by why)
  unopened refusals.KeeperFault (after, later, failed) = failed.unsteady
  unopened (refusals.BadRow table key) (rows, after, loaded, bad) = (rows, loaded.found, bad)
  unopened refusals.NoMemory h = tt

  pub no_fault : (why : OpenRefusal) → HasOpenCause Tells Finds IsSteady faults keeper path why → IsSteady keeper → refused_by why ≢ statuses.KeeperFault
  no_fault refusals.KeeperFault (after, later, failed) steady e = failed.unsteady steady
  no_fault (refusals.BadRow table key) h steady e = cc
  no_fault refusals.NoMemory h steady e = cc

  pub bad_row : (why : OpenRefusal) → HasOpenCause Tells Finds IsSteady faults keeper path why → (t : Table) (k : List ℕ) → refused_by why ≡ statuses.BadRow t k
      → (rows : Kept) × Finds keeper path rows × IsFirstBad rows (place t, k)
  bad_row why h t k e = subst (λ s. IsUnopened Finds IsSteady keeper path s) e (unopened why h)
