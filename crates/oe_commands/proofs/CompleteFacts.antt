-- A run that nothing outside has failed ends in no other way.
use Rattle.std.proofs.Common.{ℕ, List, ◌≡◌, ◌≢◌, ◌⊎◌, inl, inr, refl, subst, sym}
use Rattle.oe_keeper.specs.declared.change.Table.{Table}
use Rattle.oe_commands.specs.Generating.{IsGenerateEnd}
use Rattle.oe_commands.specs.Runs.{IsComplete}
use Rattle.oe_commands.specs.declared.status.Status.{Status}
use Rattle.oe_commands.specs.declared.status.Status.TheVariants as statuses

pub whole : (s : Status) → s ≢ statuses.Usage → s ≢ statuses.ReadFault → s ≢ statuses.WriteFault → s ≢ statuses.KeeperFault → ((t : Table) (k : List ℕ) → s ≢ statuses.BadRow t k) → s ≢ statuses.GateFault → IsComplete s
whole statuses.Done usage read write fault bad gate = tt
whole statuses.Usage usage read write fault bad gate = usage refl
whole statuses.ReadFault usage read write fault bad gate = read refl
whole statuses.WriteFault usage read write fault bad gate = write refl
whole statuses.KeeperFault usage read write fault bad gate = fault refl
whole (statuses.BadRow table key) usage read write fault bad gate = bad table key refl
whole statuses.NoMemory usage read write fault bad gate = tt
whole statuses.InputLong usage read write fault bad gate = tt
whole statuses.GateFault usage read write fault bad gate = gate refl

-- the same of a desk that is made by draws
pub made_whole : (s : Status) → IsGenerateEnd s → s ≢ statuses.WriteFault → IsComplete s
made_whole s (inl done) write = subst IsComplete (sym done) tt
made_whole s (inr (inl fault)) write = absurd (write fault)
made_whole s (inr (inr memory)) write = subst IsComplete (sym memory) tt
