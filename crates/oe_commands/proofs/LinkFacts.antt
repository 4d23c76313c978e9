-- What the end of a service of links says of the status.
use Rattle.std.proofs.Common.{ℕ, List, Option, refl, subst, sym, ap, ◌≡◌, ◌≢◌, ◌∙◌}
use Rattle.oe_keeper.specs.declared.change.Table.{Table}
use Rattle.desk_service.specs.declared.service.ServiceEnd.{ServiceEnd}
use Rattle.desk_service.specs.declared.service.ServiceEnd.TheVariants as ends
use Rattle.oe_http.specs.Causes.{Rose}
use Rattle.oe_commands.specs.Runs.{IsUntouched, RunCauses}
use Rattle.oe_commands.specs.Statuses.{served_status}
use Rattle.oe_commands.specs.declared.status.Status.{Status}
use Rattle.oe_commands.specs.declared.status.Status.TheVariants as statuses

pub no_usage : (e : ServiceEnd) → served_status e ≢ statuses.Usage
no_usage ends.Done h = cc
no_usage ends.GateFault h = cc
no_usage ends.WriteFault h = cc
no_usage ends.NoMemory h = cc

pub no_keeper_fault : (e : ServiceEnd) → served_status e ≢ statuses.KeeperFault
no_keeper_fault ends.Done h = cc
no_keeper_fault ends.GateFault h = cc
no_keeper_fault ends.WriteFault h = cc
no_keeper_fault ends.NoMemory h = cc

pub no_bad_row : (e : ServiceEnd) (t : Table) (k : List ℕ) → served_status e ≢ statuses.BadRow t k
no_bad_row ends.Done t k h = cc
no_bad_row ends.GateFault t k h = cc
no_bad_row ends.WriteFault t k h = cc
no_bad_row ends.NoMemory t k h = cc

pub no_read_fault : (e : ServiceEnd) → served_status e ≢ statuses.ReadFault
no_read_fault ends.Done h = cc
no_read_fault ends.GateFault h = cc
no_read_fault ends.WriteFault h = cc
no_read_fault ends.NoMemory h = cc

pub not_long : (e : ServiceEnd) → served_status e ≢ statuses.InputLong
not_long ends.Done h = cc
not_long ends.GateFault h = cc
not_long ends.WriteFault h = cc
not_long ends.NoMemory h = cc

pub touched : (e : ServiceEnd) → IsUntouched (served_status e) → ⊥
touched ends.Done u = u
touched ends.GateFault u = u
touched ends.WriteFault u = u
touched ends.NoMemory u = u

pub write_fault : (e : ServiceEnd) → served_status e ≡ statuses.WriteFault → e ≡ ends.WriteFault
write_fault ends.Done h = absurd (cc (h))
write_fault ends.GateFault h = absurd (cc (h))
write_fault ends.WriteFault h = refl
write_fault ends.NoMemory h = absurd (cc (h))

pub gate_fault : (e : ServiceEnd) → served_status e ≡ statuses.GateFault → e ≡ ends.GateFault
gate_fault ends.Done h = absurd (cc (h))
gate_fault ends.GateFault h = refl
gate_fault ends.WriteFault h = absurd (cc (h))
gate_fault ends.NoMemory h = absurd (cc (h))

-- a run that serves links reads nothing
pub causes : (s : Status) (x y : Option (List ℕ)) (r0 r1 w0 w1 : ℕ) → s ≢ statuses.ReadFault → s ≢ statuses.InputLong → (s ≡ statuses.WriteFault → Rose w0 w1) → RunCauses s x y r0 r1 w0 w1
causes s x y r0 r1 w0 w1 read long write = record { read = λ e. absurd (read e); write = write; long = λ e. absurd (long e) }
