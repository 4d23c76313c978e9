-- What a service writes.
use Rattle.std.specs.Prelude.{ℕ, List, [], ◌++◌, ◌≡◌, Option, IfSome, codes}
use Rattle.std.specs.Fmt.{decimal}
use Rattle.std.specs.Io.KnownBytes.{Appends}
use Rattle.oe_http.specs.Written.{Sent}
use Rattle.link_gates.specs.Teams.{served_of}
use Rattle.desk_service.specs.declared.service.ServiceEnd.{ServiceEnd}
use Rattle.desk_service.specs.declared.service.ServiceEnd.TheVariants as ends

-- the line that tells how many links were served
abbrev pub served_line : ℕ → List ℕ
served_line served = codes "served " ++ decimal served ++ codes "\n"

-- the bytes written to tell how many links were served, by how the service ended
pub record Tells (served : ℕ) (end : ServiceEnd) (held_old held_new : Option (List ℕ)) : Type 0 where
  -- at `Done` and at a fault of the gate the line
  pub done : end ≡ ends.Done → Appends held_old held_new (served_line served)
  pub fault : end ≡ ends.GateFault → Appends held_old held_new (served_line served)
  -- under every end a beginning of it
  pub begun : (rest : List ℕ) × Sent held_old held_new (served_line served) rest
  -- where memory ran out, nothing
  pub memory : end ≡ ends.NoMemory → Appends held_old held_new []

-- what a service of so many workers, each of so many turns, wrote, by how it ended
pub record Serves {Link : Type 0} (workers turns : ℕ) (lists : Option (List (List Link))) (end : ServiceEnd) (held_old held_new : Option (List ℕ)) : Type 0 where
  -- at `Done` the line; where the gate tells its links, each worker served those of one of the first lists, as far as it had turns
  pub done : end ≡ ends.Done → (served : ℕ) × IfSome lists (λ all. served ≡ served_of workers turns all) × Appends held_old held_new (served_line served)
  -- a fault of the gate is told after the line
  pub fault : end ≡ ends.GateFault → (served : ℕ) × Appends held_old held_new (served_line served)
  -- under every end a beginning of such a line
  pub begun : (served : ℕ) × (rest : List ℕ) × Sent held_old held_new (served_line served) rest
  -- where memory ran out, nothing
  pub memory : end ≡ ends.NoMemory → Appends held_old held_new []
