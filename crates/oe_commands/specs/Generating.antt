-- The output of the command `generate`.
use Rattle.std.specs.Prelude.{ℕ, List, [], ◌++◌, ◌≡◌, ◌⊎◌, Option, codes}
use Rattle.std.specs.Fmt.{decimal}
use Rattle.std.specs.Io.KnownBytes.{Appends}
use Rattle.oe_http.specs.Written.{Sent}
use Rattle.desk_generator.specs.Desks.{generated_state}
use Rattle.desk_generator.specs.Tallies.{tally_of}
use Rattle.desk_generator.specs.declared.tally.Tally.{Tally}
use Rattle.oe_commands.specs.declared.status.Status.{Status}
use Rattle.oe_commands.specs.declared.status.Status.TheVariants as statuses

-- the counts of a desk, in one line
abbrev pub tally_line : Tally → List ℕ
tally_line t =
    codes "airfields " ++ decimal t.airfields ++ codes " cases " ++ decimal t.cases ++ codes " entries " ++ decimal t.entries
    ++ codes " marked " ++ decimal t.marked ++ codes "\n"

-- the line of the desk generated from this seed, for this number of cases
abbrev pub generated_line : ℕ → ℕ → List ℕ
generated_line seed count = tally_line (tally_of (generated_state seed count))

-- the bytes written, by the status
pub record GenerateWrites (seed count : ℕ) (status : Status) (held_old held_new : Option (List ℕ)) : Type 0 where
  -- at `Done` the line
  pub done : status ≡ statuses.Done → Appends held_old held_new (generated_line seed count)
  -- under every status a beginning of it
  pub begun : (rest : List ℕ) × Sent held_old held_new (generated_line seed count) rest
  -- where memory ran out, nothing
  pub memory : status ≡ statuses.NoMemory → Appends held_old held_new []

-- the statuses of the command
abbrev pub IsGenerateEnd : Status → Type 0
IsGenerateEnd status = (status ≡ statuses.Done) ⊎ (status ≡ statuses.WriteFault) ⊎ (status ≡ statuses.NoMemory)
