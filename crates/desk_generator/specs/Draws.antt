-- A pseudo-random source by a fixed rule.
use Rattle.std.specs.Prelude.{ℕ, zero, suc, ◌+◌, ◌*◌, ◌/◌, ◌%◌, ◌^◌, ◌==◌, ℤ, pos, ◌-ℤ◌, if◌then◌else◌}
use Rattle.runway_classes.specs.declared.ApproachKind.{ApproachKind}
use Rattle.runway_classes.specs.declared.ApproachKind.TheVariants.{Visual, NonprecisionAbove, NonprecisionLow, Precision}
use Rattle.desk_generator.specs.declared.draws.TheConstants.{MULTIPLIER, INCREMENT, LOW_PART, COORDINATES, FARTHEST, APPROACHES}

-- the number of a source after a draw
unfoldable pub next : ℕ → ℕ
next s = (s * MULTIPLIER + INCREMENT) % 2 ^ 64

-- and after this many draws
abbrev pub state_of_draw : ℕ → ℕ → ℕ
state_of_draw zero s = s
state_of_draw (suc k) s = state_of_draw k (next s)

-- a draw below n, where the number of the source is s after the draw
unfoldable pub drawn : ℕ → ℕ → ℕ
drawn n s = s / LOW_PART % n

abbrev pub coordinate : ℕ → ℤ
coordinate s = pos (drawn COORDINATES s) -ℤ FARTHEST

-- the kind of approaches of this number
abbrev pub kind_of : ℕ → ApproachKind
kind_of n = if n == 0 then Visual else (if n == 1 then NonprecisionAbove else (if n == 2 then NonprecisionLow else Precision))

abbrev pub approach : ℕ → ApproachKind
approach s = kind_of (drawn APPROACHES s)
