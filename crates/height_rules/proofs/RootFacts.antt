-- Comparisons with a root whose factor is the rise for each nautical mile, by squares of 64 bits.
use Rattle.std.proofs.Common.{◌≡◌, ℕ, ℤ, pos, negsuc, ◌*◌, ◌≤◌, ◌<◌, ◌≤ℤ◌, ◌<ℤ◌, ◌^◌, unsigned_abs, arith, to_z-of_z}
use Rattle.std.proofs.lemmas.Int.{ints}
use Rattle.std.proofs.lemmas.Nat.{mul-le}
use Rattle.grid_exact.specs.Root.{AtLeastRoot, AboveRoot}
use Rattle.height_rules.specs.declared.limit.TheConstants.{RISE_PER_MILE}

-- the square of a great number is great
pub great_square : (n : ℕ) → 2 ^ 30 ≤ n → 2 ^ 60 ≤ n * n
great_square n h = mul-le (2 ^ 30) (2 ^ 30) n n h h

abbrev factor : ℕ
factor = unsigned_abs RISE_PER_MILE * unsigned_abs RISE_PER_MILE

pub reached_in : (a : ℤ) (d2 : ℕ) → pos 0 ≤ℤ a → factor * d2 ≤ unsigned_abs a * unsigned_abs a → AtLeastRoot a RISE_PER_MILE d2
reached_in (pos a) d2 p h = record { at_least = omega (arith, ints, h) }
reached_in (negsuc a) d2 p h = absurd (omega (arith, ints, p))

pub reached_out : (a : ℤ) (d2 : ℕ) → pos 0 ≤ℤ a → AtLeastRoot a RISE_PER_MILE d2 → factor * d2 ≤ unsigned_abs a * unsigned_abs a
reached_out (pos a) d2 p h = omega (arith, ints, h.at_least)
reached_out (negsuc a) d2 p h = absurd (omega (arith, ints, p))

pub reached_not : (a : ℤ) (d2 : ℕ) → a <ℤ pos 0 → AtLeastRoot a RISE_PER_MILE d2 → ⊥
reached_not (pos a) d2 p h = omega (arith, ints, p)
reached_not (negsuc a) d2 p h = omega (arith, ints, h.at_least)

pub over_in : (a : ℤ) (d2 : ℕ) → pos 0 ≤ℤ a → factor * d2 < unsigned_abs a * unsigned_abs a → AboveRoot a RISE_PER_MILE d2
over_in (pos a) d2 p h = record { above = omega (arith, ints, h) }
over_in (negsuc a) d2 p h = absurd (omega (arith, ints, p))

pub over_out : (a : ℤ) (d2 : ℕ) → pos 0 ≤ℤ a → AboveRoot a RISE_PER_MILE d2 → factor * d2 < unsigned_abs a * unsigned_abs a
over_out (pos a) d2 p h = omega (arith, ints, h.above)
over_out (negsuc a) d2 p h = absurd (omega (arith, ints, p))

pub over_not : (a : ℤ) (d2 : ℕ) → a <ℤ pos 0 → AboveRoot a RISE_PER_MILE d2 → ⊥
over_not (pos a) d2 p h = omega (arith, ints, p)
over_not (negsuc a) d2 p h = omega (arith, ints, h.above)

pub ruleset roots = (reached_in, reached_out, reached_not, over_in, over_out, over_not, to_z-of_z)
