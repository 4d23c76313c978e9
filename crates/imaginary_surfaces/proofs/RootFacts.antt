-- Comparisons with a root by squares, where the factor is not negative.
use Rattle.std.proofs.Common.{◌↔◌, ℕ, ◌*◌, ◌≤◌, ◌<◌, ℤ, pos, negsuc, ◌≤ℤ◌, ◌<ℤ◌, unsigned_abs, ◌^◌, FitsSigned, w64, arith}
use Rattle.std.proofs.lemmas.Int.{ints, fits_signed_from_abs}
use Rattle.grid_exact.specs.Root.{AboveRoot, AtLeastRoot, AtMostRoot, BelowRoot}
use Rattle.grid_exact.proofs.RootOrder.{AtMostRoot_not, BelowRoot-AtMostRoot}

pub at_most_from : (a b : ℤ) (n : ℕ) → pos 0 ≤ℤ a → pos 0 ≤ℤ b → AtMostRoot a b n ↔ (unsigned_abs a * unsigned_abs a ≤ unsigned_abs b * unsigned_abs b * n)
at_most_from (pos a) (pos b) n p q = grind (arith, ints)
at_most_from (pos a) (negsuc b) n p q = absurd (omega (arith, ints, q))
at_most_from (negsuc a) b n p q = absurd (omega (arith, ints, p))

pub at_least_from : (a b : ℤ) (n : ℕ) → pos 0 ≤ℤ a → pos 0 ≤ℤ b → AtLeastRoot a b n ↔ (unsigned_abs b * unsigned_abs b * n ≤ unsigned_abs a * unsigned_abs a)
at_least_from (pos a) (pos b) n p q = grind (arith, ints)
at_least_from (pos a) (negsuc b) n p q = absurd (omega (arith, ints, q))
at_least_from (negsuc a) b n p q = absurd (omega (arith, ints, p))

pub above_from : (a b : ℤ) (n : ℕ) → pos 0 ≤ℤ a → pos 0 ≤ℤ b → AboveRoot a b n ↔ (unsigned_abs b * unsigned_abs b * n < unsigned_abs a * unsigned_abs a)
above_from (pos a) (pos b) n p q = grind (arith, ints)
above_from (pos a) (negsuc b) n p q = absurd (omega (arith, ints, q))
above_from (negsuc a) b n p q = absurd (omega (arith, ints, p))

-- what is negative is below the root
pub at_most_low : (a b : ℤ) (n : ℕ) → a <ℤ pos 0 → pos 0 ≤ℤ b → AtMostRoot a b n
at_most_low (pos a) b n p q = absurd (omega (arith, ints, p))
at_most_low (negsuc a) (negsuc b) n p q = absurd (omega (arith, ints, q))
at_most_low (negsuc a) (pos b) n p q = grind (arith, ints)

pub at_least_low : (a b : ℤ) (n : ℕ) → a <ℤ pos 0 → pos 0 ≤ℤ b → AtLeastRoot a b n → ⊥
at_least_low (pos a) b n p q h = omega (arith, ints, p)
at_least_low (negsuc a) (negsuc b) n p q h = omega (arith, ints, q)
at_least_low (negsuc a) (pos b) n p q h = omega (arith, ints, h.at_least)

pub above_low : (a b : ℤ) (n : ℕ) → a <ℤ pos 0 → pos 0 ≤ℤ b → AboveRoot a b n → ⊥
above_low (pos a) b n p q h = omega (arith, ints, p)
above_low (negsuc a) (negsuc b) n p q h = omega (arith, ints, q)
above_low (negsuc a) (pos b) n p q h = omega (arith, ints, h.above)

pub below_from : (a b : ℤ) (n : ℕ) → pos 0 ≤ℤ a → pos 0 ≤ℤ b → BelowRoot a b n ↔ (unsigned_abs a * unsigned_abs a < unsigned_abs b * unsigned_abs b * n)
below_from (pos a) (pos b) n p q = grind (arith, ints)
below_from (pos a) (negsuc b) n p q = absurd (omega (arith, ints, q))
below_from (negsuc a) b n p q = absurd (omega (arith, ints, p))

-- what is positive is above the root of a negative factor
pub not_at_most : (a b : ℤ) (n : ℕ) → pos 0 <ℤ a → b <ℤ pos 0 → AtMostRoot a b n → ⊥
not_at_most a b n p q h = AtMostRoot_not a b n p (omega (arith, ints, q)) h

pub not_below : (a b : ℤ) (n : ℕ) → pos 0 <ℤ a → b <ℤ pos 0 → BelowRoot a b n → ⊥
not_below a b n p q h = not_at_most a b n p q (BelowRoot-AtMostRoot a b n h)

pub fits_64 : (z : ℤ) → unsigned_abs z < 2 ^ 63 → FitsSigned w64 z
fits_64 z h = fits_signed_from_abs w64 z h

pub ruleset roots = (at_most_from, at_least_from, above_from, at_most_low, at_least_low, above_low)

pub ruleset slopes = (at_most_from, below_from, not_at_most, not_below)
