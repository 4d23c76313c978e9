-- Numbers and their opposites.
use Rattle.std.proofs.Common.{◌≡◌, ℤ, neg_ℤ, arith}
use Rattle.std.specs.Prelude.{int_le}
use Rattle.std.proofs.lemmas.Int.{ints}

-- the opposites of two numbers are in the other order
pub opposite_order : (a b : ℤ) → int_le a (neg_ℤ b) ≡ int_le b (neg_ℤ a)
opposite_order a b = grind (arith, ints)

pub ruleset opposites = (opposite_order)
