-- Lengths on the grid.
use Rattle.std.proofs.Common.{ℕ, ◌+◌, ◌*◌, ◌<◌, ◌≤◌, ◌^◌, arith}
use Rattle.std.proofs.Math.Nat.{mul-le-mul}
use Rattle.airfields.specs.declared.limits.TheConstants.{GRID_SPAN}

-- the squares of two spans of the grid have room in 64 bits
pub squares_fit : (a b : ℕ) → a ≤ GRID_SPAN → b ≤ GRID_SPAN → a * a + b * b < 2 ^ 64
squares_fit a b p q =
    let x : a * a ≤ GRID_SPAN * GRID_SPAN = mul-le-mul p p in
    let y : b * b ≤ GRID_SPAN * GRID_SPAN = mul-le-mul q q in
    omega arith
