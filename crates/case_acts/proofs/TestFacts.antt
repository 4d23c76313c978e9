-- A test that says when it holds is the comparison.
use Rattle.std.proofs.Common.{◌≡◌, ◌↔◌, Bool, IsTrue, ℤ, ◌≤ℤ◌, int_le}
use Rattle.grid_exact.proofs.TestFacts.{le_in, le_out, same_test}

pub tested : (b : Bool) (x y : ℤ) → (IsTrue b ↔ (x ≤ℤ y)) → b ≡ int_le x y
tested b x y h = same_test b (int_le x y) h (le_in x y) (le_out x y)
