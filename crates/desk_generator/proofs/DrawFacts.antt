-- The numbers of a source.
use Rattle.std.proofs.Common.{arith, ℕ, ◌≡◌, ◌+◌, ◌*◌, ◌%◌, ◌^◌}
use Rattle.std.proofs.Math.Nat.{mod-add-mod}

pub same_next : (s m a : ℕ) → (s * m % 2 ^ 64 + a) % 2 ^ 64 ≡ (s * m + a) % 2 ^ 64
same_next s m a = mod-add-mod (s * m) (2 ^ 64) a
