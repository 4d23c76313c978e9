-- Sides of squares.
use Rattle.std.proofs.Common.{◌≡◌, ℕ, zero, suc, ◌+◌, ◌-◌, ◌<◌, ◌≤◌, ◌^◌, ◌*◌, arith, refl, ap}
use Rattle.std.proofs.Common.{ℤ, pos, neg_ℤ, ◌≤ℤ◌, inl, inr, to_z-of_z}
use Rattle.std.specs.Prelude.{int_lt}
use Rattle.std.proofs.lemmas.Bool.{cases_Bool}
use Rattle.std.proofs.lemmas.Int.{ints}
use Rattle.surface_tree.specs.Levels.{side_of, level_up_to}

pub side-pred : (k : ℕ) → 0 < k → side_of k ≡ side_of (k - 1) + side_of (k - 1)
side-pred zero h = absurd (omega arith)
side-pred (suc k) h = let e : suc k - 1 ≡ k = omega arith in rw e refl

pub side-least : (k : ℕ) → 4096 ≤ side_of k
side-least zero = omega arith
side-least (suc k) = omega (arith, side-least k)

-- the extent is at most the side of its level
pub level-side : (n : ℕ) (e : ℤ) → e ≤ℤ pos (side_of n) → e ≤ℤ pos (side_of (level_up_to n e))
level-side zero e h = h
level-side (suc n) e h =
    elim (cases_Bool (int_lt (pos (side_of n)) e)) [
      | inl y ↦ rw y h
      | inr f ↦ rw f (level-side n e (grind (arith, ints, f)))
    ]

pub ruleset casts = (to_z-of_z)
