-- For proofs alone: the rising limit near an airport is reached at every level above one that reaches it.
use Rattle.std.specs.Prelude.{ℕ, ℤ, ◌≤ℤ◌, ◌<ℤ◌, true, false}
use Rattle.std.specs.Bool.{MatchBool}
use Rattle.std.proofs.Common.{arith}
use Rattle.std.proofs.lemmas.Int.{ints}
use Rattle.grid_exact.specs.Root.{AtLeastRoot, AboveRoot}
use Rattle.grid_exact.proofs.RootOrder.{AtLeastRoot_more}
use Rattle.height_rules.specs.Limits.{IsAtLimit, IsAboveLimit, inner_limit, is_inner, reach_of}
use Rattle.height_rules.specs.declared.limit.TheConstants.{RISE_PER_MILE}

pub reach_rises : (d2 : ℕ) (base y z : ℤ) → y ≤ℤ z → AtLeastRoot (reach_of base y) RISE_PER_MILE d2 → AtLeastRoot (reach_of base z) RISE_PER_MILE d2
reach_rises d2 base y z h k = AtLeastRoot_more (reach_of base y) (reach_of base z) RISE_PER_MILE d2 (omega (arith, ints)) k

pub above_reaches : (d2 : ℕ) (base z : ℤ) → IsAboveLimit d2 base z → IsAtLimit d2 base z
above_reaches d2 base z =
    elim (is_inner d2) as (λ b. MatchBool b (inner_limit base <ℤ z) (AboveRoot (reach_of base z) RISE_PER_MILE d2) → MatchBool b (inner_limit base ≤ℤ z) (AtLeastRoot (reach_of base z) RISE_PER_MILE d2)) [
      | true ↦ λ k. omega (arith, ints)
      | false ↦ λ k. record { at_least = omega (arith, ints, k.above) }
    ]

pub reach_above : (a : ℤ) (d2 : ℕ) → AboveRoot a RISE_PER_MILE d2 → AtLeastRoot a RISE_PER_MILE d2
reach_above a d2 k = record { at_least = omega (arith, ints, k.above) }
