-- The limit of 77.17(a)(2) at one point, by the square d2 of its distance from the airport's reference point.
use Rattle.std.specs.Prelude.{ℕ, ℤ, pos, ◌+ℤ◌, ◌-ℤ◌, ◌*ℤ◌, ◌≤ℤ◌, ◌<ℤ◌, ◌*◌, Bool, nat_le}
use Rattle.std.specs.Bool.{MatchBool}
use Rattle.grid_exact.specs.Root.{AtLeastRoot, AboveRoot}
use Rattle.airfields.specs.declared.limits.TheConstants.{ELEVATION_LEAST}
use Rattle.height_rules.specs.declared.heights.TheConstants.{TOP_MOST}
use Rattle.height_rules.specs.declared.limit.TheConstants.{INNER_HEIGHT, INNER_RADIUS, NAUTICAL_MILE, RISE_PER_MILE}

-- within three nautical miles the limit is 200 feet above the base
abbrev pub is_inner : ℕ → Bool
is_inner d2 = nat_le d2 (INNER_RADIUS * INNER_RADIUS)

abbrev pub inner_limit : ℤ → ℤ
inner_limit base = base +ℤ INNER_HEIGHT

-- beyond them it rises by 100 feet for each further nautical mile: the height of z above the base, converted to the distance at which the
-- limit has that height, times the rise per mile
abbrev pub reach_of : ℤ → ℤ → ℤ
reach_of base z = NAUTICAL_MILE *ℤ (z -ℤ inner_limit base) +ℤ RISE_PER_MILE *ℤ pos INNER_RADIUS

abbrev pub IsAtLimit : ℕ → ℤ → ℤ → Type 0
IsAtLimit d2 base z = MatchBool (is_inner d2) (inner_limit base ≤ℤ z) (AtLeastRoot (reach_of base z) RISE_PER_MILE d2)

abbrev pub IsAboveLimit : ℕ → ℤ → ℤ → Type 0
IsAboveLimit d2 base z = MatchBool (is_inner d2) (inner_limit base <ℤ z) (AboveRoot (reach_of base z) RISE_PER_MILE d2)

-- ---- for proofs alone

-- a base that is below some possible top
pub record IsLow (base : ℤ) : Type 0 where
  pub least : ELEVATION_LEAST ≤ℤ base
  pub most : base ≤ℤ TOP_MOST
