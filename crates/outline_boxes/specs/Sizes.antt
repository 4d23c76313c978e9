-- Sizes of outlines.
use Rattle.std.specs.Prelude.{ℤ, pos, ◌+ℤ◌, ◌*ℤ◌, ◌≤ℤ◌, ◌<ℤ◌}

pub record HasRectangleSizes (scale half : ℤ) : Type 0 where
  pub scale_least : pos 0 <ℤ scale
  pub scale_most : scale ≤ℤ pos 1048576
  pub half_least : pos 0 ≤ℤ half
  pub half_most : half ≤ℤ (scale *ℤ pos 1048576)

pub record HasTrapezoidSizes (scale near far length : ℤ) : Type 0 where
  pub scale_least : pos 0 <ℤ scale
  pub scale_most : scale ≤ℤ pos 1048576
  pub near_least : pos 0 ≤ℤ near
  pub near_most : near ≤ℤ far
  pub length_least : pos 0 <ℤ length
  pub length_most : length ≤ℤ pos 1048576
  pub reach_most : (scale *ℤ length +ℤ far) ≤ℤ (scale *ℤ pos 1048576)
