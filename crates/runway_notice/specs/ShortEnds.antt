-- For proofs alone: ends of runways in a compact form.
use Rattle.std.specs.Prelude.{◌≡◌}
use Rattle.airfields.specs.declared.runway.RunwayEnd.{RunwayEnd}
use Rattle.runway_notice.specs.declared.short_end.ShortEnd.{ShortEnd}

-- the position and the elevation are those of the end
pub record IsEnd (e : RunwayEnd) (s : ShortEnd) : Type 0 where
  pub x_is : s.x ≡ e.at.x
  pub y_is : s.y ≡ e.at.y
  pub z_is : s.z ≡ e.z
