-- For proofs alone: the only runway of an airport.
use Rattle.std.specs.Prelude.{ℤ, pos, ◌≡◌, true, [], ◌∷◌}
use Rattle.grid_exact.specs.Lines.{square}
use Rattle.airfields.specs.Categories.{is_described}
use Rattle.airfields.specs.Runways.{IsProper}
use Rattle.airfields.specs.declared.airfield.Airport.{Airport}
use Rattle.airfields.specs.declared.runway.Runway.{Runway}
use Rattle.runway_lines.specs.Profiles.{profile_of}
use Rattle.runway_notice.specs.ShortEnds.{IsEnd}
use Rattle.runway_notice.specs.Slopes.{sub_of}
use Rattle.runway_notice.specs.declared.short_end.ShortEnd.{ShortEnd}
use Rattle.runway_notice.specs.declared.slope.Sub.{Sub}

-- 77.9(d) describes the airport, and this is its only runway
pub record IsLoneOf (a : Airport) (r : Runway) : Type 0 where
  pub described : is_described a.category ≡ true
  pub alone : a.runways ≡ (r ∷ [])

-- the stored form of such a runway
pub record IsReady (r : Runway) (first second : ShortEnd) (n : ℤ) (sub : Sub) : Type 0 where
  pub proper : IsProper r
  pub first_is : IsEnd r.end1 first
  pub second_is : IsEnd r.end2 second
  pub square_is : n ≡ pos (square (profile_of r).line)
  pub sub_is : sub ≡ sub_of (r ∷ [])
