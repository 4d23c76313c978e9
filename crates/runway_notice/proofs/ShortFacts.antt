-- The centerline of a runway by its ends in little room.
use Rattle.std.proofs.Common.{◌≡◌, ◌∙◌, ℤ, ◌-ℤ◌, ap, refl}
use Rattle.grid_exact.specs.Lines.{IsSquare}
use Rattle.grid_exact.specs.Vector.{length_of}
use Rattle.airfields.specs.Runways.{IsProper}
use Rattle.airfields.specs.declared.runway.Runway.{Runway}
use Rattle.runway_lines.specs.Centerlines.{Profile}
use Rattle.runway_lines.specs.Profiles.{profile_of}
use Rattle.runway_lines.proofs.AxisFacts.{runway_square}
use Rattle.runway_notice.specs.ShortEnds.{IsEnd}
use Rattle.runway_notice.specs.declared.short_end.ShortEnd.{ShortEnd}

pub way_square : (r : Runway) (p q : ShortEnd) (dx dy : ℤ) → IsProper r → IsEnd r.end1 p → IsEnd r.end2 q → dx ≡ q.x -ℤ p.x → dy ≡ q.y -ℤ p.y → IsSquare (length_of dx dy)
way_square r p q dx dy proper h k hx hy =
    let ex : dx ≡ r.end2.at.x -ℤ r.end1.at.x = rw (h.x_is, k.x_is) at hx in
    let ey : dy ≡ r.end2.at.y -ℤ r.end1.at.y = rw (h.y_is, k.y_is) at hy in
    rw (ex, ey) (runway_square r proper.within_length)

-- a line from (x, y) by (dx, dy), from the elevation z to w
abbrev lined : (x y dx dy z w : ℤ) → Profile
lined x y dx dy z w = record { line = record { x = x; y = y; dx = dx; dy = dy }; z = z; rise = w -ℤ z }

pub line_is : (r s : Runway) (p q : ShortEnd) (x y dx dy z w : ℤ) → r ≡ s → IsEnd r.end1 p → IsEnd r.end2 q → x ≡ p.x → y ≡ p.y → dx ≡ q.x -ℤ p.x → dy ≡ q.y -ℤ p.y → z ≡ p.z → w ≡ q.z → lined x y dx dy z w ≡ profile_of s
unfolding profile_of
line_is r s p q x y dx dy z w same h k hx hy hdx hdy hz hw =
    let ex : dx ≡ r.end2.at.x -ℤ r.end1.at.x = rw (h.x_is, k.x_is) at hdx in
    let ey : dy ≡ r.end2.at.y -ℤ r.end1.at.y = rw (h.y_is, k.y_is) at hdy in
    let e : lined x y dx dy z w ≡ profile_of r = rw (hx ∙ h.x_is, hy ∙ h.y_is, ex, ey, hz ∙ h.z_is, hw ∙ k.z_is) refl in
    e ∙ ap profile_of same
