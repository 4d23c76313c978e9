-- No excess over a surface of a heliport is more either.
use Rattle.std.proofs.Common.{ℕ, ℤ, Bool, true, false, Option}
use Rattle.grid_exact.specs.declared.point.Point.{Point}
use Rattle.airfields.specs.Categories.{is_described}
use Rattle.airfields.specs.declared.airfield.Heliport.{Heliport}
use Rattle.heliport_surfaces.specs.declared.parts.PadEnd.{PadEnd}
use Rattle.heliport_surfaces.specs.declared.parts.PadEnd.TheVariants.{One, Two}
use Rattle.heliport_surfaces.specs.declared.parts.Beside.{Beside}
use Rattle.heliport_surfaces.specs.declared.parts.Beside.TheVariants.{Primary, ApproachOne, ApproachTwo}
use Rattle.heliport_surfaces.specs.Places.{Heights, is_covered, is_covered_beside, excess_over}
use Rattle.heliport_surfaces.specs.Landings.{primary_place, primary_side_heights, excess_over_primary}
use Rattle.heliport_surfaces.specs.Approaches.{approach_place, approach_heights, approach_side_heights, excess_over_approach}
use Rattle.heliport_surfaces.specs.Notices.{gap, is_within, is_nearer, is_over, excess_over_notice}
use Rattle.heliport_surfaces.specs.Pads.{landing_of, approach_of, landing_offset, approach_offset, excess_if, excess_over_side}
use Rattle.heliport_surfaces.specs.Pads.{pad_primary_excess, pad_approach_excess, pad_transition_excess, pad_notice_excess}
use Rattle.desk_tables.proofs.Excesses.{IsSmall, found_small, flat_small, root_small}

-- an excess that is there for some heliports alone
if_small : (b : Bool) (x : Option ℕ) → IsSmall x → IsSmall (excess_if b x)
if_small true x h = h
if_small false x h = tt

heights_small : (covers : Bool) (h : Heights) (top : ℤ) → IsSmall (excess_over covers h top)
heights_small covers h top = root_small covers h.a h.k h.c h.n top

pub pad_primary_small : (h : Heliport) (x : Point) (top : ℤ) → IsSmall (pad_primary_excess h x top)
unfolding pad_primary_excess
pad_primary_small h x top =
    let l = landing_of h in
    let o = landing_offset h x in
    if_small (is_described h.category) (excess_over_primary l o top) (flat_small (is_covered (primary_place l o)) l.z top)

pub pad_approach_small : (h : Heliport) (end : PadEnd) (x : Point) (top : ℤ) → IsSmall (pad_approach_excess h end x top)
unfolding pad_approach_excess
pad_approach_small h end x top =
    let a = approach_of h end in
    let o = approach_offset h end x in
    if_small (is_described h.category) (excess_over_approach a o top) (heights_small (is_covered (approach_place a o)) (approach_heights a o) top)

side_small : (h : Heliport) (beside : Beside) (x : Point) (top : ℤ) → IsSmall (excess_over_side h beside x top)
side_small h Primary x top =
    let l = landing_of h in
    let o = landing_offset h x in
    heights_small (is_covered_beside (primary_place l o)) (primary_side_heights l o) top
side_small h ApproachOne x top =
    let a = approach_of h One in
    let o = approach_offset h One x in
    heights_small (is_covered_beside (approach_place a o)) (approach_side_heights a o) top
side_small h ApproachTwo x top =
    let a = approach_of h Two in
    let o = approach_offset h Two x in
    heights_small (is_covered_beside (approach_place a o)) (approach_side_heights a o) top

pub pad_transition_small : (h : Heliport) (beside : Beside) (x : Point) (top : ℤ) → IsSmall (pad_transition_excess h beside x top)
unfolding pad_transition_excess
pad_transition_small h beside x top = if_small (is_described h.category) (excess_over_side h beside x top) (side_small h beside x top)

pub pad_notice_small : (h : Heliport) (x : Point) (top : ℤ) → IsSmall (pad_notice_excess h x top)
unfolding pad_notice_excess
pad_notice_small h x top =
    let l = landing_of h in
    let g = gap l (landing_offset h x) in
    if_small (is_described h.category) (excess_over_notice l (landing_offset h x) top)
    (found_small _ (is_over (is_nearer g) l.z) (is_over (is_within g) l.z) top)
