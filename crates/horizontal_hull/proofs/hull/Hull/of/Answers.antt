use Rattle.std.proofs.Common.{◌≡◌, ◌∙◌, refl, ℤ, ◌+ℤ◌, List, arith, sym, subst, FitsSigned, w64, to_z, of_z, to_z-of_z}
use Rattle.std.specs.List.{All}
use Rattle.std.proofs.lemmas.Int.{ints}
use Rattle.airfields.specs.Runways.{IsElevation}
use Rattle.horizontal_hull.specs.Arcs.{ArcShape, Dome, arcs_of, dome_of}
use Rattle.horizontal_hull.specs.declared.sizes.TheConstants.{HORIZONTAL_RISE}
use Rattle.outline_boxes.specs.Bounds.{box_of}
use Rattle.horizontal_hull.specs.Close.{IsNearReference, IsOuter}
use Rattle.horizontal_hull.proofs.ArcFacts.{arcs_near}
use Rattle.horizontal_hull.proofs.hull.Hull.of.Goals as goal

abbrev dome : List ArcShape → ℤ → Dome
dome xs z = record { arcs = xs; level = z }

-- the level as the code computes it
raised : (z : ℤ) → IsElevation z → to_z w64 (of_z w64 (to_z w64 (of_z w64 z) +ℤ HORIZONTAL_RISE)) ≡ z +ℤ HORIZONTAL_RISE
raised z h =
    let fz : FitsSigned w64 z = omega (arith, ints, h.least, h.most) in
    let fr : FitsSigned w64 (z +ℤ HORIZONTAL_RISE) = omega (arith, ints, h.least, h.most) in
    simp to_z-of_z refl

pub invariant_of-result : goal.invariant_of-result
invariant_of-result c =
    let e = c.requires.held.elevation in
    let arp = c.args.a.now.arp in
    rw (raised c.args.a.now.elevation e)
    (record {
      outer = subst (λ (xs : List ArcShape). IsOuter xs (box_of c.outer_box-outer.result)) c.as_slice.ensures
          (c.outer_box-outer.ensures arp (subst (λ (xs : List ArcShape). All (IsNearReference arp) xs) (sym c.in_ok-arcs.ensures.arcs ∙ sym c.as_slice.ensures) (arcs_near c.args.a.now c.requires.held.near)));
      level_size = omega (arith, ints, e.least, e.most);
    })

domed : (xs ys : List ArcShape) (y z : ℤ) → xs ≡ ys → y ≡ z → dome xs y ≡ dome ys z
domed xs ys y z p q = rw (p, q) refl

pub returns : goal.returns
unfolding dome_of
returns c = record {
  dome = domed c.in_ok-arcs.arcs (arcs_of c.args.a.now) (to_z w64 (of_z w64 (to_z w64 (of_z w64 c.args.a.now.elevation) +ℤ HORIZONTAL_RISE))) (c.args.a.now.elevation +ℤ HORIZONTAL_RISE)
      c.in_ok-arcs.ensures.arcs (raised c.args.a.now.elevation c.requires.held.elevation);
}
