use Rattle.std.proofs.Common.{◌-ℤ◌, FitsSigned, w64, to_z-of_z, arith, refl}
use Rattle.std.proofs.lemmas.Int.{ints}
use Rattle.runway_lines.specs.Profiles.{profile_of}
use Rattle.runway_lines.proofs.AxisFacts.{runway_square}
use Rattle.runway_lines.proofs.centerline.Centerline.of.Goals as goal

pub invariant_of-result : goal.invariant_of-result
invariant_of-result c = record { square = rw (c.between.ensures.x, c.between.ensures.y) (runway_square c.args.runway.now c.requires.proper.within_length) }

pub returns : goal.returns
unfolding profile_of
returns c =
    let z1 = c.requires.proper.elevation1 in
    let z2 = c.requires.proper.elevation2 in
    let r = c.args.runway.now in
    let f1 : FitsSigned w64 r.end1.z = omega (arith, ints, z1.least, z1.most) in
    let f2 : FitsSigned w64 r.end2.z = omega (arith, ints, z2.least, z2.most) in
    let fr : FitsSigned w64 (r.end2.z -ℤ r.end1.z) = omega (arith, ints, z1.least, z1.most, z2.least, z2.most) in
    record { profile = simp to_z-of_z (rw (c.at.ensures.x, c.at.ensures.y, c.between.ensures.x, c.between.ensures.y) refl) }
