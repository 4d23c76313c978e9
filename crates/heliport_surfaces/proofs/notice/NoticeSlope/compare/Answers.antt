use Rattle.std.proofs.Common.{◌+ℤ◌, ◌<ℤ◌, FitsSigned, w64, to_z-of_z, arith, refl}
use Rattle.std.proofs.lemmas.Int.{ints}
use Rattle.heliport_surfaces.specs.declared.rules.TheConstants.{NOTICE_RISE}
use Rattle.heliport_surfaces.specs.Laws.{above_reaches}
use Rattle.heliport_surfaces.specs.Shapes.{gap_shape}
use Rattle.heliport_surfaces.proofs.NoticeFacts.{far_above, near_close}
use Rattle.heliport_surfaces.proofs.notice.NoticeSlope.compare.Goals as goal

pub returns-then-self-level : goal.returns-then-self-level
returns-then-self-level c =
    let s = c.args.self.now in
    let g = gap_shape s.gap in
    let fz : FitsSigned w64 s.z = omega (arith, ints, s.low) in
    let fh : FitsSigned w64 (s.z +ℤ NOTICE_RISE) = omega (arith, ints, s.low) in
    let fl : FitsSigned w64 c.args.level = c.ranges.level in
    let l : (s.z +ℤ NOTICE_RISE) <ℤ c.args.level = omega (arith, ints, simp to_z-of_z at c.if-self-level.true) in
    let above = far_above s.z g c.args.level s.gap.sized.some s.near l in
    record { reached = (λ _. above_reaches s.z g c.args.level above, λ _. refl); exceeded = (λ _. above, λ _. refl) }

pub compare-requires-clause-close : goal.compare-requires-clause-close
compare-requires-clause-close c = near_close (gap_shape c.args.self.now.gap) c.args.self.now.near
