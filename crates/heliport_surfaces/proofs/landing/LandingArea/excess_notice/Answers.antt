use Rattle.std.proofs.Common.{◌≡◌, true, ℤ, FitsSigned, w64, to_z-of_z, arith, subst, sym, ◌∙◌}
use Rattle.std.proofs.lemmas.Int.{ints}
use Rattle.grid_exact.specs.Excess.{IsExcess, covering_surface, most_excess}
use Rattle.grid_exact.proofs.ExcessLemmas.{IsExcess-covered, excess_of-is, within_most}
use Rattle.heliport_surfaces.specs.declared.rules.TheConstants.{NOTICE_RANGE}
use Rattle.heliport_surfaces.specs.Notices.{Gap, IsAboveNotice, IsAtNotice, IsWithin, gap, is_nearer, is_over, is_within, notice}
use Rattle.heliport_surfaces.specs.Shapes.{gap_shape, landing_shape}
use Rattle.heliport_surfaces.proofs.NoticeFacts.{notice_tests, within_in}
use Rattle.heliport_surfaces.proofs.landing.LandingArea.excess_notice.Goals as goal

pub excess-requires-clause-lowest : goal.excess-requires-clause-lowest
excess-requires-clause-lowest c = λ t r.
    let z = c.args.self.now.z in
    let fz : FitsSigned w64 z = omega (arith, ints, c.args.self.now.sized.z_size) in
    let ez : c.new.result.z ≡ z = simp to_z-of_z at c.new.ensures.z in
    simp to_z-of_z (rw ez at r.not_below)

pub returns : goal.returns
returns c =
    let l = landing_shape c.args.self.now in
    let o = c.args.at.now.offset in
    let g = gap l o in
    let s = c.new.result in
    let fz : FitsSigned w64 l.z = omega (arith, ints, c.args.self.now.sized.z_size) in
    let ft : FitsSigned w64 c.args.top = c.ranges.top in
    let ez : s.z ≡ l.z = simp to_z-of_z at c.new.ensures.z in
    let eg : gap_shape s.gap ≡ g = c.new.ensures.gap ∙ c.gap-gap.ensures in
    let h : IsExcess (covering_surface (IsAboveNotice s.z (gap_shape s.gap)) (IsAtNotice s.z (gap_shape s.gap))) c.args.top c.excess.result = simp to_z-of_z at c.excess.ensures.excess in
    let covered : IsWithin g NOTICE_RANGE = within_in g NOTICE_RANGE (subst (λ (p : Gap). is_within p NOTICE_RANGE ≡ true) c.gap-gap.ensures (sym c.is_near.ensures ∙ c.if-not-is_near.false)) in
    let at_point = subst (λ (p : Gap). IsExcess (covering_surface (IsAboveNotice s.z p) (IsAtNotice s.z p)) c.args.top c.excess.result) eg h in
    let exact : IsExcess (notice l o) c.args.top c.excess.result =
    IsExcess-covered (notice l o) c.args.top c.excess.result covered
    (subst (λ (z : ℤ). IsExcess (covering_surface (IsAboveNotice z g) (IsAtNotice z g)) c.args.top c.excess.result) ez at_point) in
    sym (excess_of-is (notice l o) (is_within g NOTICE_RANGE) (is_over (is_nearer g) l.z) (is_over (is_within g) l.z) most_excess c.args.top c.excess.result (notice_tests l o) (within_most c.excess.result c.excess.ensures.size) exact)
