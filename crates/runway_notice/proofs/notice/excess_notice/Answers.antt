use Rattle.std.proofs.Common.{◌≡◌, Option, FitsSigned, w64, to_z-of_z, sym, subst}
use Rattle.runway_notice.specs.Notices.{IsNoticeSlope, notice_slope}
use Rattle.runway_notice.specs.declared.slope.Slope.{Slope}
use Rattle.runway_notice.proofs.NoticeFacts.{notice_slope_is}
use Rattle.runway_notice.proofs.notice.excess_notice.Goals as goal

pub returns-clause-exact : goal.returns-clause-exact
returns-clause-exact c =
    let a = c.args.a.now in
    let x = c.args.x.now in
    let ft : FitsSigned w64 c.args.top = c.ranges.top in
    let e : c.slope_over.result ≡ notice_slope a x c.args.top = simp to_z-of_z at c.slope_over.ensures in
    subst (λ (o : Option Slope). IsNoticeSlope a x c.args.top o) (sym e) (notice_slope_is a x c.args.top c.requires.held c.requires.top)
