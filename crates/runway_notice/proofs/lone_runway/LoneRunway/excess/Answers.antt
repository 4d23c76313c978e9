use Rattle.std.proofs.Common.{◌≡◌, ◌∙◌, Some, None, FitsSigned, w64, to_z-of_z, refl, sym}
use Rattle.runway_notice.specs.Surfaces.{slope_excess}
use Rattle.runway_notice.proofs.LoneFacts.{lone_nearest, lone_slope}
use Rattle.runway_notice.proofs.NoticeFacts.{from_nearest}
use Rattle.runway_notice.proofs.lone_runway.LoneRunway.excess.Goals as goal

pub returns-in_err-excess : goal.returns-in_err-excess
returns-in_err-excess c =
    let a = c.args.airport.now in
    let x = c.args.point.now in
    let r = c.args.self.now in
    let ft : FitsSigned w64 c.args.top = c.ranges.top in
    let k : c.excess_over.result ≡ slope_excess a r x c.args.top = simp to_z-of_z at c.excess_over.ensures in
    let e = lone_nearest a x r r c.requires.held refl c.requires.lone.alone in
    record { value = c.from_residual.ensures ∙ sym (from_nearest a x c.args.top r None e (sym k ∙ c.in_err-excess.was)) }

pub returns : goal.returns
returns c =
    let a = c.args.airport.now in
    let x = c.args.point.now in
    let r = c.args.self.now in
    let ft : FitsSigned w64 c.args.top = c.ranges.top in
    let k : c.excess_over.result ≡ slope_excess a r x c.args.top = simp to_z-of_z at c.excess_over.ensures in
    let e = lone_nearest a x r r c.requires.held refl c.requires.lone.alone in
    let ready = c.self.invariant in
    record {
      value = lone_slope a c.self.inside.runway r r c.self.inside.sub c.in_ok-excess.excess c.self.view_is refl ready.sub_is c.requires.lone.alone
          ∙ sym (from_nearest a x c.args.top r (Some c.in_ok-excess.excess) e (sym k ∙ c.in_ok-excess.was));
    }
