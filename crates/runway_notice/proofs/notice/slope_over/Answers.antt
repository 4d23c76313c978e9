use Rattle.std.proofs.Common.{◌≡◌, ℕ, List, Option, Some, None, FitsSigned, w64, to_z-of_z, sym, ◌∙◌, ap}
use Rattle.airfields.specs.declared.runway.Runway.{Runway}
use Rattle.grid_exact.specs.declared.point.Point.{Point}
use Rattle.runway_notice.specs.declared.slope.Slope.{Slope}
use Rattle.runway_notice.specs.declared.slope.Sub.{Sub}
use Rattle.runway_notice.specs.Nearest.{nearest}
use Rattle.runway_notice.specs.Surfaces.{slope_excess}
use Rattle.runway_notice.proofs.FarAirports.{far_value}
use Rattle.runway_notice.proofs.NoticeFacts.{from_nearest, undescribed, without_runways}
use Rattle.runway_notice.proofs.notice.slope_over.Goals as goal
use Rattle.runway_notice.proofs.notice.slope_over.Goals.{After-branch-excess}

pub returns-then-not-described : goal.returns-then-not-described
returns-then-not-described c = sym (undescribed c.args.a.now c.args.x.now c.args.top (sym c.described.ensures ∙ c.if-not-described.true))

pub returns-then-is_far : goal.returns-then-is_far
returns-then-is_far c = sym (far_value c.args.a.now c.args.x.now c.args.top c.requires.held c.requires.top (sym c.is_far.ensures ∙ c.if-is_far.true))

-- what the call says of the airport's own runways
found : (o : Option Runway) (xs ys : List Runway) (x : Point) → xs ≡ ys → o ≡ nearest xs x → nearest ys x ≡ o
found o xs ys x e h = rw (← e) (sym h)

pub returns-in_default : goal.returns-in_default
returns-in_default c =
    sym (without_runways c.args.a.now c.args.x.now c.args.top (found None c.as_slice.result.now c.args.a.now.runways c.args.x.now c.as_slice.ensures.value c.in_default.ensures.nearest))

pub returns-in_err-excess : goal.returns-in_err-excess
returns-in_err-excess c =
    let a = c.args.a.now in
    let x = c.args.x.now in
    let r = c.in-Some.nearest.runway.now in
    let ft : FitsSigned w64 c.args.top = c.ranges.top in
    let k : c.excess_over.result ≡ slope_excess a r x c.args.top = simp to_z-of_z at c.excess_over.ensures in
    let e = found (Some r) c.as_slice.result.now a.runways x c.as_slice.ensures.value c.in-Some.ensures.nearest in
    c.from_residual.ensures ∙ sym (from_nearest a x c.args.top r None e (sym k ∙ c.in_err-excess.was))

-- the result, with the slope of the airport's own runways
abbrev slope_of : Sub → List ℕ → ℕ → Slope
slope_of sub name excess = record { sub = sub; runway = name; excess = excess }

pub returns : goal.returns
returns c =
    let a = c.args.a.now in
    let x = c.args.x.now in
    let r = c.in-Some.nearest.runway.now in
    let ft : FitsSigned w64 c.args.top = c.ranges.top in
    let k : c.excess_over.result ≡ slope_excess a r x c.args.top = simp to_z-of_z at c.excess_over.ensures in
    let e = found (Some r) c.as_slice.result.now a.runways x c.as_slice.ensures.value c.in-Some.ensures.nearest in
    ap (λ s. Some (slope_of s r.name c.in_ok-excess.excess)) c.sub_of-sub.ensures ∙ sym (from_nearest a x c.args.top r (Some c.in_ok-excess.excess) e (sym k ∙ c.in_ok-excess.was))
