use Rattle.std.proofs.Common.{◌≡◌, true, Some, None, slice_get, arith, FitsSigned, w64, to_z-of_z}
use Rattle.std.proofs.lemmas.Int.{ints}
use Rattle.jiff_core.specs.Date.{epoch_day}
use Rattle.determination_dates.specs.Statuses.{status_of}
use Rattle.determination_dates.specs.Computed.{revised_record}
use Rattle.case_acts.specs.Decisions.{decision_by, is_reviewable}
use Rattle.case_acts.specs.Effects.{revised_effect, site_with}
use Rattle.case_acts.specs.Rules.{revising_rules}
use Rattle.case_acts.specs.Standing.{is_in_force}
use Rattle.case_acts.proofs.RuleFacts.{revision_made}
use Rattle.case_acts.proofs.revision.revise.Goals as goal

pub returns-in-Ok-revised-clause-value : goal.returns-in-Ok-revised-clause-value
returns-in-Ok-revised-clause-value c =
    let x = c.args.asked.now in
    let of = c.args.case.now in
    let old = c.in-Some.record in
    let decision = c.decision_by-decision.result in
    let can = c.is_reviewable-reviewable.result in
    let status : is_in_force (status_of of.life (epoch_day c.args.today)) ≡ true = grind arith in
    let there : of.life.determination ≡ Some old = cc in
    let first : slice_get (revising_rules x of.submission.filing c.args.kept c.args.today old) 0 ≡ None = cc in
    let ground : FitsSigned w64 x.terrain = omega (arith, ints, c.requires.facts.terrain_least, c.requires.facts.terrain_most) in
    let height : FitsSigned w64 x.height = omega (arith, ints, c.requires.facts.height_least, c.requires.facts.height_most) in
    let site : c.in-Ok.filing ≡ site_with x of = simp to_z-of_z at c.in-Ok.ensures in
    let decided : decision ≡ decision_by x.finding = cc in
    let reviewable : can ≡ is_reviewable decision c.in-Ok.filing c.args.kept.list = cc in
    let made : revised_record c.args.today decision can c.args.closed.now old ≡ Some c.revise.new.self = c.in-Ok-revise.ensures.computed in
    let effect : c.in-Ok-revised.effect ≡ revised_effect c.args.number of c.in-Ok.filing c.args.kept c.revise.new.self = c.in-Ok-revised.ensures.value in
    revision_made c.args.number x c.args.closed.now c.args.kept c.args.today of old c.revise.new.self c.in-Ok.filing decision can c.in-Ok-revised.effect
    status there first site decided reviewable made effect
