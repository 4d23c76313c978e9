use Rattle.std.proofs.Common.{◌≡◌, ◌+◌, Bool, true, false, sym, ◌∙◌, ap, subst, arith}
use Rattle.std.specs.Ordering.{is_lt}
use Rattle.airfields.specs.declared.runway.Runway.{Runway}
use Rattle.runway_notice.specs.Candidates.{IsCandidate}
use Rattle.runway_notice.specs.Nearest.{nearness_cmp}
use Rattle.runway_notice.proofs.NearestFacts.{IsBest, best_first, best_nearest, first_proper, keeps, next_proper, takes}
use Rattle.runway_notice.proofs.nearest.nearest.Goals as goal
use Rattle.runway_notice.proofs.nearest.nearest.Goals.{Joined-is_nearer, then-is_nearer, else-is_nearer}

pub of-best-requires : goal.of-best-requires
of-best-requires c = record { proper = first_proper c.args.point.now c.args.runways.now c.in_ok-first.first.now c.in_ok-first.others.now c.in_ok-first.ensures.cases c.requires.proper }

pub loop-runway-init : goal.loop-runway-init
loop-runway-init c = record {
  best = subst (IsBest c.args.point.now c.args.runways.now 1) (sym c.of-best.ensures.runway)
      (best_first c.args.point.now c.args.runways.now c.in_ok-first.first.now c.in_ok-first.others.now c.in_ok-first.ensures.cases c.requires.proper);
  candidate = c.of-best.ensures.candidate;
}

pub of-next-requires : goal.of-next-requires
of-next-requires c = record {
  proper = next_proper c.args.point.now c.args.runways.now c.in_ok-first.first.now c.in_ok-first.others.now c.in_ok-first.ensures.cases c.requires.proper
      c.loop-runway.runway-index c.loop-runway.best.runway.now c.runway-item.result c.loop-runway-test.true c.runway-item.is c.loop-runway.invariant.best;
}

-- what the test says of the runway
tested : (c : Joined-is_nearer) (b : Bool) → c.is_nearer.result ≡ b → is_lt (nearness_cmp c.args.point.now c.runway-item.result c.loop-runway.best.runway.now) ≡ b
tested c b e = subst (λ (r : Runway). is_lt (nearness_cmp c.args.point.now r c.loop-runway.best.runway.now) ≡ b) c.of-next.ensures.runway (sym c.is_nearer.ensures ∙ e)

pub loop-runway-preserved : goal.loop-runway-preserved
loop-runway-preserved c =
    let x = c.args.point.now in
    let runways = c.args.runways.now in
    let first = c.in_ok-first.first.now in
    let rest = c.in_ok-first.others.now in
    let cut = c.in_ok-first.ensures.cases in
    let i = c.loop-runway.runway-index in
    let best = c.loop-runway.best.runway.now in
    let next = c.runway-item.result in
    elim c.if-is_nearer.branch [
      | then-is_nearer w ↦ record {
        best = subst (IsBest x runways (i + 1 + 1)) (sym (ap (λ b. b.runway.now) w.best-is ∙ c.of-next.ensures.runway))
            (takes x runways first rest cut c.requires.proper i best next c.loop-runway-test.true c.runway-item.is c.loop-runway.invariant.best (tested c true w.if-is_nearer.true));
        candidate = subst (IsCandidate x) (sym w.best-is) c.of-next.ensures.candidate;
      }
      | else-is_nearer w ↦ record {
        best = subst (IsBest x runways (i + 1 + 1)) (sym (ap (λ b. b.runway.now) w.best-is))
            (keeps x runways first rest cut c.requires.proper i best next c.loop-runway-test.true c.runway-item.is c.loop-runway.invariant.best c.requires.order (tested c false w.if-is_nearer.false));
        candidate = subst (IsCandidate x) (sym w.best-is) c.loop-runway.invariant.candidate;
      }
    ]

pub returns-clause-nearest : goal.returns-clause-nearest
returns-clause-nearest c =
    sym (best_nearest c.args.point.now c.args.runways.now c.in_ok-first.first.now c.in_ok-first.others.now c.in_ok-first.ensures.cases c.requires.proper
    c.loop-runway.runway-index c.loop-runway.best.runway.now (omega (arith, c.loop-runway-test.false, c.loop-runway.auto.runway-index-end)) c.requires.order c.loop-runway.invariant.best)
