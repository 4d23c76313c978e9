use Rattle.std.proofs.Common.{◌+◌}
use Rattle.runway_notice.specs.Candidates.{IsCandidate}
use Rattle.runway_notice.proofs.NearestFacts.{IsBest}
use Rattle.runway_notice.proofs.nearest.nearest.Given as goal

abbrev pub invariant-loop-runway : goal.invariant-loop-runway
invariant-loop-runway l = record {
  best : IsBest l.point l.runways (l.runway-index + 1) l.best.runway.now;
  candidate : IsCandidate l.point l.best;
}
