use Rattle.airfield_findings.proofs.ReachFacts.{runway_reach}
use Rattle.airfield_findings.proofs.reach.strip_area.Goals as goal

pub returns-clause-reach : goal.returns-clause-reach
returns-clause-reach c = runway_reach c.args.hull.now c.args.strip.now c.joined_all.result c.areas.result c.joined_all.ensures.holds c.areas.ensures.skips

pub returns-clause-listed : goal.returns-clause-listed
returns-clause-listed c = (c.areas.result, c.areas.ensures.areas, c.joined_all.ensures)
