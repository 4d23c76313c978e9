use Rattle.std.proofs.Common.{◌≡◌, ◌&&◌, rules}
use Rattle.grid_exact.specs.Area.{has_point}
use Rattle.grid_exact.proofs.AreaLemmas.{has_point-Has}
use Rattle.outline_boxes.specs.Bounds.{box_of}
use Rattle.outline_boxes.proofs.bounds.Bounds.has.Goals as goal

pub returns-clause-test : goal.returns-clause-test
returns-clause-test c = search rules

pub returns-clause-inside : goal.returns-clause-inside
returns-clause-inside c =
    let e : c.is_between.result && c.is_between-2.result ≡ has_point (box_of c.args.self.now) c.args.spot.now = search rules in
    rw e (has_point-Has (box_of c.args.self.now) c.args.spot.now)
