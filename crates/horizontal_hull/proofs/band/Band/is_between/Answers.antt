use Rattle.std.proofs.Common.{arith}
use Rattle.horizontal_hull.proofs.Abreast.{abreast_between}
use Rattle.horizontal_hull.proofs.band.Band.is_between.Goals as goal

pub returns-then-self-eq0 : goal.returns-then-self-eq0
returns-then-self-eq0 c =
    let s = c.args.self.now in
    abreast_between s.square s.along s.across s.growth c.is_abreast.result (omega (arith, c.if-self-eq0.true)) c.is_abreast.ensures
