use Rattle.oe_keeper.proofs.Silent.{silent_first, silent_second}
use Rattle.oe_keeper.proofs.by_name.ByNameKeeper.apply.Goals as goal

pub returns-in-First-clause-silent : goal.returns-in-First-clause-silent
returns-in-First-clause-silent g c =
    let k = c.args.self.now in
    silent_first g.A.Keeper.Tells g.B.Keeper.Tells k.first c.apply.new.self k.second k.chosen c.in-First.is c.apply.ensures.silent

pub returns-in-Second-clause-silent : goal.returns-in-Second-clause-silent
returns-in-Second-clause-silent g c =
    let k = c.args.self.now in
    silent_second g.A.Keeper.Tells g.B.Keeper.Tells k.first k.second c.apply-in-Second.new.self k.chosen c.in-Second.is c.apply-in-Second.ensures.silent
