use Rattle.std.proofs.Common.{◌<◌, length, rules}
use Rattle.oe_keeper.proofs.Paging.{split_rows}
use Rattle.oe_keeper.proofs.pages.split.Goals as goal

pub returns-in-Ok-clause-same : goal.returns-in-Ok-clause-same
returns-in-Ok-clause-same c =
    let h : c.args.p < length c.args.pages.now.items = search rules in
    split_rows c.args.pages.now.items c.insert.new.self.items c.args.p c.if-p-len.at _ c.index_mut.result.now _ _ h c.in_ok-insert.ensures.items c.index_mut.ensures.value c.in-Ok.ensures.items c.in-Ok.ensures.tail
