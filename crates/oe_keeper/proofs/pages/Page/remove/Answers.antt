use Rattle.std.proofs.Common.{◌∙◌}
use Rattle.oe_keeper.specs.Kept.{place}
use Rattle.oe_keeper.proofs.Paging.{page_remove, page_keeps}
use Rattle.oe_keeper.proofs.pages.Page.remove.Goals as goal

pub returns-in-Ok-clause-removed : goal.returns-in-Ok-clause-removed
returns-in-Ok-clause-removed c =
    c.remove.ensures.items
    ∙ page_remove c.args.self.now.rows.items c.as_slice.result.now c.in-Ok.i c.remove.result (place c.args.table, c.args.key.now) c.requires c.as_slice.ensures.value c.in-Ok.ensures.within c.in-Ok.ensures.found

pub returns-in-Err-clause-removed : goal.returns-in-Err-clause-removed
returns-in-Err-clause-removed c = page_keeps c.args.self.now.rows.items c.as_slice.result.now c.in-Err.field-0 (place c.args.table, c.args.key.now) c.requires c.as_slice.ensures.value c.in-Err.ensures.found
