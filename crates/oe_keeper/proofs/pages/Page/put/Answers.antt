use Rattle.std.proofs.Common.{ap, ◌∙◌}
use Rattle.oe_keeper.specs.Kept.{place}
use Rattle.oe_keeper.proofs.Paging.{page_set, page_insert}
use Rattle.oe_keeper.proofs.pages.Page.put.Goals as goal

pub returns-in-Ok-clause-put : goal.returns-in-Ok-clause-put
returns-in-Ok-clause-put c =
    page_set c.args.entry c.args.self.now.rows.items c.as_slice.result.now c.in-Ok.i (place c.args.entry.table, c.as_str.result.now) c.requires c.as_slice.ensures.value (ap (λ t. (place c.args.entry.table, t)) c.as_str.ensures.text)
    c.in-Ok.ensures.within c.in-Ok.ensures.found

pub returns-in_ok-insert-in-Err-clause-put : goal.returns-in_ok-insert-in-Err-clause-put
returns-in_ok-insert-in-Err-clause-put c =
    c.in_ok-insert-in-Err.ensures.items
    ∙ page_insert c.args.entry c.args.self.now.rows.items c.as_slice.result.now c.in-Err.i (place c.args.entry.table, c.as_str.result.now) c.requires c.as_slice.ensures.value (ap (λ t. (place c.args.entry.table, t)) c.as_str.ensures.text)
    c.in-Err.ensures.within c.in-Err.ensures.found
