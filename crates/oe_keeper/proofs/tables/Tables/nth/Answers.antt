use Rattle.std.proofs.Common.{ap}
use Rattle.oe_keeper.specs.Paging.{rows_of}
use Rattle.oe_keeper.proofs.InOrder.{nth_some, nth_none}
use Rattle.oe_keeper.proofs.tables.Tables.nth.Goals as goal

pub returns-in-Some : goal.returns-in-Some
returns-in-Some c =
    nth_some (rows_of c.self.inside.pages.items) c.nth_row.result c.in-Some.entry (rows_of c.as_slice.result.now) c.args.i c.args.self.now c.as_str.result.now c.as_str-in-Some.result.now c.self.invariant.0 c.self.view_is
    (ap rows_of c.as_slice.ensures.value) c.nth_row.ensures c.in-Some.is c.as_str.ensures.text c.as_str-in-Some.ensures.text

pub returns-in-None : goal.returns-in-None
returns-in-None c =
    nth_none (rows_of c.self.inside.pages.items) c.nth_row.result (rows_of c.as_slice.result.now) c.args.i c.args.self.now c.self.invariant.0 c.self.view_is (ap rows_of c.as_slice.ensures.value) c.nth_row.ensures c.in-None.is
