use Rattle.std.proofs.Common.{sym, ap, ◌∙◌}
use Rattle.std.specs.FinMap as maps
use Rattle.oe_keeper.specs.Paging.{rows_of}
use Rattle.oe_keeper.proofs.InOrder.{seen_len}
use Rattle.oe_keeper.proofs.tables.Tables.len.Goals as goal

pub returns : goal.returns
returns c = c.self.invariant.2 ∙ sym (seen_len (rows_of c.self.inside.pages.items) c.self.invariant.0) ∙ ap maps.len c.self.view_is
