use Rattle.std.proofs.Common.{ap, ◌∙◌}
use Rattle.oe_keeper.specs.Paging.{rows_of}
use Rattle.oe_keeper.proofs.InOrder.{seen, seen_empty}
use Rattle.oe_keeper.proofs.tables.Tables.empty.Goals as goal

pub returns : goal.returns
returns c = ap (λ l. seen (rows_of l)) c.new.ensures.items ∙ seen_empty
