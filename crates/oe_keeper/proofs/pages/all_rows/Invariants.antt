use Rattle.std.proofs.Common.{◌≡◌}
use Rattle.oe_keeper.specs.Paging.{rows_of}
use Rattle.oe_keeper.proofs.pages.all_rows.Given as goal

abbrev pub invariant-pages : goal.invariant-pages
invariant-pages l = l.all.items ≡ rows_of l.yielded
