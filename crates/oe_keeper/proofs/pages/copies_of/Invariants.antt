use Rattle.std.proofs.Common.{◌≡◌, map, take}
use Rattle.std.specs.List.{All}
use Rattle.oe_keeper.specs.Walk.{pair_of}
use Rattle.oe_keeper.specs.Paging.{IsFilled, rows_of}
use Rattle.oe_keeper.proofs.pages.copies_of.Given as goal

abbrev pub invariant-pages : goal.invariant-pages
invariant-pages l = record {
  same : map pair_of (rows_of l.all.items) ≡ map pair_of (rows_of (take l.page-index l.pages));
  filled : All IsFilled l.all.items;
}
