use Rattle.std.proofs.Common.{◌≡◌, ◌+◌, length, take}
use Rattle.oe_keeper.specs.Paging.{rows_of}
use Rattle.oe_keeper.proofs.pages.nth_row.Given as goal

abbrev pub invariant-pages : goal.invariant-pages
invariant-pages l = length (rows_of (take l.page-index l.pages)) + l.left ≡ l.i
