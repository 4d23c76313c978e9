use Rattle.std.proofs.Common.{arith, sym, ◌∙◌}
use Rattle.oe_keeper.specs.Kept.{place}
use Rattle.oe_keeper.proofs.Paging.{low_page, high_page}
use Rattle.oe_keeper.proofs.pages.page_of.Goals as goal

pub search-preserved-then-is_above : goal.search-preserved-then-is_above
search-preserved-then-is_above c = record {
  apart = λ some. omega arith;
  high = omega arith;
  low = omega arith;
  below = c.search.invariant.below;
  above = high_page (place c.args.table, c.args.key.now) c.args.pages.now _ c.index-pages-middle.result (omega arith) c.index-pages-middle.is c.requires.rises (sym c.is_above.ensures ∙ c.if-is_above.true);
}

pub search-preserved : goal.search-preserved
search-preserved c = record {
  apart = λ some. omega arith;
  high = omega arith;
  low = omega arith;
  below = low_page (place c.args.table, c.args.key.now) c.args.pages.now _ c.index-pages-middle.result (omega arith) c.index-pages-middle.is c.requires.rises c.requires.filled (sym c.is_above.ensures ∙ c.if-is_above.false);
  above = c.search.invariant.above;
}
