use Rattle.std.proofs.Common.{◌≡◌, ◌-◌, ◌<◌, ◌≤◌, length, take, drop}
use Rattle.std.specs.List.{All}
use Rattle.std.specs.declared.cmp.Ordering.TheVariants.{Less}
use Rattle.oe_keeper.specs.Kept.{key_cmp, place}
use Rattle.oe_keeper.specs.Walk.{key_of}
use Rattle.oe_keeper.specs.Paging.{rows_of}
use Rattle.oe_keeper.proofs.pages.page_of.Given as goal

abbrev pub invariant-search : goal.invariant-search
invariant-search l = record {
  apart : (0 < length l.pages) → l.low < l.high;
  high : l.high ≤ length l.pages;
  low : l.low ≤ l.high;
  below : All (λ e. key_cmp (key_of e) (place l.table, l.key) ≡ Less) (rows_of (take l.low l.pages));
  above : All (λ e. key_cmp (place l.table, l.key) (key_of e) ≡ Less) (rows_of (drop l.high l.pages));
}

abbrev pub decreases-search : goal.decreases-search
decreases-search l = l.high - l.low
