use Rattle.std.proofs.Common.{◌≡◌, ◌+◌, arith, ap, ◌∙◌, length}
use Rattle.std.specs.FinMap as maps
use Rattle.oe_keeper.specs.Kept.{Key, place}
use Rattle.oe_keeper.specs.Paging.{rows_of}
use Rattle.oe_keeper.proofs.InOrder.{rises, removed_becomes}
use Rattle.oe_keeper.proofs.tables.Tables.remove.Goals as goal

pub remove_row-requires-clause-rises : goal.remove_row-requires-clause-rises
remove_row-requires-clause-rises c = rises (rows_of c.self.inside.pages.items) c.self.invariant.0

pub invariant_of-self : goal.invariant_of-self
invariant_of-self c =
    let k : Key = (place c.args.table, c.args.key.now) in
    let fewer : length (rows_of c.remove_row.new.pages.items) + 1 ≡ length (rows_of c.self.inside.pages.items) = c.if-remove_row.ensures.fewer in (
      (removed_becomes (rows_of c.self.inside.pages.items) (rows_of c.remove_row.new.pages.items) k c.self.invariant.0 c.remove_row.ensures.removed).rising,
      c.remove_row.ensures.filled,
      omega (arith, fewer, c.self.invariant.2),
    )

pub invariant_of-self-else-remove_row : goal.invariant_of-self-else-remove_row
invariant_of-self-else-remove_row c =
    let k : Key = (place c.args.table, c.args.key.now) in
    let same : length (rows_of c.remove_row.new.pages.items) + 0 ≡ length (rows_of c.self.inside.pages.items) = c.if-remove_row.ensures.fewer in (
      (removed_becomes (rows_of c.self.inside.pages.items) (rows_of c.remove_row.new.pages.items) k c.self.invariant.0 c.remove_row.ensures.removed).rising,
      c.remove_row.ensures.filled,
      omega (arith, same, c.self.invariant.2),
    )

pub returns-then-remove_row : goal.returns-then-remove_row
returns-then-remove_row c =
    let k : Key = (place c.args.table, c.args.key.now) in
    (removed_becomes (rows_of c.self.inside.pages.items) (rows_of c.remove_row.new.pages.items) k c.self.invariant.0 c.remove_row.ensures.removed).seen_as ∙ ap (λ m. maps.remove m k) c.self.view_is

pub returns-else-remove_row : goal.returns-else-remove_row
returns-else-remove_row c =
    let k : Key = (place c.args.table, c.args.key.now) in
    (removed_becomes (rows_of c.self.inside.pages.items) (rows_of c.remove_row.new.pages.items) k c.self.invariant.0 c.remove_row.ensures.removed).seen_as ∙ ap (λ m. maps.remove m k) c.self.view_is
