use Rattle.std.proofs.Common.{◌≡◌, ◌+◌, rules, arith, ap, ◌∙◌, length}
use Rattle.std.specs.FinMap as maps
use Rattle.oe_keeper.specs.Kept.{Key, place}
use Rattle.oe_keeper.specs.Paging.{rows_of}
use Rattle.oe_keeper.proofs.InOrder.{rises, put_becomes}
use Rattle.oe_keeper.proofs.tables.Tables.put.Goals as goal

pub put_row-requires-clause-rises : goal.put_row-requires-clause-rises
put_row-requires-clause-rises c = rises (rows_of c.self.inside.pages.items) c.self.invariant.0

pub invariant_of-self-then-branch : goal.invariant_of-self-then-branch
invariant_of-self-then-branch c =
    let k : Key = (place c.args.table, c.args.key.now) in
    let sum : c.in-Some.more ≡ c.self.inside.count + 1 = search rules in
    let longer : length (rows_of c.put_row.new.pages.items) ≡ length (rows_of c.self.inside.pages.items) + 1 = rw c.if-branch.true at c.in_ok-put_row.ensures.more in (
      (put_becomes c.in_ok-entry.entry (rows_of c.self.inside.pages.items) (rows_of c.put_row.new.pages.items) k c.args.row.now c.self.invariant.0 c.in_ok-entry.ensures c.in_ok-put_row.ensures.put).rising,
      c.in_ok-put_row.ensures.filled,
      omega (arith, sum, longer, c.self.invariant.2),
    )

pub invariant_of-self-else-branch : goal.invariant_of-self-else-branch
invariant_of-self-else-branch c =
    let k : Key = (place c.args.table, c.args.key.now) in
    let same : length (rows_of c.put_row.new.pages.items) ≡ length (rows_of c.self.inside.pages.items) + 0 = rw c.if-branch.false at c.in_ok-put_row.ensures.more in (
      (put_becomes c.in_ok-entry.entry (rows_of c.self.inside.pages.items) (rows_of c.put_row.new.pages.items) k c.args.row.now c.self.invariant.0 c.in_ok-entry.ensures c.in_ok-put_row.ensures.put).rising,
      c.in_ok-put_row.ensures.filled,
      omega (arith, same, c.self.invariant.2),
    )

pub returns-then-branch-clause-ok : goal.returns-then-branch-clause-ok
returns-then-branch-clause-ok c =
    let k : Key = (place c.args.table, c.args.key.now) in
    (put_becomes c.in_ok-entry.entry (rows_of c.self.inside.pages.items) (rows_of c.put_row.new.pages.items) k c.args.row.now c.self.invariant.0 c.in_ok-entry.ensures c.in_ok-put_row.ensures.put).seen_as
    ∙ ap (λ m. maps.insert m k c.args.row.now) c.self.view_is

pub returns-else-branch-clause-ok : goal.returns-else-branch-clause-ok
returns-else-branch-clause-ok c =
    let k : Key = (place c.args.table, c.args.key.now) in
    (put_becomes c.in_ok-entry.entry (rows_of c.self.inside.pages.items) (rows_of c.put_row.new.pages.items) k c.args.row.now c.self.invariant.0 c.in_ok-entry.ensures c.in_ok-put_row.ensures.put).seen_as
    ∙ ap (λ m. maps.insert m k c.args.row.now) c.self.view_is
