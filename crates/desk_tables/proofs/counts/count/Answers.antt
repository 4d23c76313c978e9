use Rattle.std.proofs.Common.{◌∙◌, sym, ap, arith, ◌+◌, cond}
use Rattle.std.specs.FinMap as maps
use Rattle.desk_tables.specs.Counts.{is_of}
use Rattle.desk_tables.proofs.WalkFacts.{passing, passing_next, passing_all}
use Rattle.desk_tables.proofs.counts.count.Goals.{then-is_of_kind, else-is_of_kind}
use Rattle.desk_tables.proofs.counts.count.Goals as goal

pub loop-i-preserved : goal.loop-i-preserved
loop-i-preserved c =
    let p = is_of c.args.kind in
    let more = passing_next p (maps.entries c.args.tables.now) c.loop-i.i _ c.row_at-table.ensures in
    let inv = c.loop-i.invariant in
    elim c.if-is_of_kind.branch [
      | then-is_of_kind w ↦ (
        w.count-is ∙ ap (λ n. n + 1) inv.0 ∙ sym (more ∙ ap (λ b. passing p c.loop-i.i (maps.entries c.args.tables.now) + cond b 1 0) (sym c.is_of_kind.ensures ∙ w.if-is_of_kind.true)),
        omega (arith, w.count-is, inv.1),
      )
      | else-is_of_kind w ↦ (
        let same = more ∙ ap (λ b. passing p c.loop-i.i (maps.entries c.args.tables.now) + cond b 1 0) (sym c.is_of_kind.ensures ∙ w.if-is_of_kind.false) in
            omega (arith, w.count-is, inv.0, same),
        omega (arith, w.count-is, inv.1),
      )
    ]

pub returns : goal.returns
returns c = c.loop-i.invariant.0 ∙ passing_all (is_of c.args.kind) (maps.entries c.args.tables.now) c.loop-i.i (omega (arith, c.loop-i-test.false, c.len-i-end.ensures, maps.len-entries c.args.tables.now))
