use Rattle.std.proofs.Common.{arith, nat_eq, subst, sym, take, List, ◌+◌}
use Rattle.std.specs.FinMap as maps
use Rattle.std.proofs.lemmas.List.{take_all}
use Rattle.desk_tables.specs.Opening.{unread_of}
use Rattle.desk_tables.specs.Parts.{Part, Reads}
use Rattle.desk_tables.specs.declared.layout.Layout.{Layout}
use Rattle.desk_tables.specs.Values.{Row}
use Rattle.desk_tables.proofs.WalkFacts.{reads_next}
use Rattle.desk_tables.proofs.opening.read_all.Goals as goal

pub loop-i-preserved : goal.loop-i-preserved
loop-i-preserved c =
    let taken = c.in-Ok.ensures.ok in
    let rows = maps.entries c.args.tables.now in
    let layout : Layout = record { is_lone = nat_eq c.len-is_lone.result 1; is_old = c.args.is_old } in
    subst (λ (p : Part). Reads layout (unread_of c.args.tables.now) (take (c.loop-i.i + 1) rows) p) (sym taken.3)
    (reads_next layout (unread_of c.args.tables.now) rows c.loop-i.i c.loop-i.part _ taken.0 c.row_at-table.ensures c.loop-i.invariant taken.1 taken.2)

pub returns-clause-read : goal.returns-clause-read
returns-clause-read c =
    let kept = c.args.tables.now in
    subst (λ n. Reads (record { is_lone = nat_eq n 1; is_old = c.args.is_old }) (unread_of kept) (maps.entries kept) c.loop-i.part) c.len-is_lone.ensures
    (subst (λ (rows : List Row). Reads (record { is_lone = nat_eq c.len-is_lone.result 1; is_old = c.args.is_old }) (unread_of kept) rows c.loop-i.part)
    (take_all c.loop-i.i (maps.entries kept) (omega (arith, c.loop-i-test.false, c.len-i-end.ensures, maps.len-entries kept))) c.loop-i.invariant)
