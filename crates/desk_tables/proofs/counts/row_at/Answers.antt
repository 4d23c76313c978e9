use Rattle.std.proofs.Common.{subst, sym, ◌<◌}
use Rattle.std.specs.FinMap as maps
use Rattle.desk_tables.proofs.WalkFacts.{none_within}
use Rattle.desk_tables.proofs.counts.row_at.Goals as goal

pub unreachable-requires : goal.unreachable-requires
unreachable-requires c =
    none_within (maps.entries c.args.tables.now) c.args.i (subst (λ n. c.args.i < n) (maps.len-entries c.args.tables.now) c.requires) (sym c.in-None.ensures)
