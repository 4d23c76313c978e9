use Rattle.desk_tables.proofs.Keeping.{rows_kept}
use Rattle.desk_tables.proofs.row_laws.keeps_rows.Goals as goal

pub returns : goal.returns
returns c = rows_kept
