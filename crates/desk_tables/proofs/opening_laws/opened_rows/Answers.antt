use Rattle.desk_tables.proofs.RowsRead.{rows_read}
use Rattle.desk_tables.proofs.opening_laws.opened_rows.Goals as goal

pub returns : goal.returns
returns c = rows_read
