use Rattle.desk_tables.proofs.RowsRead.{no_rows_read}
use Rattle.desk_tables.proofs.opening_laws.opened_empty.Goals as goal

pub returns : goal.returns
returns c = no_rows_read
