-- The kinds of rows that are counted.
use Rattle.std.specs.Prelude.{Bool}
use Rattle.oe_keeper.specs.declared.change.Table.TheVariants as tables
use Rattle.desk_tables.specs.Values.{Row}
use Rattle.desk_tables.specs.Opening.{is_in, is_at, is_first_row, is_older_row, format_key, today_key}
use Rattle.desk_tables.specs.declared.counts.Kind.{Kind}
use Rattle.desk_tables.specs.declared.counts.Kind.TheVariants.{In, Format, FirstFormat, OlderFormat, Today}

abbrev pub is_of : Kind → Row → Bool
is_of (In t) r = is_in t r
is_of Format r = is_at tables.Desk format_key r
is_of FirstFormat r = is_first_row r
is_of OlderFormat r = is_older_row r
is_of Today r = is_at tables.Desk today_key r
