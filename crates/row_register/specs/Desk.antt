-- The rows of the table `desk`: the format version, the desk's day, and each closed day.
use Rattle.std.specs.Prelude.{ℕ, List, ◌++◌, ◌≡◌, codes}
use Rattle.determination_dates.specs.Days.{IsLimited}
use Rattle.determination_dates.specs.Text.{date_text}
use Rattle.row_register.specs.declared.desk.DeskRow.{DeskRow}
use Rattle.row_register.specs.declared.desk.DeskRow.TheVariants as rows

abbrev pub desk_key : DeskRow → List ℕ
desk_key rows.Format = codes "format"
desk_key (rows.Now date) = codes "now"
desk_key (rows.Closed date) = codes "closed " ++ date_text date

abbrev pub desk_row : DeskRow → List ℕ
desk_row rows.Format = codes "3"
desk_row (rows.Now date) = date_text date
desk_row (rows.Closed date) = codes "-"

-- its date is within the limit
abbrev pub IsValidDesk : DeskRow → Type 0
IsValidDesk rows.Format = Unit {0}
IsValidDesk (rows.Now date) = IsLimited date
IsValidDesk (rows.Closed date) = IsLimited date

-- key and row are the texts of this value
pub record IsDeskRow (key row : List ℕ) (v : DeskRow) : Type 0 where
  pub key_is : key ≡ desk_key v
  pub row_is : row ≡ desk_row v
  pub valid : IsValidDesk v
