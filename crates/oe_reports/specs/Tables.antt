-- The tables of the reports, each line with the line feed that ends it.
use Rattle.std.specs.Prelude.{ℕ, ℤ, List, ◌++◌, length, codes}
use Rattle.std.specs.List.{flat_map}
use Rattle.std.specs.Fmt.{decimal, signed_decimal}
use Rattle.determination_dates.specs.Text.{date_text}
use Rattle.airfields.specs.declared.airfield.Airfield.{Airfield}
use Rattle.airfields.specs.declared.airfield.Airfield.TheVariants.{Airport as AnAirport, Heliport as AHeliport}
use Rattle.wire_values.specs.Words.{decision_word, report_word}
use Rattle.wire_values.specs.declared.report.ReportKind.{ReportKind}
use Rattle.wire_values.specs.declared.report.ReportKind.TheVariants as reports
use Rattle.oe_reports.specs.Columns.{at_right, at_left, gap}
use Rattle.oe_reports.specs.declared.columns.TheConstants.{CASE_WIDTH, DECISION_WIDTH, ID_WIDTH, KIND_WIDTH, ELEVATION_WIDTH, RUNWAYS_WIDTH}
use Rattle.oe_reports.specs.declared.rows.ReviewRow.{ReviewRow}
use Rattle.oe_reports.specs.declared.rows.ExpiryRow.{ExpiryRow}

-- the first line of a table: the name of the report, and the number of lines that follow
abbrev pub head_line : ReportKind → ℕ → List ℕ
head_line kind count = codes "report," ++ report_word kind ++ codes "," ++ decimal count ++ codes "\n"

-- a case marked for review: its number, its decision, and the day of issuance
abbrev pub review_line : ReviewRow → List ℕ
review_line row = at_right CASE_WIDTH (decimal row.case) ++ gap ++ at_left DECISION_WIDTH (decision_word row.decision) ++ gap ++ date_text row.issued ++ codes "\n"

-- a determination that has an expiry: the expiry, and the case number
abbrev pub expiry_line : ExpiryRow → List ℕ
expiry_line row = date_text row.expiry ++ gap ++ at_right CASE_WIDTH (decimal row.case) ++ codes "\n"

-- an airfield: its name, its kind, its elevation in tenths of a foot, and its number of runways
abbrev pub place_line : List ℕ → List ℕ → ℤ → ℕ → List ℕ
place_line id kind elevation runways = at_left ID_WIDTH id ++ gap ++ at_left KIND_WIDTH kind ++ gap
    ++ at_right ELEVATION_WIDTH (signed_decimal elevation) ++ gap ++ at_right RUNWAYS_WIDTH (decimal runways) ++ codes "\n"

-- a heliport has no runways
abbrev pub airfield_line : Airfield → List ℕ
airfield_line (AnAirport a) = place_line a.id (codes "airport") a.elevation (length a.runways)
airfield_line (AHeliport h) = place_line h.id (codes "heliport") h.elevation 0

-- the cases that are marked for review, in the order of the rows
abbrev pub review_table : List ReviewRow → List ℕ
review_table rows = head_line reports.Review (length rows) ++ flat_map review_line rows

-- the determinations that expire, in the order of the rows
abbrev pub expiry_table : List ExpiryRow → List ℕ
expiry_table rows = head_line reports.Expiry (length rows) ++ flat_map expiry_line rows

-- the airfields of a register, in order of name
abbrev pub airfield_table : List Airfield → List ℕ
airfield_table register = head_line reports.Airfields (length register) ++ flat_map airfield_line register
