-- The fields of a line that is one record of comma-separated values.
use Rattle.std.specs.Prelude.{List, [], ℕ, false, ◌≡◌, ◌==◌, Option, Some, None, is_none, drop, if◌then◌else◌}
use Rattle.std.specs.List.{slice_split}
use Rattle.csv.specs.Records.{fields_of}
use Rattle.record_fields.specs.declared.fields.Left.{Left}
use Rattle.record_fields.specs.declared.fields.Left.TheVariants.{Text, Nothing, Row}
use Rattle.csv.specs.Machine.{Read, next_record}
use Rattle.csv.specs.Reading.{default_config, strip_bom}
use Rattle.csv.specs.declared.parser.State.TheVariants as st

-- the record, where nothing follows it
abbrev pub only_record : Option Read → Option (List (List ℕ))
only_record None = None
only_record (Some p) = if is_none (next_record default_config p.1 [] [] p.2) then Some p.0 else None

-- the fields of a line that is one record: between commas, or between double quotes; a byte order mark before the first is removed
abbrev pub one_record : List ℕ → Option (List (List ℕ))
one_record line = only_record (next_record default_config st.StartRecord [] [] (strip_bom line))

-- ---- for proofs alone

-- the fields that are left
abbrev pub fields_left : Left → List (List ℕ)
fields_left (Text text) = slice_split (λ b. b == 44) text.now
fields_left Nothing = []
fields_left (Row row taken) = drop taken (fields_of row.now)

-- an ordinary byte or a comma: no quote, no line end, and not the first byte of a byte order mark
abbrev pub IsPlain : ℕ → Type 0
IsPlain b = ((b == 34) ≡ false) × ((b == 13) ≡ false) × ((b == 10) ≡ false) × ((b == 0xEF) ≡ false)

-- a plain byte other than a comma
abbrev pub IsOrdinary : ℕ → Type 0
IsOrdinary b = IsPlain b × ((b == 44) ≡ false)
