use Rattle.std.proofs.Common.{◌≡◌, ◌++◌, ◌-◌, codes, string_bytes}
use denote.Text.{Utf8}
use denote.Shadow.{shadow}
use Rattle.wire_values.specs.Commas.{joined}
use Rattle.row_register.specs.Parts.{parts_of}
use Rattle.row_cases.specs.Older.{renewed_row, with_field}
use Rattle.row_cases.proofs.older.append_renewed_row.Given as goal

-- what was appended, and what is left to append
abbrev pub invariant-loop-place : goal.invariant-loop-place
invariant-loop-place l =
    shadow (Utf8 l.rest)
    × (string_bytes l.text ++ joined (with_field (25 - l.place) (codes "0") (parts_of 44 l.rest)) ≡ string_bytes l.fn.text ++ renewed_row l.row)
