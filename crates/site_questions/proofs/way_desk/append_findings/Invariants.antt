use Rattle.std.proofs.Common.{◌≡◌, ◌++◌, take, string_bytes}
use Rattle.std.specs.List.{flat_map}
use Rattle.grid_exact.specs.Texts.{Extends}
use Rattle.site_questions.specs.Ways.{station_text}
use Rattle.site_questions.proofs.way_desk.append_findings.Given as goal

-- the entries so far
abbrev pub invariant-loop-found : goal.invariant-loop-found
invariant-loop-found l =
    (string_bytes l.text ≡ string_bytes l.fn.text ++ flat_map station_text (take l.found-index l.list)) × Extends (string_bytes l.fn.text) (string_bytes l.text)
