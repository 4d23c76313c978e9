-- The texts of findings.
use Rattle.std.specs.Prelude.{ℕ, List, ◌++◌, length, codes}
use Rattle.std.specs.Fmt.{decimal}
use Rattle.std.specs.List.{flat_map}
use Rattle.finding_lists.specs.declared.finding.Rule.{Rule}
use Rattle.finding_lists.specs.declared.finding.Rule.TheVariants as rules
use Rattle.finding_lists.specs.declared.finding.SurfaceKey.{SurfaceKey}
use Rattle.finding_lists.specs.declared.finding.Finding.{Finding}
use Rattle.wire_values.specs.Words.{name_text}

-- the paragraph of Part 77 that states the rule
abbrev pub rule_word : Rule → List ℕ
rule_word rules.H499 = codes "17a1"
rule_word rules.Near = codes "17a2"
rule_word rules.Horizontal = codes "19a"
rule_word rules.Conical = codes "19b"
rule_word rules.Primary = codes "19c"
rule_word rules.Approach = codes "19d"
rule_word rules.Transition = codes "19e"
rule_word rules.PadPrimary = codes "23p"
rule_word rules.PadApproach = codes "23a"
rule_word rules.PadTransition = codes "23t"
rule_word rules.NoticeA = codes "9a"
rule_word rules.NoticeB1 = codes "9b1"
rule_word rules.NoticeB2 = codes "9b2"
rule_word rules.NoticeB3 = codes "9b3"
rule_word rules.NoticeD = codes "9d"
rule_word rules.WayA = codes "9c-a"
rule_word rules.WayB1 = codes "9c-b1"
rule_word rules.WayB2 = codes "9c-b2"
rule_word rules.WayB3 = codes "9c-b3"

-- the airfield of a key, or a dash where it has none: the heights above ground of 77.17(a)(1) and 77.9(a) belong to no airfield
abbrev pub airfield_text : Rule → SurfaceKey → List ℕ
airfield_text rules.H499 key = codes "-"
airfield_text rules.NoticeA key = codes "-"
airfield_text rules.WayA key = codes "-"
airfield_text _ key = name_text key.field

-- a runway and its end or side
abbrev pub runway_part_text : SurfaceKey → List ℕ
runway_part_text key = name_text key.runway ++ codes "." ++ decimal key.part

-- the surface or slope of its airfield that is exceeded, where the rule has more than one: the runway, the runway and its end
-- or side, or the end or side of a heliport; else a dash
abbrev pub surface_text : Rule → SurfaceKey → List ℕ
surface_text rules.Primary key = name_text key.runway
surface_text rules.NoticeB1 key = name_text key.runway
surface_text rules.NoticeB2 key = name_text key.runway
surface_text rules.WayB1 key = name_text key.runway
surface_text rules.WayB2 key = name_text key.runway
surface_text rules.Approach key = runway_part_text key
surface_text rules.Transition key = runway_part_text key
surface_text rules.PadApproach key = decimal key.part
surface_text rules.PadTransition key = decimal key.part
surface_text _ key = codes "-"

-- airfield and surface, with a space between
abbrev pub place_text : Rule → SurfaceKey → List ℕ
place_text rule key = airfield_text rule key ++ codes " " ++ surface_text rule key

-- rule, airfield, surface and excess, with spaces between
abbrev pub entry_text : Finding → List ℕ
entry_text f = rule_word f.rule ++ codes " " ++ place_text f.rule f.key ++ codes " " ++ decimal f.excess

-- the entries, a comma before each
abbrev pub entries_text : List Finding → List ℕ
entries_text list = flat_map (λ f. codes "," ++ entry_text f) list

-- the number of entries, and the entries, a comma before each
abbrev pub list_text : List Finding → List ℕ
list_text list = codes "," ++ decimal (length list) ++ entries_text list
