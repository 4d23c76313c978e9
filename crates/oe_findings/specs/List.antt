-- The list of findings of a structure, over all airfields of a register.
use Rattle.std.specs.Prelude.{List, [], ◌++◌, option_map, is_none, if◌then◌else◌}
use Rattle.std.specs.List.{flat_map}
use Rattle.std.specs.Option.{option_to_list}
use Rattle.airfields.specs.Sites.{Site, is_traverse_way}
use Rattle.airfields.specs.declared.airfield.Airfield.{Airfield}
use Rattle.height_rules.specs.AboveGround.{notice_excess, height_excess}
use Rattle.notice_slopes.specs.Exemptions.{exemption_of}
use Rattle.notice_slopes.specs.OnAirfields.{is_on_described}
use Rattle.airfield_findings.specs.Entries.{entries, no_key, field_key, of_airfield, slope_entries}
use Rattle.finding_lists.specs.declared.finding.Finding.{Finding}
use Rattle.finding_lists.specs.declared.finding.Rule.{Rule}
use Rattle.finding_lists.specs.declared.finding.Rule.TheVariants as rules

-- ---- notice

-- the rule of 77.9(a) for a structure; a traverse way has it under 77.9(c)
abbrev pub rule_a : Site → Rule
rule_a site = if is_traverse_way site.kind then rules.WayA else rules.NoticeA

-- the entry of construction on an airfield of 77.9(d); it has no height, and its excess is 0
abbrev pub on_airfield : List Airfield → Site → List Finding
on_airfield airfields site =
    if is_on_described airfields site then option_to_list (option_map (λ id. record { rule = rules.NoticeD; key = field_key id 0; excess = 0 }) site.on) else []

-- notice by 77.9(a), by the slopes of 77.9(b) in order of the airfields' names, and by 77.9(d)
abbrev pub notices_of : List Airfield → Site → List Finding
notices_of airfields site =
    entries (rule_a site) no_key (notice_excess site) ++ flat_map (slope_entries site) airfields ++ on_airfield airfields site

-- the same, but none where 77.9(e) exempts the structure
abbrev pub notices_if_due : List Airfield → Site → List Finding
notices_if_due airfields site = if is_none (exemption_of site) then notices_of airfields site else []

-- all findings of a structure, in order: the height of 77.17(a)(1), the standards of each airfield in order of its name, and the
-- notice rules
abbrev pub findings_of : List Airfield → Site → List Finding
findings_of airfields site = entries rules.H499 no_key (height_excess site) ++ flat_map (of_airfield site) airfields ++ notices_if_due airfields site
