-- The list of findings of a structure is told whole.
use Rattle.std.proofs.Common.{arith, ℕ, ◌≡◌, ◌<◌, ◌^◌, ◌-◌, refl, ap, List, [], ◌++◌, length, Option, Some, None, min, is_none}
use Rattle.std.specs.Prelude.{option_map}
use Rattle.std.specs.List.{All, flat_map}
use Rattle.std.specs.Option.{option_to_list}
use Rattle.std.proofs.lemmas.List.Elements.{All-nil, All-cons, All-append}
use Rattle.airfields.specs.Sites.{Site, is_traverse_way}
use Rattle.airfields.specs.declared.airfield.Airfield.{Airfield}
use Rattle.airport_register.specs.Registers.{IsRegister}
use Rattle.desk_tables.specs.Names.{IsNamed}
use Rattle.wire_values.specs.Words.{IsAirfieldName}
use Rattle.wire_cursor.specs.Groups.{IsValidSite}
use Rattle.height_rules.specs.AboveGround.{notice_excess, height_excess}
use Rattle.notice_slopes.specs.Exemptions.{exemption_of}
use Rattle.notice_slopes.specs.OnAirfields.{is_on_described}
use Rattle.airfield_findings.specs.Entries.{entries, no_key, field_key, of_airfield, slope_entries}
use Rattle.finding_lists.specs.declared.finding.Finding.{Finding}
use Rattle.finding_lists.specs.declared.finding.Rule.TheVariants as rules
use Rattle.finding_lists.specs.declared.verdict.Verdict.{Verdict}
use Rattle.oe_findings.specs.List.{rule_a, on_airfield, notices_of, notices_if_due, findings_of}
use Rattle.oe_findings.proofs.Counts.{counted}
use Rattle.row_cases.specs.Entries.{IsEntry, IsList}
use Rattle.desk_tables.proofs.Excesses.{height_small, notice_small}
use Rattle.desk_tables.proofs.EntryFacts.{airfield_told, each_told, either_placed, given_told, one_told, slope_told}

-- ---- notice

abbrev finding_on : List ℕ → Finding
finding_on id = record { rule = rules.NoticeD; key = field_key id 0; excess = 0 }

name_told : (on : Option (List ℕ)) → IsAirfieldName on → All IsEntry (option_to_list (option_map finding_on on))
name_told None named = All-nil IsEntry
name_told (Some id) named =
    All-cons IsEntry (finding_on id) [] (record { place = (named, refl, refl); level = refl; small = omega arith }) (All-nil IsEntry)

on_airfield_told : (airfields : List Airfield) (site : Site) → IsAirfieldName site.on → All IsEntry (on_airfield airfields site)
on_airfield_told airfields site named =
    given_told IsEntry (is_on_described airfields site) (option_to_list (option_map finding_on site.on)) (name_told site.on named)

notices_told : (airfields : List Airfield) (site : Site) → All IsNamed airfields → IsAirfieldName site.on → All IsEntry (notices_of airfields site)
notices_told airfields site named on =
    let first = entries (rule_a site) no_key (notice_excess site) in
    let slopes = flat_map (slope_entries site) airfields in
    All-append IsEntry (first ++ slopes) (on_airfield airfields site)
    (All-append IsEntry first slopes
    (one_told (rule_a site) no_key (notice_excess site)
    (either_placed (is_traverse_way site.kind) rules.WayA rules.NoticeA no_key ((refl, refl, refl), λ e. tt) ((refl, refl, refl), λ e. tt))
    (notice_small site))
    (each_told IsNamed IsEntry (slope_entries site) (slope_told site) airfields named))
    (on_airfield_told airfields site on)

-- ---- the list

all_told : (airfields : List Airfield) (site : Site) → All IsNamed airfields → IsAirfieldName site.on → All IsEntry (findings_of airfields site)
all_told airfields site named on =
    let first = entries rules.H499 no_key (height_excess site) in
    let standards = flat_map (of_airfield site) airfields in
    All-append IsEntry (first ++ standards) (notices_if_due airfields site)
    (All-append IsEntry first standards
    (one_told rules.H499 no_key (height_excess site) ((refl, refl, refl), λ e. tt) (height_small site))
    (each_told IsNamed IsEntry (of_airfield site) (airfield_told site) airfields named))
    (given_told IsEntry (is_none (exemption_of site)) (notices_of airfields site) (notices_told airfields site named on))

-- the count of the list fits the type of a count of entries, which is smaller
few : (airfields : List Airfield) (site : Site) → IsRegister airfields → length (findings_of airfields site) < 2 ^ 64
few airfields site register =
    let e : min (length (findings_of airfields site)) (2 ^ 32 - 1) ≡ length (findings_of airfields site) =
    ap (λ (v : Verdict). v.entries) (counted airfields site register) in
    omega (arith, e)

pub findings_told : (register : List Airfield) (site : Site) → IsRegister register → All IsNamed register → IsValidSite site
    → IsList (findings_of register site)
findings_told register site held named valid = record { many = few register site held; entries = all_told register site named valid.1 }
