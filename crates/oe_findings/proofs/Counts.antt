-- How many findings there are at most.
use Rattle.std.proofs.Common.{arith, ℕ, ◌≡◌, ◌≤◌, ◌+◌, ◌-◌, ◌*◌, ◌^◌, List, ◌++◌, length, is_none, ap}
use Rattle.std.specs.List.{flat_map}
use Rattle.std.specs.Option.{option_map, option_to_list}
use Rattle.std.proofs.Math.Nat.{min-eq_left}
use Rattle.airfields.specs.Airfields.{IsHeld}
use Rattle.airport_register.specs.Registers.{IsRegister}
use Rattle.airport_register.specs.declared.register.TheConstants.{MOST_AIRFIELDS}
use Rattle.airfields.specs.Sites.{Site}
use Rattle.airfields.specs.declared.airfield.Airfield.{Airfield}
use Rattle.height_rules.specs.AboveGround.{notice_excess, height_excess}
use Rattle.notice_slopes.specs.Exemptions.{exemption_of}
use Rattle.notice_slopes.specs.OnAirfields.{is_on_described}
use Rattle.airfield_findings.specs.Entries.{entries, no_key, field_key, of_airfield, slope_entries}
use Rattle.finding_lists.specs.Verdicts.{tally_of, verdict_of, asks_notice, is_obstruction}
use Rattle.finding_lists.specs.declared.finding.Finding.{Finding}
use Rattle.finding_lists.specs.declared.finding.Rule.TheVariants as rules
use Rattle.airfield_findings.proofs.Counts.{one, two_parts, parts, any_parts, either, at_most_one, of_one_airfield, one_slope}
use Rattle.oe_findings.specs.List.{rule_a, on_airfield, notices_of, notices_if_due, findings_of}

all_notices : (airfields : List Airfield) (site : Site) → length airfields ≤ MOST_AIRFIELDS → length (notices_of airfields site) ≤ 16386
all_notices airfields site number =
    let first = entries (rule_a site) no_key (notice_excess site) in
    let slopes = flat_map (slope_entries site) airfields in
    let found : List Finding = option_to_list (option_map (λ id. record { rule = rules.NoticeD; key = field_key id 0; excess = 0 }) site.on) in
    two_parts (first ++ slopes) (on_airfield airfields site) 16385 1
    (two_parts first slopes 1 16384 (one (rule_a site) no_key (notice_excess site)) (omega (arith, any_parts (slope_entries site) 1 (one_slope site) airfields, number)))
    (either (is_on_described airfields site) found 1 (at_most_one (λ id. record { rule = rules.NoticeD; key = field_key id 0; excess = 0 }) site.on))

of_all : (airfields : List Airfield) (site : Site) → IsRegister airfields → length (findings_of airfields site) ≤ 1 + 16384 * 99 + 16386
of_all airfields site register =
    let first = entries rules.H499 no_key (height_excess site) in
    let middle = flat_map (of_airfield site) airfields in
    two_parts (first ++ middle) (notices_if_due airfields site) (1 + 16384 * 99) 16386
    (two_parts first middle 1 (16384 * 99) (one rules.H499 no_key (height_excess site)) (omega (arith, parts IsHeld (of_airfield site) 99 (of_one_airfield site) airfields register.held, register.number)))
    (either (is_none (exemption_of site)) (notices_of airfields site) 16386 (all_notices airfields site register.number))

-- the count of a list of findings fits its type
pub counted : (airfields : List Airfield) (site : Site) → IsRegister airfields → tally_of (findings_of airfields site) ≡ verdict_of (findings_of airfields site)
counted airfields site register =
    let list = findings_of airfields site in
    let fits : length list ≤ 2 ^ 32 - 1 = omega (arith, of_all airfields site register) in
    ap (λ (n : ℕ). record { notice = asks_notice list; obstruction = is_obstruction list; entries = n }) (min-eq_left fits)
