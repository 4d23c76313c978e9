-- For proofs alone: the entries that a screening has collected.
use Rattle.std.specs.Prelude.{◌≡◌, List, [], ◌∷◌, ◌++◌, ◌&&◌, ◌||◌, Bool, true, false, is_some, nat_eq, if◌then◌else◌}
use Rattle.std.specs.List.{flat_map}
use Rattle.airfields.specs.Sites.{Site}
use Rattle.airfields.specs.declared.airfield.Airfield.{Airfield}
use Rattle.height_rules.specs.AboveGround.{notice_excess, height_excess}
use Rattle.notice_slopes.specs.OnAirfields.{is_on_described}
use Rattle.airfield_findings.specs.declared.plots.TheConstants.{SMALL_LEVEL}
use Rattle.airfield_findings.specs.Entries.{entries, no_key, of_airfield, slope_entries}
use Rattle.finding_lists.specs.Orders.{merged_list}
use Rattle.airfield_findings.specs.Prepared.{airfield_of}
use Rattle.finding_lists.specs.Verdicts.{is_obstruction}
use Rattle.finding_lists.specs.declared.finding.Finding.{Finding}
use Rattle.finding_lists.specs.declared.finding.Rule.TheVariants as rules
use Rattle.airfield_findings.specs.declared.prepared.Prepared.{Prepared}
use Rattle.oe_findings.specs.List.{rule_a}

-- the height of 77.17(a)(1) followed by the standards of these airfields
abbrev pub standards_over : Site → List Airfield → List Finding
standards_over site airfields = entries rules.H499 no_key (height_excess site) ++ flat_map (of_airfield site) airfields

-- 77.9(a) followed by the notice slopes of these airfields, where notice is required
abbrev pub slopes_over : Site → Bool → List Airfield → List Finding
slopes_over site due airfields = if due then entries (rule_a site) no_key (notice_excess site) ++ flat_map (slope_entries site) airfields else []

-- one of these airfields has a standard that is exceeded
abbrev pub exceeds_over : Site → List Airfield → Bool
exceeds_over site airfields = is_obstruction (flat_map (of_airfield site) airfields)

-- ---- whether there is any entry

abbrev pub has_entry : List Finding → Bool
has_entry [] = false
has_entry (f ∷ fs) = true

-- the airfield gives an entry: a notice slope where notice is due, or a standard
abbrev pub gives_entry : Site → Bool → Airfield → Bool
gives_entry site due f = (due && has_entry (slope_entries site f)) || has_entry (of_airfield site f)

-- there is an entry of no surface: the height of 77.17(a)(1), or 77.9(a) or 77.9(d) where notice is due
abbrev pub has_lone_entry : List Airfield → Site → Bool → Bool
has_lone_entry airfields site due = is_some (height_excess site) || (due && (is_some (notice_excess site) || is_on_described airfields site))

-- ---- in the order of a visit

-- its plot is stored in the smaller squares
abbrev pub is_small : Prepared → Bool
is_small p = nat_eq p.plot.level SMALL_LEVEL

-- the entries collected from these airfields, visited one by one: those of a large one are appended, those of a small one are merged by
-- its name
abbrev pub gathered_findings : (Airfield → List Finding) → List Finding → List Prepared → List Finding
gathered_findings f list [] = list
gathered_findings f list (p ∷ ps) = gathered_findings f (if is_small p then merged_list list (f (airfield_of p)) else list ++ f (airfield_of p)) ps

-- the height of 77.17(a)(1) followed by the standards of these airfields, in the order of a visit
abbrev pub standards_by : Site → List Prepared → List Finding
standards_by site items = gathered_findings (of_airfield site) (entries rules.H499 no_key (height_excess site)) items

-- 77.9(a) followed by the notice slopes, in the order of a visit
abbrev pub slopes_by : Site → List Prepared → List Finding
slopes_by site items = gathered_findings (slope_entries site) (entries (rule_a site) no_key (notice_excess site)) items

-- ---- the contents of the collectors

-- the collectors have taken these standards, and these notice rules where notice is required
pub record Holds {C : Type 0} (taken : C → List Finding → Type 0) (due : Bool) (standards notices : C) (of_standards of_notices : List Finding) : Type 0 where
  pub all_standards : taken standards of_standards
  pub all_notices : taken notices (if due then of_notices else [])

-- they have taken the entries of the airfields visited so far, or memory was refused
pub record HasGathered {C : Type 0} (taken : C → List Finding → Type 0) (fails : Type 0) (site : Site) (due : Bool) (standards notices : C) (refused : Bool) (items : List Prepared) : Type 0 where
  pub gathers : refused ≡ false → Holds taken due standards notices (standards_by site items) (slopes_by site items)
  pub stopped : refused ≡ true → fails

-- they have taken the entries of all airfields, in order of name, or memory was refused
pub record HasSeen {C : Type 0} (taken : C → List Finding → Type 0) (fails : Type 0) (site : Site) (due : Bool) (standards notices : C) (refused : Bool) (airfields : List Airfield) : Type 0 where
  pub all_standards : refused ≡ false → taken standards (standards_over site airfields)
  pub all_notices : refused ≡ false → taken notices (slopes_over site due airfields)
  pub stopped : refused ≡ true → fails
