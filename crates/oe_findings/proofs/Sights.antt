-- What a visit of the airfields over a point gathers is what all airfields would give.
use Rattle.std.proofs.Common.{◌≡◌, ℕ, List, [], ◌∷◌, ◌++◌, ◌&&◌, ◌||◌, Bool, true, false, Option, Some, None, map, not, refl, sym, ap, ◌∙◌, subst, get_or, arith, nat_eq, ◌⊎◌, inl, inr, if◌then◌else◌}
use Rattle.std.specs.List.{All, filter, flat_map, list_any}
use Rattle.std.specs.List.Sorted.{IsPermutation}
use Rattle.std.proofs.lemmas.Bool.{cases_Bool, not-true}
use Rattle.std.proofs.lemmas.List.Elements.{All-nil, All-cons, All-weaker, filter_passes}
use Rattle.std.proofs.lemmas.List.Folds.{flat_map-map, list_any-append}
use Rattle.std.proofs.lemmas.List.Sorted.{list_any-IsPermutation}
use Rattle.grid_exact.specs.Area.{has_point}
use Rattle.grid_exact.specs.declared.point.Point.{Point}
use Rattle.ordered_list.specs.Ordered.{Rises}
use Rattle.ordered_list.proofs.Mapped.{Rises-mapped}
use Rattle.airfields.specs.Airfields.{id_of}
use Rattle.airfields.specs.Names.{name_cmp}
use Rattle.airfields.specs.Sites.{Site, IsSite}
use Rattle.airfields.specs.declared.airfield.Airfield.{Airfield}
use Rattle.height_rules.specs.AboveGround.{notice_excess, height_excess}
use Rattle.height_rules.specs.Heights.{notice_top, standards_top}
use Rattle.height_rules.proofs.HeightFacts.{notice_is_top, standards_is_top, top_level}
use Rattle.surface_tree.specs.Visits.{all_hits}
use Rattle.surface_tree.specs.declared.placed.Plot.{Plot}
use Rattle.surface_tree.proofs.Even.{level_hits, other_hits, flat_map_kept}
use Rattle.surface_tree.proofs.Visits.{filter_twice}
use Rattle.airfield_findings.specs.declared.plots.TheConstants.{LARGE_LEVEL, SMALL_LEVEL}
use Rattle.airfield_findings.specs.Entries.{entries, no_key, of_airfield, slope_entries}
use Rattle.finding_lists.specs.Orders.{merged_list}
use Rattle.airfield_findings.specs.Prepared.{airfield_of}
use Rattle.airfield_findings.specs.Reaches.{HasLevels}
use Rattle.finding_lists.specs.Verdicts.{is_notice, is_obstruction}
use Rattle.finding_lists.specs.declared.finding.Finding.{Finding}
use Rattle.finding_lists.specs.declared.finding.Rule.{Rule}
use Rattle.finding_lists.specs.declared.finding.Rule.TheVariants as rules
use Rattle.airfield_findings.specs.declared.prepared.Prepared.{Prepared}
use Rattle.airfield_findings.proofs.Merges.{merged_runs, named_standards, named_slopes}
use Rattle.oe_findings.specs.List.{rule_a}
use Rattle.oe_findings.specs.Screenings.{exceeds_over, slopes_over, slopes_by, gathered_findings, is_small, HasGathered, HasSeen}
use Rattle.oe_findings.proofs.Gathered.{all_large, all_small, gathered_more, plot_of, runs_in_order}

-- the items over the point give what all give
over : (f : Airfield → List Finding) (has : Prepared → Bool) (all : List Prepared) → ((p : Prepared) → has p ≡ false → f (airfield_of p) ≡ [])
    → flat_map f (map airfield_of (filter has all)) ≡ flat_map f (map airfield_of all)
over f has all nothing =
    flat_map-map f airfield_of (filter has all) ∙ flat_map_kept (λ p. f (airfield_of p)) has all (λ j d l. nothing (get_or all j d)) ∙ sym (flat_map-map f airfield_of all)

-- so do those of them that pass a test
over_run : (f : Airfield → List Finding) (q has : Prepared → Bool) (all hits : List Prepared) → ((p : Prepared) → has p ≡ false → f (airfield_of p) ≡ [])
    → filter q hits ≡ filter (λ p. q p && has p) all → flat_map f (map airfield_of (filter q hits)) ≡ flat_map (λ p. f (airfield_of p)) (filter q all)
over_run f q has all hits nothing e =
    ap (λ ps. flat_map f (map airfield_of ps)) (e ∙ sym (filter_twice has q (λ p. q p && has p) (λ p. refl) all))
    ∙ over f has (filter q all) nothing ∙ flat_map-map f airfield_of (filter q all)

-- squares of one of two sizes hold each
either_level : (n : ℕ) → (nat_eq n SMALL_LEVEL || nat_eq n LARGE_LEVEL) ≡ true → (n ≡ SMALL_LEVEL) ⊎ (n ≡ LARGE_LEVEL)
either_level n h = elim (cases_Bool (nat_eq n SMALL_LEVEL)) [
  | inl y ↦ inl (grind (arith, y))
  | inr f ↦ (let large = rw f at h in inr (grind (arith, large)))
]

-- the entries of the large and of the small airfields over a point, merged behind entries that have no airfield
runs : (f : Airfield → List Finding) (first : List Finding) (x : Point) (all : List Prepared) → Rises name_cmp id_of (map airfield_of all)
    → ((a : Airfield) → All (λ e. e.key.field ≡ Some (id_of a)) (f a)) → All (λ e. e.key.field ≡ None) first → ((p : Prepared) → has_point p.plot.area x ≡ false → f (airfield_of p) ≡ [])
    → merged_list (first ++ flat_map f (map airfield_of (filter (λ p. not (is_small p)) (all_hits plot_of x all)))) (flat_map f (map airfield_of (filter is_small (all_hits plot_of x all)))) ≡ first ++ flat_map f (map airfield_of all)
runs f first x all rises named none nothing =
    let hits = all_hits plot_of x all in
    let has : Prepared → Bool = λ p. has_point p.plot.area x in
    let large = over_run f (λ p. not (is_small p)) has all hits nothing (other_hits plot_of x SMALL_LEVEL LARGE_LEVEL all (omega arith) (omega arith) (λ j d l. either_level (get_or all j d).plot.level (get_or all j d).in_place.is_plot.level)) in
    let small = over_run f is_small has all hits nothing (level_hits plot_of x SMALL_LEVEL all (omega arith)) in
    ap (λ zs. merged_list (first ++ zs) (flat_map f (map airfield_of (filter is_small hits)))) large
    ∙ ap (λ zs. merged_list (first ++ flat_map (λ p. f (airfield_of p)) (filter (λ p. not (is_small p)) all)) zs) small
    ∙ merged_runs (λ p. f (airfield_of p)) (λ p. id_of (airfield_of p)) is_small first all (Rises-mapped name_cmp id_of airfield_of all rises) (λ p. named (airfield_of p)) none
    ∙ ap (λ zs. first ++ zs) (sym (flat_map-map f airfield_of all))

no_airfield : (rule : Rule) (x : Option ℕ) → All (λ e. e.key.field ≡ None) (entries rule no_key x)
no_airfield rule None = All-nil (λ (e : Finding). e.key.field ≡ None)
no_airfield rule (Some n) = All-cons (λ (e : Finding). e.key.field ≡ None) (record { rule = rule; key = no_key; excess = n }) [] refl (All-nil (λ (e : Finding). e.key.field ≡ None))

-- what an airfield without the point gives
pub no_standards : (site : Site) (x : Point) → x ≡ site.at → HasLevels site → (p : Prepared) → has_point p.plot.area x ≡ false → of_airfield site (airfield_of p) ≡ []
no_standards site x at levels p e = p.in_place.standards site levels (ap (has_point p.plot.area) (sym at) ∙ e)

pub no_slopes : (site : Site) (x : Point) → x ≡ site.at → HasLevels site → (p : Prepared) → has_point p.plot.area x ≡ false → slope_entries site (airfield_of p) ≡ []
no_slopes site x at levels p e = p.in_place.slopes site levels (ap (has_point p.plot.area) (sym at) ∙ e)

-- what a visit gathers is what all airfields give
by_visit : (f : Airfield → List Finding) (first : List Finding) (x : Point) (all : List Prepared) → Rises name_cmp id_of (map airfield_of all)
    → ((a : Airfield) → All (λ e. e.key.field ≡ Some (id_of a)) (f a)) → All (λ e. e.key.field ≡ None) first → ((p : Prepared) → has_point p.plot.area x ≡ false → f (airfield_of p) ≡ [])
    → gathered_findings f first (all_hits plot_of x all) ≡ first ++ flat_map f (map airfield_of all)
by_visit f first x all rises named none nothing =
    let seen = all_hits plot_of x all in
    let big = filter (λ p. not (is_small p)) seen in
    let little = filter is_small seen in
    let sized : All (λ p. (p.plot.level ≡ SMALL_LEVEL) ⊎ (p.plot.level ≡ LARGE_LEVEL)) all = λ j d l. either_level (get_or all j d).plot.level (get_or all j d).in_place.is_plot.level in
    ap (gathered_findings f first) (sym (runs_in_order x all sized))
    ∙ gathered_more f first big little
    ∙ ap (λ zs. gathered_findings f zs little) (all_large f first big (All-weaker (λ p. not (is_small p) ≡ true) (λ p. is_small p ≡ false) (λ p e. not-true (is_small p) e) big (filter_passes (λ p. not (is_small p)) seen)))
    ∙ all_small f (first ++ flat_map (λ p. f (airfield_of p)) big) little (filter_passes is_small seen)
    ∙ sym (ap (λ zs. merged_list (first ++ zs) (flat_map f (map airfield_of little))) (flat_map-map f airfield_of big) ∙ ap (merged_list (first ++ flat_map (λ p. f (airfield_of p)) big)) (flat_map-map f airfield_of little))
    ∙ runs f first x all rises named none nothing

slopes_seen : (site : Site) (due : Bool) (all : List Prepared) (x : Point) → Rises name_cmp id_of (map airfield_of all) → x ≡ site.at → HasLevels site
    → (if due then slopes_by site (all_hits plot_of x all) else []) ≡ slopes_over site due (map airfield_of all)
slopes_seen site true all x rises at levels =
    by_visit (slope_entries site) (entries (rule_a site) no_key (notice_excess site)) x all rises (named_slopes site) (no_airfield (rule_a site) (notice_excess site)) (no_slopes site x at levels)
slopes_seen site false all x rises at levels = refl

-- so a screening has seen all airfields
pub seen_all : {C : Type 0} (taken : C → List Finding → Type 0) (fails : Type 0) (site : Site) (due : Bool) (a b : C) (refused : Bool) (all : List Prepared) (airfields : List Airfield) (x : Point)
    → map airfield_of all ≡ airfields → Rises name_cmp id_of airfields → x ≡ site.at → HasLevels site
    → HasGathered taken fails site due a b refused (all_hits plot_of x all) → HasSeen taken fails site due a b refused airfields
seen_all taken fails site due a b refused all airfields x e rises at levels seen =
    let r = subst (Rises name_cmp id_of) (sym e) rises in
    let standards = by_visit (of_airfield site) (entries rules.H499 no_key (height_excess site)) x all r (named_standards site) (no_airfield rules.H499 (height_excess site)) (no_standards site x at levels) in
    subst (λ (fs : List Airfield). HasSeen taken fails site due a b refused fs) e
    (record {
      all_standards = λ g. subst (taken a) standards (seen.gathers g).all_standards;
      all_notices = λ g. subst (taken b) (slopes_seen site due all x r at levels) (seen.gathers g).all_notices;
      stopped = seen.stopped;
    })

-- both tops of a structure are levels
pub levels_of : (site : Site) → IsSite site → HasLevels site
levels_of site h = record {
  standards_level = top_level site (standards_top site) h (standards_is_top site h);
  notice_level = top_level site (notice_top site) h (notice_is_top site h);
}

-- airfields exceed where one of them does
any_of : (site : Site) (ps : List Prepared) → exceeds_over site (map airfield_of ps) ≡ list_any (λ p. is_obstruction (of_airfield site (airfield_of p))) ps
any_of site [] = refl
any_of site (p ∷ ps) =
    list_any-append (λ (f : Finding). not (is_notice f.rule)) (of_airfield site (airfield_of p)) (flat_map (of_airfield site) (map airfield_of ps))
    ∙ ap (λ (b : Bool). is_obstruction (of_airfield site (airfield_of p)) || b) (any_of site ps)

-- whether the airfields over the point exceed, in any order, is whether any does
pub exceeds_all : (site : Site) (all ys : List Prepared) (x : Point) → x ≡ site.at → HasLevels site → IsPermutation (filter (λ p. has_point p.plot.area x) all) ys
    → exceeds_over site (map airfield_of ys) ≡ exceeds_over site (map airfield_of all)
exceeds_all site all ys x at levels same =
    let has : Prepared → Bool = λ p. has_point p.plot.area x in
    any_of site ys ∙ sym (list_any-IsPermutation (λ p. is_obstruction (of_airfield site (airfield_of p))) (filter has all) ys same) ∙ sym (any_of site (filter has all))
    ∙ ap is_obstruction (over (of_airfield site) has all (no_standards site x at levels))
