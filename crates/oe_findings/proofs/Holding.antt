-- A screening holds the entries of one airfield more.
use Rattle.std.proofs.Common.{◌≡◌, List, [], ◌∷◌, ◌++◌, Bool, true, false, sym, ap, subst, if◌then◌else◌}
use Rattle.airfields.specs.Sites.{Site}
use Rattle.height_rules.specs.AboveGround.{notice_excess, height_excess}
use Rattle.airfield_findings.specs.Entries.{entries, no_key, of_airfield, slope_entries}
use Rattle.finding_lists.specs.Orders.{merged_list}
use Rattle.airfield_findings.specs.Prepared.{airfield_of}
use Rattle.finding_lists.specs.declared.finding.Finding.{Finding}
use Rattle.finding_lists.specs.declared.finding.Rule.TheVariants as rules
use Rattle.airfield_findings.specs.declared.prepared.Prepared.{Prepared}
use Rattle.oe_findings.specs.List.{rule_a}
use Rattle.oe_findings.specs.Screenings.{is_small, slopes_by, standards_by, Holds}
use Rattle.oe_findings.proofs.Gathered.{large_next, small_next}

module _ {C : Type 0} (taken : C → List Finding → Type 0) (site : Site) (due : Bool) (a b : C) (items : List Prepared) (p : Prepared) where
  held : (xs ys : List Finding) → xs ≡ standards_by site (items ++ p ∷ []) → ys ≡ slopes_by site (items ++ p ∷ []) → Holds taken due a b xs ys → Holds taken due a b (standards_by site (items ++ p ∷ [])) (slopes_by site (items ++ p ∷ []))
  held xs ys e f h = record {
    all_standards = subst (taken a) e h.all_standards;
    all_notices = subst (taken b) (ap (λ zs. if due then zs else []) f) h.all_notices;
  }

  pub small_held : is_small p ≡ true → Holds taken due a b (merged_list (standards_by site items) (of_airfield site (airfield_of p))) (merged_list (slopes_by site items) (slope_entries site (airfield_of p)))
      → Holds taken due a b (standards_by site (items ++ p ∷ [])) (slopes_by site (items ++ p ∷ []))
  small_held y h = held _ _ (sym (small_next (of_airfield site) (entries rules.H499 no_key (height_excess site)) items p y)) (sym (small_next (slope_entries site) (entries (rule_a site) no_key (notice_excess site)) items p y)) h

  pub large_held : is_small p ≡ false → Holds taken due a b (standards_by site items ++ of_airfield site (airfield_of p)) (slopes_by site items ++ slope_entries site (airfield_of p))
      → Holds taken due a b (standards_by site (items ++ p ∷ [])) (slopes_by site (items ++ p ∷ []))
  large_held n h = held _ _ (sym (large_next (of_airfield site) (entries rules.H499 no_key (height_excess site)) items p n)) (sym (large_next (slope_entries site) (entries (rule_a site) no_key (notice_excess site)) items p n)) h
