-- A change concerns no more cases than it is near.
use Rattle.std.proofs.Common.{◌≡◌, inl, inr, ℕ, suc, ◌+◌, ◌≤◌, Bool, true, false, true≢false, ◌||◌, cond, nat_lt, List, [], ◌∷◌, ◌++◌, length, Option, Some, None, slice_get, refl, sym, ap, ◌∙◌, arith}
use Rattle.std.proofs.lemmas.Grind.{common_steps}
use Rattle.std.proofs.lemmas.Bool.{cases_Bool}
use Rattle.std.proofs.lemmas.List.Elements.{All-cons, All-nil}
use Rattle.std.specs.List.{list_any}
use Rattle.grid_exact.specs.Area.{Has, has_point}
use Rattle.grid_exact.specs.declared.area.Area.{Area}
use Rattle.grid_exact.specs.declared.point.Point.{Point}
use Rattle.grid_exact.proofs.AreaLemmas.{has_point-Has}
use Rattle.airfields.specs.Airfields.{IsHeld}
use Rattle.airfields.specs.Sites.{Site, IsSite}
use Rattle.airfields.specs.declared.airfield.Airfield.{Airfield}
use Rattle.airfield_findings.specs.Entries.{of_airfield, slope_entries}
use Rattle.airfield_findings.specs.Reaches.{HasLevels}
use Rattle.airfield_findings.proofs.Joins.{left, right}
use Rattle.oe_findings.specs.Outside.{IsOutside}
use Rattle.oe_findings.proofs.LeftOut.{areas_out}
use Rattle.oe_findings.proofs.Sights.{levels_of}
use Rattle.review_marks.specs.Books.{joined, row_at}
use Rattle.review_marks.specs.Nearby.{AreFieldAreas, AreNearCases, AreSites, is_near_row, is_near_site, near_count}
use Rattle.review_marks.specs.Shares.{AirfieldChange, AreHeld, concerns, concerns_row, findings_of_field, names}
use Rattle.review_marks.specs.Turns.{concerned_count}
use Rattle.review_marks.specs.declared.row.Row.{Row}
use Rattle.review_marks.proofs.Reaching.{not_reached}
use Rattle.review_marks.proofs.Turning.{row_suc}

-- ---- a structure

or_parts : (a b : Bool) → (a || b) ≡ false → (a ≡ false) × (b ≡ false)
or_parts true b h = absurd (true≢false h)
or_parts false b h = (refl, h)

outside : (areas : List Area) (x : Point) → list_any (λ a. has_point a x) areas ≡ false → IsOutside areas x
outside [] x h = All-nil (λ a. ¬ Has a x)
outside (a ∷ areas) x h =
    let both = or_parts (has_point a x) (list_any (λ b. has_point b x) areas) h in
    All-cons (λ b. ¬ Has b x) a areas (λ has. true≢false (sym ((has_point-Has a x).1 has) ∙ both.0)) (outside areas x both.1)

pub record GivesNothing (o : Option Airfield) (site : Site) : Type 0 where
  pub standards : findings_of_field (of_airfield site) o ≡ []
  pub slopes : findings_of_field (slope_entries site) o ≡ []

gives_nothing : (o : Option Airfield) (areas : List Area) (site : Site) → ((f : Airfield) → o ≡ Some f → IsHeld f) → AreFieldAreas o areas → HasLevels site → IsOutside areas site.at → GivesNothing o site
gives_nothing None areas site held are levels out = record { standards = refl; slopes = refl }
gives_nothing (Some f) areas site held are levels out =
    let leaves = areas_out f areas (held f refl) are in
    record { standards = leaves.standards site levels out; slopes = leaves.slopes site levels out }

not_near : (c : AirfieldChange) (was now : List Area) (site : Site) → AreHeld c → AreFieldAreas c.was was → AreFieldAreas c.is_now now → IsSite site → is_near_site (was ++ now) c.id site ≡ false → concerns c site ≡ false
not_near c was now site held are_was are_now is far =
    let parts = or_parts (list_any (λ a. has_point a site.at) (was ++ now)) (names c.id site) far in
    let out = outside (was ++ now) site.at parts.0 in
    let levels = levels_of site is in
    let p = gives_nothing c.was was site held.was_held are_was levels (left (λ a. ¬ Has a site.at) was now out) in
    let q = gives_nothing c.is_now now site held.is_held are_now levels (right (λ a. ¬ Has a site.at) was now out) in
    not_reached c site p.standards p.slopes q.standards q.slopes parts.1

-- ---- the cases

no_more : (a b : Bool) → (b ≡ false → a ≡ false) → cond a 1 0 ≤ cond b 1 0
no_more true true h = omega arith
no_more true false h = absurd (true≢false (h refl))
no_more false b h = omega arith

module _ (c : AirfieldChange) (was now : List Area) (held : AreHeld c) (are_was : AreFieldAreas c.was was) (are_now : AreFieldAreas c.is_now now) where
  one_row : (o : Option Row) → ((r : Row) → o ≡ Some r → IsSite r.filing) → cond (concerns_row c o) 1 0 ≤ cond (is_near_row (was ++ now) c.id o) 1 0
  one_row None is = omega arith
  one_row (Some r) is = no_more (concerns c r.filing) (is_near_site (was ++ now) c.id r.filing) (not_near c was now r.filing held are_was are_now (is r refl))

  all_rows : (rows : List (Option Row)) → AreSites rows (length rows) → concerned_count c rows ≤ near_count (was ++ now) c.id rows
  all_rows [] sites = omega arith
  all_rows (o ∷ rows) sites =
      let first = one_row o (λ r e. sites 0 r (omega arith) (ap Some e)) in
      let rest = all_rows rows (λ k r l e. sites (suc k) r (omega (arith, l)) e) in
      omega (arith, first, rest)

pub near_cases : (c : AirfieldChange) (rows : List (Option Row)) (n : ℕ) → AreHeld c → AreSites rows (length rows) → AreNearCases c rows n → concerned_count c rows ≤ n
near_cases c rows n held sites h = omega (arith, all_rows c h.was_areas h.now_areas held h.are_was h.are_now rows sites, h.count)

-- ---- the filings of the cases, one after another

pub sites_none : (rows : List (Option Row)) → AreSites rows 0
sites_none rows k r l e = absurd (omega (arith, l))

pub sites_on : (rows : List (Option Row)) (top : ℕ) → ((r : Row) → row_at rows (top + 1) ≡ Some r → IsSite r.filing) → AreSites rows top → AreSites rows (top + 1)
sites_on rows top here before k r l e = elim (cases_Bool (nat_lt k top)) [
  | inl below ↦ before k r (grind (arith, common_steps, below)) e
  | inr not_below ↦
      let same : k ≡ top = grind (arith, common_steps, not_below, l) in
      let next : top + 1 ≡ suc top = omega arith in
      here r (ap (row_at rows) next ∙ row_suc rows top ∙ ap (λ (i : ℕ). joined (slice_get rows i)) (sym same) ∙ ap joined e)
]
