-- What stands where a finding was looked for, and what the finding makes of the list there.
use Rattle.std.proofs.Common.{◌≡◌, ◌∙◌, ℕ, ◌<◌, ◌≤◌, List, Some, None, Ok, Err, Result, Bool, true, false, length, get_or, set, sym, refl, subst}
use Rattle.std.specs.Prelude.{nat_le}
use Rattle.std.specs.List.{insert}
use Rattle.std.specs.List.Sorted.{IsBinarySearchResult}
use Rattle.std.specs.declared.cmp.Ordering.{Ordering}
use Rattle.std.specs.declared.cmp.Ordering.TheVariants.{Equal}
use Rattle.ordered_list.specs.Ordered.{Rises, found_by}
use Rattle.ordered_list.proofs.Rising.{Rises-put}
use Rattle.ordered_list.proofs.Searches.{search_inserted, search_none, search_read, search_written}
use Rattle.finding_lists.specs.declared.finding.Finding.{Finding}
use Rattle.oe_stations.specs.Merging.{with_finding}
use Rattle.oe_stations.specs.Order.{place_of}
use Rattle.oe_stations.specs.Ways.{of_station, way_place}
use Rattle.oe_stations.specs.declared.place.Place.{Place}
use Rattle.oe_stations.specs.declared.way_list.WayFinding.{WayFinding}
use Rattle.oe_stations.specs.contracts.place.PlaceOrd.TheImpl as places
use Rattle.oe_stations.proofs.Places.{total}

abbrev cmp : Place → Place → Ordering
cmp = places.ghosts.cmp

-- the finding of this place stands at i, where it was read
pub stands_there : (list : List WayFinding) (i : ℕ) (w : WayFinding) (q p : Place) (o : Ordering) → ((d : WayFinding) → w ≡ get_or list i d) → q ≡ way_place w → o ≡ cmp q p → o ≡ Equal
    → IsBinarySearchResult (λ v. cmp (way_place v) p) list (Ok i)
stands_there list i w q p o at key is tie = λ d.
    let same : cmp (way_place w) p ≡ Equal = subst (λ (r : Place). cmp r p ≡ Equal) key (sym is ∙ tie) in
    subst (λ (v : WayFinding). cmp (way_place v) p ≡ Equal) (at d) same

-- list is the list, zs what was searched, the same list; p is the place of the finding
module _ (list zs : List WayFinding) (i station : ℕ) (f : Finding) (p : Place) (rises : Rises cmp way_place list) (same : zs ≡ list) (is : p ≡ place_of f) where
  abbrev IsAt : Result ℕ ℕ → Type 0
  IsAt r = IsBinarySearchResult (λ v. cmp (way_place v) p) zs r

  found : (w : WayFinding) → i < length zs → IsAt (Ok i) → w ≡ get_or list i w → found_by cmp way_place (place_of f) list ≡ Some w
  found w l h at =
      subst (λ (q : Place). found_by cmp way_place q list ≡ Some w) is (sym (search_read cmp total way_place p list zs i w rises same l h at))

  -- a smaller excess gives way to the new finding
  pub written : (w : WayFinding) (b : Bool) → i < length zs → IsAt (Ok i) → w ≡ get_or list i w → b ≡ nat_le f.excess w.finding.excess → b ≡ false → set list i (of_station station f) ≡ with_finding station list f
  written w b l h at e less =
      let q : found_by cmp way_place (place_of f) list ≡ Some w = found w l h at in
      let t : nat_le f.excess w.finding.excess ≡ false = sym e ∙ less in
      rw (q, t) (search_written cmp total way_place (of_station station f) p list zs i is rises same l h)

  -- another one stays
  pub stays : (w : WayFinding) (b : Bool) → i < length zs → IsAt (Ok i) → w ≡ get_or list i w → b ≡ nat_le f.excess w.finding.excess → b ≡ true → list ≡ with_finding station list f
  stays w b l h at e least =
      let q : found_by cmp way_place (place_of f) list ≡ Some w = found w l h at in
      let t : nat_le f.excess w.finding.excess ≡ true = sym e ∙ least in
      rw (q, t) refl

  -- where none stood, there is a new one
  pub inserted : i ≤ length zs → IsAt (Err i) → insert list i (of_station station f) ≡ with_finding station list f
  inserted l h =
      let q : found_by cmp way_place (place_of f) list ≡ None =
      subst (λ (r : Place). found_by cmp way_place r list ≡ None) is (sym (search_none cmp total way_place p list zs i rises same h)) in
      rw q (search_inserted cmp total way_place (of_station station f) p list zs i is rises same l h)

  pub rises_written : i < length zs → IsAt (Ok i) → Rises cmp way_place (set list i (of_station station f))
  rises_written l h =
      rw (search_written cmp total way_place (of_station station f) p list zs i is rises same l h) (Rises-put cmp total way_place (of_station station f) list rises)

  pub rises_inserted : i ≤ length zs → IsAt (Err i) → Rises cmp way_place (insert list i (of_station station f))
  rises_inserted l h =
      rw (search_inserted cmp total way_place (of_station station f) p list zs i is rises same l h) (Rises-put cmp total way_place (of_station station f) list rises)
