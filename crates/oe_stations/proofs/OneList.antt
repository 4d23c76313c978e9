-- A way has one list; that of one station is the list of its findings.
use Rattle.std.proofs.Common.{◌≡◌, ◌≢◌, ◌∙◌, ℕ, ◌<◌, ◌≤◌, arith, List, [], ◌∷◌, ◌++◌, Option, Some, None, append-nil, append_assoc, get_or, map, ap, refl, sym, inl, inr}
use Rattle.std.specs.List.{All}
use Rattle.std.specs.declared.cmp.Ordering.{Ordering}
use Rattle.std.specs.declared.cmp.Ordering.TheVariants.{Less, Equal}
use Rattle.std.proofs.lemmas.Bool.{cases_lt}
use Rattle.std.proofs.lemmas.List.Elements.{All-append, All-cons, All-head, All-nil, All-tail, All-weaker}
use Rattle.ordered_list.specs.Ordered.{found_by}
use Rattle.ordered_list.proofs.Mapped.{mapped_all}
use Rattle.ordered_list.proofs.Orders.{above, alike}
use Rattle.ordered_list.proofs.Rising.{found_key, missing}
use Rattle.airfields.specs.Sites.{Site}
use Rattle.airfields.specs.declared.airfield.Airfield.{Airfield}
use Rattle.airport_register.specs.Registers.{IsRegister}
use Rattle.finding_lists.specs.declared.finding.Finding.{Finding}
use Rattle.oe_findings.specs.List.{findings_of}
use Rattle.oe_stations.specs.Merging.{with_finding, with_findings}
use Rattle.oe_stations.specs.Order.{place_of}
use Rattle.oe_stations.specs.Ways.{AreOfOne, IsGreatest, IsWayList, IsWayListOf, of_station, way_place}
use Rattle.oe_stations.specs.declared.place.Place.{Place}
use Rattle.oe_stations.specs.declared.way_list.WayFinding.{WayFinding}
use Rattle.oe_stations.specs.contracts.place.PlaceOrd.TheImpl as places
use Rattle.oe_stations.proofs.Merged.{all_stations, found_alike}
use Rattle.oe_stations.proofs.OneOrder.{one_in_order, put_last}
use Rattle.oe_stations.proofs.Places.{of_one, total}
use Rattle.oe_stations.proofs.Single.{AreInOrder, findings_in_order}

abbrev cmp : Place → Place → Ordering
cmp = places.ghosts.cmp

-- ---- one list
no_less : (m n : ℕ) → (m < n → ⊥) → (n < m → ⊥) → m ≡ n
no_less m n p q = elim (cases_lt m n) [
  | inl l ↦ absurd (p l)
  | inr l ↦ elim (cases_lt n m) [ inl k ↦ absurd (q k) | inr k ↦ omega (arith, l, k) ]
]

module _ (Has : ℕ → Finding → Type 0) where
  -- two that are greatest under one rule and of one surface are one
  one_greatest : (w v : WayFinding) → AreOfOne w.finding v.finding → IsGreatest Has w → IsGreatest Has v → w ≡ v
  one_greatest w v one g h =
      let back : AreOfOne v.finding w.finding = (sym one.0, sym one.1) in
      let up : w.finding.excess ≤ v.finding.excess = h.most w.station w.finding g.stands one in
      let down : v.finding.excess ≤ w.finding.excess = g.most v.station v.finding h.stands back in
      let excess : w.finding.excess ≡ v.finding.excess = omega (arith, up, down) in
      let station : w.station ≡ v.station = no_less w.station v.station (λ l. let m : w.finding.excess < v.finding.excess = h.first w.station w.finding g.stands one l in omega (arith, m, excess))
      (λ l. let m : v.finding.excess < w.finding.excess = g.first v.station v.finding h.stands back l in omega (arith, m, excess)) in
      (λ i. record { finding = record { rule = one.0 i; key = one.1 i; excess = excess i }; station = station i })

  there : (p : Place) (w : WayFinding) (a b : List WayFinding) → IsWayListOf Has a → IsWayListOf Has b → found_by cmp way_place p a ≡ Some w → found_by cmp way_place p b ≡ None → ⊥
  there p w a b x y e n =
      y.complete w.station w.finding (x.greatest p w e).stands (sym (found_alike p (way_place w) b (found_key cmp total way_place p w a e)) ∙ n)

  by_found : (p : Place) (a b : List WayFinding) (o q : Option WayFinding) → IsWayListOf Has a → IsWayListOf Has b → found_by cmp way_place p a ≡ o → found_by cmp way_place p b ≡ q → o ≡ q
  by_found p a b None None x y e f = refl
  by_found p a b None (Some v) x y e f = absurd (there p v b a y x f e)
  by_found p a b (Some w) None x y e f = absurd (there p w a b x y e f)
  by_found p a b (Some w) (Some v) x y e f =
      let tie : cmp (way_place w) (way_place v) ≡ Equal = sym (alike cmp total p (way_place w) (way_place v) (found_key cmp total way_place p w a e)) ∙ found_key cmp total way_place p v b f in
      ap Some (one_greatest w v (of_one w.finding v.finding tie) (x.greatest p w e) (y.greatest p v f))

  one_list_of : (a b : List WayFinding) → IsWayListOf Has a → IsWayListOf Has b → a ≡ b
  one_list_of a b x y =
      one_in_order cmp total way_place a b x.rises y.rises (λ p. by_found p a b (found_by cmp way_place p a) (found_by cmp way_place p b) x y refl refl)

pub one_list : (airfields : List Airfield) (way : List Site) (a b : List WayFinding) → IsWayList airfields way a → IsWayList airfields way b → a ≡ b
one_list airfields way = one_list_of _

-- ---- of one station
map_last : (n : ℕ) (done : List Finding) (f : Finding) → map (of_station n) (done ++ f ∷ []) ≡ map (of_station n) done ++ of_station n f ∷ []
map_last n [] f = refl
map_last n (g ∷ gs) f = ap (λ (ws : List WayFinding). of_station n g ∷ ws) (map_last n gs f)

-- one finding more, behind all others
placed_last : (n : ℕ) (done : List Finding) (f : Finding) → All (λ g. cmp (place_of g) (place_of f) ≡ Less) done → with_finding n (map (of_station n) done) f ≡ map (of_station n) (done ++ f ∷ [])
placed_last n done f below =
    let list = map (of_station n) done in
    let behind : All (λ (w : WayFinding). cmp (way_place w) (place_of f) ≡ Less) list = mapped_all (of_station n) (λ w. cmp (way_place w) (place_of f) ≡ Less) done below in
    let none : found_by cmp way_place (place_of f) list ≡ None =
    missing cmp total way_place (place_of f) list (All-weaker (λ (w : WayFinding). cmp (way_place w) (place_of f) ≡ Less) (λ (w : WayFinding). cmp (place_of f) (way_place w) ≢ Equal) (λ w l e. absurd (let g = above cmp total (way_place w) (place_of f) l in cc)) list behind) in
    rw none (put_last cmp total way_place list (of_station n f) behind ∙ sym (map_last n done f))

placed : (n : ℕ) (done rest : List Finding) → All (λ f. All (λ g. cmp (place_of g) (place_of f) ≡ Less) done) rest → AreInOrder rest → with_findings n (map (of_station n) done) rest ≡ map (of_station n) (done ++ rest)
placed n done [] below order = ap (map (of_station n)) (sym (append-nil done))
placed n done (f ∷ fs) below order =
    let Before : Finding → Finding → Type 0 = λ h g. cmp (place_of g) (place_of h) ≡ Less in
    let tail = All-tail (λ h. All (Before h) done) f fs below in
    let next : All (λ h. All (Before h) (done ++ f ∷ [])) fs = λ j d l. All-append (Before (get_or fs j d)) done (f ∷ []) (tail j d l) (All-cons (Before (get_or fs j d)) f [] (order.0 j d l) (All-nil (Before (get_or fs j d)))) in
    ap (λ (ws : List WayFinding). with_findings n ws fs) (placed_last n done f (All-head (λ h. All (Before h) done) f fs below)) ∙ placed n (done ++ f ∷ []) fs next order.1 ∙ ap (map (of_station n)) (append_assoc done (f ∷ []) fs)

pub one_station : (airfields : List Airfield) (site : Site) (list : List WayFinding) → IsRegister airfields → IsWayList airfields (site ∷ []) list → list ≡ map (of_station 1) (findings_of airfields site)
one_station airfields site list register is =
    let own = findings_of airfields site in
    let all : with_findings 1 [] own ≡ map (of_station 1) own = placed 1 [] own (λ j d l. All-nil (λ g. cmp (place_of g) (place_of (get_or own j d)) ≡ Less)) (findings_in_order airfields site register) in
    one_list airfields (site ∷ []) list (with_findings 1 [] own) is (all_stations (map (findings_of airfields) (site ∷ []))) ∙ all
