-- One more finding of a later station, put into its place, makes the list that of one finding more.
use Rattle.std.proofs.Common.{◌≡◌, ◌≢◌, ◌∙◌, ◌⊎◌, inl, inr, ℕ, ◌+◌, ◌<◌, ◌≤◌, arith, List, [], ◌∷◌, Option, Some, None, cond, ap, sym, refl, subst}
use Rattle.std.specs.Prelude.{nat_le}
use Rattle.std.specs.List.{Contains}
use Rattle.std.specs.declared.cmp.Ordering.{Ordering}
use Rattle.std.specs.declared.cmp.Ordering.TheVariants.{Less, Equal, Greater}
use Rattle.std.proofs.lemmas.Bool.{cases_Bool, leb-false, leb-true}
use Rattle.std.proofs.lemmas.Cmp.{tied_itself}
use Rattle.std.proofs.lemmas.List.Elements.{Contains-append_cases, Contains-append_left, Contains-append_right, Contains-push, Contains-push_cases}
use Rattle.ordered_list.specs.Ordered.{found_by, put_by}
use Rattle.ordered_list.proofs.Finding.{found_by-put_other, found_by-put_same}
use Rattle.ordered_list.proofs.Orders.{alike}
use Rattle.ordered_list.proofs.Rising.{Rises-put, found_key}
use Rattle.finding_lists.specs.declared.finding.Finding.{Finding}
use Rattle.oe_stations.specs.Merging.{is_covered, with_finding, with_findings, with_lists}
use Rattle.oe_stations.specs.Order.{place_of}
use Rattle.oe_stations.specs.Ways.{AreOfOne, HasFrom, IsGreatest, IsWayListOf, of_station, way_place}
use Rattle.oe_stations.specs.declared.place.Place.{Place}
use Rattle.oe_stations.specs.declared.way_list.WayFinding.{WayFinding}
use Rattle.oe_stations.specs.contracts.place.PlaceOrd.TheImpl as places
use Rattle.oe_stations.proofs.Places.{of_one, one_place, total}

abbrev cmp : Place → Place → Ordering
cmp = places.ghosts.cmp

-- the findings of stations, and one more of station n
abbrev and_one : (ℕ → Finding → Type 0) → ℕ → Finding → ℕ → Finding → Type 0
and_one Has n f k g = Has k g ⊎ ((k ≡ n) × (g ≡ f))

abbrev and_all : (ℕ → Finding → Type 0) → ℕ → List Finding → ℕ → Finding → Type 0
and_all Has n fs k g = Has k g ⊎ ((k ≡ n) × Contains fs g)

abbrev and_from : (ℕ → Finding → Type 0) → ℕ → List (List Finding) → ℕ → Finding → Type 0
and_from Has n lists k g = Has k g ⊎ HasFrom n lists k g

-- ---- what is found
pub found_alike : (p q : Place) (xs : List WayFinding) → cmp p q ≡ Equal → found_by cmp way_place p xs ≡ found_by cmp way_place q xs
found_alike p q [] e = refl
found_alike p q (x ∷ xs) e =
    let a : cmp p (way_place x) ≡ cmp q (way_place x) = alike cmp total p q (way_place x) e in
    let r : found_by cmp way_place p xs ≡ found_by cmp way_place q xs = found_alike p q xs e in
    rw (a, r) refl

-- ---- the same findings, said in another way
pub same_findings : (Has Has' : ℕ → Finding → Type 0) (list : List WayFinding) → ((k : ℕ) (g : Finding) → Has k g → Has' k g) → ((k : ℕ) (g : Finding) → Has' k g → Has k g) →
    IsWayListOf Has list → IsWayListOf Has' list
same_findings Has Has' list out back h = record {
  rises = h.rises;
  greatest = λ p w e. (let g : IsGreatest Has w = h.greatest p w e in record {
    stands = out w.station w.finding g.stands;
    most = λ k f x one. g.most k f (back k f x) one;
    first = λ k f x one l. g.first k f (back k f x) one l;
  });
  complete = λ k f x. h.complete k f (back k f x);
}

-- ---- one finding more
module _ (Has : ℕ → Finding → Type 0) (n : ℕ) (f : Finding) (list : List WayFinding) (old : IsWayListOf Has list) (bound : (k : ℕ) (g : Finding) → Has k g → k ≤ n) where
  -- an entry stays, where the new finding is not above it
  kept : (w : WayFinding) → IsGreatest Has w → (AreOfOne f w.finding → f.excess ≤ w.finding.excess) → IsGreatest (and_one Has n f) w
  kept w g not_above = record {
    stands = inl g.stands;
    most = λ k x has one. elim has [
      | inl h ↦ g.most k x h one
      | inr e ↦ (let o : AreOfOne f w.finding = subst (λ (y : Finding). AreOfOne y w.finding) e.1 one in subst (λ (y : Finding). y.excess ≤ w.finding.excess) (sym e.1) (not_above o))
    ];
    first = λ k x has one l. elim has [
      | inl h ↦ g.first k x h one l
      | inr e ↦ absurd (let b : w.station ≤ n = bound w.station w.finding g.stands in let q : k ≡ n = e.0 in omega (arith, b, q, l))
    ];
  }

  -- the new finding is the greatest, where all before are below it
  taken : ((k : ℕ) (g : Finding) → Has k g → AreOfOne g f → g.excess < f.excess) → IsGreatest (and_one Has n f) (of_station n f)
  taken below = record {
    stands = inr (refl, refl);
    most = λ k x has one. elim has [
      | inl h ↦ omega (arith, below k x h one)
      | inr e ↦ (let q : x.excess ≡ f.excess = ap (λ (y : Finding). y.excess) e.1 in omega (arith, q))
    ];
    first = λ k x has one l. elim has [
      | inl h ↦ below k x h one
      | inr e ↦ absurd (let q : k ≡ n = e.0 in omega (arith, q, l))
    ];
  }

  -- the list with the new finding in its place
  abbrev after : List WayFinding
  after = put_by cmp way_place (of_station n f) list

  put_other : (p : Place) (w : WayFinding) → cmp p (place_of f) ≢ Equal → found_by cmp way_place p after ≡ Some w → IsGreatest (and_one Has n f) w
  put_other p w other h =
      let before : found_by cmp way_place p list ≡ Some w = sym (found_by-put_other cmp total way_place p (of_station n f) list other) ∙ h in
      let key : cmp p (way_place w) ≡ Equal = found_key cmp total way_place p w list before in
      kept w (old.greatest p w before) (λ one. absurd (other (subst (λ (q : Place). cmp p q ≡ Equal) (sym (one_place f w.finding one)) key)))

  put_found : ((k : ℕ) (g : Finding) → Has k g → AreOfOne g f → g.excess < f.excess) → (p : Place) (w : WayFinding) (o : Ordering) → cmp p (place_of f) ≡ o →
      found_by cmp way_place p after ≡ Some w → IsGreatest (and_one Has n f) w
  put_found below p w Equal e h =
      let s : found_by cmp way_place p after ≡ Some (of_station n f) = found_by-put_same cmp total way_place p (of_station n f) list e in
      let q : of_station n f ≡ w = cc in
      subst (IsGreatest (and_one Has n f)) q (taken below)
  put_found below p w Less e h = put_other p w (λ q. absurd (let d : Less ≡ Equal = sym e ∙ q in cc)) h
  put_found below p w Greater e h = put_other p w (λ q. absurd (let d : Greater ≡ Equal = sym e ∙ q in cc)) h

  still_there : (q : Place) → found_by cmp way_place q list ≢ None → (o : Ordering) → cmp q (place_of f) ≡ o → found_by cmp way_place q after ≡ None → ⊥
  still_there q there Equal e h = let s : found_by cmp way_place q after ≡ Some (of_station n f) = found_by-put_same cmp total way_place q (of_station n f) list e in cc
  still_there q there Less e h = there (sym (found_by-put_other cmp total way_place q (of_station n f) list (λ d. absurd (let x : Less ≡ Equal = sym e ∙ d in cc))) ∙ h)
  still_there q there Greater e h = there (sym (found_by-put_other cmp total way_place q (of_station n f) list (λ d. absurd (let x : Greater ≡ Equal = sym e ∙ d in cc))) ∙ h)

  new_there : (g : Finding) → g ≡ f → found_by cmp way_place (place_of g) after ≡ None → ⊥
  new_there g e h =
      let t : cmp (place_of g) (place_of f) ≡ Equal = subst (λ (y : Finding). cmp (place_of y) (place_of f) ≡ Equal) (sym e) (tied_itself total (place_of f)) in
      let s : found_by cmp way_place (place_of g) after ≡ Some (of_station n f) = found_by-put_same cmp total way_place (place_of g) (of_station n f) list t in cc

  put_in : ((k : ℕ) (g : Finding) → Has k g → AreOfOne g f → g.excess < f.excess) → IsWayListOf (and_one Has n f) after
  put_in below = record {
    rises = Rises-put cmp total way_place (of_station n f) list old.rises;
    greatest = λ p w h. put_found below p w (cmp p (place_of f)) refl h;
    complete = λ k g has h. elim has [
      | inl x ↦ still_there (place_of g) (old.complete k g x) (cmp (place_of g) (place_of f)) refl h
      | inr e ↦ new_there g e.1 h
    ];
  }

  left_out : (w : WayFinding) → found_by cmp way_place (place_of f) list ≡ Some w → f.excess ≤ w.finding.excess → IsWayListOf (and_one Has n f) list
  left_out w e l = record {
    rises = old.rises;
    greatest = λ p v h. kept v (old.greatest p v h) (λ one.
        let key : cmp p (way_place v) ≡ Equal = found_key cmp total way_place p v list h in
        let t : cmp p (place_of f) ≡ Equal = subst (λ (q : Place). cmp p q ≡ Equal) (sym (one_place f v.finding one)) key in
        let a : found_by cmp way_place p list ≡ found_by cmp way_place (place_of f) list = found_alike p (place_of f) list t in
        let q : w ≡ v = cc in
        subst (λ (x : WayFinding). f.excess ≤ x.finding.excess) q l);
    complete = λ k g has h. elim has [
      | inl x ↦ old.complete k g x h
      | inr q ↦ (let m : found_by cmp way_place (place_of f) list ≡ None = subst (λ (y : Finding). found_by cmp way_place (place_of y) list ≡ None) q.1 h in cc)
    ];
  }

  above_all : (w : WayFinding) → found_by cmp way_place (place_of f) list ≡ Some w → w.finding.excess < f.excess → (k : ℕ) (g : Finding) → Has k g → AreOfOne g f → g.excess < f.excess
  above_all w e l k g has one =
      let key : cmp (place_of f) (way_place w) ≡ Equal = found_key cmp total way_place (place_of f) w list e in
      let o : AreOfOne f w.finding = of_one f w.finding key in
      let m : g.excess ≤ w.finding.excess = (old.greatest (place_of f) w e).most k g has (one.0 ∙ o.0, one.1 ∙ o.1) in
      omega (arith, m, l)

  by_found : (o : Option WayFinding) → found_by cmp way_place (place_of f) list ≡ o → IsWayListOf (and_one Has n f) (cond (is_covered f o) list after)
  by_found None e = put_in (λ k g has one. absurd (old.complete k g has (subst (λ (q : Place). found_by cmp way_place q list ≡ None) (sym (one_place g f one)) e)))
  by_found (Some w) e =
      elim (cases_Bool (nat_le f.excess w.finding.excess)) [
        | inl t ↦ rw t (left_out w e (leb-true f.excess w.finding.excess t))
        | inr t ↦ rw t (put_in (above_all w e (leb-false f.excess w.finding.excess t)))
      ]

  pub one_more : IsWayListOf (and_one Has n f) (with_finding n list f)
  one_more = by_found (found_by cmp way_place (place_of f) list) refl

-- ---- the findings of one station
no_first : {A : Type 0} (x : A) → Contains [] x → ⊥
no_first x h = omega (arith, h.1)

contains_one : (f g : Finding) → Contains (f ∷ []) g → g ≡ f
contains_one f g h = elim (Contains-push_cases [] f g h) [ inl n ↦ absurd (no_first g n) | inr e ↦ sym e ]

pub all_more : (Has : ℕ → Finding → Type 0) (n : ℕ) (fs : List Finding) (list : List WayFinding) → IsWayListOf Has list → ((k : ℕ) (g : Finding) → Has k g → k ≤ n) → IsWayListOf (and_all Has n fs) (with_findings n list fs)
all_more Has n [] list old bound =
    same_findings Has (and_all Has n []) list (λ k g h. inl h) (λ k g h. elim h [ inl x ↦ x | inr x ↦ absurd (no_first g x.1) ]) old
all_more Has n (f ∷ fs) list old bound =
    let one = one_more Has n f list old bound in
    let rest = all_more (and_one Has n f) n fs (with_finding n list f) one (λ k g h. elim h [ inl x ↦ bound k g x | inr e ↦ (let q : k ≡ n = e.0 in omega (arith, q)) ]) in
    same_findings (and_all (and_one Has n f) n fs) (and_all Has n (f ∷ fs)) (with_findings n (with_finding n list f) fs)
    (λ k g h. elim h [
      | inl x ↦ elim x [ inl y ↦ inl y | inr e ↦ inr (e.0, subst (λ (y : Finding). Contains (f ∷ fs) y) (sym e.1) (Contains-append_left (f ∷ []) fs f (Contains-push [] f))) ]
      | inr x ↦ inr (x.0, Contains-append_right (f ∷ []) fs g x.1)
    ])
    (λ k g h. elim h [
      | inl x ↦ inl (inl x)
      | inr x ↦ elim (Contains-append_cases (f ∷ []) fs g x.1) [ inl y ↦ inl (inr (x.0, contains_one f g y)) | inr y ↦ inr (x.0, y) ]
    ])
    rest

-- ---- the stations one after another
pub lists_more : (Has : ℕ → Finding → Type 0) (n : ℕ) (lists : List (List Finding)) (list : List WayFinding) → IsWayListOf Has list → ((k : ℕ) (g : Finding) → Has k g → k ≤ n) → IsWayListOf (and_from Has n lists) (with_lists n list lists)
lists_more Has n [] list old bound = same_findings Has (and_from Has n []) list (λ k g h. inl h) (λ k g h. elim h [ inl x ↦ x | inr x ↦ absurd x ]) old
lists_more Has n (fs ∷ lists) list old bound =
    let one = all_more Has n fs list old bound in
    let rest = lists_more (and_all Has n fs) (n + 1) lists (with_findings n list fs) one (λ k g h. elim h [ inl x ↦ omega (arith, bound k g x) | inr e ↦ (let q : k ≡ n = e.0 in omega (arith, q)) ]) in
    same_findings (and_from (and_all Has n fs) (n + 1) lists) (and_from Has n (fs ∷ lists)) (with_lists (n + 1) (with_findings n list fs) lists)
    (λ k g h. elim h [
      | inl x ↦ elim x [ inl y ↦ inl y | inr y ↦ inr (inl y) ]
      | inr x ↦ inr (inr x)
    ])
    (λ k g h. elim h [
      | inl x ↦ inl (inl x)
      | inr x ↦ elim x [ inl y ↦ inl (inr y) | inr y ↦ inr y ]
    ])
    rest

-- the list of all stations
pub all_stations : (lists : List (List Finding)) → IsWayListOf (HasFrom 1 lists) (with_lists 1 [] lists)
all_stations lists =
    let start : IsWayListOf (λ (k : ℕ) (g : Finding). ⊥) [] = record { rises = tt; greatest = λ p w e. absurd (cc); complete = λ k f h. absurd h } in
    same_findings (and_from (λ (k : ℕ) (g : Finding). ⊥) 1 lists) (HasFrom 1 lists) (with_lists 1 [] lists) (λ k g h. elim h [ inl x ↦ absurd x | inr x ↦ x ]) (λ k g h. inr h)
    (lists_more (λ (k : ℕ) (g : Finding). ⊥) 1 lists [] start (λ k g h. absurd h))
