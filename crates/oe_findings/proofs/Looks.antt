-- How many airfields a search looks at: each has a surface near the point.
use Rattle.std.proofs.Common.{◌≡◌, ℕ, ◌+◌, ◌≤◌, List, [], ◌∷◌, Bool, true, false, ◌||◌, true≢false, map, refl, sym, subst, arith, cond, count_by}
use Rattle.std.specs.List.{list_any}
use Rattle.std.proofs.lemmas.List.Sums.{sum_by-cons}
use Rattle.grid_exact.specs.declared.area.Area.{Area}
use Rattle.grid_exact.specs.declared.point.Point.{Point}
use Rattle.airfields.specs.declared.airfield.Airfield.{Airfield}
use Rattle.surface_tree.specs.Visits.{close_area, near_area}
use Rattle.surface_tree.specs.declared.square.TheConstants.{TOP_LEVEL}
use Rattle.airfield_findings.specs.Prepared.{airfield_of}
use Rattle.airfield_findings.specs.declared.prepared.Prepared.{Prepared}
use Rattle.oe_findings.specs.Nearness.{AreNear}

one_counted : {X : Type 0} (p : X → Bool) (x : X) (xs : List X) → count_by p (x ∷ xs) ≡ cond (p x) 1 0 + count_by p xs
one_counted p x xs = sum_by-cons (λ y. cond (p y) 1 0) x xs

-- where one passes, at least one is counted
any_step : (b c : Bool) (k : ℕ) → (b || c) ≡ true → (c ≡ true → 1 ≤ k) → 1 ≤ cond b 1 0 + k
any_step true c k h r = omega arith
any_step false c k h r = omega (arith, r h)

any_counted : {X : Type 0} (p : X → Bool) (xs : List X) → list_any p xs ≡ true → 1 ≤ count_by p xs
any_counted p [] h = absurd (true≢false (sym h))
any_counted p (x ∷ xs) h = omega (arith, one_counted p x xs, any_step (p x) (list_any p xs) (count_by p xs) h (any_counted p xs))

one_more : (b : Bool) (c k n : ℕ) → (b ≡ true → 1 ≤ c) → k ≤ n → cond b 1 0 + k ≤ c + n
one_more true c k n h l = omega (arith, h refl, l)
one_more false c k n h l = omega (arith, l)

-- the airfields that are close are no more than the surfaces near the point
near_items : (x : Point) (all : List Prepared) (n : ℕ) → AreNear (map airfield_of all) x n → count_by (λ p. close_area x p.plot) all ≤ n
near_items x [] n h = omega arith
near_items x (p ∷ ps) n h =
    let near : Area → Bool = λ a. near_area x a in
    let close : Prepared → Bool = λ i. close_area x i.plot in
    let step = one_more (close p) (count_by near h.0) (count_by close ps) h.1 (λ e. any_counted near h.0 (p.in_place.is_plot.seen h.0 h.2 x e)) (near_items x ps h.1 h.3) in
    omega (arith, one_counted close p ps, step, h.4)

pub near_steps : (all : List Prepared) (airfields : List Airfield) (x y : Point) (before after : ℕ) → map airfield_of all ≡ airfields → x ≡ y
    → after ≤ before + (TOP_LEVEL + 1) + count_by (λ p. close_area x p.plot) all → (n : ℕ) → AreNear airfields y n → after ≤ before + (TOP_LEVEL + 1) + n
near_steps all airfields x y before after e at l n h =
    let near : AreNear (map airfield_of all) x n = subst (λ (z : Point). AreNear (map airfield_of all) z n) (sym at) (subst (λ (fs : List Airfield). AreNear fs y n) (sym e) h) in
    omega (arith, l, near_items x all n near)
