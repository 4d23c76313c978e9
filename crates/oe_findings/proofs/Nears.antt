-- The surfaces near a point have one number.
use Rattle.std.proofs.Common.{◌≡◌, ℕ, ◌+◌, List, [], ◌∷◌, map, refl, sym, ap, ◌∙◌, subst, count_by}
use Rattle.std.proofs.Math.Logic.{∥∥₁_elim, ∥∥₁_map}
use Rattle.grid_exact.specs.declared.area.Area.{Area}
use Rattle.grid_exact.specs.declared.point.Point.{Point}
use Rattle.airfields.specs.declared.airfield.Airfield.{Airfield}
use Rattle.surface_tree.specs.Visits.{near_area}
use Rattle.airfield_findings.proofs.Once.{areas_same}
use Rattle.airfield_findings.specs.Prepared.{airfield_of}
use Rattle.airfield_findings.specs.declared.prepared.Prepared.{Prepared}
use Rattle.oe_findings.specs.Nearness.{AreNear, HasOneNear}

-- what is prepared of an airfield has its areas
some_near : (items : List Prepared) (x : Point) → ∥ ((n : ℕ) × AreNear (map airfield_of items) x n) ∥₁
some_near [] x = ∣ (0, refl) ∣₁
some_near (p ∷ ps) x =
    ∥∥₁_elim p.in_place.is_plot.some_areas squash₁ (λ own.
    ∥∥₁_map (some_near ps x) (λ rest. (count_by (λ a. near_area x a) own.0 + rest.0, (own.0, rest.0, own.1, rest.1, refl))))

pub near_once : (fields : List Airfield) (x : Point) (n m : ℕ) → AreNear fields x n → AreNear fields x m → n ≡ m
near_once [] x n m h k = h ∙ sym k
near_once (f ∷ fs) x n m h k =
    let areas = areas_same f h.0 k.0 h.2 k.2 in
    let rest = near_once fs x h.1 k.1 h.3 k.3 in
    h.4 ∙ (λ i. count_by (λ a. near_area x a) (areas i) + rest i) ∙ sym k.4

pub one_near : (items : List Prepared) (fields : List Airfield) → map airfield_of items ≡ fields → (x : Point) → HasOneNear fields x
one_near items fields e x = record {
  some_number = subst (λ (fs : List Airfield). ∥ ((n : ℕ) × AreNear fs x n) ∥₁) e (some_near items x);
  one_number = near_once fields x;
}
