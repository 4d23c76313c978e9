-- The derived test of two points says whether they are one.
use Rattle.std.proofs.Common.{◌≡◌, refl, ap, subst, ℤ, ◌≤ℤ◌, Bool, true, false}
use Rattle.std.specs.Bool.{Decides}
use Rattle.std.proofs.lemmas.Bool.Decides.{Decides-and, Decides-int_eq, Decides-like}
use lib.Dec.{T}
use lib.Signed.{le_z}
use Rattle.grid_exact.specs.Grid.{OnGrid}
use Rattle.grid_exact.specs.declared.point.Point.{Point}
use Rattle.grid_exact.specs.contracts.point.PointPartialEq.TheImpl.{eq-value as point_eq}

-- two proofs of one limit are one
truth_prop : (b : Bool) (p q : T b) → p ≡ q
truth_prop true p q = refl
truth_prop false p q = absurd p

le_prop : (a b : ℤ) (p q : a ≤ℤ b) → p ≡ q
le_prop a b p q = ap (λ (t : T (le_z a b)). let r : a ≤ℤ b = record { le = t } in r) (truth_prop (le_z a b) p.le q.le)

grid_prop : (x y : ℤ) (p q : OnGrid x y) → p ≡ q
grid_prop x y p q = λ i. record {
  west = le_prop _ _ p.west q.west i;
  east = le_prop _ _ p.east q.east i;
  south = le_prop _ _ p.south q.south i;
  north = le_prop _ _ p.north q.north i;
}

made_point : (x y : ℤ) → OnGrid x y → Point
made_point x y g = record { x = x; y = y; on_grid = g }

one_place : (x y u v : ℤ) (g : OnGrid x y) (h : OnGrid u v) → x ≡ u → y ≡ v → made_point x y g ≡ made_point u v h
one_place x y u v g h p q =
    subst (λ u. (h : OnGrid u v) → made_point x y g ≡ made_point u v h) p
    (subst (λ v. (h : OnGrid x v) → made_point x y g ≡ made_point x v h) q (λ h. ap (made_point x y) (grid_prop x y g h))) h

one_point : (p q : Point) → p.x ≡ q.x → p.y ≡ q.y → p ≡ q
unfolding made_point
one_point p q e f = one_place p.x p.y q.x q.y p.on_grid q.on_grid e f

pub same_point : (p q : Point) → Decides (point_eq.it p q) (p ≡ q)
same_point p q =
    Decides-like _ (λ h. one_point p q h.0 h.1) (λ e. (ap (λ p. p.x) e, ap (λ p. p.y) e)) (Decides-and _ _ (Decides-int_eq p.x q.x) (Decides-int_eq p.y q.y))
