use Rattle.std.proofs.Common.{◌≡◌, ◌≤◌, ◌^◌, ◌*◌, None, Some, ℤ, pos, ◌-ℤ◌, ◌+ℤ◌, ◌≤ℤ◌, ◌<ℤ◌, unsigned_abs, FitsSigned, w64, to_z, of_z, to_z-of_z, arith, refl, ap, subst, sym}
use Rattle.std.proofs.lemmas.Int.{ints}
use Rattle.grid_exact.proofs.Booleans.{not_from_false}
use Rattle.grid_exact.specs.declared.point.Point.{Point}
use Rattle.grid_exact.specs.Excess.{ExceedsBy}
use Rattle.grid_exact.specs.Level.{IsLevel}
use Rattle.horizontal_hull.specs.declared.sizes.TheConstants.{CONICAL_RISE, CONICAL_SLOPE}
use Rattle.horizontal_hull.specs.declared.edge.Edge.TheVariants.{Open}
use Rattle.horizontal_hull.specs.Arcs.{Dome}
use Rattle.horizontal_hull.specs.Within.{AboveConical, ConicalCovers, IsLeastConical, Within, conical}
use Rattle.horizontal_hull.proofs.Conical.{AboveConical_rises, conical_exceeds, least_range, under_top}
use Rattle.horizontal_hull.proofs.Listed.{conical_listed}
use Rattle.horizontal_hull.proofs.hull.Hull.excess_over_conical.Goals as goal
use Rattle.horizontal_hull.proofs.hull.Hull.excess_over_conical.Goals.{After-rise-1, Else-least-top, Else-not-is_within_beyond, Then-least-top, Then-not-is_within_beyond, Then-top-least}

-- the least level lies between the horizontal surface's and the outer edge's, and all of them are small
record IsOver (level least : ℤ) : Type 0 where
  low : level ≤ℤ least
  high : least ≤ℤ (level +ℤ pos CONICAL_RISE)
  size : unsigned_abs level ≤ 2 ^ 18

over : (d : Dome) (x : Point) (level least : ℤ) → level ≡ d.level → unsigned_abs level ≤ 2 ^ 18 → ConicalCovers d x → IsLeastConical d x least → IsOver level least
over d x level least e s covers h =
    let r = least_range d x least covers.within_outer h in
    record { low = omega (arith, ints, r.0, e); high = omega (arith, ints, r.1, e); size = s }

first : (c : After-rise-1) → IsOver c.self.inside.level c.args.least
first c = over c.args.self.now c.args.x.now c.self.inside.level c.args.least (ap (λ d. d.level) c.self.view_is) c.self.invariant.level_size c.requires.covers c.requires.least

above : (c : Then-least-top) → IsOver c.self.inside.level c.args.least
above c = over c.args.self.now c.args.x.now c.self.inside.level c.args.least (ap (λ d. d.level) c.self.view_is) c.self.invariant.level_size c.requires.covers c.requires.least

-- differences as the code computes them
rise_is : (level least : ℤ) → IsOver level least → to_z w64 (of_z w64 (to_z w64 (of_z w64 least) -ℤ to_z w64 (of_z w64 level))) ≡ least -ℤ level
rise_is level least h =
    let fl : FitsSigned w64 level = omega (arith, ints, h.size) in
    let fz : FitsSigned w64 least = omega (arith, ints, h.size, h.low, h.high) in
    let fd : FitsSigned w64 (least -ℤ level) = omega (arith, ints, h.size, h.low, h.high) in
    simp to_z-of_z refl

excess_is : (level least top : ℤ) → IsOver level least → IsLevel top → to_z w64 (of_z w64 (to_z w64 (of_z w64 top) -ℤ to_z w64 (of_z w64 least))) ≡ top -ℤ least
excess_is level least top h t =
    let ft : FitsSigned w64 top = omega (arith, ints, t.low, t.high) in
    let fz : FitsSigned w64 least = omega (arith, ints, h.size, h.low, h.high) in
    let fd : FitsSigned w64 (top -ℤ least) = omega (arith, ints, h.size, h.low, h.high, t.low, t.high) in
    simp to_z-of_z refl

pub overflow_sub-rise : goal.overflow_sub-rise
overflow_sub-rise c = let h = first c in omega (arith, ints, h.size, h.low, h.high)

pub overflow_cast-rise : goal.overflow_cast-rise
overflow_cast-rise c = let h = first c in rw (rise_is c.self.inside.level c.args.least h) (omega (arith, ints, h.low, h.high), omega (arith, ints, h.low, h.high))

-- ---- below the least level
not_under : (c : Then-top-least) → ConicalCovers c.args.self.now c.args.x.now × AboveConical c.args.self.now c.args.x.now c.args.top → ⊥
not_under c = λ p. omega (arith, ints, under_top c.args.self.now c.args.x.now c.args.top c.args.least c.requires.least p.1, c.if-top-least.true)

pub returns-then-top-least-clause-exact : goal.returns-then-top-least-clause-exact
returns-then-top-least-clause-exact c = not_under c

pub returns-then-top-least-clause-value : goal.returns-then-top-least-clause-value
returns-then-top-least-clause-value c = conical_listed c.args.self.now c.args.x.now c.args.top None tt (not_under c)

-- ---- above it
size : (level least top : ℤ) → IsOver level least → IsLevel top → unsigned_abs (top -ℤ least) ≤ 2 ^ 26
size level least top h t = omega (arith, ints, h.size, h.low, h.high, t.low, t.high)

exceeds : (c : Then-least-top) → ExceedsBy (conical c.args.self.now c.args.x.now) c.args.top (unsigned_abs (c.args.top -ℤ c.args.least))
exceeds c =
    let l : c.args.least <ℤ c.args.top = omega (arith, ints, c.if-least-top.true) in
    let least = c.requires.least in
    conical_exceeds c.args.self.now c.args.x.now c.args.top c.args.least c.requires.covers least (AboveConical_rises c.args.self.now c.args.x.now c.args.least c.args.top l least.reaches)

pub returns-then-least-top-clause-exact : goal.returns-then-least-top-clause-exact
returns-then-least-top-clause-exact c = rw (excess_is c.self.inside.level c.args.least c.args.top (above c) c.requires.top) (exceeds c)

pub returns-then-least-top-clause-value : goal.returns-then-least-top-clause-value
returns-then-least-top-clause-value c =
    let top = c.args.top in
    let least = c.args.least in
    rw (excess_is c.self.inside.level least top (above c) c.requires.top)
    (conical_listed c.args.self.now c.args.x.now top (Some (unsigned_abs (top -ℤ least))) (size c.self.inside.level least top (above c) c.requires.top) (exceeds c))

-- ---- at it
at : (c : Else-least-top) → IsOver c.self.inside.level c.args.least
at c = over c.args.self.now c.args.x.now c.self.inside.level c.args.least (ap (λ d. d.level) c.self.view_is) c.self.invariant.level_size c.requires.covers c.requires.least

pub is_within_beyond-requires-clause-run : goal.is_within_beyond-requires-clause-run
is_within_beyond-requires-clause-run c = let h = at c in rw (rise_is c.self.inside.level c.args.least h) (omega (arith, ints, h.low, h.high))

strictly_at : (d : Dome) (x : Point) (level least top : ℤ) → level ≡ d.level → top ≡ least → AboveConical d x top → Within Open d.arcs x (CONICAL_SLOPE * unsigned_abs (least -ℤ level))
strictly_at d x level least top e t h =
    subst (λ z. Within Open d.arcs x (CONICAL_SLOPE * unsigned_abs (least -ℤ z))) (sym e) (subst (λ z. Within Open d.arcs x (CONICAL_SLOPE * unsigned_abs (z -ℤ d.level))) t h.strictly)

not_above : (c : Then-not-is_within_beyond) → ConicalCovers c.args.self.now c.args.x.now × AboveConical c.args.self.now c.args.x.now c.args.top → ⊥
not_above c =
    let e : c.self.inside.level ≡ c.args.self.now.level = ap (λ d. d.level) c.self.view_is in
    let h = over c.args.self.now c.args.x.now c.self.inside.level c.args.least e c.self.invariant.level_size c.requires.covers c.requires.least in
    let t : c.args.top ≡ c.args.least = omega (arith, ints, c.if-top-least.false, c.if-least-top.false) in
    let n = not_from_false c.is_within_beyond.result (rw (rise_is c.self.inside.level c.args.least h) at c.is_within_beyond.ensures.1) c.if-not-is_within_beyond.true in
    λ p. n (strictly_at c.args.self.now c.args.x.now c.self.inside.level c.args.least c.args.top e t p.1)

pub returns-then-not-is_within_beyond-clause-exact : goal.returns-then-not-is_within_beyond-clause-exact
returns-then-not-is_within_beyond-clause-exact c = not_above c

pub returns-then-not-is_within_beyond-clause-value : goal.returns-then-not-is_within_beyond-clause-value
returns-then-not-is_within_beyond-clause-value c = conical_listed c.args.self.now c.args.x.now c.args.top None tt (not_above c)

none : (d : Dome) (x : Point) (level least top : ℤ) → level ≡ d.level → top ≡ least → IsOver level least → ConicalCovers d x → IsLeastConical d x least →
    Within Open d.arcs x (CONICAL_SLOPE * unsigned_abs (least -ℤ level)) → ExceedsBy (conical d x) top 0
none d x level least top e t h covers l w =
    let above : AboveConical d x top = record {
      not_below = omega (arith, ints, h.low, e, t);
      strictly = subst (λ z. Within Open d.arcs x (CONICAL_SLOPE * unsigned_abs (z -ℤ d.level))) (sym t) (subst (λ z. Within Open d.arcs x (CONICAL_SLOPE * unsigned_abs (least -ℤ z))) e w);
    } in
    let zero : unsigned_abs (top -ℤ least) ≡ 0 = omega (arith, ints, t) in
    subst (λ n. ExceedsBy (conical d x) top n) zero (conical_exceeds d x top least covers l above)

level : (c : Else-not-is_within_beyond) → ExceedsBy (conical c.args.self.now c.args.x.now) c.args.top 0
level c =
    let h = over c.args.self.now c.args.x.now c.self.inside.level c.args.least (ap (λ d. d.level) c.self.view_is) c.self.invariant.level_size c.requires.covers c.requires.least in
    let t : c.args.top ≡ c.args.least = omega (arith, ints, c.if-top-least.false, c.if-least-top.false) in
    none c.args.self.now c.args.x.now c.self.inside.level c.args.least c.args.top (ap (λ d. d.level) c.self.view_is) t h c.requires.covers c.requires.least
    (rw (rise_is c.self.inside.level c.args.least h) at (c.is_within_beyond.ensures.0 c.if-not-is_within_beyond.false))

pub returns-clause-exact : goal.returns-clause-exact
returns-clause-exact c = level c

pub returns-clause-value : goal.returns-clause-value
returns-clause-value c = conical_listed c.args.self.now c.args.x.now c.args.top (Some 0) (omega arith) (level c)
