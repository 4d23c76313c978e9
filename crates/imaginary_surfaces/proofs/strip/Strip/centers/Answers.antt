use Rattle.std.proofs.Common.{◌≡◌, ◌≤◌, ℤ, unsigned_abs, FitsSigned, w64, to_z, of_z, to_z-of_z, arith, ap, subst, refl}
use Rattle.std.proofs.lemmas.Int.{ints}
use Rattle.airfields.specs.declared.runway.Runway.{Runway}
use Rattle.runway_lines.specs.declared.end.End.TheVariants.{One, Two}
use Rattle.imaginary_surfaces.specs.declared.strip.Strip.TheInside.{Inside}
use Rattle.imaginary_surfaces.specs.Approaches.{Approach}
use Rattle.imaginary_surfaces.specs.Prepared.{IsPrepared}
use Rattle.airfields.specs.Runways.{IsProper}
use Rattle.imaginary_surfaces.specs.Shapes.{approach_shape}
use Rattle.runway_lines.specs.Ends.{center_x, center_y, centers}
use Rattle.imaginary_surfaces.specs.Strips.{approach_of}
use Rattle.runway_lines.proofs.AxisFacts.{centers_are}
use Rattle.imaginary_surfaces.proofs.strip.Strip.centers.Goals as goal

first : (r : Runway) (a : Approach) → a ≡ approach_of r One → (a.line.x ≡ center_x r One) × (a.line.y ≡ center_y r One)
unfolding approach_of
first r a e = (ap (λ s. s.line.x) e, ap (λ s. s.line.y) e)

second : (r : Runway) (a : Approach) → a ≡ approach_of r Two → (a.line.x ≡ center_x r Two) × (a.line.y ≡ center_y r Two)
unfolding approach_of
second r a e = (ap (λ s. s.line.x) e, ap (λ s. s.line.y) e)

-- the coordinates as the code hands them out
abbrev handed : ℤ → ℤ
handed x = to_z w64 (of_z w64 x)

plain : (x y : ℤ) → unsigned_abs x ≤ 20002000 → x ≡ y → handed x ≡ y
plain x y h e =
    let f : FitsSigned w64 x = omega (arith, ints, h) in
    simp to_z-of_z e

abbrev tied : ℤ → ℤ → ℤ → ℤ → (ℤ × ℤ) × (ℤ × ℤ)
tied a b d e = ((a, b), (d, e))

all_same : (a a' b b' d d' e e' : ℤ) → a ≡ a' → b ≡ b' → d ≡ d' → e ≡ e' → tied a b d e ≡ tied a' b' d' e'
all_same a a' b b' d d' e e' p q s t = rw (p, q, s, t) refl

told : (i : Inside) (r : Runway) → IsPrepared i.runway i.primary i.approach1 i.approach2 i.clearance → i.runway ≡ r →
    tied (handed i.approach1.axis.from.x) (handed i.approach1.axis.from.y) (handed i.approach2.axis.from.x) (handed i.approach2.axis.from.y) ≡ centers r
told i r p e =
    let from1 = i.approach1.axis.from in
    let from2 = i.approach2.axis.from in
    let one = first i.runway (approach_shape i.approach1) p.approach1_is in
    let two = second i.runway (approach_shape i.approach2) p.approach2_is in
    rw (← e)
    (all_same (handed from1.x) (center_x i.runway One) (handed from1.y) (center_y i.runway One) (handed from2.x) (center_x i.runway Two) (handed from2.y) (center_y i.runway Two)
    (plain from1.x (center_x i.runway One) from1.near.x_size one.0) (plain from1.y (center_y i.runway One) from1.near.y_size one.1)
    (plain from2.x (center_x i.runway Two) from2.near.x_size two.0) (plain from2.y (center_y i.runway Two) from2.near.y_size two.1))

pub returns-clause-value : goal.returns-clause-value
returns-clause-value c = told c.self.inside c.args.self.now c.self.invariant c.self.view_is

pub returns-clause-exact : goal.returns-clause-exact
returns-clause-exact c =
    let proper : IsProper c.args.self.now = subst (λ (r : Runway). IsProper r) c.self.view_is c.self.invariant.proper in
    rw (told c.self.inside c.args.self.now c.self.invariant c.self.view_is) (centers_are c.args.self.now proper.within_length)
