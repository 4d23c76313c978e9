-- What is drawn, by the numbers of the source one after the other.
use Rattle.std.proofs.Common.{arith, ◌≡◌, ℕ, ℤ, pos, ◌+ℤ◌, ◌-ℤ◌, ◌≤ℤ◌, ◌<ℤ◌, List, codes, None, true, false, refl, sym, ap, subst}
use Rattle.std.proofs.lemmas.Int.{ints}
use Rattle.whole_number.specs.Whole.{HasNineDigits}
use Rattle.airfields.specs.Names.{IsFieldId, IsRunwayName}
use Rattle.runway_classes.specs.declared.ApproachKind.{ApproachKind}
use Rattle.airfields.specs.declared.structure.StructureKind.TheVariants.{Object}
use Rattle.airfields.specs.declared.runway.RunwayEnd.{RunwayEnd}
use Rattle.airfields.specs.Sites.{Site, site}
use Rattle.grid_exact.specs.declared.point.Point.{Point}
use Rattle.desk_generator.specs.declared.drawing.DrawnAirport.{DrawnAirport}
use Rattle.desk_generator.specs.declared.drawing.TheConstants.{ELEVATIONS, LEAST_ARM, ARMS, LEAST_HEIGHT, HEIGHTS}
use Rattle.desk_generator.specs.Draws.{next, state_of_draw, drawn, coordinate, approach}
use Rattle.desk_generator.specs.Requests.{IsToldAirport}
use Rattle.desk_generator.proofs.NameFacts.{field_id, is_runway_name}
use Rattle.desk_generator.specs.Drawings.{point, airport_name, runway_end, at_least, airport, no_flags, structure}

-- an airport, of seven draws
pub airport_made : (i s s1 s2 s3 s4 s5 s6 s7 : ℕ) (x y z w e : ℤ) (k l : ApproachKind) (id name : List ℕ) (at : Point) (end1 end2 : RunwayEnd)
    → id ≡ airport_name i → name ≡ codes "09/27" → s1 ≡ next s → s2 ≡ next s1 → s3 ≡ next s2 → s4 ≡ next s3 → s5 ≡ next s4 → s6 ≡ next s5 → s7 ≡ next s6
    → x ≡ coordinate s1 → y ≡ coordinate s2 → z ≡ pos (drawn ELEVATIONS s3) → w ≡ at_least LEAST_ARM ARMS s4 → e ≡ at_least LEAST_ARM ARMS s5
    → k ≡ approach s6 → l ≡ approach s7 → at ≡ point x y → end1 ≡ runway_end (x -ℤ w) y z k → end2 ≡ runway_end (x +ℤ e) y z l
    → record { id = id; at = at; elevation = z; runway = record { name = name; utility = false; hard = true; end1 = end1; end2 = end2 } } ≡ airport i s
unfolding airport
airport_made i s s1 s2 s3 s4 s5 s6 s7 x y z w e k l id name at end1 end2 m n h1 h2 h3 h4 h5 h6 h7 a b c d f g h p q r =
    rw (m, n, p, q, r, a, b, c, d, f, g, h, h7, h6, h5, h4, h3, h2, h1) refl

-- a record can tell it
pub told_made : (i : ℕ) (id name : List ℕ) (at : Point) (z x y u v : ℤ) (k l : ApproachKind) (end1 end2 : RunwayEnd) → id ≡ airport_name i → name ≡ codes "09/27"
    → pos 0 ≤ℤ z → z <ℤ pos ELEVATIONS → end1 ≡ runway_end x y z k → end2 ≡ runway_end u v z l
    → IsToldAirport (record { id = id; at = at; elevation = z; runway = record { name = name; utility = false; hard = true; end1 = end1; end2 = end2 } })
told_made i id name at z x y u v k l end1 end2 m n low high p q =
    let h : HasNineDigits z = (omega (arith, ints), omega (arith, ints)) in
    record {
      elevation = h;
      end1 = subst HasNineDigits (sym (ap (λ (e : RunwayEnd). e.z) p)) h;
      end2 = subst HasNineDigits (sym (ap (λ (e : RunwayEnd). e.z) q)) h;
      id = subst IsFieldId (sym m) (field_id i);
      name = subst IsRunwayName (sym n) is_runway_name;
    }

-- a structure, of four draws
pub structure_made : (s s1 s2 s3 s4 : ℕ) (x y z h : ℤ) (at : Point) → s1 ≡ next s → s2 ≡ next s1 → s3 ≡ next s2 → s4 ≡ next s3
    → x ≡ coordinate s1 → y ≡ coordinate s2 → z ≡ pos (drawn ELEVATIONS s3) → h ≡ at_least LEAST_HEIGHT HEIGHTS s4 → at ≡ point x y
    → site at z h Object (pos 0) no_flags None ≡ structure s
unfolding structure
structure_made s s1 s2 s3 s4 x y z h at h1 h2 h3 h4 a b c d p = rw (p, a, b, c, d, h4, h3, h2, h1) refl
