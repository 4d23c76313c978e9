use Rattle.std.proofs.Common.{FitsSigned, w64, to_z-of_z, arith, sym, subst}
use Rattle.std.proofs.lemmas.Int.{ints}
use Rattle.airfields.specs.declared.runway.Runway.{Runway}
use Rattle.airfields.specs.Runways.{IsProper}
use Rattle.runway_lines.specs.declared.end.End.TheVariants.{One, Two}
use Rattle.imaginary_surfaces.proofs.ZoneFacts.{along_first, along_second, not_ahead}
use Rattle.imaginary_surfaces.proofs.strip.Strip.excesses_between.Goals as goal

pub returns : goal.returns
returns c =
    let r = c.args.self.now in
    let x = c.args.x.now in
    let cap = c.args.cap.now in
    let top = c.args.top in
    let ft : FitsSigned w64 top = c.ranges.top in
    let p : IsProper r = subst (λ (q : Runway). IsProper q) c.self.view_is c.self.invariant.proper in
    let first = not_ahead r One x top cap p c.requires.top (omega (arith, ints, along_first r x, c.requires.past_start)) in
    let second = not_ahead r Two x top cap p c.requires.top (omega (arith, ints, along_second r x, c.requires.before_end)) in
    record {
      value = record {
        primary = simp to_z-of_z at c.over_primary.ensures.value;
        approach1 = sym first.over;
        approach2 = sym second.over;
        beside_primary = simp to_z-of_z at c.beside_primary.ensures.value;
        beside_approach1 = sym first.beside;
        beside_approach2 = sym second.beside;
      };
    }
