use Rattle.std.proofs.Common.{FitsSigned, w64, to_z-of_z, arith, sym}
use Rattle.std.proofs.lemmas.Int.{ints}
use Rattle.runway_lines.specs.declared.end.End.TheVariants.{Two}
use Rattle.imaginary_surfaces.proofs.ZoneFacts.{along_second, before_start, not_ahead}
use Rattle.imaginary_surfaces.proofs.PlaceFacts.{by_first}
use Rattle.imaginary_surfaces.proofs.strip.Strip.excesses_before.Goals as goal

pub returns : goal.returns
returns c =
    let r = c.args.self.now in
    let x = c.args.x.now in
    let cap = c.args.cap.now in
    let top = c.args.top in
    let ft : FitsSigned w64 top = c.ranges.top in
    let p = c.excesses_at-ahead.ensures.proper in
    let none = before_start r x top cap p c.requires.top c.requires.before in
    let other = not_ahead r Two x top cap p c.requires.top (omega (arith, ints, along_second r x, c.requires.before)) in
    record {
      value = record {
        primary = sym none.over;
        approach1 = simp to_z-of_z at c.excesses_at-ahead.ensures.over;
        approach2 = sym other.over;
        beside_primary = sym none.beside;
        beside_approach1 = simp to_z-of_z at c.excesses_at-ahead.ensures.beside;
        beside_approach2 = sym other.beside;
      };
    }

pub excesses_at-ahead-requires-clause-at : goal.excesses_at-ahead-requires-clause-at
excesses_at-ahead-requires-clause-at c =
    let e = c.turned.ensures in
    by_first c.args.self.now c.args.x.now c.args.at.now c.turned.result c.requires.at e.along e.aside e.square
