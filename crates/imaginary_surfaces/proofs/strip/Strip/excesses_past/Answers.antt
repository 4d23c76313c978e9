use Rattle.std.proofs.Common.{FitsSigned, w64, to_z-of_z, arith, sym}
use Rattle.std.proofs.lemmas.Int.{ints}
use Rattle.runway_lines.specs.declared.end.End.TheVariants.{One}
use Rattle.imaginary_surfaces.proofs.ZoneFacts.{along_first, not_ahead, past_end}
use Rattle.imaginary_surfaces.proofs.PlaceFacts.{by_second}
use Rattle.imaginary_surfaces.proofs.strip.Strip.excesses_past.Goals as goal

pub returns : goal.returns
returns c =
    let r = c.args.self.now in
    let x = c.args.x.now in
    let cap = c.args.cap.now in
    let top = c.args.top in
    let ft : FitsSigned w64 top = c.ranges.top in
    let p = c.excesses_at-ahead.ensures.proper in
    let none = past_end r x top cap p c.requires.top c.requires.past in
    let other = not_ahead r One x top cap p c.requires.top (omega (arith, ints, along_first r x, c.requires.past)) in
    record {
      value = record {
        primary = sym none.over;
        approach1 = sym other.over;
        approach2 = simp to_z-of_z at c.excesses_at-ahead.ensures.over;
        beside_primary = sym none.beside;
        beside_approach1 = sym other.beside;
        beside_approach2 = simp to_z-of_z at c.excesses_at-ahead.ensures.beside;
      };
    }

pub excesses_at-ahead-requires-clause-at : goal.excesses_at-ahead-requires-clause-at
excesses_at-ahead-requires-clause-at c =
    let e = c.moved.ensures in
    by_second c.args.self.now c.args.x.now c.args.at.now c.moved.result c.requires.at e.along e.aside e.square
