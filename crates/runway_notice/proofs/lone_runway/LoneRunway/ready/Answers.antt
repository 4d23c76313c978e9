use Rattle.std.proofs.Common.{◌∙◌, pos, FitsSigned, w64, to_z-of_z, arith, ap}
use Rattle.std.proofs.lemmas.Int.{ints}
use Rattle.grid_exact.specs.Lines.{square}
use Rattle.runway_lines.specs.Centerlines.{Profile}
use Rattle.runway_notice.proofs.lone_runway.LoneRunway.ready.Goals as goal

pub invariant_of-result : goal.invariant_of-result
invariant_of-result c =
    let fs : FitsSigned w64 c.square.result = omega (arith, ints) in
    record {
      proper = c.requires.proper;
      first_is = c.of.ensures.end;
      second_is = c.of-2.ensures.end;
      square_is = simp to_z-of_z (c.square.ensures ∙ ap (λ (p : Profile). pos (square p.line)) c.of-3.ensures.profile);
      sub_is = c.requires.sub;
    }
