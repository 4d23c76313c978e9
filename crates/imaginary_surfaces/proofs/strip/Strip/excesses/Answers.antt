use Rattle.std.proofs.Common.{FitsSigned, w64, to_z-of_z}
use Rattle.imaginary_surfaces.proofs.strip.Strip.excesses.Goals as goal

pub returns-then-is_clear : goal.returns-then-is_clear
returns-then-is_clear c =
    let ft : FitsSigned w64 c.args.top = c.ranges.top in
    record { value = (simp to_z-of_z at c.is_clear.ensures.none) c.if-is_clear.true c.args.cap.now }
