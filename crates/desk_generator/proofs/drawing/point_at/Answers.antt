use Rattle.std.proofs.Common.{FitsSigned, w64, to_z-of_z}
use Rattle.desk_generator.proofs.PointFacts.{is_point}
use Rattle.desk_generator.proofs.drawing.point_at.Goals as goal

pub returns : goal.returns
returns c =
    let fx : FitsSigned w64 c.args.x = c.ranges.x in
    let fy : FitsSigned w64 c.args.y = c.ranges.y in
    let e = simp to_z-of_z at c.in-Ok.ensures.exact in
    is_point c.in-Ok.at c.args.x c.args.y e.0 e.1
