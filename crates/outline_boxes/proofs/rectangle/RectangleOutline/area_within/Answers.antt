use Rattle.std.proofs.Common.{FitsSigned, w64, to_z-of_z}
use Rattle.outline_boxes.specs.Shapes.{rectangle_shape}
use Rattle.outline_boxes.proofs.More.{IsWidened, with_margin}
use Rattle.outline_boxes.proofs.rectangle.RectangleOutline.area_within.Goals as goal

pub returns : goal.returns
returns c =
    let s = c.args.self.now in
    let m : FitsSigned w64 c.args.margin = c.ranges.margin in
    let w : IsWidened c.area.result c.args.margin c.widened.result = record {
      west = simp to_z-of_z at c.widened.ensures.west;
      south = simp to_z-of_z at c.widened.ensures.south;
      east = simp to_z-of_z at c.widened.ensures.east;
      north = simp to_z-of_z at c.widened.ensures.north;
    } in
    record { exact = with_margin c.area.result c.widened.result c.args.margin (rectangle_shape s) s.sized.scale_least w c.area.ensures.exact }
