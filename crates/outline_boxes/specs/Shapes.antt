-- The outlines as specs see them.
use Rattle.grid_exact.specs.Axes.{line_of}
use Rattle.outline_boxes.specs.Rectangles.{Rectangle}
use Rattle.outline_boxes.specs.Trapezoids.{Trapezoid}
use Rattle.outline_boxes.specs.declared.rectangle.RectangleOutline.{RectangleOutline}
use Rattle.outline_boxes.specs.declared.trapezoid.TrapezoidOutline.{TrapezoidOutline}

abbrev pub rectangle_shape : RectangleOutline → Rectangle
rectangle_shape r = record { line = line_of r.axis; scale = r.scale; half = r.half }

abbrev pub trapezoid_shape : TrapezoidOutline → Trapezoid
trapezoid_shape t = record { line = line_of t.axis; scale = t.scale; near = t.near; far = t.far; length = t.length }
