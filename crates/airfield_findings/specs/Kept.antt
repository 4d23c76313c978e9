-- For proofs alone: areas that stand for other areas.
use Rattle.std.specs.Prelude.{List}
use Rattle.std.specs.List.{Contains}
use Rattle.grid_exact.specs.declared.area.Area.{Area}
use Rattle.outline_boxes.specs.Boxes.{Encloses}

-- an area of the list encloses both this area and the box `near`
pub record IsKept (near : Area) (areas : List Area) (area : Area) : Type 0 where
  pub kept : Area
  pub listed : Contains areas kept
  pub has_area : Encloses kept area
  pub has_near : Encloses kept near
