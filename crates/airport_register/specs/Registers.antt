-- The airfields of a register.
use Rattle.std.specs.Prelude.{◌≤◌, List, length}
use Rattle.std.specs.List.{All}
use Rattle.ordered_list.specs.Ordered.{Rises}
use Rattle.airfields.specs.Names.{name_cmp}
use Rattle.airfields.specs.Airfields.{id_of, IsHeld}
use Rattle.airfields.specs.declared.airfield.Airfield.{Airfield}
use Rattle.airport_register.specs.declared.register.TheConstants.{MOST_AIRFIELDS}

-- the airfields of a register: at most the allowed number, in rising order of name, each within its limits
pub record IsRegister (airfields : List Airfield) : Type 0 where
  pub number : length airfields ≤ MOST_AIRFIELDS
  pub rises : Rises name_cmp id_of airfields
  pub held : All IsHeld airfields
