-- Construction on airports and heliports: 77.9(d).
use Rattle.std.specs.Prelude.{List, Option, Bool, option_and_then, false}
use Rattle.std.specs.Option.{option_map_or}
use Rattle.airfields.specs.Airfields.{category_of}
use Rattle.airport_register.specs.Amendments.{airfield_at}
use Rattle.airfields.specs.Categories.{is_described}
use Rattle.airfields.specs.Sites.{Site}
use Rattle.airfields.specs.declared.airfield.Airfield.{Airfield}

-- the registered airfield that the structure is on
abbrev pub airfield_of : List Airfield → Site → Option Airfield
airfield_of airfields s = option_and_then (airfield_at airfields) s.on

-- it is on an airport or heliport of a category that 77.9(d) describes
abbrev pub is_on_described : List Airfield → Site → Bool
is_on_described airfields s = option_map_or (λ f. is_described (category_of f)) (airfield_of airfields s) false
