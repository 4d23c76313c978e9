-- The result of the router's search.
use Rattle.std.specs.Prelude.{ℕ, ◌≡◌, ◌<◌, All, List, Some, option_map}
use Rattle.matchit.specs.Seek.{first}
use Rattle.matchit.specs.Rows.{RowsOf}
use Rattle.matchit.specs.Router.{RouteOf}
use Rattle.http_messages.specs.declared.places.Place.{Place}
use Rattle.http_messages.specs.Targets.{IsTarget}

-- each good target leads to its place
abbrev pub FindsAll : RowsOf (RouteOf Place) → Type 0
FindsAll rows = (place : Place) (name target : List ℕ) → IsTarget place name target → All (λ b. b < 256) name
    → option_map (λ route. route.value) (first rows target) ≡ Some place
