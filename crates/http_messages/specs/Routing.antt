-- The result of routing a request.
use Rattle.std.specs.Prelude.{ℕ, ◌≡◌, ◌≢◌, List, IsUtf8}
use Rattle.http_messages.specs.declared.places.Place.{Place}
use Rattle.http_messages.specs.declared.routes.Routed.{Routed}
use Rattle.http_messages.specs.declared.routes.Routed.TheVariants as routed
use Rattle.http_messages.specs.Targets.{IsTarget, is_read, method_of}
use Rattle.http_messages.specs.Records.{IsRecord}

-- the target is UTF-8 and leads to this place, with this name
pub record LeadsTo (target : List ℕ) (place : Place) (name : List ℕ) : Type 0 where
  pub text : IsUtf8 target
  pub target_is : IsTarget place name target

-- the result of routing a request with this method, target and body
abbrev pub IsRouted : List ℕ → List ℕ → List ℕ → Routed → Type 0
IsRouted method target body (routed.Record bytes) =
    (place : Place) × (name : List ℕ) × LeadsTo target place name × (method ≡ method_of place) × IsRecord place name body bytes
IsRouted method target body routed.NotFound = (place : Place) (name : List ℕ) → LeadsTo target place name → ⊥
IsRouted method target body (routed.NotAllowed get) =
    (place : Place) × (name : List ℕ) × LeadsTo target place name × (method ≢ method_of place) × (get ≡ is_read place)
IsRouted method target body routed.NoMemory = Unit {0}
