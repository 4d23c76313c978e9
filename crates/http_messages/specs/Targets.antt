-- The targets of requests, and the places that they lead to.
use Rattle.std.specs.Prelude.{ℕ, ◌≡◌, ◌<◌, ◌==◌, Bool, true, false, List, [], ◌++◌, length, codes, All, if◌then◌else◌}
use Rattle.http_messages.specs.declared.places.Place.{Place}
use Rattle.http_messages.specs.declared.places.Place.TheVariants as places

-- one or more bytes other than a slash
pub record IsName (name : List ℕ) : Type 0 where
  pub some : 0 < length name
  pub plain : All (λ b. (b == 47) ≡ false) name

-- the bytes before the name
abbrev pub prefix : Place → List ℕ
prefix places.Case = codes "/case/"
prefix places.Airfield = codes "/airfield/"
prefix places.Report = codes "/report/"
prefix places.Record = codes "/record"
prefix places.Review = codes "/review"

-- the text after the prefix
abbrev pub IsTail : Place → List ℕ → Type 0
IsTail places.Record tail = tail ≡ []
IsTail places.Review tail = tail ≡ []
IsTail places.Case tail = IsName tail
IsTail places.Airfield tail = IsName tail
IsTail places.Report tail = IsName tail

-- a target of that place, with that name
abbrev pub IsTarget : Place → List ℕ → List ℕ → Type 0
IsTarget place name target = IsTail place name × (target ≡ prefix place ++ name)

-- the method of the place is GET
abbrev pub is_read : Place → Bool
is_read places.Record = false
is_read places.Review = true
is_read places.Case = true
is_read places.Airfield = true
is_read places.Report = true

-- the method of the place
abbrev pub method_of : Place → List ℕ
method_of place = if is_read place then codes "GET" else codes "POST"
