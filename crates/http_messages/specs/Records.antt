-- The records for requests.
use Rattle.std.specs.Prelude.{ℕ, ◌≡◌, ◌⊎◌, List, [], ◌∷◌, ◌++◌, codes}
use Rattle.http_messages.specs.declared.places.Place.{Place}
use Rattle.http_messages.specs.declared.places.Place.TheVariants as places

-- the last of some bytes is this one
abbrev pub EndsIn : ℕ → List ℕ → Type 0
EndsIn byte bytes = (front : List ℕ) × (bytes ≡ front ++ byte ∷ [])

-- a record, from a body that has CR LF, LF or nothing after it
abbrev pub IsWithoutEnd : List ℕ → List ℕ → Type 0
IsWithoutEnd body record_bytes =
    (body ≡ record_bytes ++ 13 ∷ 10 ∷ [])
    ⊎ (body ≡ record_bytes ++ 10 ∷ []) × (EndsIn 13 record_bytes → ⊥)
    ⊎ (body ≡ record_bytes) × (EndsIn 10 body → ⊥)

-- the record for a request to a place, with the name in its target and its body
abbrev pub IsRecord : Place → List ℕ → List ℕ → List ℕ → Type 0
IsRecord places.Record name body bytes = IsWithoutEnd body bytes
IsRecord places.Review name body bytes = bytes ≡ codes "review"
IsRecord places.Case name body bytes = bytes ≡ codes "case," ++ name
IsRecord places.Airfield name body bytes = bytes ≡ codes "airfield," ++ name
IsRecord places.Report name body bytes = bytes ≡ codes "report," ++ name
