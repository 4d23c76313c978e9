-- The rows of airfields. Lengths, coordinates and elevations are whole tenths of a foot. The runways of an airport have rows of their own.
use Rattle.std.specs.Prelude.{ℕ, List, [], ◌∷◌, ◌≡◌, codes}
use Rattle.std.specs.Fmt.{signed_decimal}
use Rattle.whole_number.specs.Whole.{HasNineDigits}
use Rattle.airfields.specs.Names.{IsFieldId}
use Rattle.airfields.specs.declared.airfield.Airport.{Airport}
use Rattle.airfields.specs.declared.airfield.Heliport.{Heliport}
use Rattle.airfields.specs.declared.airfield.Airfield.{Airfield}
use Rattle.airfields.specs.declared.airfield.Airfield.TheVariants as airfields
use Rattle.wire_values.specs.Commas.{joined}
use Rattle.wire_values.specs.Words.{category_word}

-- an airport after the word `airport`: its category, the two coordinates of its reference point, and its elevation
abbrev pub airport_values : Airport → List (List ℕ)
airport_values a = category_word a.category ∷ signed_decimal a.arp.x ∷ signed_decimal a.arp.y ∷ signed_decimal a.elevation ∷ []

-- a heliport after the word `heliport`: its category, the two ends of its axis, its width, and its elevation
abbrev pub heliport_values : Heliport → List (List ℕ)
heliport_values h = category_word h.category ∷ signed_decimal h.a.x ∷ signed_decimal h.a.y
    ∷ signed_decimal h.b.x ∷ signed_decimal h.b.y ∷ signed_decimal h.width ∷ signed_decimal h.elevation ∷ []

abbrev pub airfield_fields : Airfield → List (List ℕ)
airfield_fields (airfields.Airport a) = codes "airport" ∷ airport_values a
airfield_fields (airfields.Heliport h) = codes "heliport" ∷ heliport_values h

-- the name of an airfield
abbrev pub airfield_key : Airfield → List ℕ
airfield_key (airfields.Airport a) = a.id
airfield_key (airfields.Heliport h) = h.id

abbrev pub airfield_row : Airfield → List ℕ
airfield_row field = joined (airfield_fields field)

-- elevations and widths have at most nine digits, and an airport has no runways
abbrev pub IsPlainAirport : Airport → Type 0
IsPlainAirport a = HasNineDigits a.elevation × (a.runways ≡ [])

abbrev pub IsPlainHeliport : Heliport → Type 0
IsPlainHeliport h = HasNineDigits h.width × HasNineDigits h.elevation

abbrev pub IsPlainAirfield : Airfield → Type 0
IsPlainAirfield (airfields.Airport a) = IsPlainAirport a
IsPlainAirfield (airfields.Heliport h) = IsPlainHeliport h

-- key and row are the texts of this airfield
pub record IsAirfieldRow (key row : List ℕ) (v : Airfield) : Type 0 where
  pub key_is : key ≡ airfield_key v
  pub row_is : row ≡ airfield_row v
  pub named : IsFieldId key
  pub plain : IsPlainAirfield v
