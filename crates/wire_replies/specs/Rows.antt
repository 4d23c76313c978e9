-- The rows of airfields in replies. Lengths, coordinates and elevations are whole tenths of a foot.
use Rattle.std.specs.Prelude.{ℕ, List, [], ◌∷◌, ◌++◌, codes}
use Rattle.std.specs.Fmt.{signed_decimal}
use Rattle.grid_exact.specs.declared.point.Point.{Point}
use Rattle.airfields.specs.declared.airfield.Airport.{Airport}
use Rattle.airfields.specs.declared.airfield.Heliport.{Heliport}
use Rattle.airfields.specs.declared.airfield.Airfield.{Airfield}
use Rattle.airfields.specs.declared.airfield.Airfield.TheVariants as airfields
use Rattle.wire_values.specs.Commas.{joined}
use Rattle.wire_values.specs.Words.{category_word}

-- an airport: its category, the two coordinates of its reference point, and its elevation
abbrev pub airport_fields : Airport → List (List ℕ)
airport_fields a = codes "airport" ∷ category_word a.category ∷ signed_decimal a.arp.x ∷ signed_decimal a.arp.y ∷ signed_decimal a.elevation ∷ []

-- a heliport: its category, the two ends of its axis, its width, and its elevation
abbrev pub heliport_fields : Heliport → List (List ℕ)
heliport_fields h = codes "heliport" ∷ category_word h.category ∷ signed_decimal h.a.x ∷ signed_decimal h.a.y
    ∷ signed_decimal h.b.x ∷ signed_decimal h.b.y ∷ signed_decimal h.width ∷ signed_decimal h.elevation ∷ []

abbrev pub airfield_fields : Airfield → List (List ℕ)
airfield_fields (airfields.Airport a) = airport_fields a
airfield_fields (airfields.Heliport h) = heliport_fields h

-- the row of an airfield
abbrev pub airfield_row : Airfield → List ℕ
airfield_row field = joined (airfield_fields field)

-- ---- for proofs alone

-- the coordinates of a point, a comma before each
abbrev pub point_text : Point → List ℕ
point_text p = codes "," ++ signed_decimal p.x ++ (codes "," ++ signed_decimal p.y)
