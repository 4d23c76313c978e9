-- The rows of runways. Lengths, coordinates and elevations are whole tenths of a foot.
use Rattle.std.specs.Prelude.{ℕ, List, [], ◌∷◌, ◌++◌, ◌≡◌, codes}
use Rattle.std.specs.Fmt.{signed_decimal}
use Rattle.whole_number.specs.Whole.{HasNineDigits}
use Rattle.airfields.specs.Names.{IsFieldId, IsRunwayName}
use Rattle.airfields.specs.declared.runway.Runway.{Runway}
use Rattle.wire_values.specs.Commas.{joined}
use Rattle.wire_values.specs.Words.{weight_word, pavement_word, approaches_text}
use Rattle.row_register.specs.declared.runway.RunwayRow.{RunwayRow}

-- the name of the airport, a space, and the name of the runway
abbrev pub runway_key_text : List ℕ → List ℕ → List ℕ
runway_key_text id name = id ++ (codes " " ++ name)

abbrev pub runway_key : RunwayRow → List ℕ
runway_key v = runway_key_text v.id v.runway.name

-- whether it is a utility runway, its surface, and each end: its point, its elevation, and its approach with the planned one
abbrev pub runway_values : Runway → List (List ℕ)
runway_values r = weight_word r.utility ∷ pavement_word r.hard
    ∷ signed_decimal r.end1.at.x ∷ signed_decimal r.end1.at.y ∷ signed_decimal r.end1.z ∷ approaches_text r.end1.kind r.end1.planned
    ∷ signed_decimal r.end2.at.x ∷ signed_decimal r.end2.at.y ∷ signed_decimal r.end2.z ∷ approaches_text r.end2.kind r.end2.planned ∷ []

abbrev pub runway_row : RunwayRow → List ℕ
runway_row v = joined (runway_values v.runway)

-- elevations have at most nine digits
abbrev pub IsPlainRunway : Runway → Type 0
IsPlainRunway r = HasNineDigits r.end1.z × HasNineDigits r.end2.z

-- key and row are the texts of this runway
pub record IsRunwayRow (key row : List ℕ) (v : RunwayRow) : Type 0 where
  pub key_is : key ≡ runway_key v
  pub row_is : row ≡ runway_row v
  pub airport_named : IsFieldId v.id
  pub runway_named : IsRunwayName v.runway.name
  pub plain : IsPlainRunway v.runway
