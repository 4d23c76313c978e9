-- The fields of runways.
use Rattle.std.proofs.Common.{arith, ℕ, ◌≡◌, List, [], ◌∷◌, All, refl, ap, ◌∙◌}
use Rattle.airfields.specs.Names.{IsFieldId, IsRunwayName}
use Rattle.airfields.specs.declared.runway.Runway.{Runway}
use Rattle.wire_values.specs.Commas.{joined}
use Rattle.wire_values.specs.Words.{weight_word, pavement_word}
use Rattle.wire_values.specs.Wanted.{Wanted, Choice, any_number, ApproachesWanted, FieldIdWanted, RunwayNameWanted}
use Rattle.wire_values.specs.Plainness.{IsUsual}
use Rattle.wire_values.proofs.FieldFacts.{short_word, fits_short}
use Rattle.wire_cursor.specs.Groups.{coordinate, end_shape}
use Rattle.wire_cursor.proofs.ShapeLaws.{AllUsual}
use Rattle.wire_cursor.proofs.GroupFacts.{end_usual}
use Rattle.row_register.specs.Runways.{runway_key_text, runway_values, IsPlainRunway}
use Rattle.row_register.specs.Parts.{parts_of}
use Rattle.row_register.proofs.PartFacts.{IsUncut, joined_parts, parts_joined, pair_parts}
use Rattle.row_register.proofs.FieldShapes.{unmarked, uncut_fields}

pub key_parts : (key id name : List ℕ) → IsFieldId id → IsRunwayName name → key ≡ runway_key_text id name → parts_of 32 key ≡ id ∷ name ∷ []
key_parts key id name p q e =
    ap (parts_of 32) e
    ∙ pair_parts 32 id name (unmarked 32 (omega arith) id (fits_short FieldIdWanted tt [] id p)) (unmarked 32 (omega arith) name (fits_short RunwayNameWanted tt [] name q))

runway_shape : List Wanted
runway_shape = Choice weight_word ∷ Choice pavement_word ∷ coordinate ∷ coordinate ∷ any_number ∷ ApproachesWanted ∷ end_shape

weight_usual : IsUsual (Choice weight_word)
weight_usual = (short_word _ (omega arith) (omega arith) refl, short_word _ (omega arith) (omega arith) refl)

pavement_usual : IsUsual (Choice pavement_word)
pavement_usual = (short_word _ (omega arith) (omega arith) refl, short_word _ (omega arith) (omega arith) refl)

runway_usual : AllUsual runway_shape
unfolding runway_shape
runway_usual = (weight_usual, (pavement_usual, end_usual end_shape (end_usual [] tt)))

runway_uncut : (r : Runway) → IsPlainRunway r → All IsUncut (runway_values r)
unfolding runway_shape
runway_uncut r h =
    uncut_fields runway_shape runway_usual (runway_values r) (
      (r.utility, refl),
      (
        (r.hard, refl),
        (
          (r.end1.at.x, refl, (r.end1.at.on_grid.west, r.end1.at.on_grid.east)),
          (
            (r.end1.at.y, refl, (r.end1.at.on_grid.south, r.end1.at.on_grid.north)),
            (
              (r.end1.z, refl, h.0),
              (
                (r.end1.kind, r.end1.planned, refl),
                (
                  (r.end2.at.x, refl, (r.end2.at.on_grid.west, r.end2.at.on_grid.east)),
                  (
                    (r.end2.at.y, refl, (r.end2.at.on_grid.south, r.end2.at.on_grid.north)),
                    ((r.end2.z, refl, h.1), ((r.end2.kind, r.end2.planned, refl), tt)),
                  ),
                ),
              ),
            ),
          ),
        ),
      ),
    )

pub runway_parts : (r : Runway) → IsPlainRunway r → (row : List ℕ) → row ≡ joined (runway_values r) → parts_of 44 row ≡ runway_values r
runway_parts r h row e = ap (parts_of 44) e ∙ joined_parts _ _ (runway_uncut r h)

pub runway_text : (r : Runway) (row : List ℕ) → parts_of 44 row ≡ runway_values r → row ≡ joined (runway_values r)
runway_text r row e = parts_joined row _ _ e
