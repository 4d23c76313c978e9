-- The fields of airfields.
use Rattle.std.proofs.Common.{arith, ℕ, ◌≡◌, List, [], ◌∷◌, All, codes, refl, ap, sym, subst, ◌∙◌}
use Rattle.airfields.specs.declared.airfield.Airport.{Airport}
use Rattle.airfields.specs.declared.airfield.Heliport.{Heliport}
use Rattle.airfields.specs.declared.airfield.Airfield.{Airfield}
use Rattle.airfields.specs.declared.airfield.Airfield.TheVariants as airfields
use Rattle.wire_values.specs.Wanted.{Wanted, Spelled, any_number, CategoryWanted}
use Rattle.wire_values.proofs.FieldFacts.{short_word}
use Rattle.wire_cursor.specs.Groups.{coordinate}
use Rattle.wire_cursor.proofs.ShapeLaws.{AllUsual}
use Rattle.wire_cursor.proofs.GroupFacts.{coordinate_usual, number_usual}
use Rattle.airfields.specs.Names.{IsFieldId}
use Rattle.row_register.specs.Airfields.{airport_values, heliport_values, airfield_fields, airfield_key, airfield_row, IsPlainAirport, IsPlainHeliport, IsPlainAirfield, IsAirfieldRow}
use Rattle.row_register.specs.Parts.{parts_of}
use Rattle.row_register.proofs.PartFacts.{IsUncut, joined_parts, parts_joined}
use Rattle.row_register.proofs.FieldShapes.{uncut_fields}

airport_shape : List Wanted
airport_shape = Spelled (codes "airport") ∷ CategoryWanted ∷ coordinate ∷ coordinate ∷ any_number ∷ []

heliport_shape : List Wanted
heliport_shape = Spelled (codes "heliport") ∷ CategoryWanted ∷ coordinate ∷ coordinate ∷ coordinate ∷ coordinate ∷ any_number ∷ any_number ∷ []

airport_uncut : (a : Airport) → IsPlainAirport a → All IsUncut (airfield_fields (airfields.Airport a))
unfolding airport_shape
airport_uncut a h =
    let usual : AllUsual airport_shape = (short_word _ (omega arith) (omega arith) refl, (tt, (coordinate_usual, (coordinate_usual, (number_usual, tt))))) in
    uncut_fields airport_shape usual (airfield_fields (airfields.Airport a))
    (refl, ((a.category, refl), ((a.arp.x, refl, (a.arp.on_grid.west, a.arp.on_grid.east)), ((a.arp.y, refl, (a.arp.on_grid.south, a.arp.on_grid.north)), ((a.elevation, refl, h.0), tt)))))

heliport_uncut : (p : Heliport) → IsPlainHeliport p → All IsUncut (airfield_fields (airfields.Heliport p))
unfolding heliport_shape
heliport_uncut p h =
    let usual : AllUsual heliport_shape = (short_word _ (omega arith) (omega arith) refl, (tt, (coordinate_usual, (coordinate_usual, (coordinate_usual, (coordinate_usual, (number_usual, (number_usual, tt)))))))) in
    uncut_fields heliport_shape usual (airfield_fields (airfields.Heliport p)) (
      refl,
      (
        (p.category, refl),
        (
          (p.a.x, refl, (p.a.on_grid.west, p.a.on_grid.east)),
          (
            (p.a.y, refl, (p.a.on_grid.south, p.a.on_grid.north)),
            ((p.b.x, refl, (p.b.on_grid.west, p.b.on_grid.east)), ((p.b.y, refl, (p.b.on_grid.south, p.b.on_grid.north)), ((p.width, refl, h.0), ((p.elevation, refl, h.1), tt)))),
          ),
        ),
      ),
    )

-- the parts of the row of an airfield are its fields
pub airfield_parts : (v : Airfield) → IsPlainAirfield v → (row : List ℕ) → row ≡ airfield_row v → parts_of 44 row ≡ airfield_fields v
airfield_parts (airfields.Airport a) h row e = ap (parts_of 44) e ∙ joined_parts (codes "airport") (airport_values a) (airport_uncut a h)
airfield_parts (airfields.Heliport p) h row e = ap (parts_of 44) e ∙ joined_parts (codes "heliport") (heliport_values p) (heliport_uncut p h)

-- and a text with these parts is that row
pub airfield_text : (v : Airfield) (row : List ℕ) → parts_of 44 row ≡ airfield_fields v → row ≡ airfield_row v
airfield_text (airfields.Airport a) row e = parts_joined row (codes "airport") (airport_values a) e
airfield_text (airfields.Heliport p) row e = parts_joined row (codes "heliport") (heliport_values p) e

pub airfield_read : (key row id : List ℕ) → key ≡ id → IsFieldId id → (v : Airfield) → parts_of 44 row ≡ airfield_fields v → airfield_key v ≡ id → IsPlainAirfield v
    → IsAirfieldRow key row v
airfield_read key row id e named v parts is plain =
    record { key_is = e ∙ sym is; row_is = airfield_text v row parts; named = subst IsFieldId (sym e) named; plain = plain }
