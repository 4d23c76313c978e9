-- The rows of a desk's airfields and runways can be read.
use Rattle.std.proofs.Common.{◌≡◌, ◌≢◌, refl, sym, ap, ◌∙◌, subst, arith, ℕ, ℤ, List, [], Bool, true, false, All, Option, Some, None, IfSome}
use Rattle.std.specs.Option.{option_map}
use Rattle.std.specs.FinMap as maps
use Rattle.std.proofs.lemmas.Cmp.{nat_list_cmp_total}
use Rattle.std.proofs.lemmas.Int.{ints}
use Rattle.whole_number.specs.Whole.{HasNineDigits}
use Rattle.ordered_list.proofs.Rising.{found_holds, found_key}
use Rattle.airfields.specs.Names.{IsFieldId, IsRunwayName, name_cmp}
use Rattle.airfields.specs.Runways.{IsElevation, IsProper, is_planned, name_of, runway_at}
use Rattle.airfields.specs.Airfields.{id_of}
use Rattle.airfields.specs.declared.runway.Runway.{Runway}
use Rattle.airfields.specs.declared.airfield.Airport.{Airport}
use Rattle.airfields.specs.declared.airfield.Airfield.{Airfield}
use Rattle.airfields.specs.declared.airfield.Airfield.TheVariants as fields
use Rattle.airport_register.specs.Amendments.{airfield_at, runways_in}
use Rattle.airport_register.proofs.Fields.{found_held}
use Rattle.airport_register.proofs.Rules.{found_named, same_name}
use Rattle.row_register.specs.Airfields.{airfield_row}
use Rattle.row_register.specs.Runways.{runway_key_text}
use Rattle.desk_tables.specs.Names.{HasName, IsNamed}
use Rattle.oe_keeper.specs.Kept.{Kept}
use Rattle.oe_keeper.specs.declared.change.Table.TheVariants as tables
use Rattle.desk_machine.specs.States.{State}
use Rattle.desk_tables.specs.Rows.{AreTables}
use Rattle.desk_tables.specs.Tables.{HasFieldId, RunwayName, field_found, field_key, found_in, runway_found, runway_key, runway_of, runway_text}
use Rattle.desk_tables.specs.Parts.{Part}
use Rattle.desk_tables.specs.Planned.{PlansNothing}
use Rattle.desk_tables.specs.declared.layout.Layout.{Layout}
use Rattle.desk_tables.specs.declared.value.RowValue.TheVariants.{Airfield as AnAirfield, Runway as ARunway}
use Rattle.desk_tables.specs.Reachable.{IsDesk}
use Rattle.reopening_laws.proofs.PartsOf.{ComesIn, IsPartOf, PartsGrow, either_format, format_allows}
use Rattle.desk_tables.proofs.Places.{mapped, unmapped}
use Rattle.reopening_laws.proofs.RowNames.{name_found, runway_named, runway_sure}
use Rattle.desk_tables.proofs.RowsInOrder.{ComesAt}
use Rattle.desk_tables.proofs.Walks.{HasRead}

nine_digits : (z : ℤ) → IsElevation z → HasNineDigits z
nine_digits z h = (omega (arith, ints, h.least), omega (arith, ints, h.most))

pub id_named : (v : Airfield) → IsNamed v → IsFieldId (id_of v)
id_named (fields.Airport a) h = h.0
id_named (fields.Heliport a) h = h

pub found_field_named : (xs : List Airfield) (id : List ℕ) (v : Airfield) → All IsNamed xs → airfield_at xs id ≡ Some v → IsNamed v
found_field_named xs id v h at = found_holds name_cmp nat_list_cmp_total id_of IsNamed id v xs h at

-- the name of an airfield that is there is a name
pub field_id : (xs : List Airfield) (id : List ℕ) (v : Airfield) → All IsNamed xs → airfield_at xs id ≡ Some v → IsFieldId id
field_id xs id v h at = subst IsFieldId (found_named id v xs at) (id_named v (found_field_named xs id v h at))

-- an airport without its runways
bare : Airport → Airport
bare a = record a { runways = [] }

module _ (grow : PartsGrow) (s : State) (desk : IsDesk s) (n : ℕ) (b : Layout) (f : Bool) (kept so_far : Kept) (are : AreTables f s kept) (p : Part)
    (read : HasRead p so_far) (part : IsPartOf s n p) (plain : b.is_old ≡ true → PlansNothing s) where
  -- no airfield of this name is read, where its row was not
  unread_field : (id : List ℕ) → IsFieldId id → maps.get so_far (0, id) ≡ None → airfield_at p.register id ≡ None
  unread_field id named new = unmapped airfield_row (airfield_at p.register id) (sym (read.airfields.there id named) ∙ new)

  field_by : (id text : List ℕ) (v : Airfield) → airfield_at s.register id ≡ Some v → airfield_row v ≡ text → maps.get so_far (0, id) ≡ None
      → ComesIn s n b p ((0, id), text)
  unfolding bare
  field_by id text (fields.Airport a) at row new =
      let is_id : IsFieldId id = field_id s.register id (fields.Airport a) desk.named at in
      let same : a.id ≡ id = found_named id (fields.Airport a) s.register at in
      let held = found_held id (fields.Airport a) s.register desk.register at in
      let comes = grow.airport p.register s.register a desk.register part.register (ap (airfield_at s.register) same ∙ at)
      (ap (airfield_at p.register) same ∙ unread_field id is_id new) in
      record {
        value = AnAirfield (fields.Airport (bare a));
        is = (refl, record { key_is = sym same; row_is = sym row; named = is_id; plain = (nine_digits a.elevation held.elevation, refl) });
        next = (comes.0, either_format b.is_old);
        part = record { register = comes.1; room = part.room; entries = part.entries };
      }
  field_by id text (fields.Heliport a) at row new =
      let is_id : IsFieldId id = field_id s.register id (fields.Heliport a) desk.named at in
      let same : a.id ≡ id = found_named id (fields.Heliport a) s.register at in
      let held = found_held id (fields.Heliport a) s.register desk.register at in
      let comes = grow.heliport p.register s.register a desk.register part.register (ap (airfield_at s.register) same ∙ at)
      (ap (airfield_at p.register) same ∙ unread_field id is_id new) in
      let width : HasNineDigits a.width = (omega (arith, ints, held.width_least), omega (arith, ints, held.width_most)) in
      record {
        value = AnAirfield (fields.Heliport a);
        is = (refl, record { key_is = sym same; row_is = sym row; named = is_id; plain = (width, nine_digits a.elevation held.elevation) });
        next = (comes.0, either_format b.is_old);
        part = record { register = comes.1; room = part.room; entries = part.entries };
      }

  pub field_comes : (id text : List ℕ) → ComesAt kept so_far ((0, id), text) → ComesIn s n b p ((0, id), text)
  field_comes id text at =
      let name = name_found IsFieldId field_key (field_found s.register) (found_in kept tables.Airfield) are.airfields id text at.here id
      (λ m h e row. sym e) in
      let found = mapped airfield_row (airfield_at s.register id) text name.row_is in
      field_by id text found.0 found.1 found.2 at.new

  -- ---- a runway

  runway_by : (name : RunwayName) (text : List ℕ) (r : Runway) (o : Option Airfield) → airfield_at s.register name.airport ≡ o
      → runway_at (runways_in o) name.runway ≡ Some r → runway_text r ≡ text
      → ComesAt kept so_far ((1, runway_key name), text) → ComesIn s n b p ((1, runway_key name), text)
  runway_by name text r None field at row new = absurd (cc (at))
  runway_by name text r (Some (fields.Heliport a)) field at row new = absurd (cc (at))
  runway_by name text r (Some (fields.Airport a)) field at row comes_at =
      let id = name.airport in
      let is_id : IsFieldId id = field_id s.register id (fields.Airport a) desk.named field in
      let held = found_held id (fields.Airport a) s.register desk.register field in
      let same : r.name ≡ name.runway = sym (same_name name.runway r.name (found_key name_cmp nat_list_cmp_total name_of name.runway r a.runways at)) in
      let proper : IsProper r = found_holds name_cmp nat_list_cmp_total name_of IsProper name.runway r a.runways held.proper at in
      let named = found_field_named s.register id (fields.Airport a) desk.named field in
      let is_name : IsRunwayName r.name = found_holds name_cmp nat_list_cmp_total name_of HasName name.runway r a.runways named.1 at in
      let field_row : maps.get so_far (0, id) ≡ Some (airfield_row (fields.Airport a)) =
      comes_at.below (0, id) refl ∙ are.airfields.there id is_id ∙ ap (option_map airfield_row) field in
      let there : airfield_at p.register id ≢ None =
      λ none. absurd (cc (sym (read.airfields.there id is_id ∙ ap (option_map airfield_row) none) ∙ field_row)) in
      let none : runway_at (runways_in (airfield_at p.register id)) name.runway ≡ None =
      unmapped runway_text (runway_of p.register name) (sym (read.runways.there name is_id) ∙ comes_at.new) in
      let whole : runway_at (runways_in (airfield_at s.register id)) name.runway ≡ Some r = ap (λ o. runway_at (runways_in o) name.runway) field ∙ at in
      let comes = grow.runway p.register s.register id r desk.register part.register there
      (ap (runway_at (runways_in (airfield_at s.register id))) same ∙ whole) (ap (runway_at (runways_in (airfield_at p.register id))) same ∙ none) in
      record {
        value = ARunway (record { id = id; runway = r });
        is = (
          refl,
          record {
            key_is = ap (λ k. runway_key_text id k) (sym same);
            row_is = sym row;
            airport_named = is_id;
            runway_named = is_name;
            plain = (nine_digits r.end1.z proper.elevation1, nine_digits r.end2.z proper.elevation2);
          },
        );
        next = (comes.0, format_allows b.is_old (is_planned r) (λ old. subst (λ (o : Option Runway). IfSome o (λ (q : Runway). is_planned q ≡ false)) whole (PlansNothing.runways (plain old) name)));
        part = record { register = comes.1; room = part.room; entries = part.entries };
      }

  pub runway_comes : (key text : List ℕ) → ComesAt kept so_far ((1, key), text) → ComesIn s n b p ((1, key), text)
  runway_comes key text at =
      let name = name_found HasFieldId runway_key (runway_found s.register) (found_in kept tables.Runway) are.runways key text at.here (runway_named key)
      (λ m h e row. runway_sure key m h e) in
      let found = mapped runway_text (runway_of s.register (runway_named key)) text name.row_is in
      subst (λ k. ComesIn s n b p ((1, k), text)) (sym name.key_is)
      (runway_by (runway_named key) text found.0 (airfield_at s.register (runway_named key).airport) refl found.1 found.2
      (subst (λ k. ComesAt kept so_far ((1, k), text)) name.key_is at))
