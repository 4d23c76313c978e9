-- The rows of airfields and runways after an amendment of the register.
use Rattle.std.proofs.Common.{◌≡◌, ◌≢◌, refl, sym, ap, ◌∙◌, ℕ, ℤ, ◌≤◌, arith, List, [], ◌∷◌, map, Option, Some, None, Bool, true, false, cond}
use Rattle.std.specs.Prelude.{◌||◌}
use Rattle.std.specs.List.{list_any}
use Rattle.std.specs.Option.{option_map}
use Rattle.std.specs.Ordering.{is_eq}
use Rattle.std.specs.Str.{bytes_eq}
use Rattle.std.specs.FinMap as maps
use Rattle.std.proofs.lemmas.Cmp.{nat_list_cmp_total, tied_itself}
use Rattle.std.proofs.lemmas.Map.Text.{is_eq-slice_cmp}
use Rattle.std.proofs.lemmas.Slice.Eq.{bytes_eq-Decides}
use Rattle.ordered_list.specs.Ordered.{put_by}
use Rattle.ordered_list.proofs.Finding.{found_by-put_same, found_by-put_other, found_by-removed_same, found_by-removed_other}
use Rattle.grid_exact.specs.declared.point.Point.{Point}
use Rattle.airfields.specs.Names.{name_cmp, IsFieldId}
use Rattle.airfields.specs.Runways.{name_of, runway_at}
use Rattle.airfields.specs.Airfields.{id_of}
use Rattle.airfields.specs.declared.category.Category.{Category}
use Rattle.airfields.specs.declared.runway.Runway.{Runway}
use Rattle.airfields.specs.declared.airfield.Heliport.{Heliport}
use Rattle.airfields.specs.declared.airfield.Airfield.{Airfield}
use Rattle.airfields.specs.declared.airfield.Airfield.TheVariants.{Airport as AnAirport, Heliport as AHeliport}
use Rattle.airport_register.specs.Amendments.{airfield_at, amended_id, after_amendment, first_broken, first_of, runway_rules, drop_runway_rules, heliport_rules, runways_in, put_airport, put_runway, drop_runway, with_runway, without_runway}
use Rattle.airport_register.specs.declared.amendment.Amendment.{Amendment}
use Rattle.airport_register.specs.declared.amendment.Amendment.TheVariants.{PutAirport, PutRunway, DropRunway, PutHeliport, Drop}
use Rattle.airport_register.proofs.Rules.{same_name, amended_elsewhere, found_named}
use Rattle.row_register.specs.Airfields.{airfield_row}
use Rattle.row_register.specs.Runways.{runway_key_text}
use Rattle.oe_keeper.specs.Kept.{Kept, rows_after_changes, rows_after_change}
use Rattle.oe_keeper.specs.declared.change.Table.TheVariants as tables
use Rattle.oe_keeper.specs.declared.change.RowChange.TheVariants.{Remove}
use Rattle.desk_tables.specs.Tables.{Found, found_in, AreAirfields, AreRunways, field_key, field_found, runway_key, runway_text, runway_found, RunwayName, HasFieldId}
use Rattle.desk_tables.specs.Changes.{amendment_changes, remove_runway}
use Rattle.desk_tables.proofs.Named.{IsPutAt, IsSame, HasOneName, named_put, named_same}
use Rattle.desk_tables.proofs.Kepts.{put_in, removed_in, put_beside, removed_beside}
use Rattle.desk_tables.proofs.Split.{split_at, field_without_space}

-- ---- names and keys

pub one_field : HasOneName IsFieldId field_key
one_field m n h k e = e

made_name : List ℕ → List ℕ → RunwayName
made_name airport runway = record { airport = airport; runway = runway }

pub one_runway_name : HasOneName HasFieldId runway_key
unfolding made_name
one_runway_name m n h k e =
    let parts = split_at 32 m.airport n.airport m.runway n.runway (field_without_space m.airport h) (field_without_space n.airport k) e in
    ap (λ a. made_name a m.runway) parts.0 ∙ ap (made_name n.airport) parts.1

-- ---- what an amendment leaves as it is

other_field : (xs : List Airfield) (a : Amendment) (id : List ℕ) → id ≢ amended_id a → field_found (after_amendment xs a) id ≡ field_found xs id
other_field xs a id apart = ap (option_map airfield_row) (amended_elsewhere xs a id apart)

other_airport : (xs : List Airfield) (a : Amendment) (m : RunwayName) → m.airport ≢ amended_id a → runway_found (after_amendment xs a) m ≡ runway_found xs m
other_airport xs a m apart = ap (λ o. option_map runway_text (runway_at (runways_in o) m.runway)) (amended_elsewhere xs a m.airport apart)

apart_by : (k l : List ℕ) → bytes_eq k l ≡ false → k ≢ l
apart_by k l e same = absurd (cc (sym e ∙ (bytes_eq-Decides k l).1 same))

module _ (xs : List Airfield) (a : Amendment) where
  -- where the runways of the airfield stay as they are, all do
  stay_by : (m : RunwayName) (b : Bool) → bytes_eq m.airport (amended_id a) ≡ b → runways_in (airfield_at (after_amendment xs a) (amended_id a)) ≡ runways_in (airfield_at xs (amended_id a))
      → runway_found (after_amendment xs a) m ≡ runway_found xs m
  stay_by m true e same =
      let is : m.airport ≡ amended_id a = (bytes_eq-Decides m.airport (amended_id a)).0 e in
      ap (λ rs. option_map runway_text (runway_at rs m.runway)) (ap (λ id. runways_in (airfield_at (after_amendment xs a) id)) is ∙ same ∙ ap (λ id. runways_in (airfield_at xs id)) (sym is))
  stay_by m false e same = other_airport xs a m (apart_by m.airport (amended_id a) e)

  runways_stay : (old new : Found) → AreRunways xs old → IsSame old new → runways_in (airfield_at (after_amendment xs a) (amended_id a)) ≡ runways_in (airfield_at xs (amended_id a))
      → AreRunways (after_amendment xs a) new
  runways_stay old new are same stay = named_same HasFieldId runway_key (runway_found xs) (runway_found (after_amendment xs a)) old new are same (λ m h. stay_by m (bytes_eq m.airport (amended_id a)) refl stay)

  -- where the row of the airfield stays as it is, so do all
  field_by : (m : List ℕ) (b : Bool) → bytes_eq m (amended_id a) ≡ b → field_found (after_amendment xs a) (amended_id a) ≡ field_found xs (amended_id a)
      → field_found (after_amendment xs a) m ≡ field_found xs m
  field_by m true e same =
      let is : m ≡ amended_id a = (bytes_eq-Decides m (amended_id a)).0 e in
      ap (field_found (after_amendment xs a)) is ∙ same ∙ ap (field_found xs) (sym is)
  field_by m false e same = other_field xs a m (apart_by m (amended_id a) e)

  fields_stay : (old new : Found) → AreAirfields xs old → IsSame old new → field_found (after_amendment xs a) (amended_id a) ≡ field_found xs (amended_id a)
      → AreAirfields (after_amendment xs a) new
  fields_stay old new are same stay = named_same IsFieldId field_key (field_found xs) (field_found (after_amendment xs a)) old new are same (λ m h. field_by m (bytes_eq m (amended_id a)) refl stay)

  -- an airfield whose row is put, or taken out
  field_put : (old new : Found) (row : Option (List ℕ)) → AreAirfields xs old → IsFieldId (amended_id a) → IsPutAt (amended_id a) row old new → row ≡ field_found (after_amendment xs a) (amended_id a)
      → AreAirfields (after_amendment xs a) new
  field_put old new row are h put is =
      named_put IsFieldId field_key (field_found xs) (field_found (after_amendment xs a)) old new (amended_id a) one_field are h (record { here = put.here ∙ is; elsewhere = put.elsewhere }) (λ m k apart. other_field xs a m apart)

  -- a runway whose row is put, or taken out
  runway_put : (old new : Found) (name : List ℕ) (row : Option (List ℕ)) → AreRunways xs old → IsFieldId (amended_id a) → IsPutAt (runway_key_text (amended_id a) name) row old new
      → row ≡ option_map runway_text (runway_at (runways_in (airfield_at (after_amendment xs a) (amended_id a))) name)
      → ((k : List ℕ) → k ≢ name → runway_at (runways_in (airfield_at (after_amendment xs a) (amended_id a))) k ≡ runway_at (runways_in (airfield_at xs (amended_id a))) k)
      → AreRunways (after_amendment xs a) new
  unfolding made_name
  runway_put old new name row are h put is others =
      named_put HasFieldId runway_key (runway_found xs) (runway_found (after_amendment xs a)) old new (made_name (amended_id a) name) one_runway_name are h
      (record { here = put.here ∙ is; elsewhere = put.elsewhere }) (λ m k apart. by m (bytes_eq m.airport (amended_id a)) refl apart)
    where
      by : (m : RunwayName) (b : Bool) → bytes_eq m.airport (amended_id a) ≡ b → m ≢ made_name (amended_id a) name → runway_found (after_amendment xs a) m ≡ runway_found xs m
      by m true e apart =
          let is : m.airport ≡ amended_id a = (bytes_eq-Decides m.airport (amended_id a)).0 e in
          ap (λ id. option_map runway_text (runway_at (runways_in (airfield_at (after_amendment xs a) id)) m.runway)) is
          ∙ ap (option_map runway_text) (others m.runway (λ same. apart (ap (λ id. made_name id m.runway) is ∙ ap (made_name (amended_id a)) same)))
          ∙ ap (λ id. option_map runway_text (runway_at (runways_in (airfield_at xs id)) m.runway)) (sym is)
      by m false e apart = other_airport xs a m (apart_by m.airport (amended_id a) e)

-- ---- the five amendments

-- the rows of airfields and runways after it, and the other tables as they were
pub record AreAmended (xs : List Airfield) (kept now : Kept) : Type 0 where
  pub airfields : AreAirfields xs (found_in now tables.Airfield)
  pub runways : AreRunways xs (found_in now tables.Runway)
  pub beside : (n : ℕ) (q : List ℕ) → 2 ≤ n → maps.get now (n, q) ≡ maps.get kept (n, q)

put_found : (v : Airfield) (xs : List Airfield) → airfield_at (put_by name_cmp id_of v xs) (id_of v) ≡ Some v
put_found v xs = found_by-put_same name_cmp nat_list_cmp_total id_of (id_of v) v xs (tied_itself nat_list_cmp_total (id_of v))

module _ (xs : List Airfield) (kept : Kept) (airfields : AreAirfields xs (found_in kept tables.Airfield)) (runways : AreRunways xs (found_in kept tables.Runway)) where
  airport_amended : (id : List ℕ) (category : Category) (arp : Point) (z : ℤ) → IsFieldId id
      → AreAmended (after_amendment xs (PutAirport id category arp z)) kept (rows_after_changes kept (amendment_changes xs (PutAirport id category arp z)))
  airport_amended id category arp z h =
      let a = PutAirport id category arp z in
      let v = AnAirport (put_airport xs id category arp z) in
      let found : airfield_at (after_amendment xs a) id ≡ Some v = put_found v xs in
      record {
        airfields = field_put xs a _ _ (Some (airfield_row v)) airfields h (put_in kept tables.Airfield id (airfield_row v)) (ap (option_map airfield_row) (sym found));
        runways = runways_stay xs a _ _ runways (λ q. put_beside kept tables.Airfield id (airfield_row v) 1 q (λ e. absurd (cc (e)))) (ap runways_in found);
        beside = λ n q l. put_beside kept tables.Airfield id (airfield_row v) n q (λ e. absurd (omega (arith, l, e)));
      }

  heliport_put : (h : Heliport) → IsFieldId h.id → runways_in (airfield_at xs h.id) ≡ []
      → AreAmended (after_amendment xs (PutHeliport h)) kept (rows_after_changes kept (amendment_changes xs (PutHeliport h)))
  heliport_put h k none =
      let a = PutHeliport h in
      let v = AHeliport h in
      let found : airfield_at (after_amendment xs a) h.id ≡ Some v = put_found v xs in
      record {
        airfields = field_put xs a _ _ (Some (airfield_row v)) airfields k (put_in kept tables.Airfield h.id (airfield_row v)) (ap (option_map airfield_row) (sym found));
        runways = runways_stay xs a _ _ runways (λ q. put_beside kept tables.Airfield h.id (airfield_row v) 1 q (λ e. absurd (cc (e)))) (ap runways_in found ∙ sym none);
        beside = λ n q l. put_beside kept tables.Airfield h.id (airfield_row v) n q (λ e. absurd (omega (arith, l, e)));
      }

  heliport_amended : (h : Heliport) (o : Option Airfield) → airfield_at xs h.id ≡ o → first_of (heliport_rules xs o h) ≡ None → IsFieldId h.id
      → AreAmended (after_amendment xs (PutHeliport h)) kept (rows_after_changes kept (amendment_changes xs (PutHeliport h)))
  heliport_amended h (Some (AnAirport b)) at rule k = absurd (cc (rule))
  heliport_amended h None at rule k = heliport_put h k (ap runways_in at)
  heliport_amended h (Some (AHeliport g)) at rule k = heliport_put h k (ap runways_in at)

  runway_amended : (id : List ℕ) (r : Runway) (o : Option Airfield) → airfield_at xs id ≡ o → first_of (runway_rules o r) ≡ None → IsFieldId id
      → AreAmended (after_amendment xs (PutRunway id r)) kept (rows_after_changes kept (amendment_changes xs (PutRunway id r)))
  runway_amended id r None at rule h = absurd (cc (rule))
  runway_amended id r (Some (AHeliport g)) at rule h = absurd (cc (rule))
  runway_amended id r (Some (AnAirport b)) at rule h =
      let a = PutRunway id r in
      let v = AnAirport (with_runway r b) in
      let named : b.id ≡ id = found_named id (AnAirport b) xs at in
      let found : airfield_at (after_amendment xs a) id ≡ Some v = ap (λ o. airfield_at (put_runway xs o r) id) at ∙ ap (airfield_at (put_by name_cmp id_of v xs)) (sym named) ∙ put_found v xs in
      record {
        airfields = fields_stay xs a _ _ airfields (λ q. put_beside kept tables.Runway (runway_key_text id r.name) (runway_text r) 0 q (λ e. absurd (cc (e)))) (ap (option_map airfield_row) found ∙ ap (option_map airfield_row) (sym at));
        runways = runway_put xs a _ _ r.name (Some (runway_text r)) runways h (put_in kept tables.Runway (runway_key_text id r.name) (runway_text r))
            (ap (option_map runway_text) (sym (ap (λ o. runway_at (runways_in o) r.name) found ∙ found_by-put_same name_cmp nat_list_cmp_total name_of r.name r b.runways (tied_itself nat_list_cmp_total r.name))))
            (λ k apart. ap (λ o. runway_at (runways_in o) k) found ∙ found_by-put_other name_cmp nat_list_cmp_total name_of k r b.runways (λ e. apart (same_name k r.name e)) ∙ ap (λ o. runway_at (runways_in o) k) (sym at));
        beside = λ n q l. put_beside kept tables.Runway (runway_key_text id r.name) (runway_text r) n q (λ e. absurd (omega (arith, l, e)));
      }

  dropped_amended : (id name : List ℕ) (o : Option Airfield) → airfield_at xs id ≡ o → first_of (drop_runway_rules o name) ≡ None → IsFieldId id
      → AreAmended (after_amendment xs (DropRunway id name)) kept (rows_after_changes kept (amendment_changes xs (DropRunway id name)))
  dropped_amended id name None at rule h = absurd (cc (rule))
  dropped_amended id name (Some (AHeliport g)) at rule h = absurd (cc (rule))
  dropped_amended id name (Some (AnAirport b)) at rule h =
      let a = DropRunway id name in
      let v = AnAirport (without_runway name b) in
      let named : b.id ≡ id = found_named id (AnAirport b) xs at in
      let found : airfield_at (after_amendment xs a) id ≡ Some v = ap (λ o. airfield_at (drop_runway xs o name) id) at ∙ ap (airfield_at (put_by name_cmp id_of v xs)) (sym named) ∙ put_found v xs in
      record {
        airfields = fields_stay xs a _ _ airfields (λ q. removed_beside kept tables.Runway (runway_key_text id name) 0 q (λ e. absurd (cc (e)))) (ap (option_map airfield_row) found ∙ ap (option_map airfield_row) (sym at));
        runways = runway_put xs a _ _ name None runways h (removed_in kept tables.Runway (runway_key_text id name))
            (ap (option_map runway_text) (sym (ap (λ o. runway_at (runways_in o) name) found ∙ found_by-removed_same name_cmp nat_list_cmp_total name_of name name b.runways (tied_itself nat_list_cmp_total name))))
            (λ k apart. ap (λ o. runway_at (runways_in o) k) found ∙ found_by-removed_other name_cmp nat_list_cmp_total name_of k name b.runways (λ e. apart (same_name k name e)) ∙ ap (λ o. runway_at (runways_in o) k) (sym at));
        beside = λ n q l. removed_beside kept tables.Runway (runway_key_text id name) n q (λ e. absurd (omega (arith, l, e)));
      }

-- ---- an airfield that is taken out goes with each of its runways

abbrev pub is_key_of : List ℕ → List ℕ → Runway → Bool
is_key_of id k r = bytes_eq k (runway_key_text id r.name)

abbrev removals : List ℕ → List Runway → Kept → Kept
removals id rs kept = rows_after_changes kept (map (λ (r : Runway). remove_runway id r.name) rs)

join_none : (b c : Bool) (o : Option (List ℕ)) → cond c None (cond b None o) ≡ cond (b || c) None o
join_none true true o = refl
join_none true false o = refl
join_none false c o = refl

removal_by : (kept : Kept) (id : List ℕ) (r : Runway) (k : List ℕ) (b : Bool) → is_key_of id k r ≡ b
    → found_in (rows_after_change kept (remove_runway id r.name)) tables.Runway k ≡ cond b None (found_in kept tables.Runway k)
removal_by kept id r k true e =
    ap (found_in (rows_after_change kept (remove_runway id r.name)) tables.Runway) ((bytes_eq-Decides k (runway_key_text id r.name)).0 e)
    ∙ IsPutAt.here (removed_in kept tables.Runway (runway_key_text id r.name))
removal_by kept id r k false e = IsPutAt.elsewhere (removed_in kept tables.Runway (runway_key_text id r.name)) k (apart_by k (runway_key_text id r.name) e)

removed_all : (id : List ℕ) (rs : List Runway) (kept : Kept) (k : List ℕ) → found_in (removals id rs kept) tables.Runway k ≡ cond (list_any (is_key_of id k) rs) None (found_in kept tables.Runway k)
removed_all id [] kept k = refl
removed_all id (r ∷ rs) kept k =
    removed_all id rs (rows_after_change kept (remove_runway id r.name)) k ∙ ap (cond (list_any (is_key_of id k) rs) None) (removal_by kept id r k (is_key_of id k r) refl)
    ∙ join_none (is_key_of id k r) (list_any (is_key_of id k) rs) (found_in kept tables.Runway k)

removals_beside : (id : List ℕ) (rs : List Runway) (kept : Kept) (n : ℕ) (q : List ℕ) → n ≢ 1 → maps.get (removals id rs kept) (n, q) ≡ maps.get kept (n, q)
removals_beside id [] kept n q apart = refl
removals_beside id (r ∷ rs) kept n q apart = removals_beside id rs (rows_after_change kept (remove_runway id r.name)) n q apart ∙ removed_beside kept tables.Runway (runway_key_text id r.name) n q apart

-- each runway of the airport is among those that are taken out
gone_by : (id name : List ℕ) (r : Runway) (rs : List Runway) (b : Bool) → is_eq (name_cmp name r.name) ≡ b → cond (list_any (is_key_of id (runway_key_text id name)) rs) None (option_map runway_text (runway_at rs name)) ≡ None
    → cond (is_key_of id (runway_key_text id name) r || list_any (is_key_of id (runway_key_text id name)) rs) None (option_map runway_text (cond b (Some r) (runway_at rs name))) ≡ None
gone_by id name r rs true e h =
    let same : name ≡ r.name = (bytes_eq-Decides name r.name).0 (sym (is_eq-slice_cmp name r.name) ∙ e) in
    let key : is_key_of id (runway_key_text id name) r ≡ true = (bytes_eq-Decides (runway_key_text id name) (runway_key_text id r.name)).1 (ap (runway_key_text id) same) in
    ap (λ b. cond (b || list_any (is_key_of id (runway_key_text id name)) rs) None (Some (runway_text r))) key
gone_by id name r rs false e h = or_none (is_key_of id (runway_key_text id name) r) (list_any (is_key_of id (runway_key_text id name)) rs) (option_map runway_text (runway_at rs name)) h
  where
    or_none : (b c : Bool) (o : Option (List ℕ)) → cond c None o ≡ None → cond (b || c) None o ≡ None
    or_none true c o h = refl
    or_none false c o h = h

gone : (id name : List ℕ) (rs : List Runway) → cond (list_any (is_key_of id (runway_key_text id name)) rs) None (option_map runway_text (runway_at rs name)) ≡ None
gone id name [] = refl
gone id name (r ∷ rs) = gone_by id name r rs (is_eq (name_cmp name r.name)) refl (gone id name rs)

-- and no other airport's
not_gone : (id : List ℕ) (m : RunwayName) (rs : List Runway) → IsFieldId id → IsFieldId m.airport → m.airport ≢ id → list_any (is_key_of id (runway_key m)) rs ≡ false
unfolding made_name
not_gone id m [] h k apart = refl
not_gone id m (r ∷ rs) h k apart =
    let other : is_key_of id (runway_key m) r ≡ false = not_key (is_key_of id (runway_key m) r) refl in
    rw other (not_gone id m rs h k apart)
  where
    not_key : (b : Bool) → is_key_of id (runway_key m) r ≡ b → b ≡ false
    not_key true e = absurd (apart (ap (λ (n : RunwayName). n.airport) (one_runway_name m (made_name id r.name) k h ((bytes_eq-Decides (runway_key m) (runway_key_text id r.name)).0 e))))
    not_key false e = refl

none_either : (b : Bool) (o : Option (List ℕ)) → o ≡ None → cond b None o ≡ None
none_either true o h = refl
none_either false o h = h

module _ (xs : List Airfield) (kept : Kept) (airfields : AreAirfields xs (found_in kept tables.Airfield)) (runways : AreRunways xs (found_in kept tables.Runway)) (id : List ℕ) (h : IsFieldId id) where
  left : Kept
  left = rows_after_changes kept (amendment_changes xs (Drop id))

  dropped_there : (m : RunwayName) (b : Bool) → bytes_eq m.airport id ≡ b → HasFieldId m
      → cond (list_any (is_key_of id (runway_key m)) (runways_in (airfield_at xs id))) None (runway_found xs m) ≡ runway_found (after_amendment xs (Drop id)) m
  dropped_there m true e k =
      let is : m.airport ≡ id = (bytes_eq-Decides m.airport id).0 e in
      let none : airfield_at (after_amendment xs (Drop id)) id ≡ None = found_by-removed_same name_cmp nat_list_cmp_total id_of id id xs (tied_itself nat_list_cmp_total id) in
      ap (λ i. cond (list_any (is_key_of id (runway_key_text i m.runway)) (runways_in (airfield_at xs id))) None (option_map runway_text (runway_at (runways_in (airfield_at xs i)) m.runway))) is
      ∙ gone id m.runway (runways_in (airfield_at xs id))
      ∙ sym (ap (λ i. option_map runway_text (runway_at (runways_in (airfield_at (after_amendment xs (Drop id)) i)) m.runway)) is ∙ ap (λ o. option_map runway_text (runway_at (runways_in o) m.runway)) none)
  dropped_there m false e k =
      let apart = apart_by m.airport id e in
      ap (λ b. cond b None (runway_found xs m)) (not_gone id m (runways_in (airfield_at xs id)) h k apart) ∙ sym (other_airport xs (Drop id) m apart)

  field_dropped : (k : List ℕ) → found_in left tables.Airfield k ≡ found_in (rows_after_change kept (Remove tables.Airfield id)) tables.Airfield k
  unfolding left
  field_dropped k = removals_beside id (runways_in (airfield_at xs id)) (rows_after_change kept (Remove tables.Airfield id)) 0 k (λ e. absurd (cc (e)))

  runway_dropped : (k : List ℕ) → found_in left tables.Runway k ≡ cond (list_any (is_key_of id k) (runways_in (airfield_at xs id))) None (found_in kept tables.Runway k)
  unfolding left
  runway_dropped k =
      removed_all id (runways_in (airfield_at xs id)) (rows_after_change kept (Remove tables.Airfield id)) k
      ∙ ap (cond (list_any (is_key_of id k) (runways_in (airfield_at xs id))) None) (removed_beside kept tables.Airfield id 1 k (λ e. absurd (cc (e))))

  field_amended : AreAmended (after_amendment xs (Drop id)) kept left
  unfolding left
  field_amended = record {
    airfields = field_put xs (Drop id) _ _ None airfields h
        (record { here = field_dropped id ∙ IsPutAt.here (removed_in kept tables.Airfield id); elsewhere = λ k apart. field_dropped k ∙ IsPutAt.elsewhere (removed_in kept tables.Airfield id) k apart })
        (ap (option_map airfield_row) (sym (found_by-removed_same name_cmp nat_list_cmp_total id_of id id xs (tied_itself nat_list_cmp_total id))));
    runways = record {
      there = λ m k. runway_dropped (runway_key m) ∙ ap (cond (list_any (is_key_of id (runway_key m)) (runways_in (airfield_at xs id))) None) (runways.there m k) ∙ dropped_there m (bytes_eq m.airport id) refl k;
      only = λ text none. runway_dropped text ∙ none_either (list_any (is_key_of id text) (runways_in (airfield_at xs id))) (found_in kept tables.Runway text) (runways.only text none);
    };
    beside = λ n q l. removals_beside id (runways_in (airfield_at xs id)) (rows_after_change kept (Remove tables.Airfield id)) n q (λ e. absurd (omega (arith, l, e)))
        ∙ removed_beside kept tables.Airfield id n q (λ e. absurd (omega (arith, l, e)));
  }

-- all five
pub amended_rows : (xs : List Airfield) (kept : Kept) (a : Amendment) → AreAirfields xs (found_in kept tables.Airfield) → AreRunways xs (found_in kept tables.Runway)
    → IsFieldId (amended_id a) → first_broken xs a ≡ None → AreAmended (after_amendment xs a) kept (rows_after_changes kept (amendment_changes xs a))
unfolding left
amended_rows xs kept (PutAirport id category arp z) airfields runways h rule = airport_amended xs kept airfields runways id category arp z h
amended_rows xs kept (PutRunway id r) airfields runways h rule = runway_amended xs kept airfields runways id r (airfield_at xs id) refl rule h
amended_rows xs kept (DropRunway id name) airfields runways h rule = dropped_amended xs kept airfields runways id name (airfield_at xs id) refl rule h
amended_rows xs kept (PutHeliport g) airfields runways h rule = heliport_amended xs kept airfields runways g (airfield_at xs g.id) refl rule h
amended_rows xs kept (Drop id) airfields runways h rule = field_amended xs kept airfields runways id h
