-- What comes to a part from the other register breaks no rule there, and leaves it a part.
use Rattle.std.proofs.Common.{◌≡◌, ◌≢◌, refl, sym, ap, ◌∙◌, subst, ℕ, ℤ, ◌<◌, arith, List, length, Option, Some, None, IfSome, Bool, true, false}
use Rattle.std.specs.Prelude.{nat_le}
use Rattle.std.specs.Str.{bytes_eq}
use Rattle.std.proofs.lemmas.Bool.{lt-leb}
use Rattle.std.proofs.lemmas.Bool.Decides.{not_from_Decides}
use Rattle.std.proofs.lemmas.Cmp.{nat_list_cmp_total}
use Rattle.std.proofs.lemmas.Slice.Eq.{bytes_eq-Decides}
use Rattle.ordered_list.specs.Ordered.{put_by}
use Rattle.ordered_list.proofs.Finding.{put_found, found_by-put_other}
use Rattle.ordered_list.proofs.Rising.{found_holds}
use Rattle.grid_exact.specs.declared.point.Point.{Point}
use Rattle.airfields.specs.Names.{name_cmp}
use Rattle.airfields.specs.Runways.{name_of, runway_at, is_elevation, IsProper, HasNearEnds}
use Rattle.airfields.specs.Airfields.{id_of, has_heliport_shape, IsHeldAirport, IsHeldHeliport}
use Rattle.airfields.specs.declared.runways.TheConstants.{MOST_RUNWAYS}
use Rattle.airfields.specs.declared.runway.Runway.{Runway}
use Rattle.airfields.specs.declared.airfield.Airport.{Airport}
use Rattle.airfields.specs.declared.airfield.Heliport.{Heliport}
use Rattle.airfields.specs.declared.airfield.Airfield.{Airfield}
use Rattle.airfields.specs.declared.airfield.Airfield.TheVariants.{Airport as AnAirport, Heliport as AHeliport}
use Rattle.airport_register.specs.Registers.{IsRegister}
use Rattle.airport_register.specs.declared.register.TheConstants.{MOST_AIRFIELDS}
use Rattle.airport_register.specs.Amendments.{airfield_at, amended_id, after_amendment, first_broken, first_of, airport_rules}
use Rattle.airport_register.specs.Amendments.{heliport_rules, runway_rules, runways_in, put_airport, put_runway, with_runway}
use Rattle.airport_register.specs.declared.amendment.Amendment.{Amendment}
use Rattle.airport_register.specs.declared.amendment.Amendment.TheVariants.{PutAirport, PutRunway, PutHeliport}
use Rattle.airport_register.proofs.Fields.{found_held}
use Rattle.airport_register.proofs.Rules.{same_name, found_named, amended_elsewhere}
use Rattle.desk_tables.specs.RegisterParts.{IsAirportPart, IsFieldPart, IsPart}
use Rattle.desk_tables.proofs.RisingKeys.{fewer}
use Rattle.desk_tables.proofs.Tests.{elevation_passes, shape_passes, elevations_pass, length_passes, near_ends_pass, class_passes}
use Rattle.desk_tables.proofs.GoingOn.{register_kept}

-- ---- a part after an amendment

field_part : (o p w v : Option Airfield) → o ≡ p → w ≡ v → IsFieldPart p v → IsFieldPart o w
field_part o p w v e f h = rw (e, f) h

-- where it breaks no rule, and what it leaves under its name is part of what is there in the other register
part_after : (part whole : List Airfield) (a : Amendment) → IsPart part whole → first_broken part a ≡ None
    → IsFieldPart (airfield_at (after_amendment part a) (amended_id a)) (airfield_at whole (amended_id a)) → IsPart (after_amendment part a) whole
part_after part whole a h rule here = record { register = register_kept part a h.register rule; fields = λ id. by id (bytes_eq id (amended_id a)) refl }
  where
    by : (id : List ℕ) (b : Bool) → bytes_eq id (amended_id a) ≡ b → IsFieldPart (airfield_at (after_amendment part a) id) (airfield_at whole id)
    by id true e =
        let is : id ≡ amended_id a = (bytes_eq-Decides id (amended_id a)).0 e in
        field_part _ _ _ _ (ap (airfield_at (after_amendment part a)) is) (ap (airfield_at whole) is) here
    by id false e = field_part _ _ _ _ (amended_elsewhere part a id (not_from_Decides _ (bytes_eq-Decides id (amended_id a)) e)) refl (h.fields id)

-- ---- an airfield comes

field_known : (o w : Option Airfield) → IsFieldPart o w → w ≡ None → o ≡ None
field_known None w h n = refl
field_known (Some (AnAirport a)) None h n = absurd h
field_known (Some (AHeliport g)) None h n = absurd h
field_known (Some f) (Some v) h n = absurd (cc n)

-- the part has fewer airfields than the other register, which is no more than full
has_room : (part whole : List Airfield) (v : Airfield) → IsRegister whole → IsPart part whole → airfield_at whole (id_of v) ≡ Some v
    → airfield_at part (id_of v) ≡ None → nat_le MOST_AIRFIELDS (length part) ≡ false
has_room part whole v r h at none =
    let n : length part < length whole =
    fewer name_cmp nat_list_cmp_total id_of v part whole h.register.rises r.rises
    (λ k w. field_known (airfield_at part k) (airfield_at whole k) (h.fields k) w) at none in
    lt-leb MOST_AIRFIELDS (length part) (omega (arith, r.number))

airport_passes : (xs : List Airfield) (o : Option Airfield) (arp : Point) (z : ℤ) → o ≡ None → is_elevation z ≡ true → nat_le MOST_AIRFIELDS (length xs) ≡ false
    → first_of (airport_rules xs o arp z) ≡ None
airport_passes xs o arp z none e f = rw (none, e, f) refl

heliport_passes : (xs : List Airfield) (o : Option Airfield) (h : Heliport) → o ≡ None → is_elevation h.elevation ≡ true → has_heliport_shape h ≡ true
    → nat_le MOST_AIRFIELDS (length xs) ≡ false → first_of (heliport_rules xs o h) ≡ None
heliport_passes xs o h none e s f = rw (none, e, s, f) refl

bare_part : (part : List Airfield) (a : Airport) → airfield_at part a.id ≡ None → IsAirportPart (put_airport part a.id a.category a.arp a.elevation) a
bare_part part a none = record {
  id = refl;
  category = refl;
  arp = refl;
  elevation = refl;
  runways = λ name. subst (λ o. IfSome (runway_at (runways_in o) name) (λ (r : Runway). runway_at a.runways name ≡ Some r)) (sym none) tt;
}

pub airport_comes : (part whole : List Airfield) (a : Airport) → IsRegister whole → IsPart part whole → airfield_at whole a.id ≡ Some (AnAirport a)
    → airfield_at part a.id ≡ None
    → (first_broken part (PutAirport a.id a.category a.arp a.elevation) ≡ None)
    × IsPart (after_amendment part (PutAirport a.id a.category a.arp a.elevation)) whole
airport_comes part whole a r h at none =
    let held : IsHeldAirport a = found_held a.id (AnAirport a) whole r at in
    let put = PutAirport a.id a.category a.arp a.elevation in
    let rule : first_broken part put ≡ None =
    airport_passes part (airfield_at part a.id) a.arp a.elevation none (elevation_passes a.elevation held.elevation)
    (has_room part whole (AnAirport a) r h at none) in
    let bare = AnAirport (put_airport part a.id a.category a.arp a.elevation) in
    (rule, part_after part whole put h rule (field_part _ _ _ _ (put_found name_cmp nat_list_cmp_total id_of bare part _ refl) at (bare_part part a none)))

pub heliport_comes : (part whole : List Airfield) (g : Heliport) → IsRegister whole → IsPart part whole → airfield_at whole g.id ≡ Some (AHeliport g)
    → airfield_at part g.id ≡ None → (first_broken part (PutHeliport g) ≡ None) × IsPart (after_amendment part (PutHeliport g)) whole
heliport_comes part whole g r h at none =
    let held : IsHeldHeliport g = found_held g.id (AHeliport g) whole r at in
    let rule : first_broken part (PutHeliport g) ≡ None =
    heliport_passes part (airfield_at part g.id) g none (elevation_passes g.elevation held.elevation) (shape_passes g held)
    (has_room part whole (AHeliport g) r h at none) in
    (rule, part_after part whole (PutHeliport g) h rule (field_part _ _ _ _ (put_found name_cmp nat_list_cmp_total id_of (AHeliport g) part _ refl) at refl))

-- ---- a runway comes

runway_known : (o w : Option Runway) → IfSome o (λ (r : Runway). w ≡ Some r) → w ≡ None → o ≡ None
runway_known None w h n = refl
runway_known (Some r) w h n = absurd (cc (sym n ∙ h))

runway_passes : (a w : Airport) (r : Runway) → IsHeldAirport a → IsHeldAirport w → IsAirportPart a w → runway_at w.runways r.name ≡ Some r
    → runway_at a.runways r.name ≡ None → first_of (runway_rules (Some (AnAirport a)) r) ≡ None
runway_passes a w r k held h at none =
    let proper : IsProper r = found_holds name_cmp nat_list_cmp_total name_of IsProper r.name r w.runways held.proper at in
    let near : HasNearEnds w.arp r = found_holds name_cmp nat_list_cmp_total name_of (HasNearEnds w.arp) r.name r w.runways held.near at in
    let near_it : HasNearEnds a.arp r = rw h.arp near in
    let n : length a.runways < length w.runways =
    fewer name_cmp nat_list_cmp_total name_of r a.runways w.runways k.rises held.rises
    (λ i m. runway_known (runway_at a.runways i) (runway_at w.runways i) (h.runways i) m) at none in
    let room : nat_le MOST_RUNWAYS (length a.runways) ≡ false = lt-leb MOST_RUNWAYS (length a.runways) (omega (arith, held.number)) in
    rw (class_passes r proper, elevations_pass r proper, length_passes r proper, near_ends_pass a.arp r near_it, none, room) refl

one_more_part : (a w : Airport) (r : Runway) → IsAirportPart a w → runway_at w.runways r.name ≡ Some r → IsAirportPart (with_runway r a) w
one_more_part a w r h at = record {
  id = h.id;
  category = h.category;
  arp = h.arp;
  elevation = h.elevation;
  runways = λ name. by name (bytes_eq name r.name) refl;
}
  where
    by : (name : List ℕ) (b : Bool) → bytes_eq name r.name ≡ b
        → IfSome (runway_at (put_by name_cmp name_of r a.runways) name) (λ (s : Runway). runway_at w.runways name ≡ Some s)
    by name true e =
        let is : name ≡ r.name = (bytes_eq-Decides name r.name).0 e in
        let here : runway_at (put_by name_cmp name_of r a.runways) r.name ≡ Some r = put_found name_cmp nat_list_cmp_total name_of r a.runways _ refl in
        subst (λ n. IfSome (runway_at (put_by name_cmp name_of r a.runways) n) (λ (s : Runway). runway_at w.runways n ≡ Some s)) (sym is)
        (subst (λ o. IfSome o (λ (s : Runway). runway_at w.runways r.name ≡ Some s)) (sym here) at)
    by name false e =
        let other : runway_at (put_by name_cmp name_of r a.runways) name ≡ runway_at a.runways name =
        found_by-put_other name_cmp nat_list_cmp_total name_of name r a.runways
        (λ m. not_from_Decides _ (bytes_eq-Decides name r.name) e (same_name name r.name m)) in
        subst (λ o. IfSome o (λ (s : Runway). runway_at w.runways name ≡ Some s)) (sym other) (h.runways name)

runway_comes_to : (part whole : List Airfield) (id : List ℕ) (r : Runway) (o v : Option Airfield) → airfield_at part id ≡ o → airfield_at whole id ≡ v
    → IsRegister whole → IsPart part whole → o ≢ None
    → runway_at (runways_in v) r.name ≡ Some r → runway_at (runways_in o) r.name ≡ None → IsFieldPart o v
    → (first_of (runway_rules o r) ≡ None) × IsFieldPart (airfield_at (put_runway part o r) id) v
runway_comes_to part whole id r None v here there k h some at none is = absurd (some refl)
runway_comes_to part whole id r (Some (AHeliport g)) None here there k h some at none is = absurd is
runway_comes_to part whole id r (Some (AHeliport g)) (Some (AHeliport f)) here there k h some at none is = absurd (cc at)
runway_comes_to part whole id r (Some (AHeliport g)) (Some (AnAirport w)) here there k h some at none is = absurd is
runway_comes_to part whole id r (Some (AnAirport a)) None here there k h some at none is = absurd is
runway_comes_to part whole id r (Some (AnAirport a)) (Some (AHeliport f)) here there k h some at none is = absurd is
runway_comes_to part whole id r (Some (AnAirport a)) (Some (AnAirport w)) here there k h some at none is =
    let own : IsHeldAirport a = found_held id (AnAirport a) part h.register here in
    let held : IsHeldAirport w = found_held id (AnAirport w) whole k there in
    let named : a.id ≡ id = found_named id (AnAirport a) part here in
    let v = AnAirport (with_runway r a) in
    let found : airfield_at (put_by name_cmp id_of v part) id ≡ Some v =
    ap (airfield_at (put_by name_cmp id_of v part)) (sym named) ∙ put_found name_cmp nat_list_cmp_total id_of v part _ refl in
    (runway_passes a w r own held is at none, field_part _ _ _ _ found refl (one_more_part a w r is at))

pub runway_comes : (part whole : List Airfield) (id : List ℕ) (r : Runway) → IsRegister whole → IsPart part whole → airfield_at part id ≢ None
    → runway_at (runways_in (airfield_at whole id)) r.name ≡ Some r → runway_at (runways_in (airfield_at part id)) r.name ≡ None
    → (first_broken part (PutRunway id r) ≡ None) × IsPart (after_amendment part (PutRunway id r)) whole
runway_comes part whole id r k h some at none =
    let both = runway_comes_to part whole id r (airfield_at part id) (airfield_at whole id) refl refl k h some at none (h.fields id) in
    (both.0, part_after part whole (PutRunway id r) h both.0 both.1)
