-- What an amendment that breaks no rule leaves in the register.
use Rattle.std.proofs.Common.{◌≡◌, ◌≢◌, ℕ, ℤ, ◌<◌, ◌≤◌, List, [], ◌∷◌, length, Option, Some, None, Bool, true, false, refl, sym, ◌∙◌, arith, cond}
use Rattle.std.specs.Prelude.{◌&&◌, is_none, nat_le}
use Rattle.std.specs.List.{All, list_all}
use Rattle.std.specs.Ordering.{is_eq}
use Rattle.std.specs.declared.cmp.Ordering.TheVariants.{Equal}
use Rattle.std.proofs.lemmas.Cmp.{nat_list_cmp_total}
use Rattle.std.proofs.lemmas.Map.Text.{is_eq-slice_cmp}
use Rattle.std.proofs.lemmas.Slice.Eq.{bytes_eq-Decides}
use Rattle.std.proofs.lemmas.Bool.{not-false}
use Rattle.std.proofs.lemmas.Bool.Decides.{nat_tests}
use Rattle.std.proofs.lemmas.List.Elements.{All-nil}
use Rattle.ordered_list.specs.Ordered.{put_by, removed_by}
use Rattle.ordered_list.proofs.Finding.{found_by-put_other, found_by-removed_other}
use Rattle.ordered_list.proofs.Rising.{Rises-put, All-put, Rises-removed, All-removed, found_key, length-put_room, length-removed}
use Rattle.grid_exact.specs.declared.point.Point.{Point}
use Rattle.airfields.specs.Names.{name_cmp}
use Rattle.airfields.specs.Runways.{name_of, runway_at, IsElevation, is_elevation, IsProper, HasNearEnds, has_near_ends, has_elevations, is_within_length}
use Rattle.airfields.specs.Airfields.{id_of, IsHeld, IsHeldAirport, IsHeldHeliport, has_heliport_shape}
use Rattle.airport_register.specs.Registers.{IsRegister}
use Rattle.airfields.specs.declared.runways.TheConstants.{MOST_RUNWAYS}
use Rattle.airport_register.specs.declared.register.TheConstants.{MOST_AIRFIELDS}
use Rattle.airport_register.specs.Amendments.{airfield_at, Rule, first_of, first_broken, airport_rules, runway_rules, drop_runway_rules, heliport_rules, drop_rules, runways_in, put_runway, drop_runway, with_runways, with_runway, without_runway, put_airport, after_amendment, amended_id}
use Rattle.airfields.specs.declared.category.Category.{Category}
use Rattle.airfields.specs.declared.runway.Runway.{Runway}
use Rattle.airfields.specs.declared.airfield.Airport.{Airport}
use Rattle.airfields.specs.declared.airfield.Heliport.{Heliport}
use Rattle.airfields.specs.declared.airfield.Airfield.{Airfield}
use Rattle.airfields.specs.declared.airfield.Airfield.TheVariants.{Airport as AnAirport, Heliport as AHeliport}
use Rattle.airport_register.specs.declared.amendment.Amendment.{Amendment}
use Rattle.airport_register.specs.declared.amendment.Amendment.TheVariants.{PutAirport, PutRunway, DropRunway, PutHeliport, Drop}
use Rattle.airport_register.specs.declared.amendment.AmendRefusal.{AmendRefusal}
use Rattle.airport_register.proofs.Fields.{found_held}
use Rattle.airfields.proofs.WithinLimits.{elevation_told, heliport_told, proper_told, near_ends_told, all_near_told}

-- names that stand equal in their order are one
pub same_name : (j k : List ℕ) → name_cmp j k ≡ Equal → j ≡ k
same_name j k e =
    let t : is_eq (name_cmp j k) ≡ true = rw e refl in
    (bytes_eq-Decides j k).0 (sym (is_eq-slice_cmp j k) ∙ t)

-- an airfield that is found has the name under which it was looked for
pub found_named : (k : List ℕ) (v : Airfield) (xs : List Airfield) → airfield_at xs k ≡ Some v → id_of v ≡ k
found_named k v xs e = sym (same_name k (id_of v) (found_key name_cmp nat_list_cmp_total id_of k v xs e))

-- ---- no rule is broken: where there is no first broken one, none of them is

abbrev AllKept : List Rule → Type 0
AllKept [] = Unit {0}
AllKept (rule ∷ rules) = (rule.is_broken ≡ false) × AllKept rules

all_kept_step : (b : Bool) (refusal : AmendRefusal) (rules : List Rule) → (first_of rules ≡ None → AllKept rules) → cond b (Some refusal) (first_of rules) ≡ None → (b ≡ false) × AllKept rules
all_kept_step true refusal rules r e = absurd cc
all_kept_step false refusal rules r e = (refl, r e)

all_kept : (rules : List Rule) → first_of rules ≡ None → AllKept rules
all_kept [] e = tt
all_kept (rule ∷ rules) e = all_kept_step rule.is_broken rule.refusal rules (all_kept rules) e

-- there is room: nothing is there under the name, and the list is not full
room_told : {T : Type 0} (o : Option T) (n most : ℕ) → (is_none o && nat_le most n) ≡ false → o ≡ None → n < most
room_told None n most e m = grind (arith, nat_tests)
room_told (Some x) n most e m = absurd cc

-- an airport that breaks no rule
pub record IsAllowedAirport (xs : List Airfield) (field : Option Airfield) (arp : Point) (z : ℤ) : Type 0 where
  pub elevation : IsElevation z
  pub near : All (HasNearEnds arp) (runways_in field)
  pub room : field ≡ None → length xs < MOST_AIRFIELDS

pub airport_allowed : (xs : List Airfield) (field : Option Airfield) (arp : Point) (z : ℤ) → first_of (airport_rules xs field arp z) ≡ None → IsAllowedAirport xs field arp z
airport_allowed xs field arp z e =
    let k = all_kept (airport_rules xs field arp z) e in
    record {
      elevation = elevation_told z (not-false (is_elevation z) k.1.0);
      near = all_near_told arp (runways_in field) (not-false (list_all (has_near_ends arp) (runways_in field)) k.1.1.0);
      room = room_told field (length xs) MOST_AIRFIELDS k.1.1.1.0;
    }

-- a heliport that breaks no rule
pub record IsAllowedHeliport (xs : List Airfield) (field : Option Airfield) (h : Heliport) : Type 0 where
  pub held : IsHeldHeliport h
  pub room : field ≡ None → length xs < MOST_AIRFIELDS

pub heliport_allowed : (xs : List Airfield) (field : Option Airfield) (h : Heliport) → first_of (heliport_rules xs field h) ≡ None → IsAllowedHeliport xs field h
heliport_allowed xs field h e =
    let k = all_kept (heliport_rules xs field h) e in
    record {
      held = heliport_told h (not-false (is_elevation h.elevation) k.1.0) (not-false (has_heliport_shape h) k.1.1.0);
      room = room_told field (length xs) MOST_AIRFIELDS k.1.1.1.0;
    }

-- a runway that an airport may have
pub record IsAllowedRunway (a : Airport) (r : Runway) : Type 0 where
  pub proper : IsProper r
  pub near : HasNearEnds a.arp r
  pub room : runway_at a.runways r.name ≡ None → length a.runways < MOST_RUNWAYS

pub runway_allowed : (a : Airport) (r : Runway) → first_of (runway_rules (Some (AnAirport a)) r) ≡ None → IsAllowedRunway a r
runway_allowed a r e =
    let k = all_kept (runway_rules (Some (AnAirport a)) r) e in
    let own = k.1.1 in  -- the rules after those on whether there is such an airport
    record {
      proper = proper_told r own.0 (not-false (has_elevations r) own.1.0) (not-false (is_within_length r) own.1.1.0);
      near = near_ends_told a.arp r (not-false (has_near_ends a.arp r) own.1.1.1.0);
      room = room_told (runway_at a.runways r.name) (length a.runways) MOST_RUNWAYS own.1.1.1.1.0;
    }

-- no rule is broken, so there is an airfield
runway_known : (o : Option Airfield) (r : Runway) → first_of (runway_rules o r) ≡ None → o ≡ None → ⊥
runway_known None r e m = absurd cc
runway_known (Some f) r e m = absurd cc

drop_known : (o : Option Airfield) (name : List ℕ) → first_of (drop_runway_rules o name) ≡ None → o ≡ None → ⊥
drop_known None name e m = absurd cc
drop_known (Some f) name e m = absurd cc

field_known : (o : Option Airfield) → first_of (drop_rules o) ≡ None → o ≡ None → ⊥
field_known None e m = absurd cc
field_known (Some f) e m = absurd cc

-- where no rule is broken and no airfield of the name is there, the register has room for it
pub amendment_room : (xs : List Airfield) (a : Amendment) → first_broken xs a ≡ None → airfield_at xs (amended_id a) ≡ None → length xs < MOST_AIRFIELDS
amendment_room xs (PutAirport id category arp elevation) e m = (airport_allowed xs (airfield_at xs id) arp elevation e).room m
amendment_room xs (PutRunway id r) e m = absurd (runway_known (airfield_at xs id) r e m)
amendment_room xs (DropRunway id name) e m = absurd (drop_known (airfield_at xs id) name e m)
amendment_room xs (PutHeliport h) e m = (heliport_allowed xs (airfield_at xs h.id) h e).room m
amendment_room xs (Drop id) e m = absurd (field_known (airfield_at xs id) e m)

-- ---- what may be held

no_runways : (b : Airport) → IsElevation b.elevation → b.runways ≡ [] → IsHeldAirport b
no_runways b h e =
    record {
      elevation = h;
      number = rw e (omega arith);
      rises = rw e tt;
      proper = rw e (All-nil IsProper);
      near = rw e (All-nil (HasNearEnds b.arp));
    }

held_step : (xs : List Airfield) (field : Option Airfield) (b : Airport) → IsAllowedAirport xs field b.arp b.elevation → ((f : Airfield) → field ≡ Some f → IsHeld f) → b.runways ≡ runways_in field → IsHeldAirport b
held_step xs None b r h e = no_runways b r.elevation e
held_step xs (Some (AnAirport a)) b r h e =
    let k : IsHeldAirport a = h (AnAirport a) refl in
    record { elevation = r.elevation; number = rw e k.number; rises = rw e k.rises; proper = rw e k.proper; near = rw e r.near }
held_step xs (Some (AHeliport p)) b r h e = no_runways b r.elevation e

-- an airport without runways, or with those that are there
pub held_put : (xs : List Airfield) (id : List ℕ) (category : Category) (b : Airport) → IsRegister xs → first_broken xs (PutAirport id category b.arp b.elevation) ≡ None → b.runways ≡ runways_in (airfield_at xs id) → IsHeldAirport b
held_put xs id category b reg e n =
    held_step xs (airfield_at xs id) b (airport_allowed xs (airfield_at xs id) b.arp b.elevation e) (λ f m. found_held id f xs reg m) n

-- a heliport that breaks no rule
pub held_heliport : (xs : List Airfield) (h : Heliport) → first_broken xs (PutHeliport h) ≡ None → IsHeldHeliport h
held_heliport xs h e = (heliport_allowed xs (airfield_at xs h.id) h e).held

-- a held airport with one more runway that it may have
pub held_with : (xs : List Airfield) (id : List ℕ) (a : Airport) (rs : List Runway) (r : Runway) → IsRegister xs → first_broken xs (PutRunway id r) ≡ None → airfield_at xs id ≡ Some (AnAirport a) → rs ≡ put_by name_cmp name_of r a.runways → IsHeldAirport (with_runways rs a)
held_with xs id a rs r reg b f e =
    let h : IsHeldAirport a = found_held id (AnAirport a) xs reg f in
    let l : IsAllowedRunway a r = runway_allowed a r (rw f at b) in
    record {
      elevation = h.elevation;
      number = rw e (length-put_room name_cmp nat_list_cmp_total name_of MOST_RUNWAYS r a.runways h.rises h.number l.room);
      rises = rw e (Rises-put name_cmp nat_list_cmp_total name_of r a.runways h.rises);
      proper = rw e (All-put name_cmp nat_list_cmp_total name_of IsProper r a.runways l.proper h.proper);
      near = rw e (All-put name_cmp nat_list_cmp_total name_of (HasNearEnds a.arp) r a.runways l.near h.near);
    }

-- a held airport without one of its runways
pub held_without : (xs : List Airfield) (id : List ℕ) (a : Airport) (rs : List Runway) (k : List ℕ) → IsRegister xs → airfield_at xs id ≡ Some (AnAirport a) → rs ≡ removed_by name_cmp name_of k a.runways → IsHeldAirport (with_runways rs a)
held_without xs id a rs k reg f e =
    let h : IsHeldAirport a = found_held id (AnAirport a) xs reg f in
    let n : length (removed_by name_cmp name_of k a.runways) ≤ length a.runways = length-removed name_cmp nat_list_cmp_total name_of k a.runways in
    record {
      elevation = h.elevation;
      number = rw e (omega (arith, h.number));
      rises = rw e (Rises-removed name_cmp nat_list_cmp_total name_of k a.runways h.rises);
      proper = rw e (All-removed name_cmp nat_list_cmp_total name_of IsProper k a.runways h.proper);
      near = rw e (All-removed name_cmp nat_list_cmp_total name_of (HasNearEnds a.arp) k a.runways h.near);
    }

-- ---- the other airfields

-- what is put or taken out under one name is not found under another
put_elsewhere : (v : Airfield) (xs : List Airfield) (k : List ℕ) → k ≢ id_of v → airfield_at (put_by name_cmp id_of v xs) k ≡ airfield_at xs k
put_elsewhere v xs k h = found_by-put_other name_cmp nat_list_cmp_total id_of k v xs (λ e. h (same_name k (id_of v) e))

removed_elsewhere : (j : List ℕ) (xs : List Airfield) (k : List ℕ) → k ≢ j → airfield_at (removed_by name_cmp id_of j xs) k ≡ airfield_at xs k
removed_elsewhere j xs k h = found_by-removed_other name_cmp nat_list_cmp_total id_of k j xs (λ e. h (same_name k j e))

runway_elsewhere : (xs : List Airfield) (o : Option Airfield) (id : List ℕ) (r : Runway) (k : List ℕ) → airfield_at xs id ≡ o → k ≢ id → airfield_at (put_runway xs o r) k ≡ airfield_at xs k
runway_elsewhere xs None id r k e h = refl
runway_elsewhere xs (Some (AnAirport a)) id r k e h =
    let n : a.id ≡ id = found_named id (AnAirport a) xs e in
    put_elsewhere (AnAirport (with_runway r a)) xs k (λ m. h (m ∙ n))
runway_elsewhere xs (Some (AHeliport p)) id r k e h = refl

drop_elsewhere : (xs : List Airfield) (o : Option Airfield) (id name : List ℕ) (k : List ℕ) → airfield_at xs id ≡ o → k ≢ id → airfield_at (drop_runway xs o name) k ≡ airfield_at xs k
drop_elsewhere xs None id name k e h = refl
drop_elsewhere xs (Some (AnAirport a)) id name k e h =
    let n : a.id ≡ id = found_named id (AnAirport a) xs e in
    put_elsewhere (AnAirport (without_runway name a)) xs k (λ m. h (m ∙ n))
drop_elsewhere xs (Some (AHeliport p)) id name k e h = refl

pub amended_elsewhere : (xs : List Airfield) (a : Amendment) (k : List ℕ) → k ≢ amended_id a → airfield_at (after_amendment xs a) k ≡ airfield_at xs k
amended_elsewhere xs (PutAirport id category arp elevation) k h = put_elsewhere (AnAirport (put_airport xs id category arp elevation)) xs k h
amended_elsewhere xs (PutRunway id r) k h = runway_elsewhere xs (airfield_at xs id) id r k refl h
amended_elsewhere xs (DropRunway id name) k h = drop_elsewhere xs (airfield_at xs id) id name k refl h
amended_elsewhere xs (PutHeliport p) k h = put_elsewhere (AHeliport p) xs k h
amended_elsewhere xs (Drop id) k h = removed_elsewhere id xs k h
