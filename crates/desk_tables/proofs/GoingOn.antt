-- A register after an amendment that breaks no rule, and its names.
use Rattle.std.proofs.Common.{◌≡◌, refl, sym, ap, ◌∙◌, ℕ, List, Option, Some, None}
use Rattle.std.specs.List.{All}
use Rattle.std.proofs.lemmas.Cmp.{nat_list_cmp_total}
use Rattle.std.proofs.lemmas.List.Elements.{All-nil}
use Rattle.ordered_list.specs.Ordered.{put_by}
use Rattle.ordered_list.proofs.Rising.{All-put, All-removed, found_holds}
use Rattle.airfields.specs.Names.{name_cmp, IsRunwayName}
use Rattle.airfields.specs.Runways.{name_of}
use Rattle.airfields.specs.Airfields.{id_of}
use Rattle.airfields.specs.declared.runway.Runway.{Runway}
use Rattle.airfields.specs.declared.airfield.Airport.{Airport}
use Rattle.airfields.specs.declared.airfield.Airfield.{Airfield}
use Rattle.airfields.specs.declared.airfield.Airfield.TheVariants.{Airport as AnAirport, Heliport as AHeliport}
use Rattle.airport_register.specs.Registers.{IsRegister}
use Rattle.airport_register.specs.Amendments.{airfield_at, first_broken, first_of, runway_rules, drop_runway_rules, runways_in}
use Rattle.airport_register.specs.Amendments.{put_runway, drop_runway, put_airport, with_runway, without_runway, after_amendment}
use Rattle.airport_register.specs.declared.amendment.Amendment.{Amendment}
use Rattle.airport_register.specs.declared.amendment.Amendment.TheVariants.{PutAirport, PutRunway, DropRunway, PutHeliport, Drop}
use Rattle.airport_register.proofs.Fields.{register_put, register_removed}
use Rattle.airport_register.proofs.Rules.{found_named, amendment_room, held_put, held_heliport, held_with, held_without}
use Rattle.desk_tables.specs.Names.{IsNamed, HasName, PutsNames}

-- ---- a register

-- an airport that is there takes its own place, for which there is room
in_its_place : (b : Airport) (xs : List Airfield) (v : Airport) (id : List ℕ) → airfield_at xs id ≡ Some (AnAirport b) → v.id ≡ b.id
    → airfield_at xs v.id ≡ None → ⊥
in_its_place b xs v id at same none = absurd (cc (sym none ∙ ap (airfield_at xs) (same ∙ found_named id (AnAirport b) xs at) ∙ at))

with_runway_on : (xs : List Airfield) (id : List ℕ) (r : Runway) (o : Option Airfield) → airfield_at xs id ≡ o → IsRegister xs
    → first_broken xs (PutRunway id r) ≡ None → first_of (runway_rules o r) ≡ None → IsRegister (put_runway xs o r)
with_runway_on xs id r None at h rule here = absurd (cc (here))
with_runway_on xs id r (Some (AHeliport g)) at h rule here = absurd (cc (here))
with_runway_on xs id r (Some (AnAirport b)) at h rule here =
    register_put (AnAirport (with_runway r b)) xs _ h (held_with xs id b _ r h rule at refl)
    (λ none. absurd (in_its_place b xs (with_runway r b) id at refl none)) refl

without_runway_on : (xs : List Airfield) (id name : List ℕ) (o : Option Airfield) → airfield_at xs id ≡ o → IsRegister xs
    → first_of (drop_runway_rules o name) ≡ None → IsRegister (drop_runway xs o name)
without_runway_on xs id name None at h here = absurd (cc (here))
without_runway_on xs id name (Some (AHeliport g)) at h here = absurd (cc (here))
without_runway_on xs id name (Some (AnAirport b)) at h here =
    register_put (AnAirport (without_runway name b)) xs _ h (held_without xs id b _ name h at refl)
    (λ none. absurd (in_its_place b xs (without_runway name b) id at refl none)) refl

pub register_kept : (r : List Airfield) (a : Amendment) → IsRegister r → first_broken r a ≡ None → IsRegister (after_amendment r a)
register_kept xs (PutAirport id category arp z) h rule =
    let a = put_airport xs id category arp z in
    register_put (AnAirport a) xs _ h (held_put xs id category a h rule refl) (amendment_room xs (PutAirport id category arp z) rule) refl
register_kept xs (PutRunway id r) h rule = with_runway_on xs id r (airfield_at xs id) refl h rule rule
register_kept xs (DropRunway id name) h rule = without_runway_on xs id name (airfield_at xs id) refl h rule
register_kept xs (PutHeliport g) h rule = register_put (AHeliport g) xs _ h (held_heliport xs g rule) (amendment_room xs (PutHeliport g) rule) refl
register_kept xs (Drop id) h rule = register_removed id xs _ h refl

-- ---- names

named_runways : (o : Option Airfield) → ((f : Airfield) → o ≡ Some f → IsNamed f) → All HasName (runways_in o)
named_runways None named = All-nil HasName
named_runways (Some (AnAirport b)) named = (named (AnAirport b) refl).1
named_runways (Some (AHeliport g)) named = All-nil HasName

put_named : (v : Airfield) (xs : List Airfield) → All IsNamed xs → IsNamed v → All IsNamed (put_by name_cmp id_of v xs)
put_named v xs h n = All-put name_cmp nat_list_cmp_total id_of IsNamed v xs n h

found_is_named : (xs : List Airfield) (id : List ℕ) (v : Airfield) → All IsNamed xs → airfield_at xs id ≡ Some v → IsNamed v
found_is_named xs id v h at = found_holds name_cmp nat_list_cmp_total id_of IsNamed id v xs h at

named_with : (xs : List Airfield) (id : List ℕ) (r : Runway) (o : Option Airfield) → airfield_at xs id ≡ o → All IsNamed xs → IsRunwayName r.name
    → All IsNamed (put_runway xs o r)
named_with xs id r None at h n = h
named_with xs id r (Some (AHeliport g)) at h n = h
named_with xs id r (Some (AnAirport b)) at h n =
    let named : IsNamed (AnAirport b) = found_is_named xs id (AnAirport b) h at in
    put_named (AnAirport (with_runway r b)) xs h (named.0, All-put name_cmp nat_list_cmp_total name_of HasName r b.runways n named.1)

named_without : (xs : List Airfield) (id name : List ℕ) (o : Option Airfield) → airfield_at xs id ≡ o → All IsNamed xs → All IsNamed (drop_runway xs o name)
named_without xs id name None at h = h
named_without xs id name (Some (AHeliport g)) at h = h
named_without xs id name (Some (AnAirport b)) at h =
    let named : IsNamed (AnAirport b) = found_is_named xs id (AnAirport b) h at in
    put_named (AnAirport (without_runway name b)) xs h (named.0, All-removed name_cmp nat_list_cmp_total name_of HasName name b.runways named.1)

pub names_kept : (r : List Airfield) (a : Amendment) → All IsNamed r → PutsNames a → All IsNamed (after_amendment r a)
names_kept xs (PutAirport id category arp z) h n =
    put_named (AnAirport (put_airport xs id category arp z)) xs h (n, named_runways (airfield_at xs id) (λ f at. found_is_named xs id f h at))
names_kept xs (PutRunway id r) h n = named_with xs id r (airfield_at xs id) refl h n
names_kept xs (DropRunway id name) h n = named_without xs id name (airfield_at xs id) refl h
names_kept xs (PutHeliport g) h n = put_named (AHeliport g) xs h n
names_kept xs (Drop id) h n = All-removed name_cmp nat_list_cmp_total id_of IsNamed id xs h
