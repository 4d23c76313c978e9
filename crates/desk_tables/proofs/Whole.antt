-- A part that wants nothing is the other register.
use Rattle.std.proofs.Common.{◌≡◌, refl, sym, ap, ◌∙◌, ℕ, ℤ, List, Option, Some, None, IfSome}
use Rattle.std.proofs.lemmas.Cmp.{nat_list_cmp_total}
use Rattle.grid_exact.specs.declared.point.Point.{Point}
use Rattle.airfields.specs.Names.{name_cmp}
use Rattle.airfields.specs.Runways.{name_of, runway_at}
use Rattle.airfields.specs.Airfields.{id_of, IsHeld, IsHeldAirport}
use Rattle.airfields.specs.declared.category.Category.{Category}
use Rattle.airfields.specs.declared.runway.Runway.{Runway}
use Rattle.airfields.specs.declared.airfield.Airport.{Airport}
use Rattle.airfields.specs.declared.airfield.Airfield.{Airfield}
use Rattle.airfields.specs.declared.airfield.Airfield.TheVariants.{Airport as AnAirport, Heliport as AHeliport}
use Rattle.airport_register.specs.Registers.{IsRegister}
use Rattle.airport_register.specs.Amendments.{airfield_at, runways_in}
use Rattle.airport_register.proofs.Fields.{found_held}
use Rattle.desk_tables.specs.RegisterParts.{IsAirportPart, IsFieldPart, IsPart}
use Rattle.desk_tables.proofs.RisingKeys.{one_list}

-- what is found in the part is found in the other, and what is not is not
same_runway : (o w : Option Runway) → IfSome o (λ (r : Runway). w ≡ Some r) → (o ≡ None → w ≡ None) → o ≡ w
same_runway None w h wants = sym (wants refl)
same_runway (Some r) w h wants = sym h

made_airport : List ℕ → Category → Point → ℤ → List Runway → Airport
made_airport id category arp elevation runways = record { id = id; category = category; arp = arp; elevation = elevation; runways = runways }

same_fields : (a w : Airport) → IsAirportPart a w → a.runways ≡ w.runways → a ≡ w
unfolding made_airport
same_fields a w h e =
    ap (λ x. made_airport x a.category a.arp a.elevation a.runways) h.id ∙ ap (λ x. made_airport w.id x a.arp a.elevation a.runways) h.category
    ∙ ap (λ x. made_airport w.id w.category x a.elevation a.runways) h.arp ∙ ap (λ x. made_airport w.id w.category w.arp x a.runways) h.elevation
    ∙ ap (made_airport w.id w.category w.arp w.elevation) e

same_airport : (a w : Airport) → IsHeldAirport a → IsHeldAirport w → IsAirportPart a w
    → ((name : List ℕ) → runway_at a.runways name ≡ None → runway_at w.runways name ≡ None) → a ≡ w
same_airport a w k held h wants =
    same_fields a w h
    (one_list name_cmp nat_list_cmp_total name_of a.runways w.runways k.rises held.rises
    (λ n. same_runway (runway_at a.runways n) (runway_at w.runways n) (h.runways n) (wants n)))

same_field : (o v : Option Airfield) → ((f : Airfield) → o ≡ Some f → IsHeld f) → ((f : Airfield) → v ≡ Some f → IsHeld f) → IsFieldPart o v
    → (o ≡ None → v ≡ None) → ((name : List ℕ) → runway_at (runways_in o) name ≡ None → runway_at (runways_in v) name ≡ None) → o ≡ v
same_field None v own held h wants more = sym (wants refl)
same_field (Some (AnAirport a)) None own held h wants more = absurd h
same_field (Some (AHeliport g)) None own held h wants more = absurd h
same_field (Some (AnAirport a)) (Some (AHeliport f)) own held h wants more = absurd h
same_field (Some (AHeliport g)) (Some (AnAirport w)) own held h wants more = absurd h
same_field (Some (AHeliport g)) (Some (AHeliport f)) own held h wants more = ap (λ x. Some (AHeliport x)) h
same_field (Some (AnAirport a)) (Some (AnAirport w)) own held h wants more =
    ap (λ x. Some (AnAirport x)) (same_airport a w (own (AnAirport a) refl) (held (AnAirport w) refl) h more)

pub all_is_whole : (part whole : List Airfield) → IsRegister whole → IsPart part whole
    → ((id : List ℕ) → airfield_at part id ≡ None → airfield_at whole id ≡ None)
    → ((id name : List ℕ) → runway_at (runways_in (airfield_at part id)) name ≡ None → runway_at (runways_in (airfield_at whole id)) name ≡ None) → part ≡ whole
all_is_whole part whole r h wants more =
    one_list name_cmp nat_list_cmp_total id_of part whole h.register.rises r.rises
    (λ id. same_field (airfield_at part id) (airfield_at whole id) (λ f at. found_held id f part h.register at)
    (λ f at. found_held id f whole r at) (h.fields id) (wants id) (more id))
