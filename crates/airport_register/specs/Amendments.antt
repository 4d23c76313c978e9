-- The effect of an amendment on the airfields of a register, and its refusals.
use Rattle.std.specs.Prelude.{ℕ, ℤ, List, [], ◌∷◌, length, Option, Some, None, is_none, Bool, true, false, not, ◌&&◌, cond, nat_le}
use Rattle.std.specs.List.{list_all}
use Rattle.ordered_list.specs.Ordered.{found_by, put_by, removed_by}
use Rattle.grid_exact.specs.declared.point.Point.{Point}
use Rattle.airfields.specs.Names.{name_cmp}
use Rattle.airfields.specs.Runways.{name_of, runway_at, is_within_length, is_elevation, has_elevations, is_precision_on_utility, has_near_ends}
use Rattle.airfields.specs.Airfields.{id_of, has_heliport_shape}
use Rattle.airfields.specs.declared.category.Category.{Category}
use Rattle.airfields.specs.declared.runway.Runway.{Runway}
use Rattle.airfields.specs.declared.airfield.Airport.{Airport}
use Rattle.airfields.specs.declared.airfield.Heliport.{Heliport}
use Rattle.airfields.specs.declared.airfield.Airfield.{Airfield}
use Rattle.airfields.specs.declared.airfield.Airfield.TheVariants.{Airport as AnAirport, Heliport as AHeliport}
use Rattle.airfields.specs.declared.runways.TheConstants.{MOST_RUNWAYS}
use Rattle.airport_register.specs.declared.register.TheConstants.{MOST_AIRFIELDS}
use Rattle.airport_register.specs.declared.amendment.Amendment.{Amendment}
use Rattle.airport_register.specs.declared.amendment.Amendment.TheVariants.{PutAirport, PutRunway, DropRunway, PutHeliport, Drop}
use Rattle.airport_register.specs.declared.amendment.AmendRefusal.{AmendRefusal}
use Rattle.airport_register.specs.declared.amendment.AmendRefusal.TheVariants.{PrecisionOnUtility, UnknownAirfield, UnknownRunway, RunwayLength, RunwayFar, TooManyRunways, RegisterFull, ElevationRange, HeliportShape, WrongKind}

-- the airfield of this name
abbrev pub airfield_at : List Airfield → List ℕ → Option Airfield
airfield_at airfields id = found_by name_cmp id_of id airfields

-- the name of the airfield that the amendment changes
abbrev pub amended_id : Amendment → List ℕ
amended_id (PutAirport id category arp elevation) = id
amended_id (PutRunway id runway) = id
amended_id (DropRunway id name) = id
amended_id (PutHeliport heliport) = heliport.id
amended_id (Drop id) = id

abbrev pub is_heliport : Option Airfield → Bool
is_heliport None = false
is_heliport (Some (AnAirport a)) = false
is_heliport (Some (AHeliport h)) = true

abbrev pub is_airport : Option Airfield → Bool
is_airport None = false
is_airport (Some (AnAirport a)) = true
is_airport (Some (AHeliport h)) = false

-- the runways of an airport; empty where there is no airport
abbrev pub runways_in : Option Airfield → List Runway
runways_in None = []
runways_in (Some (AnAirport a)) = a.runways
runways_in (Some (AHeliport h)) = []

-- the runway has an end that is too far from the airport's reference point
abbrev pub is_far_from : Option Airfield → Runway → Bool
is_far_from None runway = false
is_far_from (Some (AnAirport a)) runway = not (has_near_ends a.arp runway)
is_far_from (Some (AHeliport h)) runway = false

-- ---- refusals

-- a rule: whether it is broken, and its refusal
pub record Rule : Type 0 where
  pub is_broken : Bool
  pub refusal : AmendRefusal

abbrev pub rule_if : Bool → AmendRefusal → Rule
rule_if b refusal = record { is_broken = b; refusal = refusal }

-- the refusal of the first broken rule
abbrev pub first_of : List Rule → Option AmendRefusal
first_of [] = None
first_of (rule ∷ rules) = cond rule.is_broken (Some rule.refusal) (first_of rules)

-- the name is new, and the register has the greatest number of airfields
abbrev pub is_register_full : List Airfield → Option Airfield → Bool
is_register_full airfields field = is_none field && nat_le MOST_AIRFIELDS (length airfields)

-- the rules for putting an airport, where field is the registered airfield of its name
abbrev pub airport_rules : List Airfield → Option Airfield → Point → ℤ → List Rule
airport_rules airfields field arp elevation =
    rule_if (is_heliport field) WrongKind
    ∷ rule_if (not (is_elevation elevation)) ElevationRange
    ∷ rule_if (not (list_all (has_near_ends arp) (runways_in field))) RunwayFar
    ∷ rule_if (is_register_full airfields field) RegisterFull
    ∷ []

-- the rules for putting a runway on this airfield
abbrev pub runway_rules : Option Airfield → Runway → List Rule
runway_rules field runway =
    rule_if (is_none field) UnknownAirfield
    ∷ rule_if (is_heliport field) WrongKind
    ∷ rule_if (is_precision_on_utility runway) PrecisionOnUtility
    ∷ rule_if (not (has_elevations runway)) ElevationRange
    ∷ rule_if (not (is_within_length runway)) RunwayLength
    ∷ rule_if (is_far_from field runway) RunwayFar
    ∷ rule_if (is_none (runway_at (runways_in field) runway.name) && nat_le MOST_RUNWAYS (length (runways_in field))) TooManyRunways
    ∷ []

-- the rules for removing this airfield's runway of this name
abbrev pub drop_runway_rules : Option Airfield → List ℕ → List Rule
drop_runway_rules field name =
    rule_if (is_none field) UnknownAirfield
    ∷ rule_if (is_heliport field) WrongKind
    ∷ rule_if (is_none (runway_at (runways_in field) name)) UnknownRunway
    ∷ []

-- the rules for putting a heliport, where field is the registered airfield of its name
abbrev pub heliport_rules : List Airfield → Option Airfield → Heliport → List Rule
heliport_rules airfields field heliport =
    rule_if (is_airport field) WrongKind
    ∷ rule_if (not (is_elevation heliport.elevation)) ElevationRange
    ∷ rule_if (not (has_heliport_shape heliport)) HeliportShape
    ∷ rule_if (is_register_full airfields field) RegisterFull
    ∷ []

-- the rules for removing this airfield
abbrev pub drop_rules : Option Airfield → List Rule
drop_rules field = rule_if (is_none field) UnknownAirfield ∷ []

-- the rules for the amendment, in the order in which they are tested
abbrev pub rules_of : List Airfield → Amendment → List Rule
rules_of airfields (PutAirport id category arp elevation) = airport_rules airfields (airfield_at airfields id) arp elevation
rules_of airfields (PutRunway id runway) = runway_rules (airfield_at airfields id) runway
rules_of airfields (DropRunway id name) = drop_runway_rules (airfield_at airfields id) name
rules_of airfields (PutHeliport heliport) = heliport_rules airfields (airfield_at airfields heliport.id) heliport
rules_of airfields (Drop id) = drop_rules (airfield_at airfields id)

-- the refusal of the first rule that the amendment breaks
abbrev pub first_broken : List Airfield → Amendment → Option AmendRefusal
first_broken airfields a = first_of (rules_of airfields a)

-- ---- effects

-- the airport with this name, category, reference point and elevation: a new one has no runways, and an existing one keeps its
-- runways
abbrev pub put_airport : List Airfield → List ℕ → Category → Point → ℤ → Airport
put_airport airfields id category arp elevation =
    record { id = id; category = category; arp = arp; elevation = elevation; runways = runways_in (airfield_at airfields id) }

-- the airport with these runways instead of its own
abbrev pub with_runways : List Runway → Airport → Airport
with_runways runways a = record { id = a.id; category = a.category; arp = a.arp; elevation = a.elevation; runways = runways }

-- the airport with the runway, instead of the one with its name
abbrev pub with_runway : Runway → Airport → Airport
with_runway runway a = with_runways (put_by name_cmp name_of runway a.runways) a

-- the airport without the runway of this name
abbrev pub without_runway : List ℕ → Airport → Airport
without_runway name a = with_runways (removed_by name_cmp name_of name a.runways) a

abbrev pub put_runway : List Airfield → Option Airfield → Runway → List Airfield
put_runway airfields None runway = airfields
put_runway airfields (Some (AnAirport a)) runway = put_by name_cmp id_of (AnAirport (with_runway runway a)) airfields
put_runway airfields (Some (AHeliport h)) runway = airfields

abbrev pub drop_runway : List Airfield → Option Airfield → List ℕ → List Airfield
drop_runway airfields None name = airfields
drop_runway airfields (Some (AnAirport a)) name = put_by name_cmp id_of (AnAirport (without_runway name a)) airfields
drop_runway airfields (Some (AHeliport h)) name = airfields

-- the airfields with this one in its place, or without the one of this name
abbrev pub list_with_replaced : List ℕ → Option Airfield → List Airfield → List Airfield
list_with_replaced id None airfields = removed_by name_cmp id_of id airfields
list_with_replaced id (Some field) airfields = put_by name_cmp id_of field airfields

-- the airfields after an amendment that breaks no rule
abbrev pub after_amendment : List Airfield → Amendment → List Airfield
after_amendment airfields (PutAirport id category arp elevation) =
    put_by name_cmp id_of (AnAirport (put_airport airfields id category arp elevation)) airfields
after_amendment airfields (PutRunway id runway) = put_runway airfields (airfield_at airfields id) runway
after_amendment airfields (DropRunway id name) = drop_runway airfields (airfield_at airfields id) name
after_amendment airfields (PutHeliport heliport) = put_by name_cmp id_of (AHeliport heliport) airfields
after_amendment airfields (Drop id) = removed_by name_cmp id_of id airfields
