-- What was read so far of the rows of a desk, as a part of it.
use Rattle.std.proofs.Common.{◌≡◌, ◌≢◌, refl, ℕ, List, [], length, Some, None, IfSome, slice_get, Bool, true, false, ◌&&◌}
use Rattle.std.proofs.lemmas.List.{length-replicate}
use Rattle.airfields.specs.Runways.{runway_at}
use Rattle.airfields.specs.declared.runway.Runway.{Runway}
use Rattle.airfields.specs.declared.airfield.Airport.{Airport}
use Rattle.airfields.specs.declared.airfield.Heliport.{Heliport}
use Rattle.airfields.specs.declared.airfield.Airfield.{Airfield}
use Rattle.airfields.specs.declared.airfield.Airfield.TheVariants as fields
use Rattle.airport_register.specs.Amendments.{after_amendment, airfield_at, first_broken, runways_in}
use Rattle.airport_register.specs.Registers.{IsRegister}
use Rattle.airport_register.specs.declared.amendment.Amendment.TheVariants.{PutAirport, PutRunway, PutHeliport}
use Rattle.desk_tables.specs.RegisterParts.{IsPart}
use Rattle.oe_keeper.specs.Kept.{Kept}
use Rattle.oe_keeper.specs.declared.change.Table.TheVariants as tables
use Rattle.desk_machine.specs.States.{State}
use Rattle.desk_tables.specs.Values.{Row, IsRowOf}
use Rattle.desk_tables.specs.Parts.{Part, IsNext, with_row}
use Rattle.desk_tables.specs.Opening.{count_of, is_in, unread_of}
use Rattle.desk_tables.specs.declared.layout.Layout.{Layout}
use Rattle.desk_tables.specs.declared.value.RowValue.{RowValue}
use Rattle.desk_tables.proofs.Places.{none_filled}

-- parts of registers that grow to the whole
pub record PartsGrow : Type 0 where
  pub nothing : (whole : List Airfield) → IsPart [] whole
  pub airport : (part whole : List Airfield) (a : Airport) → IsRegister whole → IsPart part whole → airfield_at whole a.id ≡ Some (fields.Airport a)
      → airfield_at part a.id ≡ None
      → (first_broken part (PutAirport a.id a.category a.arp a.elevation) ≡ None)
      × IsPart (after_amendment part (PutAirport a.id a.category a.arp a.elevation)) whole
  pub heliport : (part whole : List Airfield) (h : Heliport) → IsRegister whole → IsPart part whole → airfield_at whole h.id ≡ Some (fields.Heliport h)
      → airfield_at part h.id ≡ None
      → (first_broken part (PutHeliport h) ≡ None) × IsPart (after_amendment part (PutHeliport h)) whole
  pub runway : (part whole : List Airfield) (id : List ℕ) (r : Runway) → IsRegister whole → IsPart part whole → airfield_at part id ≢ None
      → runway_at (runways_in (airfield_at whole id)) r.name ≡ Some r → runway_at (runways_in (airfield_at part id)) r.name ≡ None
      → (first_broken part (PutRunway id r) ≡ None) × IsPart (after_amendment part (PutRunway id r)) whole
  pub whole_is : (part whole : List Airfield) → IsRegister whole → IsPart part whole
      → ((id : List ℕ) → airfield_at part id ≡ None → airfield_at whole id ≡ None)
      → ((id name : List ℕ) → runway_at (runways_in (airfield_at part id)) name ≡ None → runway_at (runways_in (airfield_at whole id)) name ≡ None)
      → part ≡ whole

-- the airfields are some of the desk's, and the requests are those of the desk at their places
pub record IsPartOf (s : State) (requests : ℕ) (p : Part) : Type 0 where
  pub register : IsPart p.register s.register
  pub room : length p.requests ≡ requests
  pub entries : (i : ℕ) → IfSome (slice_get p.requests i) (λ o. IfSome o (λ e. slice_get s.entries i ≡ Some e))

-- the row can be read, and what is read then is a part of the desk again
pub record ComesIn (s : State) (requests : ℕ) (layout : Layout) (p : Part) (r : Row) : Type 0 where
  pub value : RowValue
  pub is : IsRowOf r value
  pub next : IsNext layout p value
  pub part : IsPartOf s requests (with_row value p)

-- a row in which nothing is planned may stand in tables of either format, and one in which something is planned in those of today
pub either_format : (old : Bool) → (old && false) ≡ false
either_format true = refl
either_format false = refl

pub format_allows : (old planned : Bool) → (old ≡ true → planned ≡ false) → (old && planned) ≡ false
format_allows true planned plain = plain refl
format_allows false planned plain = refl

pub nothing_of : PartsGrow → (s : State) (kept : Kept) → IsPartOf s (count_of (is_in tables.Receipt) kept) (unread_of kept)
nothing_of grow s kept = record {
  register = grow.nothing s.register;
  room = length-replicate (count_of (is_in tables.Receipt) kept) None;
  entries = λ i. none_filled (count_of (is_in tables.Receipt) kept) i (λ e. slice_get s.entries i ≡ Some e);
}
