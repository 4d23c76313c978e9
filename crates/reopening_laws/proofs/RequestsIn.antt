-- The rows of a desk's accepted requests can be read.
use Rattle.std.proofs.Common.{◌≡◌, refl, sym, ap, ◌∙◌, subst, arith, ℕ, ◌-◌, ◌<◌, ◌≤◌, List, length, Bool, true, false, Option, Some, None, IfSome, slice_get, inl, inr}
use Rattle.std.specs.FinMap as maps
use Rattle.std.proofs.lemmas.List.{length-set}
use Rattle.std.proofs.lemmas.Option.{same_Some, slice_get_cases, slice_get_within}
use Rattle.row_receipts.specs.Receipts.{receipt_key}
use Rattle.oe_keeper.specs.Kept.{Kept}
use Rattle.oe_keeper.specs.declared.change.Table.TheVariants as tables
use Rattle.desk_machine.specs.States.{State, entry_of}
use Rattle.desk_machine.specs.declared.entry.Entry.{Entry}
use Rattle.wire_values.specs.Words.{IsWord}
use Rattle.desk_tables.specs.Rows.{AreTables}
use Rattle.desk_tables.specs.Tables.{HasCaller, entry_row, found_in, key_of, receipt_found}
use Rattle.desk_tables.specs.Parts.{Part, entries_of}
use Rattle.desk_tables.specs.Planned.{PlansNothing, plans_act}
use Rattle.desk_tables.specs.declared.layout.Layout.{Layout}
use Rattle.desk_tables.specs.declared.value.RowValue.TheVariants.{Request}
use Rattle.desk_tables.specs.Reachable.{IsDesk, IsEntryOf}
use Rattle.desk_tables.proofs.Owners.{entry_like, filled_found, stands_at}
use Rattle.reopening_laws.proofs.PartsOf.{ComesIn, IsPartOf, format_allows}
use Rattle.desk_tables.proofs.Places.{all_at, mapped, set_each, unmapped}
use Rattle.reopening_laws.proofs.RowNames.{name_found, receipt_named, receipt_sure}
use Rattle.desk_tables.proofs.RowsInOrder.{ComesAt}
use Rattle.desk_tables.proofs.Walks.{HasRead}

-- an entry at a place of a desk
pub entry_at : (s : State) (i : ℕ) (e : Entry) → IsDesk s → slice_get s.entries i ≡ Some e → IsEntryOf (length s.entries) i e
entry_at s i e desk at = subst (λ (o : Option Entry). IfSome o (IsEntryOf (length s.entries) i)) at (desk.entries i)

pub caller_of : (entries i : ℕ) (e : Entry) → IsEntryOf entries i e → IsWord e.change.caller
caller_of entries i e is = is.recorded.shape.1.0

module _ (s : State) (desk : IsDesk s) (n : ℕ) (b : Layout) (f : Bool) (kept so_far : Kept) (are : AreTables f s kept) (p : Part) (read : HasRead p so_far)
    (part : IsPartOf s n p) (room : length s.entries ≤ n) (plain : b.is_old ≡ true → PlansNothing s) where
  -- its place is free
  free_by : (i : ℕ) (e : Entry) (o : Option Entry) → slice_get p.requests i ≡ Some o → slice_get s.entries i ≡ Some e → IsWord e.change.caller
      → maps.get so_far (4, receipt_key e.change.caller e.change.key) ≡ None
      → slice_get p.requests i ≡ Some None
  free_by i e None at here word new = at
  free_by i e (Some d) at here word new =
      let there : slice_get s.entries i ≡ Some d =
      subst (λ (x : Option (Option Entry)). IfSome x (λ o. IfSome o (λ e. slice_get s.entries i ≡ Some e))) at (part.entries i) in
      let same : d ≡ e = same_Some d e (sym there ∙ here) in
      let none : entry_like e (entries_of p.requests) ≡ None =
      unmapped entry_row (entry_like e (entries_of p.requests))
      (sym (read.receipts.there (record { caller = e.change.caller; key = e.change.key }) word) ∙ new) in
      absurd (filled_found e p.requests i (at ∙ ap (λ x. Some (Some x)) same) none)

  free_place : (i : ℕ) (e : Entry) → slice_get s.entries i ≡ Some e → IsWord e.change.caller
      → maps.get so_far (4, receipt_key e.change.caller e.change.key) ≡ None → slice_get p.requests i ≡ Some None
  free_place i e here word new = elim (slice_get_cases p.requests i).1 [
    | inl found ↦ free_by i e found.0 found.2 here word new
    | inr past ↦ absurd (omega (arith, past.0, part.room, room, slice_get_within s.entries i e here))
  ]

  request_in : (i : ℕ) (e : Entry) (text : List ℕ) → slice_get s.entries i ≡ Some e → entry_row e ≡ text
      → maps.get so_far (4, receipt_key e.change.caller e.change.key) ≡ None
      → ComesIn s n b p ((4, receipt_key e.change.caller e.change.key), text)
  request_in i e text here row new =
      let is = entry_at s i e desk here in
      let within : i < length s.entries = slice_get_within s.entries i e here in
      let place : i ≡ e.number - 1 = omega (arith, is.number) in
      let free : slice_get p.requests i ≡ Some None = free_place i e here (caller_of (length s.entries) i e is) new in
      record {
        value = Request (record { number = e.number; change = e.change; outcome = e.outcome });
        is = (
          refl,
          record {
            key_is = refl;
            row_is = sym row;
            numbered = omega (arith, is.number, within, desk.counted);
            recorded = is.recorded;
            led = is.led;
          },
        );
        next = (
          record {
            counted = omega (arith, is.number);
            free = ap (slice_get p.requests) (sym place) ∙ free;
            list = omega (arith, is.list, room, part.room);
          },
          format_allows b.is_old (plans_act e.change.act) (λ old. all_at (λ (d : Entry). plans_act d.change.act ≡ false) s.entries i e (PlansNothing.entries (plain old)) here),
        );
        part = record {
          register = part.register;
          room = length-set p.requests (e.number - 1) (Some e) ∙ part.room;
          entries = set_each (λ j o. IfSome o (λ d. slice_get s.entries j ≡ Some d)) p.requests (e.number - 1) (Some e) part.entries
              (ap (slice_get s.entries) (sym place) ∙ here);
        };
      }

  pub request_comes : (key text : List ℕ) → ComesAt kept so_far ((4, key), text) → ComesIn s n b p ((4, key), text)
  request_comes key text at =
      let name = name_found HasCaller key_of (receipt_found s.entries) (found_in kept tables.Receipt) are.receipts key text at.here (receipt_named key)
      (λ m h e row. receipt_sure key m h e) in
      let who = receipt_named key in
      let found = mapped entry_row (entry_of who.caller who.key s.entries) text name.row_is in
      let e = found.0 in
      let stands = stands_at who.caller who.key s.entries e found.1 in
      let key_is : key ≡ receipt_key e.change.caller e.change.key = name.key_is ∙ (λ i. receipt_key (sym stands.caller_is i) (sym stands.key_is i)) in
      subst (λ k. ComesIn s n b p ((4, k), text)) (sym key_is)
      (request_in stands.place e text stands.at found.2 (subst (λ k. maps.get so_far (4, k) ≡ None) key_is at.new))
