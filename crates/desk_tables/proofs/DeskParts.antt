-- What was read so far of tables, as a part of a desk.
use Rattle.std.proofs.Common.{◌≡◌, refl, sym, ap, ◌∙◌, subst, arith, ℕ, ◌-◌, ◌<◌, ◌≤◌, ◌^◌, List, [], ◌∷◌, ◌++◌, length, length-append, All}
use Rattle.std.proofs.Common.{Option, Some, None, IfSome, slice_get, slice_set, replicate}
use Rattle.std.specs.FinMap as maps
use Rattle.std.proofs.lemmas.List.{length-replicate, length-set}
use Rattle.std.proofs.lemmas.List.Elements.{All-nil, All-push}
use Rattle.std.proofs.lemmas.Option.{IfSome_then}
use Rattle.jiff_core.specs.declared.civil.date.Date.{Date}
use Rattle.airfields.specs.Names.{IsFieldId}
use Rattle.airfields.specs.declared.airfield.Airfield.{Airfield}
use Rattle.airfields.specs.declared.airfield.Airfield.TheVariants as fields
use Rattle.airport_register.specs.Amendments.{after_amendment, first_broken}
use Rattle.airport_register.specs.Registers.{IsRegister}
use Rattle.airport_register.specs.declared.amendment.Amendment.{Amendment}
use Rattle.airport_register.specs.declared.amendment.Amendment.TheVariants.{PutRunway}
use Rattle.determination_dates.specs.Days.{IsLimited}
use Rattle.determination_dates.specs.Closed.{AreClosedDays}
use Rattle.case_records.specs.declared.case.KeptCase.{KeptCase}
use Rattle.row_register.specs.Airfields.{airfield_key}
use Rattle.row_register.specs.Desk.{IsValidDesk}
use Rattle.row_register.specs.declared.desk.DeskRow.{DeskRow}
use Rattle.row_register.specs.declared.desk.DeskRow.TheVariants as days
use Rattle.row_cases.specs.Filings.{IsPlainCase}
use Rattle.row_cases.specs.declared.filing.FilingRow.{FilingRow}
use Rattle.row_receipts.specs.Receipts.{IsReceiptRow, receipt_key}
use Rattle.row_receipts.specs.declared.receipt.ReceiptRow.{ReceiptRow}
use Rattle.desk_tables.specs.Names.{IsNamed, PutsNames}
use Rattle.oe_keeper.specs.Kept.{Kept}
use Rattle.oe_keeper.specs.declared.change.Table.TheVariants as tables
use Rattle.desk_machine.specs.Machine.{version_of}
use Rattle.desk_machine.specs.declared.entry.Entry.{Entry}
use Rattle.desk_machine.specs.declared.entry.TheConstants.{MOST_CASES}
use Rattle.wire_values.specs.Words.{IsWord}
use Rattle.desk_tables.specs.Reachable.{IsCaseOf, IsEntryOf, IsOwn}
use Rattle.desk_tables.proofs.ClosedDays.{closed_more}
use Rattle.desk_tables.proofs.DesksGoOn.{desk_starts}
use Rattle.desk_tables.proofs.SteppedDesks.{RegisterGoesOn}
use Rattle.desk_tables.specs.Tables.{AreReceipts, entry_row, found_in}
use Rattle.desk_tables.specs.Parts.{Part, IsNewRequest, IsNextCase, entries_of, entry_of_row, put_of, with_desk_row}
use Rattle.desk_tables.specs.Opening.{count_of, is_in, unread_of}
use Rattle.desk_tables.specs.declared.layout.Layout.{Layout}
use Rattle.desk_tables.specs.declared.value.RowValue.TheVariants.{Airfield as AnAirfield, Runway, Desk, Case, Request}
use Rattle.desk_tables.proofs.RequestRows.{no_entries}
use Rattle.desk_tables.proofs.Owners.{entry_like, own_with}
use Rattle.desk_tables.proofs.Places.{IsFilledMore, filled_more, none_filled, set_each, unmapped}
use Rattle.desk_tables.proofs.Walks.{IsKept}

pub record AreFields (register : List Airfield) : Type 0 where
  pub is_register : IsRegister register
  pub named : All IsNamed register

pub record AreDays (day : Option Date) (closed : List Date) : Type 0 where
  pub limited : IfSome day IsLimited
  pub are_closed : AreClosedDays closed

pub record AreCases (requests : ℕ) (day : Option Date) (cases : List KeptCase) : Type 0 where
  pub has_day : day ≡ None → cases ≡ []
  pub most : length cases ≤ MOST_CASES
  pub each : All (IsCaseOf requests) cases

-- the request at a place, where it was read
abbrev pub IsRequestAt : ℕ → ℕ → Entry → Type 0
IsRequestAt requests i e = IsEntryOf requests i e × (e.number < 2 ^ 64)

pub record AreRequests (requests : ℕ) (read : List (Option Entry)) : Type 0 where
  pub room : length read ≡ requests
  pub each : (i : ℕ) → IfSome (slice_get read i) (λ o. IfSome o (IsRequestAt requests i))
  pub own : All (IsOwn (entries_of read)) (entries_of read)

pub record IsDeskPart (requests : ℕ) (p : Part) : Type 0 where
  pub airfields : AreFields p.register
  pub days : AreDays p.day p.closed
  pub cases : AreCases requests p.day p.cases
  pub entries : AreRequests requests p.requests

-- ---- before the first row

no_requests : (n : ℕ) → AreRequests n (replicate n None)
no_requests n = record {
  room = length-replicate n None;
  each = λ i. none_filled n i (IsRequestAt n i);
  own = subst (λ (es : List Entry). All (IsOwn es) es) (sym (no_entries n)) desk_starts.own;
}

pub nothing_read : (kept : Kept) → IsDeskPart (count_of (is_in tables.Receipt) kept) (unread_of kept)
nothing_read kept = record {
  airfields = record { is_register = desk_starts.register; named = desk_starts.named };
  days = record { limited = tt; are_closed = desk_starts.closed };
  cases = record { has_day = λ e. refl; most = omega arith; each = All-nil (IsCaseOf (count_of (is_in tables.Receipt) kept)) };
  entries = no_requests (count_of (is_in tables.Receipt) kept);
}

-- ---- an airfield, a runway, a day

puts_names : (v : Airfield) → IsFieldId (airfield_key v) → PutsNames (put_of v)
puts_names (fields.Airport a) h = h
puts_names (fields.Heliport a) h = h

amended : RegisterGoesOn → (register : List Airfield) (a : Amendment) → AreFields register → first_broken register a ≡ None → PutsNames a
    → AreFields (after_amendment register a)
amended law register a h allowed named = record { is_register = law.register register a h.is_register allowed; named = law.names register a h.named named }

day_read : (n : ℕ) (p : Part) (v : DeskRow) → IsDeskPart n p → IsValidDesk v → IsDeskPart n (with_desk_row v p)
day_read n p days.Format h valid = record { airfields = h.airfields; days = h.days; cases = h.cases; entries = h.entries }
day_read n p (days.Now d) h valid = record {
  airfields = h.airfields;
  days = record { limited = valid; are_closed = h.days.are_closed };
  cases = record { has_day = λ e. absurd (cc (e)); most = h.cases.most; each = h.cases.each };
  entries = h.entries;
}
day_read n p (days.Closed d) h valid = record {
  airfields = h.airfields;
  days = record { limited = h.days.limited; are_closed = closed_more d p.closed valid h.days.are_closed };
  cases = h.cases;
  entries = h.entries;
}

-- ---- a case

case_read : (n : ℕ) (p : Part) (v : FilingRow) → IsDeskPart n p → IsPlainCase v.case → IsNextCase p v → AreCases n p.day (p.cases ++ v.case ∷ [])
case_read n p v h plain next = record {
  has_day = λ none. absurd (next.day none);
  most = omega (arith, next.room, length-append p.cases (v.case ∷ []));
  each = All-push (IsCaseOf n) p.cases v.case h.cases.each
      (record { plain = plain; list = IfSome_then v.case.list next.list (λ kept known. subst (λ m. kept.last ≤ m) h.entries.room known) });
}

-- ---- a request

caller_is : (key row : List ℕ) (v : ReceiptRow) → IsReceiptRow key row v → IsWord v.change.caller
caller_is key row v h = h.recorded.shape.1.0

-- no entry is of its caller under its key, where no row is
not_there : (es : List Entry) (e : Entry) (so_far : Kept) → AreReceipts es (found_in so_far tables.Receipt) → IsWord e.change.caller
    → maps.get so_far (4, receipt_key e.change.caller e.change.key) ≡ None
    → entry_like e es ≡ None
not_there es e so_far are word new = unmapped entry_row (entry_like e es) (sym (are.there (record { caller = e.change.caller; key = e.change.key }) word) ∙ new)

request_read : (n : ℕ) (read : List (Option Entry)) (i : ℕ) (e : Entry) → AreRequests n read → slice_get read i ≡ Some None
    → entry_like e (entries_of read) ≡ None → IsRequestAt n i e
    → AreRequests n (slice_set read i (Some e))
request_read n read i e h free none is =
    let more : IsFilledMore read i e = filled_more read i e free in
    record {
      room = length-set read i (Some e) ∙ h.room;
      each = set_each (λ j o. IfSome o (IsRequestAt n j)) read i (Some e) h.each is;
      own = subst (λ (es : List Entry). All (IsOwn es) es) (sym more.new)
          (own_with e more.rest more.front (ap (entry_like e) (sym more.old) ∙ none) (subst (λ (es : List Entry). All (IsOwn es) es) more.old h.own));
    }

request_at : (n : ℕ) (p : Part) (key row : List ℕ) (v : ReceiptRow) → IsReceiptRow key row v → IsNewRequest p v → length p.requests ≡ n
    → IsRequestAt n (v.number - 1) (entry_of_row v)
request_at n p key row v is next room = (
  record { number = omega (arith, next.counted); recorded = is.recorded; led = is.led; list = subst (λ m. version_of v.outcome ≤ m) room next.list },
  is.numbered,
)

-- ---- a row of any table

pub keeps_part : RegisterGoesOn → (kept : Kept) (b : Layout) (n : ℕ) → IsKept kept b (IsDeskPart n)
keeps_part law kept b n so_far p r (AnAirfield v) are at is next h = record {
  airfields = amended law p.register (put_of v) h.airfields next.0 (puts_names v (subst IsFieldId is.1.key_is is.1.named));
  days = h.days;
  cases = h.cases;
  entries = h.entries;
}
keeps_part law kept b n so_far p r (Runway v) are at is next h = record {
  airfields = amended law p.register (PutRunway v.id v.runway) h.airfields next.0 is.1.runway_named;
  days = h.days;
  cases = h.cases;
  entries = h.entries;
}
keeps_part law kept b n so_far p r (Desk v) are at is next h = day_read n p v h is.1.valid
keeps_part law kept b n so_far p r (Case v) are at is next h = record {
  airfields = h.airfields;
  days = h.days;
  cases = case_read n p v h is.1.plain next.0;
  entries = h.entries;
}
keeps_part law kept b n so_far p r (Request v) are at is next h =
    let new : maps.get so_far (4, receipt_key v.change.caller v.change.key) ≡ None = (λ i. maps.get so_far (sym is.0 i, sym is.1.key_is i)) ∙ at.new in
    let none : entry_like (entry_of_row v) (entries_of p.requests) ≡ None =
    not_there (entries_of p.requests) (entry_of_row v) so_far are.receipts (caller_is r.0.1 r.1 v is.1) new in
    record {
      airfields = h.airfields;
      days = h.days;
      cases = h.cases;
      entries = request_read n p.requests (v.number - 1) (entry_of_row v) h.entries next.0.free none (request_at n p r.0.1 r.1 v is.1 next.0 h.entries.room);
    }
