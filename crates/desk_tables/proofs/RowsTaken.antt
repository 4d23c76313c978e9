-- The rows of what was read, after one row more.
use Rattle.std.proofs.Common.{◌≡◌, sym, ◌∙◌, subst, ℕ, ◌+◌, ◌-◌, arith, List, [], ◌∷◌, ◌++◌, length, Option, Some, None, Bool, true, slice_set}
use Rattle.std.specs.FinMap as maps
use Rattle.airfields.specs.Names.{IsFieldId}
use Rattle.airfields.specs.declared.airfield.Airfield.{Airfield}
use Rattle.airfields.specs.declared.airfield.Airfield.TheVariants as fields
use Rattle.airport_register.specs.Amendments.{after_amendment, amended_id, first_broken}
use Rattle.airport_register.specs.declared.amendment.Amendment.{Amendment}
use Rattle.airport_register.specs.declared.amendment.Amendment.TheVariants.{PutRunway}
use Rattle.determination_dates.specs.Closed.{with_day}
use Rattle.row_register.specs.Airfields.{airfield_key, airfield_row}
use Rattle.row_register.specs.Runways.{runway_key, runway_row}
use Rattle.row_register.specs.Desk.{IsValidDesk, desk_key, desk_row}
use Rattle.row_register.specs.declared.desk.DeskRow.{DeskRow}
use Rattle.row_register.specs.declared.desk.DeskRow.TheVariants as days
use Rattle.row_cases.specs.Cases.{case_key}
use Rattle.row_cases.specs.Filings.{filing_row}
use Rattle.row_cases.specs.declared.filing.FilingRow.{FilingRow}
use Rattle.row_receipts.specs.Receipts.{IsReceiptRow, receipt_key, receipt_row}
use Rattle.row_receipts.specs.declared.receipt.ReceiptRow.{ReceiptRow}
use Rattle.oe_keeper.specs.Kept.{Kept, rows_after_changes}
use Rattle.oe_keeper.specs.declared.change.Table.TheVariants as tables
use Rattle.wire_values.specs.Words.{IsWord}
use Rattle.desk_machine.specs.States.{State}
use Rattle.desk_tables.specs.Tables.{AreNamed}
use Rattle.desk_tables.specs.Rows.{AreTables}
use Rattle.desk_tables.specs.Changes.{amendment_changes}
use Rattle.desk_tables.proofs.Named.{IsSame}
use Rattle.desk_tables.proofs.Kepts.{put_in}
use Rattle.desk_tables.proofs.Registers.{amended_rows, AreAmended}
use Rattle.desk_tables.proofs.Days.{format_put, today_put, closed_put}
use Rattle.desk_tables.proofs.Cases.{filing_added}
use Rattle.desk_tables.proofs.Keeping.{desk_put, case_put, entry_put}
use Rattle.desk_tables.specs.Values.{Row, IsRowOf}
use Rattle.desk_tables.specs.Parts.{Part, Follows, IsNextCase, IsNewRequest, put_of, entry_of_row, entries_of, state_of, with_desk_row, with_row}
use Rattle.desk_tables.specs.declared.value.RowValue.{RowValue}
use Rattle.desk_tables.specs.declared.value.RowValue.TheVariants.{Airfield as AnAirfield, Runway, Desk, Case, Request}
use Rattle.desk_tables.proofs.RequestRows.{request_put}

-- a row, by the parts that it has
in_parts : (m : Kept) (r : Row) (t : ℕ) (key text : List ℕ) → r.0.0 ≡ t → r.0.1 ≡ key → r.1 ≡ text → maps.insert m (t, key) text ≡ maps.insert m r.0 r.1
in_parts m r t key text table key_is text_is = λ i. maps.insert m (sym table i, sym key_is i) (sym text_is i)

moved : {N : Type 0} (IsName : N → Type 0) (key : N → List ℕ) (row : N → Option (List ℕ)) (old new : List ℕ → Option (List ℕ)) → IsSame old new → AreNamed IsName key row old → AreNamed IsName key row new
moved IsName key row old new same are = record { there = λ n h. same (key n) ∙ are.there n h; only = λ text none. same text ∙ are.only text none }

-- ---- airfields and runways

amended : (f : Bool) (s : State) (m : Kept) (a : Amendment) → AreTables f s m → IsFieldId (amended_id a) → first_broken s.register a ≡ None
    → AreTables f (record s { register = after_amendment s.register a }) (rows_after_changes m (amendment_changes s.register a))
amended f s m a are named allowed =
    let now : AreAmended (after_amendment s.register a) m (rows_after_changes m (amendment_changes s.register a)) = amended_rows s.register m a are.airfields are.runways named allowed in
    record {
      airfields = now.airfields;
      runways = now.runways;
      days = moved _ _ _ _ _ (λ q. now.beside 2 q (omega arith)) are.days;
      filings = moved _ _ _ _ _ (λ q. now.beside 3 q (omega arith)) are.filings;
      receipts = moved _ _ _ _ _ (λ q. now.beside 4 q (omega arith)) are.receipts;
      only = λ n q l. now.beside n q (omega (arith, l)) ∙ are.only n q l;
    }

airfield_taken : (f : Bool) (s : State) (m : Kept) (v : Airfield) → AreTables f s m → IsFieldId (airfield_key v) → first_broken s.register (put_of v) ≡ None
    → AreTables f (record s { register = after_amendment s.register (put_of v) }) (maps.insert m (0, airfield_key v) (airfield_row v))
airfield_taken f s m (fields.Airport a) are named allowed = amended f s m (put_of (fields.Airport a)) are named allowed
airfield_taken f s m (fields.Heliport h) are named allowed = amended f s m (put_of (fields.Heliport h)) are named allowed

-- ---- the desk's days, a case, and a request

desk_taken : (p : Part) (m : Kept) (v : DeskRow) → AreTables p.has_format (state_of p) m → IsValidDesk v
    → AreTables (with_desk_row v p).has_format (state_of (with_desk_row v p)) (maps.insert m (2, desk_key v) (desk_row v))
desk_taken p m days.Format are valid =
    desk_put p.has_format (state_of p) m are (desk_key days.Format) (desk_row days.Format) true p.day p.closed
    (format_put p.has_format p.day p.closed _ _ are.days (put_in m tables.Desk (desk_key days.Format) (desk_row days.Format)))
desk_taken p m (days.Now d) are valid =
    desk_put p.has_format (state_of p) m are (desk_key (days.Now d)) (desk_row (days.Now d)) p.has_format (Some d) p.closed
    (today_put p.has_format p.day p.closed _ _ are.days d (put_in m tables.Desk (desk_key (days.Now d)) (desk_row (days.Now d))))
desk_taken p m (days.Closed d) are valid =
    desk_put p.has_format (state_of p) m are (desk_key (days.Closed d)) (desk_row (days.Closed d)) p.has_format p.day (with_day d p.closed)
    (closed_put p.has_format p.day p.closed _ _ are.days d valid (put_in m tables.Desk (desk_key (days.Closed d)) (desk_row (days.Closed d))))

case_taken : (p : Part) (m : Kept) (v : FilingRow) → AreTables p.has_format (state_of p) m → IsNextCase p v
    → AreTables p.has_format (record (state_of p) { cases = p.cases ++ v.case ∷ [] }) (maps.insert m (3, case_key v.number) (filing_row v.case))
case_taken p m v are next =
    subst (λ n. AreTables p.has_format (record (state_of p) { cases = p.cases ++ v.case ∷ [] }) (maps.insert m (3, case_key n) (filing_row v.case))) (sym next.next)
    (case_put p.has_format (state_of p) m are (case_key (length p.cases + 1)) (filing_row v.case) (p.cases ++ v.case ∷ [])
    (filing_added p.cases v.case _ _ are.filings next.room (put_in m tables.Filing (case_key (length p.cases + 1)) (filing_row v.case))))

request_taken : (p : Part) (m : Kept) (v : ReceiptRow) → AreTables p.has_format (state_of p) m → IsWord v.change.caller → IsNewRequest p v
    → maps.get m (4, receipt_key v.change.caller v.change.key) ≡ None
    → AreTables p.has_format (record (state_of p) { entries = entries_of (slice_set p.requests (v.number - 1) (Some (entry_of_row v))) })
    (maps.insert m (4, receipt_key v.change.caller v.change.key) (receipt_row v.number v.change v.outcome))
request_taken p m v are word next nothing =
    entry_put p.has_format (state_of p) m are (receipt_key v.change.caller v.change.key) (receipt_row v.number v.change v.outcome) (entries_of (slice_set p.requests (v.number - 1) (Some (entry_of_row v))))
    (request_put p.requests (v.number - 1) (entry_of_row v) _ _ are.receipts word next.free nothing
    (put_in m tables.Receipt (receipt_key v.change.caller v.change.key) (receipt_row v.number v.change v.outcome)))

caller_is : (key row : List ℕ) (v : ReceiptRow) → IsReceiptRow key row v → IsWord v.change.caller
caller_is key row v h = h.recorded.shape.1.0

-- ---- a row of any table

pub taken : (b : Bool) (p : Part) (m : Kept) (r : Row) (v : RowValue) → AreTables p.has_format (state_of p) m → maps.get m r.0 ≡ None → IsRowOf r v → Follows b p v
    → AreTables (with_row v p).has_format (state_of (with_row v p)) (maps.insert m r.0 r.1)
taken b p m r (AnAirfield v) are new is next =
    subst (λ k. AreTables p.has_format (record (state_of p) { register = after_amendment p.register (put_of v) }) k) (in_parts m r 0 (airfield_key v) (airfield_row v) is.0 is.1.key_is is.1.row_is)
    (airfield_taken p.has_format (state_of p) m v are (subst IsFieldId is.1.key_is is.1.named) next)
taken b p m r (Runway v) are new is next =
    subst (λ k. AreTables p.has_format (record (state_of p) { register = after_amendment p.register (PutRunway v.id v.runway) }) k) (in_parts m r 1 (runway_key v) (runway_row v) is.0 is.1.key_is is.1.row_is)
    (amended p.has_format (state_of p) m (PutRunway v.id v.runway) are is.1.airport_named next)
taken b p m r (Desk v) are new is next =
    subst (λ k. AreTables (with_desk_row v p).has_format (state_of (with_desk_row v p)) k) (in_parts m r 2 (desk_key v) (desk_row v) is.0 is.1.key_is is.1.row_is)
    (desk_taken p m v are is.1.valid)
taken b p m r (Case v) are new is next =
    subst (λ k. AreTables p.has_format (record (state_of p) { cases = p.cases ++ v.case ∷ [] }) k) (in_parts m r 3 (case_key v.number) (filing_row v.case) is.0 is.1.key_is is.1.row_is)
    (case_taken p m v are next)
taken b p m r (Request v) are new is next =
    let nothing : maps.get m (4, receipt_key v.change.caller v.change.key) ≡ None = (λ i. maps.get m (sym is.0 i, sym is.1.key_is i)) ∙ new in
    subst (λ k. AreTables p.has_format (record (state_of p) { entries = entries_of (slice_set p.requests (v.number - 1) (Some (entry_of_row v))) }) k)
    (in_parts m r 4 (receipt_key v.change.caller v.change.key) (receipt_row v.number v.change v.outcome) is.0 is.1.key_is is.1.row_is)
    (request_taken p m v are (caller_is r.0.1 r.1 v is.1) next nothing)
