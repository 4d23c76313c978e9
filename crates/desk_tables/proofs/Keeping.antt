-- The rows after an accepted request.
use Rattle.std.proofs.Common.{◌≡◌, refl, sym, ap, ◌∙◌, subst, ℕ, ◌≤◌, arith, List, [], ◌∷◌, ◌++◌, ◌+◌, length, Option, Some, None, Bool, true, false, not, ◌&&◌, cond, is_none}
use Rattle.std.specs.Option.{option_map}
use Rattle.std.specs.FinMap as maps
use Rattle.std.proofs.lemmas.List.Sums.{fold-append}
use Rattle.jiff_core.specs.declared.civil.date.Date.{Date}
use Rattle.airport_register.specs.Amendments.{after_amendment, first_broken}
use Rattle.airport_register.specs.declared.amendment.AmendRefusal.{AmendRefusal}
use Rattle.case_records.specs.Refusals.{refused_amendment}
use Rattle.case_records.specs.declared.case.KeptCase.{KeptCase}
use Rattle.case_acts.specs.declared.effect.Step.{Step}
use Rattle.case_acts.specs.declared.effect.Step.TheVariants as steps
use Rattle.row_register.specs.Desk.{desk_key, desk_row}
use Rattle.row_register.specs.declared.desk.DeskRow.TheVariants as rows
use Rattle.oe_keeper.specs.Kept.{Kept, rows_after_changes, rows_after_change}
use Rattle.oe_keeper.specs.declared.change.Table.TheVariants as tables
use Rattle.desk_machine.specs.States.{State, state_after_step, with_entry, with_case, cases_changed_at, case_at, entry_of, issued_case}
use Rattle.desk_machine.specs.declared.entry.Entry.{Entry}
use Rattle.desk_machine.specs.declared.entry.TheConstants.{MOST_CASES}
use Rattle.wire_values.specs.Words.{IsWord}
use Rattle.determination_dates.specs.Closed.{with_day}
use Rattle.row_cases.specs.Cases.{case_key}
use Rattle.row_cases.specs.Filings.{filing_row}
use Rattle.row_receipts.specs.Receipts.{receipt_key}
use Rattle.desk_tables.specs.Tables.{found_in, AreNamed, AreDays, AreFilings, AreReceipts, entry_row}
use Rattle.desk_tables.specs.Rows.{AreRows, AreTables, is_bare}
use Rattle.determination_dates.specs.Closed.{is_none_of}
use Rattle.desk_tables.specs.Changes.{changes, step_changes, case_changes, amendment_changes, put_desk, put_receipt, Fits}
use Rattle.desk_tables.proofs.Named.{IsSame}
use Rattle.desk_tables.proofs.Kepts.{put_in, put_beside}
use Rattle.desk_tables.proofs.Registers.{amended_rows, AreAmended}
use Rattle.desk_tables.proofs.Days.{format_put, today_put, closed_put}
use Rattle.desk_tables.proofs.Cases.{filing_added, filing_changed}
use Rattle.desk_tables.proofs.Receipts.{receipt_put}

-- a table whose rows stand where they stood
moved : {N : Type 0} (IsName : N → Type 0) (key : N → List ℕ) (row : N → Option (List ℕ)) (old new : List ℕ → Option (List ℕ)) → IsSame old new → AreNamed IsName key row old → AreNamed IsName key row new
moved IsName key row old new same are = record { there = λ n h. same (key n) ∙ are.there n h; only = λ text none. same text ∙ are.only text none }

-- ---- one row is put

module _ (f : Bool) (s : State) (kept : Kept) (are : AreTables f s kept) (key row : List ℕ) where
  pub desk_put : (g : Bool) (day : Option Date) (closed : List Date) → AreDays g day closed (found_in (maps.insert kept (2, key) row) tables.Desk)
      → AreTables g (record s { day = day; closed = closed }) (maps.insert kept (2, key) row)
  desk_put g day closed days = record {
    airfields = moved _ _ _ _ _ (λ q. put_beside kept tables.Desk key row 0 q (λ e. absurd (cc (e)))) are.airfields;
    runways = moved _ _ _ _ _ (λ q. put_beside kept tables.Desk key row 1 q (λ e. absurd (cc (e)))) are.runways;
    days = days;
    filings = moved _ _ _ _ _ (λ q. put_beside kept tables.Desk key row 3 q (λ e. absurd (cc (e)))) are.filings;
    receipts = moved _ _ _ _ _ (λ q. put_beside kept tables.Desk key row 4 q (λ e. absurd (cc (e)))) are.receipts;
    only = λ n q l. put_beside kept tables.Desk key row n q (λ e. absurd (omega (arith, l, e))) ∙ are.only n q l;
  }

  pub case_put : (cases : List KeptCase) → AreFilings cases (found_in (maps.insert kept (3, key) row) tables.Filing) → AreTables f (record s { cases = cases }) (maps.insert kept (3, key) row)
  case_put cases filings = record {
    airfields = moved _ _ _ _ _ (λ q. put_beside kept tables.Filing key row 0 q (λ e. absurd (cc (e)))) are.airfields;
    runways = moved _ _ _ _ _ (λ q. put_beside kept tables.Filing key row 1 q (λ e. absurd (cc (e)))) are.runways;
    days = moved _ _ _ _ _ (λ q. put_beside kept tables.Filing key row 2 q (λ e. absurd (cc (e)))) are.days;
    filings = filings;
    receipts = moved _ _ _ _ _ (λ q. put_beside kept tables.Filing key row 4 q (λ e. absurd (cc (e)))) are.receipts;
    only = λ n q l. put_beside kept tables.Filing key row n q (λ e. absurd (omega (arith, l, e))) ∙ are.only n q l;
  }

  pub entry_put : (entries : List Entry) → AreReceipts entries (found_in (maps.insert kept (4, key) row) tables.Receipt) → AreTables f (record s { entries = entries }) (maps.insert kept (4, key) row)
  entry_put entries receipts = record {
    airfields = moved _ _ _ _ _ (λ q. put_beside kept tables.Receipt key row 0 q (λ e. absurd (cc (e)))) are.airfields;
    runways = moved _ _ _ _ _ (λ q. put_beside kept tables.Receipt key row 1 q (λ e. absurd (cc (e)))) are.runways;
    days = moved _ _ _ _ _ (λ q. put_beside kept tables.Receipt key row 2 q (λ e. absurd (cc (e)))) are.days;
    filings = moved _ _ _ _ _ (λ q. put_beside kept tables.Receipt key row 3 q (λ e. absurd (cc (e)))) are.filings;
    receipts = receipts;
    only = λ n q l. put_beside kept tables.Receipt key row n q (λ e. absurd (omega (arith, l, e))) ∙ are.only n q l;
  }

-- ---- the step

unrefused : (o : Option AmendRefusal) → option_map refused_amendment o ≡ None → o ≡ None
unrefused None h = refl
unrefused (Some why) h = absurd (cc (h))

case_stepped : (f : Bool) (s : State) (kept : Kept) (number : ℕ) (g : KeptCase → KeptCase) (o : Option KeptCase) → AreTables f s kept → length s.cases ≤ MOST_CASES → case_at s.cases number ≡ o
    → AreTables f (record s { cases = with_case number g s.cases }) (rows_after_changes kept (case_changes number g o))
case_stepped f s kept number g None are most at = subst (λ (cases : List KeptCase). AreTables f (record s { cases = cases }) kept) (sym (ap (cases_changed_at number g s.cases) at)) are
case_stepped f s kept number g (Some c) are most at =
    case_put f s kept are (case_key number) (filing_row (g c)) (with_case number g s.cases)
    (filing_changed number g s.cases c _ _ are.filings most at (put_in kept tables.Filing (case_key number) (filing_row (g c))))

pub step_kept : (f : Bool) (s : State) (e : Entry) (step : Step) (kept : Kept) → Fits s e step → AreTables f s kept → AreTables f (state_after_step step s) (rows_after_changes kept (step_changes s step))
step_kept f s e (steps.Amended a) kept fits are =
    let now : AreAmended (after_amendment s.register a) kept (rows_after_changes kept (amendment_changes s.register a)) =
    amended_rows s.register kept a are.airfields are.runways fits.named (unrefused (first_broken s.register a) fits.allowed) in
    record {
      airfields = now.airfields;
      runways = now.runways;
      days = moved _ _ _ _ _ (λ q. now.beside 2 q (omega arith)) are.days;
      filings = moved _ _ _ _ _ (λ q. now.beside 3 q (omega arith)) are.filings;
      receipts = moved _ _ _ _ _ (λ q. now.beside 4 q (omega arith)) are.receipts;
      only = λ n q l. now.beside n q (omega (arith, l)) ∙ are.only n q l;
    }
step_kept f s e (steps.DaySet d) kept fits are =
    desk_put f s kept are (desk_key (rows.Now d)) (desk_row (rows.Now d)) f (Some d) s.closed
    (today_put f s.day s.closed _ _ are.days d (put_in kept tables.Desk (desk_key (rows.Now d)) (desk_row (rows.Now d))))
step_kept f s e (steps.DayClosed d) kept fits are =
    desk_put f s kept are (desk_key (rows.Closed d)) (desk_row (rows.Closed d)) f s.day (with_day d s.closed)
    (closed_put f s.day s.closed _ _ are.days d fits.sound (put_in kept tables.Desk (desk_key (rows.Closed d)) (desk_row (rows.Closed d))))
step_kept f s e (steps.CaseFiled c) kept fits are =
    case_put f s kept are (case_key (length s.cases + 1)) (filing_row c) (s.cases ++ c ∷ [])
    (filing_added s.cases c _ _ are.filings fits.room (put_in kept tables.Filing (case_key (length s.cases + 1)) (filing_row c)))
step_kept f s e (steps.FormPut number day) kept fits are = case_stepped f s kept number (λ c. record c { form = Some day }) (case_at s.cases number) are fits.most refl
step_kept f s e (steps.LifePut number life) kept fits are = case_stepped f s kept number (λ c. record c { life = life }) (case_at s.cases number) are fits.most refl
step_kept f s e (steps.Issued number site life list) kept fits are = case_stepped f s kept number (issued_case site life list) (case_at s.cases number) are fits.most refl

-- the format of the tables is there from the first change on
format_kept : (b : Bool) (s : State) (kept : Kept) → AreTables (not b) s kept → AreTables true s (rows_after_changes kept (cond b (put_desk rows.Format ∷ []) []))
format_kept false s kept are = are
format_kept true s kept are =
    desk_put false s kept are (desk_key rows.Format) (desk_row rows.Format) true s.day s.closed
    (format_put false s.day s.closed _ _ are.days (put_in kept tables.Desk (desk_key rows.Format) (desk_row rows.Format)))

same_entries : (step : Step) (s : State) → (state_after_step step s).entries ≡ s.entries
same_entries (steps.Amended a) s = refl
same_entries (steps.DaySet d) s = refl
same_entries (steps.DayClosed d) s = refl
same_entries (steps.CaseFiled c) s = refl
same_entries (steps.FormPut number day) s = refl
same_entries (steps.LifePut number life) s = refl
same_entries (steps.Issued number site life list) s = refl

entry_kept : (s : State) (e : Entry) (kept : Kept) → IsWord e.change.caller → entry_of e.change.caller e.change.key s.entries ≡ None → AreTables true s kept
    → AreTables true (with_entry e s) (rows_after_changes kept (put_receipt e ∷ []))
entry_kept s e kept word free are =
    entry_put true s kept are (receipt_key e.change.caller e.change.key) (entry_row e) (s.entries ++ e ∷ [])
    (receipt_put s.entries e _ _ are.receipts word free (put_in kept tables.Receipt (receipt_key e.change.caller e.change.key) (entry_row e)))

-- a desk with an entry holds something
not_none_of : (es : List Entry) (e : Entry) → is_none_of (es ++ e ∷ []) ≡ false
not_none_of [] e = refl
not_none_of (d ∷ es) e = refl

and_false : (a b c d e : Bool) → e ≡ false → not (a && b && c && d && e) ≡ true
and_false true true true true true h = absurd (cc (h))
and_false true true true true false h = refl
and_false true true true false e h = refl
and_false true true false d e h = refl
and_false true false c d e h = refl
and_false false b c d e h = refl

holds_something : (s : State) (e : Entry) → not (is_bare (with_entry e s)) ≡ true
holds_something s e = and_false (is_none_of s.register) (is_none s.day) (is_none_of s.closed) (is_none_of s.cases) (is_none_of (s.entries ++ e ∷ [])) (not_none_of s.entries e)

pub rows_kept : (s : State) (e : Entry) (step : Step) (kept : Kept) → Fits s e step → AreRows s kept → AreRows (with_entry e (state_after_step step s)) (rows_after_changes kept (changes s e step))
rows_kept s e step kept fits are =
    let format = cond (is_bare s) (put_desk rows.Format ∷ []) [] in
    let formatted : AreTables true s (rows_after_changes kept format) = format_kept (is_bare s) s kept are in
    let done : AreTables true (state_after_step step s) (rows_after_changes (rows_after_changes kept format) (step_changes s step)) = step_kept true s e step (rows_after_changes kept format) fits formatted in
    let entered = entry_kept (state_after_step step s) e (rows_after_changes (rows_after_changes kept format) (step_changes s step)) fits.caller (ap (entry_of e.change.caller e.change.key) (same_entries step s) ∙ fits.new) done in
    let parts : rows_after_changes kept (changes s e step) ≡ rows_after_changes (rows_after_changes (rows_after_changes kept format) (step_changes s step)) (put_receipt e ∷ []) =
    fold-append rows_after_change kept format (step_changes s step ++ put_receipt e ∷ []) ∙ fold-append rows_after_change (rows_after_changes kept format) (step_changes s step) (put_receipt e ∷ []) in
    subst (λ b. AreTables b (with_entry e (state_after_step step s)) (rows_after_changes kept (changes s e step))) (sym (holds_something (state_after_step step s) e))
    (subst (λ k. AreTables true (with_entry e (state_after_step step s)) k) (sym parts) entered)
