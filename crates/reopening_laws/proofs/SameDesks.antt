-- A desk that was read of the rows of another, as a part of it, is that one.
use Rattle.std.proofs.Common.{◌≡◌, refl, sym, ap, ◌∙◌, subst, arith, ℕ, ◌+◌, ◌-◌, ◌≤◌, List, length, All, Option, Some, None, IfSome, Bool, true, false}
use Rattle.std.proofs.Common.{slice_get, inl, inr}
use Rattle.std.specs.Option.{option_map}
use Rattle.std.proofs.lemmas.Bool.{cases_lt}
use Rattle.std.proofs.lemmas.Option.{same_Some, slice_get_cases, slice_get_past}
use Rattle.jiff_core.specs.declared.civil.date.Date.{Date}
use Rattle.jiff_core.specs.Date.{epoch_day}
use Rattle.airfields.specs.Names.{IsFieldId}
use Rattle.airfields.specs.Runways.{runway_at}
use Rattle.airfields.specs.declared.airfield.Airfield.{Airfield}
use Rattle.airport_register.specs.Amendments.{airfield_at, runways_in}
use Rattle.determination_dates.specs.Days.{IsLimited}
use Rattle.determination_dates.specs.Closed.{is_closed}
use Rattle.determination_dates.specs.Text.{date_text}
use Rattle.determination_dates.proofs.Texts.{one_date}
use Rattle.case_records.specs.declared.case.KeptCase.{KeptCase}
use Rattle.wire_requests.specs.Limits.{IsCase}
use Rattle.row_register.specs.Airfields.{airfield_row}
use Rattle.row_register.specs.Desk.{desk_row}
use Rattle.row_register.specs.declared.desk.DeskRow.TheVariants as days
use Rattle.row_cases.specs.Cases.{case_key}
use Rattle.row_cases.specs.Filings.{IsPlainCase, filing_row}
use Rattle.row_cases.specs.declared.filing.FilingRow.{FilingRow}
use Rattle.desk_tables.specs.RegisterParts.{IsPart}
use Rattle.oe_keeper.specs.Kept.{Kept}
use Rattle.desk_machine.specs.States.{State, case_at}
use Rattle.desk_machine.specs.declared.entry.Entry.{Entry}
use Rattle.desk_tables.specs.Rows.{AreTables}
use Rattle.desk_tables.specs.Tables.{ClosedOn, RunwayName, Today, runway_of, runway_text, text_if_shown}
use Rattle.desk_tables.specs.Parts.{Part, entries_of, state_of}
use Rattle.desk_tables.proofs.RowFacts.{HaveOneValue}
use Rattle.desk_tables.specs.Reachable.{IsCaseOf, IsDesk}
use Rattle.reopening_laws.proofs.CaseRows.{case_there}
use Rattle.reopening_laws.proofs.ClosedSets.{same_closed_days}
use Rattle.reopening_laws.proofs.FieldRows.{field_id}
use Rattle.reopening_laws.proofs.PartsOf.{IsPartOf, PartsGrow}
use Rattle.desk_tables.proofs.Places.{all_at, filled_all, same_by_places, unmapped}

same_shown : (a b : Bool) (x : List ℕ) → text_if_shown a x ≡ text_if_shown b x → a ≡ b
same_shown true true x e = refl
same_shown true false x e = absurd (cc (e))
same_shown false true x e = absurd (cc (e))
same_shown false false x e = refl

same_day : (a b : Option Date) → IfSome a IsLimited → IfSome b IsLimited → option_map date_text a ≡ option_map date_text b → a ≡ b
same_day None None h k e = refl
same_day None (Some d) h k e = absurd (cc (e))
same_day (Some c) None h k e = absurd (cc (e))
same_day (Some c) (Some d) h k e = ap Some (one_date c d h k (same_Some (date_text c) (date_text d) e))

each_plain : (m i : ℕ) (cs : List KeptCase) (o : Option KeptCase) → All (IsCaseOf m) cs → slice_get cs i ≡ o → IfSome o IsPlainCase
each_plain m i cs None h at = tt
each_plain m i cs (Some c) h at = IsCaseOf.plain (all_at (IsCaseOf m) cs i c h at)

module _ (one : HaveOneValue) where
  one_case : (number : ℕ) (c d : KeptCase) → IsCase number → IsPlainCase c → IsPlainCase d → filing_row c ≡ filing_row d → c ≡ d
  one_case number c d is h k e =
      ap (λ (v : FilingRow). v.case)
      (one.cases (case_key number) (filing_row c) (record { number = number; case = c }) (record { number = number; case = d })
      (record { key_is = refl; row_is = refl; numbered = is; plain = h }) (record { key_is = refl; row_is = e; numbered = is; plain = k }))

  same_case : (number : ℕ) (a b : Option KeptCase) → IsCase number → IfSome a IsPlainCase → IfSome b IsPlainCase
      → option_map filing_row a ≡ option_map filing_row b → a ≡ b
  same_case number None None is h k e = refl
  same_case number None (Some d) is h k e = absurd (cc (e))
  same_case number (Some c) None is h k e = absurd (cc (e))
  same_case number (Some c) (Some d) is h k e = ap Some (one_case number c d is h k (same_Some (filing_row c) (filing_row d) e))

  module _ (s t : State) (desk : IsDesk s) (other : IsDesk t) (f g : Bool) (kept : Kept) (are : AreTables f s kept) (read : AreTables g t kept) where
    same_today : s.day ≡ t.day
    same_today = same_day s.day t.day desk.day other.day (sym (are.days.there Today tt) ∙ read.days.there Today tt)

    same_closed : s.closed ≡ t.closed
    same_closed = same_closed_days s.closed t.closed desk.closed other.closed
        (λ d limited. same_shown (is_closed s.closed (epoch_day d)) (is_closed t.closed (epoch_day d)) (desk_row (days.Closed d))
        (sym (are.days.there (ClosedOn d) limited) ∙ read.days.there (ClosedOn d) limited))

    case_of_place : (cs : List KeptCase) (i : ℕ) → case_at cs (i + 1) ≡ slice_get cs i
    case_of_place cs i = (let place : i + 1 - 1 ≡ i = omega arith in case_there cs (i + 1) (omega arith) ∙ ap (slice_get cs) place)

    same_at : (i : ℕ) → slice_get s.cases i ≡ slice_get t.cases i
    same_at i = elim (cases_lt i 300000) [
      | inl below ↦ (let is : IsCase (i + 1) = (omega arith, omega (arith, below)) in
          let row : option_map filing_row (case_at s.cases (i + 1)) ≡ option_map filing_row (case_at t.cases (i + 1)) =
          sym (are.filings.there (i + 1) is) ∙ read.filings.there (i + 1) is in
          same_case (i + 1) (slice_get s.cases i) (slice_get t.cases i) is (each_plain (length s.entries) i s.cases (slice_get s.cases i) desk.cases refl)
          (each_plain (length t.entries) i t.cases (slice_get t.cases i) other.cases refl)
          (ap (option_map filing_row) (sym (case_of_place s.cases i)) ∙ row ∙ ap (option_map filing_row) (case_of_place t.cases i)))
      | inr above ↦ slice_get_past s.cases i (omega (arith, above, desk.most)) ∙ sym (slice_get_past t.cases i (omega (arith, above, other.most)))
    ]

    same_cases : s.cases ≡ t.cases
    same_cases = same_by_places s.cases t.cases same_at

    -- ---- airfields

    field_by : (id : List ℕ) (o : Option Airfield) → airfield_at s.register id ≡ o → airfield_at t.register id ≡ None → airfield_at s.register id ≡ None
    field_by id None at none = at
    field_by id (Some v) at none =
        let is_id : IsFieldId id = field_id s.register id v desk.named at in
        unmapped airfield_row (airfield_at s.register id)
        (sym (are.airfields.there id is_id) ∙ read.airfields.there id is_id ∙ ap (option_map airfield_row) none)

    runway_by : (id name : List ℕ) (o : Option Airfield) → airfield_at s.register id ≡ o → runway_at (runways_in (airfield_at t.register id)) name ≡ None
        → runway_at (runways_in (airfield_at s.register id)) name ≡ None
    runway_by id name None at none = ap (λ o. runway_at (runways_in o) name) at
    runway_by id name (Some v) at none =
        let is_id : IsFieldId id = field_id s.register id v desk.named at in
        let n : RunwayName = record { airport = id; runway = name } in
        unmapped runway_text (runway_of s.register n) (sym (are.runways.there n is_id) ∙ read.runways.there n is_id ∙ ap (option_map runway_text) none)

    same_register : PartsGrow → IsPart t.register s.register → t.register ≡ s.register
    same_register grow part =
        grow.whole_is t.register s.register desk.register part (λ id none. field_by id (airfield_at s.register id) refl none)
        (λ id name none. runway_by id name (airfield_at s.register id) refl none)

  -- ---- requests

  request_by : (s : State) (n : ℕ) (q : Part) (i : ℕ) (o : Option Entry) → slice_get q.requests i ≡ option_map Some o → IsPartOf s n q
      → IfSome o (λ e. slice_get s.entries i ≡ Some e)
  request_by s n q i None at part = tt
  request_by s n q i (Some e) at part =
      subst (λ (o : Option (Option Entry)). IfSome o (λ p. IfSome p (λ e. slice_get s.entries i ≡ Some e))) at (part.entries i)

  same_request : (s : State) (i : ℕ) (es : List Entry) → IfSome (slice_get es i) (λ e. slice_get s.entries i ≡ Some e) → length s.entries ≤ length es
      → slice_get s.entries i ≡ slice_get es i
  same_request s i es h l = elim (slice_get_cases es i).1 [
    | inl found ↦ subst (λ (o : Option Entry). IfSome o (λ e. slice_get s.entries i ≡ Some e)) found.2 h ∙ sym found.2
    | inr past ↦ slice_get_past s.entries i (omega (arith, past.0, l)) ∙ sym past.1
  ]

  pub same_desk : PartsGrow → (s : State) (n : ℕ) (q : Part) (f g : Bool) (kept : Kept) → IsDesk s → IsDesk (state_of q) → AreTables f s kept
      → AreTables g (state_of q) kept → IsPartOf s n q
      → length (entries_of q.requests) ≡ n → length s.entries ≤ n → s ≡ state_of q
  same_desk grow s n q f g kept desk other are read part count room =
      let t = state_of q in
      let register : q.register ≡ s.register = same_register s t desk other f g kept are read grow part.register in
      let day = same_today s t desk other f g kept are read in
      let closed = same_closed s t desk other f g kept are read in
      let cases = same_cases s t desk other f g kept are read in
      let es = entries_of q.requests in
      let entries : s.entries ≡ es =
      same_by_places s.entries es
      (λ i. same_request s i es (request_by s n q i (slice_get es i) (filled_all q.requests (omega (arith, count, part.room)) i) part)
      (omega (arith, count, room))) in
      λ i. record { register = sym register i; day = day i; closed = closed i; cases = cases i; entries = entries i }
