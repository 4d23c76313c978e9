-- The rows of a desk's cases can be read.
use Rattle.std.proofs.Common.{◌≡◌, ◌≢◌, refl, sym, ap, ◌∙◌, subst, arith, ℕ, zero, suc, ◌+◌, ◌-◌, ◌==◌, ◌<◌, ◌≤◌, List, [], length, Bool, true, false, cond}
use Rattle.std.proofs.Common.{Some, None, slice_get, inl, inr, codes}
use Rattle.std.specs.Option.{option_map}
use Rattle.std.specs.FinMap as maps
use Rattle.std.proofs.lemmas.Bool.{cases_lt}
use Rattle.std.proofs.lemmas.Bool.Decides.{nat_tests}
use Rattle.std.proofs.lemmas.Option.{IfSome_then, slice_get_past, slice_get_within}
use Rattle.determination_dates.specs.Text.{date_text}
use Rattle.case_records.specs.declared.case.KeptCase.{KeptCase}
use Rattle.wire_requests.specs.Limits.{IsCase}
use Rattle.row_cases.specs.Cases.{case_key}
use Rattle.row_cases.specs.Filings.{filing_row}
use Rattle.oe_keeper.specs.Kept.{Kept}
use Rattle.oe_keeper.specs.declared.change.Table.TheVariants as tables
use Rattle.desk_machine.specs.States.{State, case_at}
use Rattle.desk_tables.specs.Rows.{AreTables}
use Rattle.desk_tables.specs.Tables.{Today, filing_found, found_in}
use Rattle.desk_tables.specs.Parts.{Part}
use Rattle.desk_tables.specs.declared.layout.Layout.{Layout}
use Rattle.desk_tables.specs.declared.value.RowValue.TheVariants.{Case}
use Rattle.desk_tables.specs.Reachable.{IsCaseOf, IsDesk}
use Rattle.reopening_laws.proofs.CaseKeys.{keys_rise, number_again, number_in}
use Rattle.reopening_laws.proofs.PartsOf.{ComesIn, IsPartOf, either_format}
use Rattle.desk_tables.proofs.Places.{all_at, mapped, past, unmapped}
use Rattle.reopening_laws.proofs.RowNames.{name_found}
use Rattle.desk_tables.proofs.RowsInOrder.{ComesAt}
use Rattle.desk_tables.proofs.Walks.{HasRead}

-- ---- the case of a number

pub record HasPlace (cases : List KeptCase) (number : ℕ) (c : KeptCase) : Type 0 where
  pub counted : 1 ≤ number
  pub at : slice_get cases (number - 1) ≡ Some c

case_by : (cases : List KeptCase) (number : ℕ) (c : KeptCase) (b : Bool) → (number == 0) ≡ b → cond b None (slice_get cases (number - 1)) ≡ Some c
    → HasPlace cases number c
case_by cases number c true e at = absurd (cc (at))
case_by cases number c false e at = record { counted = grind (arith, nat_tests, e); at = at }

pub has_place : (cases : List KeptCase) (number : ℕ) (c : KeptCase) → case_at cases number ≡ Some c → HasPlace cases number c
has_place cases number c at = case_by cases number c (number == 0) refl at

pub case_there : (cases : List KeptCase) (number : ℕ) → 1 ≤ number → case_at cases number ≡ slice_get cases (number - 1)
case_there cases number l = by (number == 0) refl
  where
    by : (b : Bool) → (number == 0) ≡ b → cond b None (slice_get cases (number - 1)) ≡ slice_get cases (number - 1)
    by true e = absurd (grind (arith, nat_tests, e, l))
    by false e = refl

-- past the last there is none
none_past : (cases : List KeptCase) (number : ℕ) → 1 ≤ number → case_at cases number ≡ None → length cases < number
none_past cases number l none = omega (arith, l, past cases (number - 1) (sym (case_there cases number l) ∙ none))

-- a case with a row has six digits
pub filing_below : (s : State) (desk : IsDesk s) (number : ℕ) (x : List ℕ) → filing_found s.cases number ≡ Some x → number < 1000000
filing_below s desk number x row =
    let found = mapped filing_row (case_at s.cases number) x row in
    omega (arith, slice_get_within s.cases (number - 1) found.0 (HasPlace.at (has_place s.cases number found.0 found.1)), desk.most)

module _ (s : State) (desk : IsDesk s) (n : ℕ) (b : Layout) (f : Bool) (kept so_far : Kept) (are : AreTables f s kept) (p : Part) (read : HasRead p so_far)
    (part : IsPartOf s n p) (room : length s.entries ≤ n) where
  -- the desk's day was read
  day_read : (c : KeptCase) (i : ℕ) → slice_get s.cases i ≡ Some c → maps.get so_far (2, codes "now") ≡ maps.get kept (2, codes "now") → p.day ≢ None
  day_read c i at same none =
      let today : option_map date_text s.day ≡ None = sym (are.days.there Today tt) ∙ sym same ∙ read.days.there Today tt ∙ ap (option_map date_text) none in
      let no_cases : s.cases ≡ [] = desk.has_day (unmapped date_text s.day today) in
      absurd (cc (sym at ∙ ap (λ (cs : List KeptCase). slice_get cs i) no_cases))

  -- so were the cases before it
  before_by : (number : ℕ) (c : KeptCase) → HasPlace s.cases number c → number < 1000000
      → ((k : ℕ) → k < number → maps.get so_far (3, case_key k) ≡ maps.get kept (3, case_key k)) → number ≤ length p.cases + 1
  before_by zero c at few same = omega arith
  before_by (suc zero) c at few same = omega arith
  before_by (suc (suc k)) c at few same = elim (cases_lt k (length p.cases)) [
    | inl below ↦ omega (arith, below)
    | inr above ↦ (let number = suc k in
        let is : IsCase number = (omega arith, omega (arith, few)) in
        let none : case_at p.cases number ≡ None = case_there p.cases number (omega arith) ∙ slice_get_past p.cases (number - 1) (omega (arith, above)) in
        let nothing : option_map filing_row (case_at s.cases number) ≡ None =
        sym (are.filings.there number is) ∙ sym (same number (omega arith)) ∙ read.filings.there number is ∙ ap (option_map filing_row) none in
        let few_cases : length s.cases < number = none_past s.cases number (omega arith) (unmapped filing_row (case_at s.cases number) nothing) in
        absurd (omega (arith, few_cases, slice_get_within s.cases (suc (suc k) - 1) c at.at)))
  ]

  case_in : (number : ℕ) (text : List ℕ) (c : KeptCase) → case_at s.cases number ≡ Some c → filing_row c ≡ text
      → ComesAt kept so_far ((3, case_key number), text) → ComesIn s n b p ((3, case_key number), text)
  case_in number text c at row comes =
      let place = has_place s.cases number c at in
      let within : number - 1 < length s.cases = slice_get_within s.cases (number - 1) c place.at in
      let few : number < 1000000 = omega (arith, within, desk.most) in
      let is_case : IsCase number = (place.counted, omega (arith, few)) in
      let of : IsCaseOf (length s.entries) c = all_at (IsCaseOf (length s.entries)) s.cases (number - 1) c desk.cases place.at in
      let none : case_at p.cases number ≡ None = unmapped filing_row (case_at p.cases number) (sym (read.filings.there number is_case) ∙ comes.new) in
      let above : length p.cases < number = none_past p.cases number place.counted none in
      let below : number ≤ length p.cases + 1 = before_by number c place few (λ k l. comes.below (3, case_key k) (keys_rise k number l few)) in
      record {
        value = Case (record { number = number; case = c });
        is = (refl, record { key_is = refl; row_is = sym row; numbered = is_case; plain = of.plain });
        next = (
          record {
            day = day_read c (number - 1) place.at (comes.below (2, codes "now") refl);
            room = omega (arith, above, within, desk.most, place.counted);
            next = omega (arith, above, below);
            list = IfSome_then c.list of.list (λ list known. omega (arith, known, room, part.room));
          },
          either_format b.is_old,
        );
        part = record { register = part.register; room = part.room; entries = part.entries };
      }

  pub case_comes : (key text : List ℕ) → ComesAt kept so_far ((3, key), text) → ComesIn s n b p ((3, key), text)
  case_comes key text at =
      let name = name_found IsCase case_key (filing_found s.cases) (found_in kept tables.Filing) are.filings key text at.here (number_in key)
      (λ m h e row. sym (ap number_in e ∙ number_again m (filing_below s desk m text row))) in
      let found = mapped filing_row (case_at s.cases (number_in key)) text name.row_is in
      subst (λ k. ComesIn s n b p ((3, k), text)) (sym name.key_is)
      (case_in (number_in key) text found.0 found.1 found.2 (subst (λ k. ComesAt kept so_far ((3, k), text)) name.key_is at))
