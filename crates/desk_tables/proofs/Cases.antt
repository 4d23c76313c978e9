-- The rows of cases, after one was opened or changed.
use Rattle.std.proofs.Common.{◌≡◌, refl, sym, ap, ◌∙◌, ℕ, ◌+◌, ◌-◌, ◌==◌, ◌<◌, ◌≤◌, nat_lt, arith, List, [], ◌∷◌, ◌++◌, length, Some, None, Bool, true, false, cond, slice_get}
use Rattle.std.proofs.lemmas.Bool.Decides.{nat_tests}
use Rattle.std.specs.Option.{option_map}
use Rattle.case_records.specs.declared.case.KeptCase.{KeptCase}
use Rattle.desk_machine.specs.States.{case_at, with_case}
use Rattle.desk_machine.specs.declared.entry.TheConstants.{MOST_CASES}
use Rattle.desk_machine.proofs.CaseFacts.{case_itself, case_unchanged, case_new, case_other, case_within}
use Rattle.row_cases.specs.Cases.{case_key}
use Rattle.row_cases.specs.Filings.{filing_row}
use Rattle.wire_requests.specs.Limits.{IsCase}
use Rattle.row_cases.proofs.KeyFacts.{one_case}
use Rattle.desk_tables.specs.Tables.{Found, AreFilings, filing_found}
use Rattle.desk_tables.proofs.Named.{IsPutAt, named_put}

-- the number of a case that is there
some_by : (cases : List KeptCase) (n : ℕ) (c : KeptCase) (b : Bool) → (n == 0) ≡ b → cond b None (slice_get cases (n - 1)) ≡ Some c → 1 ≤ n
some_by cases n c true e at = absurd (cc (at))
some_by cases n c false e at = grind (arith, nat_tests, e)

pub filing_added : (cases : List KeptCase) (c : KeptCase) (old new : Found) → AreFilings cases old → length cases < MOST_CASES
    → IsPutAt (case_key (length cases + 1)) (Some (filing_row c)) old new → AreFilings (cases ++ c ∷ []) new
filing_added cases c old new are room put =
    named_put IsCase case_key (filing_found cases) (filing_found (cases ++ c ∷ [])) old new (length cases + 1) one_case are (omega arith, omega (arith, room))
    (record { here = put.here ∙ sym (ap (option_map filing_row) (case_new cases c)); elsewhere = put.elsewhere })
    (λ m h apart. ap (option_map filing_row) (case_other cases c m apart))

pub filing_changed : (number : ℕ) (f : KeptCase → KeptCase) (cases : List KeptCase) (c : KeptCase) (old new : Found) → AreFilings cases old → length cases ≤ MOST_CASES → case_at cases number ≡ Some c
    → IsPutAt (case_key number) (Some (filing_row (f c))) old new → AreFilings (with_case number f cases) new
filing_changed number f cases c old new are most at put =
    let within : number ≤ length cases = case_within cases number c (nat_lt (length cases) number) refl at in
    named_put IsCase case_key (filing_found cases) (filing_found (with_case number f cases)) old new number one_case are (some_by cases number c (number == 0) refl at, omega (arith, within, most))
    (record { here = put.here ∙ sym (ap (option_map filing_row) (case_itself number f cases c at)); elsewhere = put.elsewhere })
    (λ m h apart. ap (option_map filing_row) (case_unchanged number f cases m apart))
