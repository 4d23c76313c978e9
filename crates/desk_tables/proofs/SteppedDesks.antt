-- A desk that rows can tell, after a step and with its entry.
use Rattle.std.proofs.Common.{◌≡◌, refl, sym, subst, arith, ℕ, ◌+◌, ◌≤◌, List, [], ◌∷◌, ◌++◌, All, length, Option, Some, None, IfSome}
use Rattle.std.specs.Option.{option_map}
use Rattle.std.proofs.lemmas.Option.{none-some, IfSome_then}
use Rattle.std.proofs.lemmas.List.{length-append}
use Rattle.std.proofs.lemmas.List.Elements.{All-append, All-cons, All-nil, All-weaker}
use Rattle.jiff_core.specs.declared.civil.date.Date.{Date}
use Rattle.airfields.specs.Sites.{Site}
use Rattle.airfields.specs.declared.airfield.Airfield.{Airfield}
use Rattle.airport_register.specs.declared.amendment.Amendment.{Amendment}
use Rattle.airport_register.specs.declared.amendment.AmendRefusal.{AmendRefusal}
use Rattle.airport_register.specs.Amendments.{after_amendment, first_broken}
use Rattle.airport_register.specs.Registers.{IsRegister}
use Rattle.determination_dates.specs.Days.{IsLimited}
use Rattle.determination_dates.specs.Closed.{AreClosedDays}
use Rattle.determination_dates.specs.declared.life.Life.{Life}
use Rattle.case_requests.specs.declared.submission.Submission.{Submission}
use Rattle.case_records.specs.Refusals.{refused_amendment}
use Rattle.case_records.specs.declared.case.KeptCase.{KeptCase}
use Rattle.case_records.specs.declared.case.KeptList.{KeptList}
use Rattle.case_acts.specs.declared.effect.Step.{Step}
use Rattle.case_acts.specs.declared.effect.Step.TheVariants as steps
use Rattle.wire_cursor.specs.Groups.{IsValidSite}
use Rattle.wire_requests.specs.Limits.{IsValidSubmission}
use Rattle.row_cases.specs.Filings.{IsJudged}
use Rattle.desk_tables.specs.Names.{IsNamed, PutsNames}
use Rattle.desk_machine.specs.declared.entry.Entry.{Entry}
use Rattle.desk_machine.specs.declared.entry.TheConstants.{MOST_CASES}
use Rattle.desk_machine.specs.States.{State, state_after_step, with_entry, with_case, with_filing, case_at, issued_case}
use Rattle.desk_machine.specs.Machine.{register_rule}
use Rattle.desk_tables.specs.Reachable.{IsDesk, IsCaseOf}
use Rattle.desk_tables.proofs.PlainEffects.{IsPlainStep}
use Rattle.desk_tables.proofs.NewCases.{case_found, all_changed, many_changed, none_changed}
use Rattle.desk_tables.proofs.ClosedDays.{closed_more}
use Rattle.desk_tables.proofs.NewEntries.{AreEntries}

-- the laws of the register
pub record RegisterGoesOn : Type 0 where
  pub register : (r : List Airfield) (a : Amendment) → IsRegister r → first_broken r a ≡ None → IsRegister (after_amendment r a)
  pub names : (r : List Airfield) (a : Amendment) → All IsNamed r → PutsNames a → All IsNamed (after_amendment r a)

-- what a desk holds but for its entries, which are so many
pub record HoldsPlain (entries : ℕ) (s : State) : Type 0 where
  pub register : IsRegister s.register
  pub named : All IsNamed s.register
  pub day : IfSome s.day IsLimited
  pub has_day : s.day ≡ None → s.cases ≡ []
  pub closed : AreClosedDays s.closed
  pub most : length s.cases ≤ MOST_CASES
  pub cases : All (IsCaseOf entries) s.cases

list_below : (entries : ℕ) (o : Option KeptList) → IfSome o (λ (kept : KeptList). kept.last ≤ entries) → IfSome o (λ (kept : KeptList). kept.last ≤ entries + 1)
list_below entries o h = IfSome_then o h (λ kept k. omega (arith, k))

case_on : (entries : ℕ) (c : KeptCase) → IsCaseOf entries c → IsCaseOf (entries + 1) c
case_on entries c h = record { plain = h.plain; list = list_below entries c.list h.list }

cases_on : (entries : ℕ) (cases : List KeptCase) → All (IsCaseOf entries) cases → All (IsCaseOf (entries + 1)) cases
cases_on entries cases h = All-weaker (IsCaseOf entries) (IsCaseOf (entries + 1)) (case_on entries) cases h

-- ---- the parts of a case that a step changes

abbrev form_on : Date → KeptCase → KeptCase
form_on day c = record c { form = Some day }

abbrev life_on : Life → KeptCase → KeptCase
life_on life c = record c { life = life }

form_plain : (entries : ℕ) (day : Date) (c : KeptCase) → IsLimited day → IsCaseOf entries c → IsCaseOf (entries + 1) (form_on day c)
form_plain entries day c k h = record {
  plain = record { submission = h.plain.submission; received = h.plain.received; form = k; judged = h.plain.judged };
  list = list_below entries c.list h.list;
}

life_plain : (entries : ℕ) (life : Life) (c : KeptCase) → IsJudged life.determination c.list → IsCaseOf entries c → IsCaseOf (entries + 1) (life_on life c)
life_plain entries life c k h = record {
  plain = record { submission = h.plain.submission; received = h.plain.received; form = h.plain.form; judged = k };
  list = list_below entries c.list h.list;
}

with_site : (site : Site) (n : Submission) → IsValidSubmission n → IsValidSite site → IsValidSubmission (with_filing site n)
with_site site n h valid = record { start = h.start; permit = h.permit; fcc = h.fcc; filing = valid }

issued_plain : (entries : ℕ) (site : Site) (life : Life) (list : KeptList) (c : KeptCase) → IsJudged life.determination (Some list) → list.last ≤ entries → IsValidSite site → IsCaseOf entries c
    → IsCaseOf (entries + 1) (issued_case site life list c)
issued_plain entries site life list c k last valid h = record {
  plain = record { submission = with_site site c.submission h.plain.submission valid; received = h.plain.received; form = h.plain.form; judged = k };
  list = omega (arith, last);
}

-- ---- each step

unbroken : (o : Option AmendRefusal) → option_map refused_amendment o ≡ None → o ≡ None
unbroken None is = refl
unbroken (Some why) is = absurd (none-some (refused_amendment why) (sym is))

-- one case is changed
case_put : (s : State) (number : ℕ) (f : KeptCase → KeptCase) → IsDesk s
    → ((c : KeptCase) → case_at s.cases number ≡ Some c → IsCaseOf (length s.entries) c → IsCaseOf (length s.entries + 1) (f c))
    → HoldsPlain (length s.entries + 1) (record s { cases = with_case number f s.cases })
case_put s number f h g = record {
  register = h.register;
  named = h.named;
  day = h.day;
  has_day = λ none. none_changed s.cases number f (h.has_day none);
  closed = h.closed;
  most = subst (λ (n : ℕ). n ≤ MOST_CASES) (sym (many_changed s.cases number f)) h.most;
  cases = all_changed (IsCaseOf (length s.entries)) (IsCaseOf (length s.entries + 1)) s.cases number f h.cases (case_on (length s.entries))
      (λ c at. g c at (case_found (IsCaseOf (length s.entries)) s.cases number c h.cases at));
}

pub holds_after : (s : State) (step : Step) → RegisterGoesOn → IsDesk s → IsPlainStep s step → register_rule s.register step ≡ None
    → HoldsPlain (length s.entries + 1) (state_after_step step s)
holds_after s (steps.Amended a) law h plain rule = record {
  register = law.register s.register a h.register (unbroken (first_broken s.register a) rule);
  named = law.names s.register a h.named plain;
  day = h.day;
  has_day = h.has_day;
  closed = h.closed;
  most = h.most;
  cases = cases_on (length s.entries) s.cases h.cases;
}
holds_after s (steps.DaySet d) law h plain rule = record {
  register = h.register;
  named = h.named;
  day = plain;
  has_day = λ none. absurd (none-some d (sym none));
  closed = h.closed;
  most = h.most;
  cases = cases_on (length s.entries) s.cases h.cases;
}
holds_after s (steps.DayClosed d) law h plain rule = record {
  register = h.register;
  named = h.named;
  day = h.day;
  has_day = h.has_day;
  closed = closed_more d s.closed plain h.closed;
  most = h.most;
  cases = cases_on (length s.entries) s.cases h.cases;
}
holds_after s (steps.CaseFiled c) law h plain rule = record {
  register = h.register;
  named = h.named;
  day = h.day;
  has_day = λ none. absurd (plain.2 none);
  closed = h.closed;
  most = subst (λ (n : ℕ). n ≤ MOST_CASES) (sym (length-append s.cases (c ∷ []))) plain.1;
  cases = All-append (IsCaseOf (length s.entries + 1)) s.cases (c ∷ []) (cases_on (length s.entries) s.cases h.cases)
      (All-cons (IsCaseOf (length s.entries + 1)) c [] (case_on (length s.entries) c plain.0) (All-nil (IsCaseOf (length s.entries + 1))));
}
holds_after s (steps.FormPut number day) law h plain rule = case_put s number (form_on day) h (λ c at k. form_plain (length s.entries) day c plain k)
holds_after s (steps.LifePut number life) law h plain rule = case_put s number (life_on life) h (λ c at k. life_plain (length s.entries) life c (plain c at) k)
holds_after s (steps.Issued number site life list) law h plain rule =
    case_put s number (issued_case site life list) h (λ c at k. issued_plain (length s.entries) site life list c plain.0 plain.1 plain.2 k)

-- ---- with the entry

pub desk_after : (t : State) (e : Entry) (es : List Entry) → es ≡ t.entries ++ e ∷ [] → HoldsPlain (length es) t → AreEntries es → IsDesk (with_entry e t)
desk_after t e es is holds are =
    let k = subst (λ (l : List Entry). HoldsPlain (length l) t) is holds in
    let m = subst AreEntries is are in
    record {
      register = k.register;
      named = k.named;
      day = k.day;
      has_day = k.has_day;
      closed = k.closed;
      most = k.most;
      cases = k.cases;
      entries = m.entries;
      own = m.own;
      counted = m.counted;
    }
