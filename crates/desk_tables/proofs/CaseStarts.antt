-- The effects of notices, of the form of an emergency, and of issuance.
use Rattle.std.proofs.Common.{◌+ℤ◌, ◌≡◌, refl, sym, ◌∙◌, subst, arith, ℕ, zero, suc, ◌+◌, ◌^◌, ◌<◌, ◌≤◌, Bool, true, false, nat_le, length, slice_get, Option, Some, None}
use Rattle.std.proofs.lemmas.Grind.{common_steps}
use Rattle.std.specs.Option.{option_map}
use Rattle.std.proofs.lemmas.Option.{same_Some, none-some}
use Rattle.jiff_core.specs.declared.civil.date.Date.{Date}
use Rattle.jiff_core.specs.Date.{epoch_day}
use Rattle.determination_dates.specs.declared.notice.TheConstants.{FORM_DAYS}
use Rattle.determination_dates.specs.declared.timely.Timeliness.{Timeliness}
use Rattle.determination_dates.specs.declared.timely.Timeliness.TheVariants.{Emergency}
use Rattle.determination_dates.specs.Days.{IsLimited}
use Rattle.determination_dates.specs.Dates.{limited_date}
use Rattle.determination_dates.specs.Notices.{days_late, by_days}
use Rattle.determination_dates.specs.Computed.{timeliness_of, issued_record}
use Rattle.determination_dates.proofs.DateFacts.{limited_sound}
use Rattle.case_requests.specs.declared.act.Act.TheVariants as acts
use Rattle.case_requests.specs.declared.act.Impact.{Impact}
use Rattle.case_requests.specs.declared.submission.Submission.{Submission}
use Rattle.case_records.specs.declared.case.KeptCase.{KeptCase}
use Rattle.case_records.specs.declared.case.KeptList.{KeptList}
use Rattle.case_records.specs.declared.refusal.Refusal.TheVariants as refusals
use Rattle.case_acts.specs.declared.effect.Effect.{Effect}
use Rattle.case_acts.specs.Decisions.{decision_by, is_reviewable}
use Rattle.case_acts.specs.Rules.{refusal_if}
use Rattle.case_acts.specs.Effects.{fcc_days, filing_effect, form_came, issue_effect, determination_effect}
use Rattle.wire_values.specs.Words.{IsAnyLimited}
use Rattle.wire_requests.specs.Limits.{IsValidSubmission}
use Rattle.row_cases.specs.Entries.{IsList}
use Rattle.row_cases.specs.Filings.{IsPlainCase}
use Rattle.row_receipts.specs.Kinds.{IsTimeliness, AreDays}
use Rattle.desk_machine.specs.declared.entry.TheConstants.{MOST_CASES}
use Rattle.desk_machine.specs.States.{State}
use Rattle.desk_machine.specs.Machine.{file_rules}
use Rattle.desk_tables.proofs.DateLimits.{few_between, few_after_form, few_late}
use Rattle.desk_tables.proofs.RecordLimits.{effective_dated, expiry_dated, issued_shown}
use Rattle.desk_tables.proofs.Shown.{mapped_shown}
use Rattle.desk_tables.proofs.PlainEffects.{IsPlainEffect, kept_record}

-- ---- a notice

by_days_plain : (n : ℕ) → n < 2 ^ 32 → IsTimeliness (by_days n)
by_days_plain zero h = tt
by_days_plain (suc n) h = (omega arith, h)

due_plain : (o : Option Date) (t : Timeliness) → ((d : Date) → o ≡ Some d → IsLimited d) → option_map Emergency o ≡ Some t → IsTimeliness t
due_plain None t h is = absurd (none-some t is)
due_plain (Some d) t h is = subst IsTimeliness (same_Some (Emergency d) t is) (h d refl)

timely_plain : (received start : Date) (permit : Option Date) (emergency : Bool) (t : Timeliness) → IsLimited received → IsLimited start → IsAnyLimited permit
    → timeliness_of received start permit emergency ≡ Some t → IsTimeliness t
timely_plain received start permit true t r h k is =
    due_plain (limited_date (epoch_day received +ℤ FORM_DAYS)) t (λ d at. (limited_sound (epoch_day received +ℤ FORM_DAYS) d at).0) is
timely_plain received start permit false t r h k is =
    let late = days_late received start permit in
    subst IsTimeliness (same_Some (by_days late) t is) (by_days_plain late (few_late received start permit r h k))

fcc_few : (today : Date) (application : Option Date) → IsLimited today → IsAnyLimited application → AreDays (fcc_days today application)
fcc_few today None day h = tt
fcc_few today (Some d) day h = few_between today d day h

-- there is room where the rule of it is not broken
has_room : (m n : ℕ) (b : Bool) → nat_le m n ≡ b → slice_get (refusal_if b refusals.CasesFull) 0 ≡ None → n + 1 ≤ m
has_room m n true is h = absurd (none-some refusals.CasesFull (sym h))
has_room m n false is h = grind (arith, common_steps, is)

pub file_plain : (s : State) (today : Date) (n : Submission) (e : Effect) → s.day ≡ Some today → IsLimited today → IsValidSubmission n
    → slice_get (file_rules s.cases) 0 ≡ None
    → filing_effect (length s.cases + 1) today n ≡ Some e → IsPlainEffect s (acts.File n) e
file_plain s today n e at day valid free is =
    let room = has_room MOST_CASES (length s.cases) (nat_le MOST_CASES (length s.cases)) refl free in
    mapped_shown (timeliness_of today n.start n.permit n.emergency) _ e (IsPlainEffect s (acts.File n) e)
    (λ t there made. subst (IsPlainEffect s (acts.File n)) made
    (record {
      led = (
        (omega arith, omega (arith, room)),
        timely_plain today n.start n.permit n.emergency t day valid.start valid.permit there,
        fcc_few today n.fcc day valid.fcc,
      );
      list = omega arith;
      step = (
        record { plain = record { submission = valid; received = day; form = tt; judged = tt }; list = tt },
        room,
        λ none. none-some today (sym none ∙ at),
      );
    })) is

-- ---- the form of an emergency

pub form_plain : (s : State) (number : ℕ) (today : Date) (c : KeptCase) (e : Effect) → IsLimited today → IsPlainCase c → form_came number today c ≡ e
    → IsPlainEffect s (acts.Form number) e
form_plain s number today c e day h is =
    subst (IsPlainEffect s (acts.Form number)) is (record { led = (refl, few_after_form c.received today h.received day); list = omega arith; step = day })

-- ---- a determination

pub determination_plain : (s : State) (number : ℕ) (finding : Option Impact) (today : Date) (c : KeptCase) (kept : KeptList) (e : Effect) → IsLimited today
    → IsPlainCase c
    → kept.last ≤ length s.entries
    → length s.entries < 2 ^ 64 → IsList kept.list → determination_effect number finding s.closed kept today c ≡ Some e
    → IsPlainEffect s (acts.Determine number finding) e
determination_plain s number finding today c kept e day plain last counted told is =
    let decision = decision_by finding in
    let reviewable = is_reviewable decision c.submission.filing kept.list in
    mapped_shown (issued_record today decision reviewable s.closed) (issue_effect number c kept) e (IsPlainEffect s (acts.Determine number finding) e)
    (λ r there made.
    let m = issued_shown today decision reviewable s.closed r day there in
    let few : kept.last < 2 ^ 64 = omega (arith, last, counted) in
    subst (IsPlainEffect s (acts.Determine number finding)) made
    (record {
      led = (refl, few, m.plain.issued, m.plain.deadline, effective_dated r (kept_record r m.plain), expiry_dated r m.expiry, told);
      list = last;
      step = ((m.plain, record { last = few; list = told }), last, plain.submission.filing);
    })) is
