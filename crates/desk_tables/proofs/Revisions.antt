-- The effects of revisions.
use Rattle.std.proofs.Common.{◌≡◌, refl, sym, subst, arith, ℕ, ℤ, ◌+◌, ◌^◌, ◌<◌, ◌≤◌, Bool, true, false, nat_le, List, [], ◌∷◌, ◌++◌, length, slice_get, Option, Some, None}
use Rattle.std.proofs.lemmas.Grind.{common_steps}
use Rattle.std.specs.Option.{option_map}
use Rattle.std.proofs.lemmas.Option.{none-some}
use Rattle.jiff_core.specs.declared.civil.date.Date.{Date}
use Rattle.airfields.specs.Sites.{AreFacts, Site, revised_site}
use Rattle.determination_dates.specs.declared.determination.TheConstants.{MOST_REVISIONS}
use Rattle.determination_dates.specs.declared.determination.Record.{Record}
use Rattle.determination_dates.specs.Days.{IsLimited}
use Rattle.determination_dates.specs.Computed.{revised_record, with_some, last_date}
use Rattle.case_requests.specs.declared.act.Act.{Act}
use Rattle.case_requests.specs.declared.act.Act.TheVariants as acts
use Rattle.case_requests.specs.declared.act.Impact.{Impact}
use Rattle.case_records.specs.declared.case.KeptCase.{KeptCase}
use Rattle.case_records.specs.declared.case.KeptList.{KeptList}
use Rattle.case_records.specs.declared.refusal.Refusal.{Refusal}
use Rattle.case_records.specs.declared.refusal.Refusal.TheVariants as refusals
use Rattle.case_acts.specs.declared.effect.Effect.{Effect}
use Rattle.case_acts.specs.declared.revision.Revision.{Revision}
use Rattle.case_acts.specs.Decisions.{decision_by, is_reviewable}
use Rattle.case_acts.specs.Rules.{finding_rules, has_same_facts, in_status, last_day_rules, of_record, refusal_if, revising_rules, revision_rules}
use Rattle.case_acts.specs.Standing.{is_in_force}
use Rattle.case_acts.specs.Effects.{revised_effect, revision_effect, site_with}
use Rattle.wire_cursor.specs.Groups.{IsValidSite}
use Rattle.row_cases.specs.Entries.{IsList}
use Rattle.row_cases.specs.Filings.{IsJudged, IsPlainCase, IsPlainRecord}
use Rattle.desk_machine.specs.States.{State}
use Rattle.desk_tables.proofs.RecordLimits.{effective_dated, expiry_dated, revised_shown}
use Rattle.desk_tables.proofs.Shown.{mapped_shown}
use Rattle.desk_tables.proofs.PlainEffects.{IsPlainEffect, kept_record}

-- ---- a revision is refused where no more can be counted

-- where no rule is broken, none of the last ones is
behind : (xs ys : List Refusal) → slice_get (xs ++ ys) 0 ≡ None → slice_get ys 0 ≡ None
behind [] ys h = h
behind (why ∷ xs) ys h = absurd (none-some why (sym h))

unbroken : (b : Bool) (why : Refusal) → slice_get (refusal_if b why) 0 ≡ None → b ≡ false
unbroken true why h = absurd (none-some why (sym h))
unbroken false why h = refl

few_more : (n : ℕ) → nat_le MOST_REVISIONS n ≡ false → n + 1 ≤ MOST_REVISIONS
few_more n h = grind (arith, common_steps, h)

counted : (x : Revision) (site : Site) (kept : KeptList) (today : Date) (r : Record) → slice_get (revising_rules x site kept today r) 0 ≡ None → r.revisions + 1 ≤ MOST_REVISIONS
counted x site kept today r free =
    let few : List Refusal = refusal_if (nat_le MOST_REVISIONS r.revisions) refusals.TooManyRevisions in
    let other : List Refusal = refusal_if x.started refusals.WorkStarted ++ refusal_if (has_same_facts site x) refusals.SameFacts in
    few_more r.revisions
    (unbroken (nat_le MOST_REVISIONS r.revisions) refusals.TooManyRevisions
    (behind other few (behind (finding_rules x.finding kept ++ last_day_rules (last_date r) today) (other ++ few) free)))

-- ---- the structure with the new facts

pub facts_valid : (site : Site) (ground height : ℤ) → IsValidSite site → AreFacts ground height → IsValidSite (revised_site site ground height)
facts_valid site ground height valid facts = (
  record {
    terrain_least = facts.terrain_least;
    terrain_most = facts.terrain_most;
    height_least = facts.height_least;
    height_most = facts.height_most;
    mobile_least = valid.0.mobile_least;
    mobile_most = valid.0.mobile_most;
  },
  valid.1,
)

-- ---- the determination that is issued

record_of : (r : Record) (kept : Option KeptList) → IsJudged (Some r) kept → IsPlainRecord r
record_of r None h = absurd h
record_of r (Some kept) h = h.0

module _ (s : State) (number : ℕ) (started : Bool) (ground height : ℤ) (finding : Option Impact) (today : Date) (c : KeptCase) (kept : KeptList) (e : Effect) where
  abbrev act : Act
  act = acts.Revise number started ground height finding

  abbrev x : Revision
  x = record { started = started; terrain = ground; height = height; finding = finding }

  issued_again : (o : Option Record) → IsLimited today → AreFacts ground height → IsPlainCase c → IsJudged o c.list → kept.last ≤ length s.entries → length s.entries < 2 ^ 64 → IsList kept.list
      → slice_get (in_status is_in_force today c ++ of_record o (revising_rules x c.submission.filing kept today)) 0 ≡ None
      → with_some o (λ r. option_map (revised_effect number c (site_with x c) kept)
      (revised_record today (decision_by finding) (is_reviewable (decision_by finding) (site_with x c) kept.list) s.closed r)) ≡ Some e
      → IsPlainEffect s act e
  issued_again None day facts plain judged last most told free is = absurd (none-some e is)
  issued_again (Some r) day facts plain judged last most told free is =
      let decision = decision_by finding in
      let site = site_with x c in
      let reviewable = is_reviewable decision site kept.list in
      mapped_shown (revised_record today decision reviewable s.closed r) (revised_effect number c site kept) e (IsPlainEffect s act e)
      (λ t there made.
      let more = counted x c.submission.filing kept today r (behind (in_status is_in_force today c) _ free) in
      let m = revised_shown today decision reviewable s.closed r t day (record_of r c.list judged).extensions more there in
      let few : kept.last < 2 ^ 64 = omega (arith, last, most) in
      subst (IsPlainEffect s act) made
      (record {
        led = (refl, few, m.plain.issued, m.plain.deadline, effective_dated t (kept_record t m.plain), expiry_dated t m.expiry, told);
        list = last;
        step = ((m.plain, record { last = few; list = told }), last, facts_valid c.submission.filing ground height plain.submission.filing facts);
      })) is

  pub revision_plain : IsLimited today → AreFacts ground height → IsPlainCase c → kept.last ≤ length s.entries → length s.entries < 2 ^ 64 → IsList kept.list
      → slice_get (revision_rules x kept today c) 0 ≡ None → revision_effect number x s.closed kept today c ≡ Some e → IsPlainEffect s act e
  revision_plain day facts plain last most told free is = issued_again c.life.determination day facts plain plain.judged last most told free is
