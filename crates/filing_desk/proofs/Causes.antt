-- The desk by itself never tells that the keeper failed.
use Rattle.std.proofs.Common.{◌≡◌, ◌≢◌, ap, ◌∙◌, ◌+◌, ℕ, Bool, true, false, not, is_none, is_some, ◌&&◌, nat_lt, nat_le, int_lt, List, [], ◌∷◌, ◌++◌, length, Option, Some, None, Result, Err}
use Rattle.jiff_core.specs.declared.civil.date.Date.{Date}
use Rattle.jiff_core.specs.Date.{epoch_day}
use Rattle.finding_lists.specs.Verdicts.{is_obstruction}
use Rattle.determination_dates.specs.Computed.{last_date}
use Rattle.determination_dates.specs.Statuses.{status_of}
use Rattle.determination_dates.specs.declared.determination.Record.{Record}
use Rattle.determination_dates.specs.declared.determination.TheConstants.{MOST_REVISIONS}
use Rattle.airfields.specs.Sites.{Site}
use Rattle.determination_dates.specs.declared.life.Status.{Status}
use Rattle.airport_register.specs.declared.amendment.AmendRefusal.{AmendRefusal}
use Rattle.airport_register.specs.declared.amendment.AmendRefusal.TheVariants as amends
use Rattle.case_requests.specs.declared.act.Act.{Act}
use Rattle.case_requests.specs.declared.act.Act.TheVariants as acts
use Rattle.case_requests.specs.declared.act.Impact.{Impact}
use Rattle.case_records.specs.Refusals.{refused_amendment}
use Rattle.case_records.specs.declared.case.KeptCase.{KeptCase}
use Rattle.case_records.specs.declared.case.KeptList.{KeptList}
use Rattle.case_records.specs.declared.refusal.Refusal.{Refusal}
use Rattle.case_records.specs.declared.refusal.Refusal.TheVariants as refusals
use Rattle.case_acts.specs.declared.effect.Effect.{Effect}
use Rattle.case_acts.specs.declared.extension.Extension.{Extension}
use Rattle.case_acts.specs.declared.revision.Revision.{Revision}
use Rattle.case_acts.specs.Standing.{is_awaiting, is_standing, is_in_force, is_planned}
use Rattle.case_acts.specs.Rules.{refusal_if, of_record, in_status, on_determination, form_rules, finding_rules, determination_rules, deadline_rules, review_rules, pending_rules, last_day_rules, has_evidence, evidence_rules, moving_rules, change_rules, has_same_facts, revising_rules, license_rules}
use Rattle.case_acts.specs.Rulings.{ruling}
use Rattle.case_acts.specs.Effects.{petition_effect, disposal_effect, extension_effect, license_effect, abandonment_effect, determination_effect, revision_effect, filing_effect, form_came}
use Rattle.desk_machine.specs.declared.entry.TheConstants.{MOST_CASES}
use Rattle.desk_machine.specs.States.{State, case_at}
use Rattle.desk_machine.specs.Machine.{ruling_of_act, on_day, on_kept, on_list, day_rules, file_rules}

pub no_fault_of_register : (why : AmendRefusal) → refused_amendment why ≢ refusals.KeeperFault
no_fault_of_register amends.PrecisionOnUtility e = cc (e)
no_fault_of_register amends.UnknownAirfield e = cc (e)
no_fault_of_register amends.UnknownRunway e = cc (e)
no_fault_of_register amends.RunwayLength e = cc (e)
no_fault_of_register amends.RunwayFar e = cc (e)
no_fault_of_register amends.TooManyRunways e = cc (e)
no_fault_of_register amends.RegisterFull e = cc (e)
no_fault_of_register amends.ElevationRange e = cc (e)
no_fault_of_register amends.HeliportShape e = cc (e)
no_fault_of_register amends.WrongKind e = cc (e)
no_fault_of_register amends.NoMemory e = cc (e)

-- ---- lists of rules

abbrev Others : List Refusal → Type 0
Others [] = Unit {0}
Others (why ∷ rest) = (why ≢ refusals.KeeperFault) × Others rest

others_when : (b : Bool) (why : Refusal) → why ≢ refusals.KeeperFault → Others (refusal_if b why)
others_when true why h = (h, tt)
others_when false why h = tt

others_more : (xs ys : List Refusal) → Others xs → Others ys → Others (xs ++ ys)
others_more [] ys h k = k
others_more (x ∷ xs) ys h k = (h.0, others_more xs ys h.1 k)

others_record : (o : Option Record) (rules : Record → List Refusal) → ((r : Record) → Others (rules r)) → Others (of_record o rules)
others_record None rules h = tt
others_record (Some r) rules h = h r

others_status : (comes : Status → Bool) (today : Date) (c : KeptCase) → Others (in_status comes today c)
others_status comes today c = others_when (not (comes (status_of c.life (epoch_day today)))) _ (λ e. cc (e))

others_act : (comes : Status → Bool) (rules : Record → List Refusal) (today : Date) (c : KeptCase) → ((r : Record) → Others (rules r)) → Others (on_determination comes rules today c)
others_act comes rules today c h = others_more _ _ (others_status comes today c) (others_record c.life.determination rules h)

others_day : (kept : Option Date) (d : Date) → Others (day_rules kept d)
others_day None d = tt
others_day (Some kept) d = others_when (int_lt (epoch_day d) (epoch_day kept)) _ (λ e. cc (e))

others_deadline : (deadline : Option Date) (today : Date) → Others (deadline_rules deadline today)
others_deadline None today = tt
others_deadline (Some d) today = others_when (int_lt (epoch_day d) (epoch_day today)) _ (λ e. cc (e))

others_last : (last : Option Date) (today : Date) → Others (last_day_rules last today)
others_last None today = tt
others_last (Some d) today = others_when (int_lt (epoch_day d) (epoch_day today)) _ (λ e. cc (e))

others_evidence : (application : Option Date) (r : Record) (evidence : Bool) → Others (evidence_rules application r evidence)
others_evidence None r evidence = others_when (nat_lt 0 r.extensions) _ (λ e. cc (e))
others_evidence (Some d) r evidence = others_when (not evidence) _ (λ e. cc (e))

others_finding : (finding : Option Impact) (kept : KeptList) → Others (finding_rules finding kept)
others_finding finding kept =
    others_more _ _ (others_when (is_none finding && is_obstruction kept.list) refusals.FindingWanted (λ e. cc (e)))
    (others_when (is_some finding && not (is_obstruction kept.list)) refusals.FindingUnwanted (λ e. cc (e)))

others_review : (today : Date) (r : Record) → Others (review_rules today r)
others_review today r =
    others_more _ _ (others_more _ _ (others_when (is_none r.deadline) refusals.NotReviewable (λ e. cc (e))) (others_deadline r.deadline today))
    (others_when r.pending refusals.PetitionPending (λ e. cc (e)))

others_moving : (x : Extension) (today : Date) (application : Option Date) (r : Record) → Others (moving_rules x today application r)
others_moving x today application r =
    others_more _ _ (others_more _ _ (others_last (last_date r) today) (others_when x.started refusals.WorkStarted (λ e. cc (e))))
    (others_evidence application r (has_evidence r today x.filed x.warranted))

others_change : (x : Revision) (site : Site) (r : Record) → Others (change_rules x site r)
others_change x site r =
    others_more _ _ (others_more _ _ (others_when x.started refusals.WorkStarted (λ e. cc (e))) (others_when (has_same_facts site x) refusals.SameFacts (λ e. cc (e))))
    (others_when (nat_le MOST_REVISIONS r.revisions) refusals.TooManyRevisions (λ e. cc (e)))

others_revising : (x : Revision) (site : Site) (kept : KeptList) (today : Date) (r : Record) → Others (revising_rules x site kept today r)
others_revising x site kept today r = others_more _ _ (others_more _ _ (others_finding x.finding kept) (others_last (last_date r) today)) (others_change x site r)

-- ---- acts

abbrev IsFault : Result Effect Refusal → Type 0
IsFault r = r ≡ Err refusals.KeeperFault

never_ruled : (broken : List Refusal) (o : Option Effect) → Others broken → IsFault (ruling broken o) → ⊥
never_ruled [] None h e = cc (e)
never_ruled [] (Some x) h e = cc (e)
never_ruled (why ∷ rest) o h e = h.0 (cc (e))

never_on_day : (d : Option Date) (act : Date → Result Effect Refusal) → ((today : Date) → IsFault (act today) → ⊥) → IsFault (on_day d act) → ⊥
never_on_day None act h e = cc (e)
never_on_day (Some today) act h e = h today e

never_on_kept : (o : Option KeptCase) (act : KeptCase → Result Effect Refusal) → ((c : KeptCase) → IsFault (act c) → ⊥) → IsFault (on_kept o act) → ⊥
never_on_kept None act h e = cc (e)
never_on_kept (Some c) act h e = h c e

never_on_list : (o : Option KeptList) (act : KeptList → Result Effect Refusal) → ((kept : KeptList) → IsFault (act kept) → ⊥) → IsFault (on_list o act) → ⊥
never_on_list None act h e = cc (e)
never_on_list (Some kept) act h e = h kept e

never_on_case : (s : State) (number : ℕ) (act : Date → KeptCase → Result Effect Refusal) → ((today : Date) (c : KeptCase) → IsFault (act today c) → ⊥)
    → IsFault (on_day s.day (λ today. on_kept (case_at s.cases number) (act today))) → ⊥
never_on_case s number act h e = never_on_day s.day _ (λ today k. never_on_kept (case_at s.cases number) (act today) (h today) k) e

acted_never : (s : State) (basis : Option KeptList) (act : Act) → IsFault (ruling_of_act s basis act) → ⊥
acted_never s basis (acts.Amend a) e = cc (e)
acted_never s basis (acts.Day d) e = never_ruled (day_rules s.day d) _ (others_day s.day d) e
acted_never s basis (acts.Closed d) e = cc (e)
acted_never s basis (acts.File n) e =
    never_on_day s.day _ (λ today k. never_ruled (file_rules s.cases) (filing_effect (length s.cases + 1) today n) (others_when (nat_le MOST_CASES (length s.cases)) refusals.CasesFull (λ x. cc (x))) k) e
acted_never s basis (acts.Form number) e =
    never_on_case s number _ (λ today c k. never_ruled (form_rules c) (Some (form_came number today c)) (others_when _ refusals.NoFormDue (λ x. cc (x))) k) e
acted_never s basis (acts.Determine number finding) e =
    never_on_case s number _ (λ today c k. never_on_list basis _
    (λ kept m. never_ruled (determination_rules finding kept today c) (determination_effect number finding s.closed kept today c)
    (others_more _ _ (others_status is_awaiting today c) (others_finding finding kept)) m) k) e
acted_never s basis (acts.Petition number party) e =
    never_on_case s number _ (λ today c k. never_ruled _ (petition_effect number c) (others_act is_standing (review_rules today) today c (others_review today)) k) e
acted_never s basis (acts.Dispose number affirm) e =
    never_on_case s number _ (λ today c k. never_ruled _ (disposal_effect number affirm today c)
    (others_act is_standing pending_rules today c (λ r. others_when (not r.pending) refusals.NothingPending (λ x. cc (x)))) k) e
acted_never s basis (acts.Extend number months started filing warranted) e =
    let x : Extension = record { months = months; started = started; filed = filing; warranted = warranted } in
    never_on_case s number _ (λ today c k. never_ruled _ (extension_effect number x c)
    (others_act is_in_force (moving_rules x today c.submission.fcc) today c (others_moving x today c.submission.fcc)) k) e
acted_never s basis (acts.Revise number started ground height finding) e =
    let x : Revision = record { started = started; terrain = ground; height = height; finding = finding } in
    never_on_case s number _ (λ today c k. never_on_list basis _
    (λ kept m. never_ruled _ (revision_effect number x s.closed kept today c)
    (others_act is_in_force (revising_rules x c.submission.filing kept today) today c (others_revising x c.submission.filing kept today)) m) k) e
acted_never s basis (acts.Fcc number completion) e =
    never_on_case s number _ (λ today c k. never_ruled _ (license_effect number completion today c)
    (others_act is_in_force (λ r. license_rules c) today c (λ r. others_when (is_none c.submission.fcc) refusals.FccEvidence (λ x. cc (x)))) k) e
acted_never s basis (acts.Abandon number) e =
    never_on_case s number _ (λ today c k. never_ruled _ (Some (abandonment_effect number c)) (others_status is_planned today c) k) e

-- what is refused as the act is, or for want of memory
pub no_fault_of_act : (s : State) (basis : Option KeptList) (act : Act) (why : Refusal) → (why ≢ refusals.NoMemory → ruling_of_act s basis act ≡ Err why) → why ≢ refusals.KeeperFault
no_fault_of_act s basis act why h fault =
    let other : why ≢ refusals.NoMemory = λ e. cc (e, fault) in
    acted_never s basis act (h other ∙ ap (λ (w : Refusal). Err w) fault)
