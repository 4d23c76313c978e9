-- The rules that an act on a case may break, in the order of testing: the status first, then the rules of the act in order of
-- their numbers. The limit of dates is the last rule of each act: where a date is outside, the act has no effect (see Effects).
use Rattle.std.specs.Prelude.{List, [], ◌∷◌, ◌++◌, Bool, true, false, not, ◌&&◌, ◌||◌, cond, nat_le, nat_lt, Option, Some, None, is_none, is_some, pos, int_lt, int_le}
use Rattle.std.specs.Ordering.{int_eq}
use Rattle.jiff_core.specs.declared.civil.date.Date.{Date}
use Rattle.jiff_core.specs.Date.{epoch_day}
use Rattle.jiff_span.specs.Months.{add_months}
use Rattle.airfields.specs.Sites.{Site}
use Rattle.finding_lists.specs.Verdicts.{is_obstruction}
use Rattle.determination_dates.specs.declared.determination.Record.{Record}
use Rattle.determination_dates.specs.declared.determination.TheConstants.{MOST_REVISIONS}
use Rattle.determination_dates.specs.declared.evidence.TheConstants.{EVIDENCE_MONTHS}
use Rattle.determination_dates.specs.declared.life.Status.{Status}
use Rattle.determination_dates.specs.Statuses.{status_of}
use Rattle.determination_dates.specs.Computed.{last_date}
use Rattle.case_requests.specs.declared.act.Impact.{Impact}
use Rattle.case_records.specs.declared.refusal.Refusal.{Refusal}
use Rattle.case_records.specs.declared.refusal.Refusal.TheVariants as refusals
use Rattle.case_records.specs.declared.case.KeptList.{KeptList}
use Rattle.case_records.specs.declared.case.KeptCase.{KeptCase}
use Rattle.case_acts.specs.declared.extension.Extension.{Extension}
use Rattle.case_acts.specs.declared.revision.Revision.{Revision}
use Rattle.case_acts.specs.Standing.{is_awaiting, is_standing, is_in_force, is_planned}

-- the refusal, if its rule is broken
abbrev pub refusal_if : Bool → Refusal → List Refusal
refusal_if b refusal = cond b (refusal ∷ []) []

-- ---- what must be there

-- a status in which the act is allowed
abbrev pub in_status : (Status → Bool) → Date → KeptCase → List Refusal
in_status comes today c = refusal_if (not (comes (status_of c.life (epoch_day today)))) (refusals.NotStanding (status_of c.life (epoch_day today)))

-- the record is there in each status of a determination
abbrev pub of_record : Option Record → (Record → List Refusal) → List Refusal
of_record None rules = []
of_record (Some r) rules = rules r

-- the rules of an act on a determination
abbrev pub on_determination : (Status → Bool) → (Record → List Refusal) → Date → KeptCase → List Refusal
on_determination comes rules today c = in_status comes today c ++ of_record c.life.determination rules

-- ---- the form of an emergency, and a determination

-- the form is due once, in an emergency: 77.7(e)
abbrev pub form_rules : KeptCase → List Refusal
form_rules c = refusal_if (not c.submission.emergency || is_some c.form) refusals.NoFormDue

-- a finding is required exactly where a standard is exceeded: 77.31
abbrev pub finding_rules : Option Impact → KeptList → List Refusal
finding_rules finding kept =
    refusal_if (is_none finding && is_obstruction kept.list) refusals.FindingWanted
    ++ refusal_if (is_some finding && not (is_obstruction kept.list)) refusals.FindingUnwanted

abbrev pub determination_rules : Option Impact → KeptList → Date → KeptCase → List Refusal
determination_rules finding kept today c = in_status is_awaiting today c ++ finding_rules finding kept

-- ---- petitions: 77.37 and 77.39

-- the last day for a petition is the deadline: 77.39(a)
abbrev pub deadline_rules : Option Date → Date → List Refusal
deadline_rules None today = []
deadline_rules (Some deadline) today = refusal_if (int_lt (epoch_day deadline) (epoch_day today)) (refusals.PetitionLate deadline today)

-- the determination may be petitioned, the petition is in time, and no other is pending
abbrev pub review_rules : Date → Record → List Refusal
review_rules today r = refusal_if (is_none r.deadline) refusals.NotReviewable ++ deadline_rules r.deadline today ++ refusal_if r.pending refusals.PetitionPending

abbrev pub petition_rules : Date → KeptCase → List Refusal
petition_rules today c = on_determination is_standing (review_rules today) today c

-- a petition is pending
abbrev pub pending_rules : Record → List Refusal
pending_rules r = refusal_if (not r.pending) refusals.NothingPending

abbrev pub disposal_rules : Date → KeptCase → List Refusal
disposal_rules today c = on_determination is_standing pending_rules today c

-- ---- extensions: 77.35

-- the petition comes at least 15 days before the expiry: 77.35(a)(2)
abbrev pub last_day_rules : Option Date → Date → List Refusal
last_day_rules None today = []
last_day_rules (Some last) today = refusal_if (int_lt (epoch_day last) (epoch_day today)) (refusals.ExtensionLate last today)

-- the application to the FCC was filed at most 6 months after issuance and at most today, and more time is warranted: 77.35(c)
abbrev pub has_evidence : Record → Date → Option Date → Bool → Bool
has_evidence r today None warranted = false
has_evidence r today (Some filed) warranted = int_le (epoch_day filed) (add_months r.issued (pos EVIDENCE_MONTHS)) && int_le (epoch_day filed) (epoch_day today) && warranted

-- one extension where the FCC has no part: 77.35(b); where it has, the evidence: 77.35(c)
abbrev pub evidence_rules : Option Date → Record → Bool → List Refusal
evidence_rules None r evidence = refusal_if (nat_lt 0 r.extensions) refusals.AlreadyExtended
evidence_rules (Some application) r evidence = refusal_if (not evidence) refusals.FccEvidence

-- in time, before structural work, and once or with evidence
abbrev pub moving_rules : Extension → Date → Option Date → Record → List Refusal
moving_rules x today application r =
    last_day_rules (last_date r) today ++ refusal_if x.started refusals.WorkStarted ++ evidence_rules application r (has_evidence r today x.filed x.warranted)

abbrev pub extension_rules : Extension → Date → KeptCase → List Refusal
extension_rules x today c = on_determination is_in_force (moving_rules x today c.submission.fcc) today c

-- ---- revisions: 77.35(a)

-- the facts are those of the structure
abbrev pub has_same_facts : Site → Revision → Bool
has_same_facts site x = int_eq site.terrain x.terrain && int_eq site.height x.height

-- before structural work, on other facts, and as long as revisions can be counted
abbrev pub change_rules : Revision → Site → Record → List Refusal
change_rules x site r =
    refusal_if x.started refusals.WorkStarted ++ refusal_if (has_same_facts site x) refusals.SameFacts ++ refusal_if (nat_le MOST_REVISIONS r.revisions) refusals.TooManyRevisions

-- with a finding exactly where a standard is exceeded, and in time for an extension
abbrev pub revising_rules : Revision → Site → KeptList → Date → Record → List Refusal
revising_rules x site kept today r = finding_rules x.finding kept ++ last_day_rules (last_date r) today ++ change_rules x site r

abbrev pub revision_rules : Revision → KeptList → Date → KeptCase → List Refusal
revision_rules x kept today c = on_determination is_in_force (revising_rules x c.submission.filing kept today) today c

-- ---- the FCC, and the end of a proposal

-- the FCC has part in the case
abbrev pub license_rules : KeptCase → List Refusal
license_rules c = refusal_if (is_none c.submission.fcc) refusals.FccEvidence

abbrev pub fcc_rules : Date → KeptCase → List Refusal
fcc_rules today c = on_determination is_in_force (λ r. license_rules c) today c

abbrev pub abandon_rules : Date → KeptCase → List Refusal
abandon_rules today c = in_status is_planned today c
