-- The effects of acts on a determination, and of the end of a proposal.
use Rattle.std.proofs.Common.{◌≡◌, refl, subst, ℕ, ◌≤◌, Bool, true, false, nat_lt, Option, Some, None}
use Rattle.std.proofs.lemmas.Option.{same_Some}
use Rattle.jiff_core.specs.declared.civil.date.Date.{Date}
use Rattle.determination_dates.specs.declared.determination.TheConstants.{EXTENSION_MONTHS, MOST_EXTENSIONS}
use Rattle.determination_dates.specs.declared.determination.Record.{Record}
use Rattle.determination_dates.specs.Days.{IsLimited}
use Rattle.determination_dates.specs.Computed.{affirmed_record, expiry_date, extended_record, last_date}
use Rattle.determination_dates.specs.Determinations.{record_affirmed_on, record_extended_to}
use Rattle.case_requests.specs.declared.act.Act.TheVariants as acts
use Rattle.case_requests.specs.declared.act.Party.{Party}
use Rattle.case_records.specs.declared.case.KeptCase.{KeptCase}
use Rattle.case_acts.specs.declared.effect.Effect.{Effect}
use Rattle.case_acts.specs.declared.extension.Extension.{Extension}
use Rattle.case_acts.specs.Effects.{affirmation_effect, reversal_effect, settlement_effect, petition_effect, disposal_effect, moved, extension_effect, expiry_by_fcc, license_effect, abandonment_effect}
use Rattle.wire_values.specs.Words.{IsAnyLimited}
use Rattle.row_cases.specs.Filings.{IsPlainRecord, IsJudged, IsPlainCase}
use Rattle.desk_tables.proofs.RecordLimits.{affirmed_shown, expiry_dated, effective_dated, extended_shown, extended_expiry, extended_last, counted_few}
use Rattle.desk_tables.proofs.Shown.{mapped_shown, with_shown}
use Rattle.desk_tables.proofs.PlainEffects.{PutsPlainLife, record_shown, kept_record}

-- ---- a petition

abbrev pending_on : Record → Record
pending_on r = record r { pending = true }

pending_plain : (r : Record) → IsPlainRecord r → IsPlainRecord (pending_on r)
pending_plain r h = record {
  issued = h.issued;
  deadline = h.deadline;
  ordinary = h.ordinary;
  affirmed = h.affirmed;
  set_expiry = h.set_expiry;
  extensions = h.extensions;
  revisions = h.revisions;
}

pub petition_plain : (number : ℕ) (party : Party) (c : KeptCase) (e : Effect) → IsPlainCase c → petition_effect number c ≡ Some e
    → PutsPlainLife (acts.Petition number party) number c e
petition_plain number party c e h is =
    record_shown c.life.determination c.list _ e (PutsPlainLife (acts.Petition number party) number c e) h.judged
    (λ r plain put at. subst (PutsPlainLife (acts.Petition number party) number c) (same_Some _ e at)
    (record { led = refl; list = refl; life = _; step = refl; judged = put (pending_on r) (pending_plain r plain) })) is

-- ---- its disposal

affirmed_plain : (today : Date) (r : Record) → IsLimited today → IsPlainRecord r → IsPlainRecord (record_affirmed_on today r)
affirmed_plain today r day h = record {
  issued = h.issued;
  deadline = h.deadline;
  ordinary = h.ordinary;
  affirmed = day;
  set_expiry = h.set_expiry;
  extensions = h.extensions;
  revisions = h.revisions;
}

affirm_plain : (number : ℕ) (affirm : Bool) (c : KeptCase) (s : Record) (e : Effect) → IsPlainRecord s → IsAnyLimited (expiry_date s)
    → IsJudged (Some s) c.list → affirmation_effect number c s ≡ e
    → PutsPlainLife (acts.Dispose number affirm) number c e
affirm_plain number affirm c s e plain expiry judged is =
    subst (PutsPlainLife (acts.Dispose number affirm) number c) is
    (record { led = (refl, (effective_dated s (kept_record s plain), expiry)); list = refl; life = _; step = refl; judged = judged })

settled_plain : (number : ℕ) (affirm way : Bool) (today : Date) (c : KeptCase) (r : Record) (e : Effect) → IsLimited today → IsPlainCase c → IsPlainRecord r
    → ((s : Record) → IsPlainRecord s → IsJudged (Some s) c.list) → settlement_effect number way today c r ≡ Some e
    → PutsPlainLife (acts.Dispose number affirm) number c e
settled_plain number affirm true today c r e day h plain put is =
    mapped_shown (affirmed_record today r) (affirmation_effect number c) e (PutsPlainLife (acts.Dispose number affirm) number c e)
    (λ s at made.
    let shown = affirmed_shown today r s at in
    let k = subst IsPlainRecord shown.is (affirmed_plain today r day plain) in
    affirm_plain number affirm c s e k (expiry_dated s shown.expiry) (put s k) made) is
settled_plain number affirm false today c r e day h plain put is =
    subst (PutsPlainLife (acts.Dispose number affirm) number c) (same_Some (reversal_effect number c) e is)
    (record { led = (refl, (refl, refl)); list = refl; life = _; step = refl; judged = h.judged })

pub disposal_plain : (number : ℕ) (affirm : Bool) (today : Date) (c : KeptCase) (e : Effect) → IsLimited today → IsPlainCase c
    → disposal_effect number affirm today c ≡ Some e
    → PutsPlainLife (acts.Dispose number affirm) number c e
disposal_plain number affirm today c e day h is =
    record_shown c.life.determination c.list (settlement_effect number affirm today c) e (PutsPlainLife (acts.Dispose number affirm) number c e) h.judged
    (λ r plain put at. settled_plain number affirm affirm today c r e day h plain put at) is

-- ---- an extension

extended_plain : (x : Date) (r : Record) → IsLimited x → IsPlainRecord r → IsPlainRecord (record_extended_to x r)
extended_plain x r day h = record {
  issued = h.issued;
  deadline = h.deadline;
  ordinary = h.ordinary;
  affirmed = h.affirmed;
  set_expiry = day;
  extensions = counted_few r.extensions (nat_lt r.extensions MOST_EXTENSIONS) refl h.extensions;
  revisions = h.revisions;
}

abbrev pub asked : ℕ → Bool → Option Date → Bool → Extension
asked months started filed warranted = record { months = months; started = started; filed = filed; warranted = warranted }

any_shown : (o : Option Date) (d : Date) → IsAnyLimited o → o ≡ Some d → IsLimited d
any_shown o d h is = subst IsAnyLimited is h

moved_plain : (number months : ℕ) (started : Bool) (filed : Option Date) (warranted : Bool) (c : KeptCase) (s : Record) (e : Effect)
    → IsAnyLimited (expiry_date s) → IsAnyLimited (last_date s)
    → IsJudged (Some s) c.list → moved number c s ≡ Some e → PutsPlainLife (acts.Extend number months started filed warranted) number c e
moved_plain number months started filed warranted c s e expiry last judged is =
    let a = acts.Extend number months started filed warranted in
    with_shown (expiry_date s) _ e (PutsPlainLife a number c e)
    (λ x at rest. mapped_shown (last_date s) _ e (PutsPlainLife a number c e)
    (λ l there made. subst (PutsPlainLife a number c) made
    (record {
      led = (refl, any_shown (expiry_date s) x expiry at, any_shown (last_date s) l last there);
      list = refl;
      life = _;
      step = refl;
      judged = judged;
    })) rest) is

pub extension_plain : (number months : ℕ) (started : Bool) (filed : Option Date) (warranted : Bool) (c : KeptCase) (e : Effect) → 1 ≤ months
    → months ≤ EXTENSION_MONTHS → IsPlainCase c
    → extension_effect number (asked months started filed warranted) c ≡ Some e → PutsPlainLife (acts.Extend number months started filed warranted) number c e
extension_plain number months started filed warranted c e least most h is =
    let P = PutsPlainLife (acts.Extend number months started filed warranted) number c e in
    record_shown c.life.determination c.list _ e P h.judged
    (λ r plain put at. with_shown (extended_record months r) (moved number c) e P
    (λ s there made.
    let shown = extended_shown months r s (kept_record r plain) least most there in
    let k = subst IsPlainRecord shown.is (extended_plain shown.expiry r shown.limited plain) in
    moved_plain number months started filed warranted c s e
    (subst (λ (t : Record). IsAnyLimited (expiry_date t)) shown.is (extended_expiry shown.expiry r shown.limited))
    (subst (λ (t : Record). IsAnyLimited (last_date t)) shown.is (extended_last shown.expiry r shown.last))
    (put s k) made) at) is

-- ---- what the FCC did, and the end of a proposal

abbrev expiry_set : Date → Record → Record
expiry_set d r = record r { set_expiry = Some d }

set_plain : (d : Date) (r : Record) → IsLimited d → IsPlainRecord r → IsPlainRecord (expiry_set d r)
set_plain d r day h = record {
  issued = h.issued;
  deadline = h.deadline;
  ordinary = h.ordinary;
  affirmed = h.affirmed;
  set_expiry = day;
  extensions = h.extensions;
  revisions = h.revisions;
}

by_fcc_limited : (completion : Option Date) (today : Date) → IsAnyLimited completion → IsLimited today → IsLimited (expiry_by_fcc completion today)
by_fcc_limited None today h day = day
by_fcc_limited (Some d) today h day = h

pub license_plain : (number : ℕ) (completion : Option Date) (today : Date) (c : KeptCase) (e : Effect) → IsAnyLimited completion → IsLimited today
    → IsPlainCase c → license_effect number completion today c ≡ Some e
    → PutsPlainLife (acts.Fcc number completion) number c e
license_plain number completion today c e done day h is =
    let d = expiry_by_fcc completion today in
    let k = by_fcc_limited completion today done day in
    record_shown c.life.determination c.list _ e (PutsPlainLife (acts.Fcc number completion) number c e) h.judged
    (λ r plain put at. subst (PutsPlainLife (acts.Fcc number completion) number c) (same_Some _ e at)
    (record { led = (refl, k); list = refl; life = _; step = refl; judged = put (expiry_set d r) (set_plain d r k plain) })) is

pub abandonment_plain : (number : ℕ) (c : KeptCase) (e : Effect) → IsPlainCase c → abandonment_effect number c ≡ e → PutsPlainLife (acts.Abandon number) number c e
abandonment_plain number c e h is =
    subst (PutsPlainLife (acts.Abandon number) number c) is (record { led = refl; list = refl; life = _; step = refl; judged = h.judged })
