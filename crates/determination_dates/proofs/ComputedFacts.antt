-- What the date calls make is what the definitions compute.
use Rattle.std.proofs.Common.{◌≡◌, refl, sym, ap, ◌∙◌, subst, arith, ℕ, Bool, true, false, if◌then◌else◌, List, Option, Some, None, IfSome, ℤ, pos, ◌+ℤ◌, Result, Ok, Err, IfOk, OnErr}
use Rattle.std.specs.Option.{option_map}
use Rattle.std.proofs.lemmas.Option.{none-some, same_Some}
use Rattle.jiff_core.specs.declared.civil.date.Date.{Date}
use Rattle.jiff_core.specs.Date.{epoch_day}
use Rattle.jiff_core.proofs.SignedLemmas.{signed_arith}
use Rattle.determination_dates.specs.declared.determination.Decision.{Decision}
use Rattle.determination_dates.specs.declared.determination.Record.{Record}
use Rattle.jiff_span.specs.Months.{add_months}
use Rattle.determination_dates.specs.declared.timely.Timeliness.TheVariants.{Emergency}
use Rattle.determination_dates.specs.declared.notice.TheConstants.{FORM_DAYS}
use Rattle.determination_dates.specs.declared.effects.TheConstants.{EXTENSION_DAYS}
use Rattle.determination_dates.specs.Notices.{by_days, days_late}
use Rattle.determination_dates.specs.Days.{IsDay, IsLimited, IsExpiryDay}
use Rattle.determination_dates.specs.Deadlines.{IsDeadline}
use Rattle.determination_dates.specs.Effects.{expiry_day, last_day, IsKept, IsInRange, IsWithinRange}
use Rattle.determination_dates.specs.Determinations.{fresh_record, ordinary_day, HasDeadline, IsIssued, record_affirmed_on, record_extended_to, record_revised_as}
use Rattle.determination_dates.specs.Dates.{is_day, date_on, limited_date}
use Rattle.determination_dates.specs.Computed.{Computes, affirmed_record, extended_record, revised_record, expiry_date, last_date, timeliness_of, with_some, deadline_date, within_range, in_range, reviewable_record, issued_record}
use Rattle.determination_dates.proofs.DateFacts.{date_again, day_true, true_day, limited_by, limited_none, limited_sound}
use Rattle.determination_dates.proofs.EffectFacts.{effective_limited}
use Rattle.determination_dates.proofs.Issues.{deadline_same, one_record}
use Rattle.determination_dates.proofs.OpenDays.{deadline_is}

-- ---- the deadline

pub deadline_made : (closed : List Date) (issued d : Date) → IsDeadline closed (epoch_day issued) (epoch_day d) → IsLimited d → deadline_date closed issued ≡ Some d
deadline_made closed issued d h l = limited_by _ d l (deadline_same closed (epoch_day issued) _ _ (deadline_is closed (epoch_day issued)) h)

pub deadline_none : (closed : List Date) (issued : Date) → ((z : ℤ) → IsDeadline closed (epoch_day issued) z → ¬ IsDay z) → deadline_date closed issued ≡ None
deadline_none closed issued h = limited_none _ (h _ (deadline_is closed (epoch_day issued)))

-- ---- the record, where its expiry is within the limit

in_range_is : (x : Option ℤ) (r : Record) → IfSome x IsDay → within_range x r ≡ Some r
in_range_is None r h = refl
in_range_is (Some z) r h = rw (day_true z h) refl

none_by : (b : Bool) (r : Record) → (b ≡ true → ⊥) → (if b then Some r else None) ≡ None
none_by true r h = absurd (h refl)
none_by false r h = refl

within_none : (x : Option ℤ) (r : Record) → (IfSome x IsDay → ⊥) → within_range x r ≡ None
within_none None r h = absurd (h tt)
within_none (Some z) r h = none_by (is_day z) r (λ t. h (true_day z t))

some_by : (b : Bool) (z : ℤ) (r s : Record) → is_day z ≡ b → (if b then Some r else None) ≡ Some s → (r ≡ s) × IsDay z
some_by true z r s t e = (same_Some r s e, true_day z t)
some_by false z r s t e = absurd (none-some s e)

pub within_some : (x : Option ℤ) (r s : Record) → within_range x r ≡ Some s → (r ≡ s) × IfSome x IsDay
within_some None r s e = (same_Some r s e, tt)
within_some (Some z) r s e = some_by (is_day z) z r s refl e

whole : (r f : Record) → f ≡ r → IsWithinRange r → in_range f ≡ Some r
whole r f e h = ap in_range e ∙ in_range_is (expiry_day r) r h.computed.expiry

-- ---- issuance: what is made is what is computed

made_of : (issued : Date) (decision : Decision) (closed : List Date) (d o : Date) → IsDeadline closed (epoch_day issued) (epoch_day d) → epoch_day o ≡ ordinary_day (epoch_day issued) (Some (epoch_day d))
    → IsIssued issued decision true closed (fresh_record issued decision (Some d) o)
made_of issued decision closed d o h e = record { on = refl; as_decided = refl; deadline = h; ordinary = e; pending = refl; affirmed = refl; set_expiry = refl; extensions = refl; revisions = refl }

final_of : (issued : Date) (decision : Decision) (closed : List Date) → IsIssued issued decision false closed (fresh_record issued decision None issued)
final_of issued decision closed = record { on = refl; as_decided = refl; deadline = tt; ordinary = refl; pending = refl; affirmed = refl; set_expiry = refl; extensions = refl; revisions = refl }

reviewable_made : (issued : Date) (decision : Decision) (closed : List Date) (r : Record) (o : Option Date) → r.deadline ≡ o → IsIssued issued decision true closed r → IsWithinRange r
    → HasDeadline closed issued true o → issued_record issued decision true closed ≡ Some r
reviewable_made issued decision closed r None is h w has = absurd has
reviewable_made issued decision closed r (Some d) is h w has =
    let l : IsLimited d = subst (λ o. IfSome o IsLimited) is w.kept.deadline in
    let day : ordinary_day (epoch_day issued) (Some (epoch_day d)) ≡ epoch_day r.ordinary = ap (λ o. ordinary_day (epoch_day issued) (option_map epoch_day o)) (sym is) ∙ sym h.ordinary in
    ap (λ o. with_some o (reviewable_record issued decision)) (deadline_made closed issued d has l)
    ∙ ap (λ o. with_some o (λ o. in_range (fresh_record issued decision (Some d) o))) (limited_by _ r.ordinary w.kept.ordinary day)
    ∙ whole r _ (one_record issued decision true closed _ r (made_of issued decision closed d r.ordinary has (sym day)) h) w

pub issued_made : (issued : Date) (decision : Decision) (t : Bool) (closed : List Date) (r : Record) → IsIssued issued decision t closed r → IsWithinRange r → issued_record issued decision t closed ≡ Some r
issued_made issued decision true closed r h w = reviewable_made issued decision closed r r.deadline refl h w h.deadline
issued_made issued decision false closed r h w = whole r _ (one_record issued decision false closed _ r (final_of issued decision closed) h) w

-- ---- and what is computed is made

abbrev IsMade : Date → Decision → Bool → List Date → Record → Type 0
IsMade issued decision t closed r = IsIssued issued decision t closed r × IsWithinRange r

fresh_range : (issued : Date) (decision : Decision) (d : Option Date) (o : Date) → IsLimited issued → IfSome d IsLimited → IsLimited o → IfSome (expiry_day (fresh_record issued decision d o)) IsDay
    → IsWithinRange (fresh_record issued decision d o)
fresh_range issued decision d o i h k x =
    let kept : IsKept (fresh_record issued decision d o) = record { issued = i; deadline = h; ordinary = k; affirmed = tt; set_expiry = tt } in
    record { kept = kept; computed = record { effective = effective_limited (fresh_record issued decision d o) kept; expiry = x } }

from_ordinary : (issued : Date) (decision : Decision) (closed : List Date) (d : Date) (r : Record) → IsLimited issued → IsLimited d → IsDeadline closed (epoch_day issued) (epoch_day d)
    → (o : Option Date) → limited_date (ordinary_day (epoch_day issued) (Some (epoch_day d))) ≡ o → with_some o (λ o. in_range (fresh_record issued decision (Some d) o)) ≡ Some r → IsMade issued decision true closed r
from_ordinary issued decision closed d r i l h None t e = absurd (none-some r e)
from_ordinary issued decision closed d r i l h (Some o) t e =
    let k = limited_sound _ o t in
    let w = within_some _ (fresh_record issued decision (Some d) o) r e in
    subst (IsMade issued decision true closed) w.0 (made_of issued decision closed d o h k.1, fresh_range issued decision (Some d) o i l k.0 w.1)

from_deadline : (issued : Date) (decision : Decision) (closed : List Date) (r : Record) → IsLimited issued → (d : Option Date) → deadline_date closed issued ≡ d
    → with_some d (reviewable_record issued decision) ≡ Some r → IsMade issued decision true closed r
from_deadline issued decision closed r i None t e = absurd (none-some r e)
from_deadline issued decision closed r i (Some d) t e =
    let k = limited_sound _ d t in
    from_ordinary issued decision closed d r i k.0 (subst (IsDeadline closed (epoch_day issued)) (sym k.1) (deadline_is closed (epoch_day issued))) _ refl e

pub issued_sound : (issued : Date) (decision : Decision) (t : Bool) (closed : List Date) (r : Record) → IsLimited issued → issued_record issued decision t closed ≡ Some r → IsMade issued decision t closed r
issued_sound issued decision true closed r i e = from_deadline issued decision closed r i _ refl e
issued_sound issued decision false closed r i e =
    let w = within_some _ (fresh_record issued decision None issued) r e in
    subst (IsMade issued decision false closed) w.0 (final_of issued decision closed, fresh_range issued decision None issued i tt i w.1)

none_unless : (o : Option Record) → ((r : Record) → o ≡ Some r → ⊥) → o ≡ None
none_unless None h = refl
none_unless (Some r) h = absurd (h r refl)

pub issue_computes : {E : Type 0} (issued : Date) (decision : Decision) (t : Bool) (closed : List Date) (result : Result Record E) → IsLimited issued → IfOk result (IsIssued issued decision t closed) → IfOk result IsWithinRange
    → OnErr result ((r : Record) → IsIssued issued decision t closed r → ¬ IsWithinRange r)
    → Computes result (issued_record issued decision t closed)
issue_computes issued decision t closed (Ok r) i h w b = issued_made issued decision t closed r h w
issue_computes issued decision t closed (Err x) i h w b = none_unless _ (λ r e. let s = issued_sound issued decision t closed r i e in b r s.0 s.1)

-- ---- an affirmation and an extension

pub affirmed_kept : (day : Date) (r : Record) → IsLimited day → IsKept r → IsKept (record_affirmed_on day r)
affirmed_kept day r l k = record { issued = k.issued; deadline = k.deadline; ordinary = k.ordinary; affirmed = l; set_expiry = k.set_expiry }

pub affirmed_made : (day : Date) (r : Record) → IsInRange (record_affirmed_on day r) → affirmed_record day r ≡ Some (record_affirmed_on day r)
affirmed_made day r h = in_range_is (expiry_day (record_affirmed_on day r)) (record_affirmed_on day r) h.expiry

pub affirmed_none : (day : Date) (r : Record) → IsLimited day → IsKept r → ¬ IsInRange (record_affirmed_on day r) → affirmed_record day r ≡ None
affirmed_none day r l k n =
    within_none (expiry_day (record_affirmed_on day r)) (record_affirmed_on day r)
    (λ x. n (record { effective = effective_limited (record_affirmed_on day r) (affirmed_kept day r l k); expiry = x }))

pub extended_made : (months : ℕ) (r : Record) (e x : Date) → Some e ≡ expiry_date r → epoch_day x ≡ add_months e (pos months) → IsLimited x → extended_record months r ≡ Some (record_extended_to x r)
extended_made months r e x h g l =
    ap (λ o. with_some o (λ e. option_map (λ x. record_extended_to x r) (limited_date (add_months e (pos months))))) (sym h)
    ∙ ap (option_map (λ x. record_extended_to x r)) (limited_by _ x l (sym g))

pub extended_none : (months : ℕ) (r : Record) (e : Date) → Some e ≡ expiry_date r → ¬ IsDay (add_months e (pos months)) → extended_record months r ≡ None
extended_none months r e h n =
    ap (λ o. with_some o (λ e. option_map (λ x. record_extended_to x r) (limited_date (add_months e (pos months))))) (sym h)
    ∙ ap (option_map (λ x. record_extended_to x r)) (limited_none _ n)

-- ---- a revision

pub revised_range : (issued r : Record) → IsWithinRange issued → IsWithinRange (record_revised_as issued r)
revised_range issued r h =
    let k = h.kept in
    let x = h.computed in
    record {
      kept = record { issued = k.issued; deadline = k.deadline; ordinary = k.ordinary; affirmed = k.affirmed; set_expiry = k.set_expiry };
      computed = record { effective = x.effective; expiry = x.expiry };
    }

pub revised_made : (day : Date) (decision : Decision) (t : Bool) (closed : List Date) (issued r : Record) → issued_record day decision t closed ≡ Some issued → revised_record day decision t closed r ≡ Some (record_revised_as issued r)
revised_made day decision t closed issued r e = ap (option_map (λ x. record_revised_as x r)) e

pub revised_none : (day : Date) (decision : Decision) (t : Bool) (closed : List Date) (r : Record) → issued_record day decision t closed ≡ None → revised_record day decision t closed r ≡ None
revised_none day decision t closed r e = ap (option_map (λ x. record_revised_as x r)) e

-- ---- the expiry and the last day for an extension

pub expiry_is : (r : Record) (o : Option Date) → IfSome o (λ d. IsExpiryDay (epoch_day d)) → option_map epoch_day o ≡ expiry_day r → o ≡ expiry_date r
expiry_is r None l e = ap (λ x. with_some x date_on) e
expiry_is r (Some d) l e = sym (date_again d (omega (arith, signed_arith, l)) (omega (arith, signed_arith, l))) ∙ ap (λ x. with_some x date_on) e

pub last_is : (r : Record) (o : Option Date) → IfSome o (λ d. IsExpiryDay (epoch_day d +ℤ EXTENSION_DAYS)) → option_map epoch_day o ≡ last_day r → o ≡ last_date r
last_is r None l e = ap (λ x. with_some x date_on) e
last_is r (Some d) l e = sym (date_again d (omega (arith, signed_arith, l)) (omega (arith, signed_arith, l))) ∙ ap (λ x. with_some x date_on) e

-- ---- a notice

pub urgent_made : (received start : Date) (permit : Option Date) (emergency : Bool) (due : Date) → emergency ≡ true → epoch_day due ≡ epoch_day received +ℤ FORM_DAYS → IsLimited due
    → timeliness_of received start permit emergency ≡ Some (Emergency due)
urgent_made received start permit emergency due t e l = rw t (ap (option_map Emergency) (limited_by _ due l (sym e)))

pub urgent_none : (received start : Date) (permit : Option Date) (emergency : Bool) → emergency ≡ true → ¬ IsDay (epoch_day received +ℤ FORM_DAYS) → timeliness_of received start permit emergency ≡ None
urgent_none received start permit emergency t n = rw t (ap (option_map Emergency) (limited_none _ n))

pub planned_made : (received start : Date) (permit : Option Date) (emergency : Bool) → emergency ≡ false → timeliness_of received start permit emergency ≡ Some (by_days (days_late received start permit))
planned_made received start permit emergency t = rw t refl
