-- What is computed is what the relations say, and there is none exactly where they say none.
use Rattle.std.proofs.Common.{◌≡◌, ◌↔◌, refl, sym, ap, ◌∙◌, subst, arith, ℕ, Bool, true, false, List, Option, Some, None, IfSome, ℤ, pos}
use Rattle.std.specs.Option.{option_map}
use Rattle.std.proofs.lemmas.Option.{none-some, same_Some}
use Rattle.jiff_core.specs.declared.civil.date.Date.{Date}
use Rattle.jiff_core.specs.Date.{epoch_day}
use Rattle.jiff_core.proofs.SignedLemmas.{signed_arith}
use Rattle.jiff_span.specs.Months.{add_months}
use Rattle.determination_dates.specs.declared.determination.Decision.{Decision}
use Rattle.determination_dates.specs.declared.determination.Decision.TheVariants.{Hazard, NoHazard}
use Rattle.determination_dates.specs.declared.determination.Record.{Record}
use Rattle.determination_dates.specs.declared.timely.Timeliness.{Timeliness}
use Rattle.determination_dates.specs.declared.timely.Timeliness.TheVariants.{Emergency}
use Rattle.determination_dates.specs.Days.{IsLimited, IsExpiryDay}
use Rattle.determination_dates.specs.Deadlines.{IsDeadline}
use Rattle.determination_dates.specs.Notices.{days_late, HasLimitedDue, IsTimeliness}
use Rattle.determination_dates.specs.Effects.{effective_date, expiry_by, expiry_day, IsKept, IsInRange, IsWithinRange}
use Rattle.determination_dates.specs.Determinations.{IsIssued, record_affirmed_on, record_extended_to, record_revised_as, IsExtension}
use Rattle.determination_dates.specs.Dates.{date_on, limited_date}
use Rattle.determination_dates.specs.Computed.{affirmed_record, deadline_date, expiry_date, extended_record, issued_record, revised_record, timeliness_of, with_some}
use Rattle.determination_dates.proofs.ComputedFacts.{affirmed_kept, affirmed_made, deadline_made, expiry_is, extended_made, issued_made, issued_sound, revised_made, urgent_made, within_some}
use Rattle.determination_dates.proofs.DateFacts.{date_there, limited_sound}
use Rattle.determination_dates.proofs.EffectFacts.{effective_limited, near}
use Rattle.determination_dates.proofs.Notices.{due_by_days, planned, urgent}
use Rattle.determination_dates.proofs.OpenDays.{deadline_is}
use Rattle.determination_dates.proofs.Years.{shifted_later, shifted_near}

-- ---- the deadline

pub deadline_date_is : (closed : List Date) (issued d : Date)
    → (deadline_date closed issued ≡ Some d) ↔ (IsDeadline closed (epoch_day issued) (epoch_day d) × IsLimited d)
deadline_date_is closed issued d = (
  λ e. let k = limited_sound _ d e in
      (subst (IsDeadline closed (epoch_day issued)) (sym k.1) (deadline_is closed (epoch_day issued)), k.0),
  λ h. deadline_made closed issued d h.0 h.1,
)

-- ---- a notice

-- what an option holds after a map
mapped : {A B : Type 0} (f : A → B) (o : Option A) (y : B) → option_map f o ≡ Some y → (x : A) × (o ≡ Some x) × (f x ≡ y)
mapped f None y e = absurd (none-some y e)
mapped f (Some x) y e = (x, refl, same_Some (f x) y e)

urgent_is : (received start : Date) (permit : Option Date) (t : Timeliness)
    → (timeliness_of received start permit true ≡ Some t) ↔ (IsTimeliness received start permit true t × HasLimitedDue t)
urgent_is received start permit t = (
  λ e. let m = mapped Emergency _ t e in
      let k = limited_sound _ m.0 m.1 in
      subst (λ t. IsTimeliness received start permit true t × HasLimitedDue t) m.2 (urgent received start permit true m.0 refl k.1, k.0),
  λ h. let u = h.0.urgent refl in
      urgent_made received start permit true u.0 refl u.2 (subst HasLimitedDue u.1 h.1) ∙ ap Some (sym u.1),
)

planned_is : (received start : Date) (permit : Option Date) (t : Timeliness)
    → (timeliness_of received start permit false ≡ Some t) ↔ (IsTimeliness received start permit false t × HasLimitedDue t)
planned_is received start permit t = (
  λ e. let s = same_Some _ t e in
      (planned received start permit false t refl (sym s), subst HasLimitedDue s (due_by_days (days_late received start permit))),
  λ h. ap Some (sym (h.0.planned refl)),
)

pub timeliness_is : (received start : Date) (permit : Option Date) (emergency : Bool) (t : Timeliness)
    → (timeliness_of received start permit emergency ≡ Some t) ↔ (IsTimeliness received start permit emergency t × HasLimitedDue t)
timeliness_is received start permit true t = urgent_is received start permit t
timeliness_is received start permit false t = planned_is received start permit t

-- ---- a determination

pub issued_record_is : (issued : Date) (decision : Decision) (reviewable : Bool) (closed : List Date) (r : Record) → IsLimited issued
    → (issued_record issued decision reviewable closed ≡ Some r) ↔ (IsIssued issued decision reviewable closed r × IsWithinRange r)
issued_record_is issued decision reviewable closed r i = (
  λ e. issued_sound issued decision reviewable closed r i e,
  λ h. issued_made issued decision reviewable closed r h.0 h.1,
)

pub affirmed_record_is : (day : Date) (r s : Record) → IsLimited day → IsKept r
    → (affirmed_record day r ≡ Some s) ↔ ((s ≡ record_affirmed_on day r) × IsInRange s)
affirmed_record_is day r s l k = (
  λ e. let w = within_some (expiry_day (record_affirmed_on day r)) (record_affirmed_on day r) s e in
      let range : IsInRange (record_affirmed_on day r) = record { effective = effective_limited (record_affirmed_on day r) (affirmed_kept day r l k); expiry = w.1 } in
      (sym w.0, subst IsInRange w.0 range),
  λ h. affirmed_made day r (subst IsInRange h.0 h.1) ∙ ap Some (sym h.0),
)

-- ---- an extension

expiry_bound : (d : Decision) (set effective : Option Date) (z : ℤ) → IfSome set IsLimited → IfSome effective IsLimited → expiry_by d set effective ≡ Some z → IsExpiryDay z
expiry_bound Hazard set effective z h k e = absurd (none-some z e)
expiry_bound NoHazard (Some day) effective z h k e =
    let same : epoch_day day ≡ z = same_Some _ z e in
    subst IsExpiryDay same (omega (arith, signed_arith, h))
expiry_bound NoHazard None None z h k e = absurd (none-some z e)
expiry_bound NoHazard None (Some day) z h k e =
    let same : add_months day (pos 18) ≡ z = same_Some _ z e in
    let n = near day k in
    subst IsExpiryDay same (omega (arith, signed_arith, k, shifted_near day 18 n (omega arith), shifted_later day 18 n (omega arith) (omega arith)))

expiry_within : (r : Record) (z : ℤ) → IsKept r → expiry_day r ≡ Some z → IsExpiryDay z
expiry_within r z k e = expiry_bound r.decision r.set_expiry (effective_date r) z k.set_expiry (effective_limited r k) e

-- the date of the expiry has the day of it
expiry_sound : (r : Record) (e : Date) → IsKept r → (o : Option ℤ) → expiry_day r ≡ o → with_some o date_on ≡ Some e → expiry_day r ≡ Some (epoch_day e)
expiry_sound r e k None t h = absurd (none-some e h)
expiry_sound r e k (Some z) t h =
    let b = expiry_within r z k t in
    let f = date_there z (omega (arith, signed_arith, b)) (omega (arith, signed_arith, b)) in
    t ∙ ap Some (sym f.2 ∙ ap epoch_day (same_Some f.0 e (sym f.1 ∙ h)))

expiry_found : (r : Record) (e : Date) → IsKept r → expiry_day r ≡ Some (epoch_day e) → Some e ≡ expiry_date r
expiry_found r e k h = expiry_is r (Some e) (expiry_within r (epoch_day e) k h) (sym h)

abbrev IsExtended : ℕ → Record → Record → Type 0
IsExtended months r s = (x : Date) × IsExtension r months x × IsLimited x × (s ≡ record_extended_to x r)

extended_from : (months : ℕ) (r s : Record) → IsKept r → (o : Option Date) → expiry_date r ≡ o
    → with_some o (λ e. option_map (λ x. record_extended_to x r) (limited_date (add_months e (pos months)))) ≡ Some s → IsExtended months r s
extended_from months r s k None t h = absurd (none-some s h)
extended_from months r s k (Some e) t h =
    let m = mapped (λ x. record_extended_to x r) (limited_date (add_months e (pos months))) s h in
    let l = limited_sound _ m.0 m.1 in
    (m.0, (e, expiry_sound r e k (expiry_day r) refl t, l.1), l.0, sym m.2)

pub extended_record_is : (months : ℕ) (r s : Record) → IsKept r → (extended_record months r ≡ Some s) ↔ IsExtended months r s
extended_record_is months r s k = (
  λ h. extended_from months r s k (expiry_date r) refl h,
  λ x. let e = x.1.0 in
      extended_made months r e x.0 (expiry_found r e k x.1.1) x.1.2 x.2 ∙ ap Some (sym x.3),
)

-- ---- a revision

abbrev IsRevised : Date → Decision → Bool → List Date → Record → Record → Type 0
IsRevised day decision reviewable closed r s = (x : Record) × IsIssued day decision reviewable closed x × IsWithinRange x × (s ≡ record_revised_as x r)

pub revised_record_is : (day : Date) (decision : Decision) (reviewable : Bool) (closed : List Date) (r s : Record) → IsLimited day
    → (revised_record day decision reviewable closed r ≡ Some s) ↔ IsRevised day decision reviewable closed r s
revised_record_is day decision reviewable closed r s l = (
  λ e. let m = mapped (λ x. record_revised_as x r) (issued_record day decision reviewable closed) s e in
      let k = issued_sound day decision reviewable closed m.0 l m.1 in
      (m.0, k.0, k.1, sym m.2),
  λ h. revised_made day decision reviewable closed h.0 r (issued_made day decision reviewable closed h.0 h.1 h.2) ∙ ap Some (sym h.3),
)
