-- The records of determinations that acts make: their dates, and the days that follow from them, are within the limit.
use Rattle.std.proofs.Common.{◌≡◌, refl, sym, ap, ◌∙◌, subst, arith, ℕ, ◌+◌, ◌≤◌, Bool, true, false, List, nat_lt, if◌then◌else◌, Option, Some, None, IfSome, ℤ, pos, ◌-ℤ◌}
use Rattle.std.specs.Option.{option_map}
use Rattle.std.proofs.lemmas.Option.{none-some, same_Some}
use Rattle.jiff_core.specs.declared.civil.date.Date.{Date}
use Rattle.jiff_core.specs.Date.{epoch_day}
use Rattle.jiff_core.proofs.SignedLemmas.{signed_arith}
use Rattle.jiff_span.specs.Months.{add_months}
use Rattle.determination_dates.specs.declared.effects.TheConstants.{EXTENSION_DAYS}
use Rattle.determination_dates.specs.declared.determination.TheConstants.{EXTENSION_MONTHS, MOST_EXTENSIONS, MOST_REVISIONS}
use Rattle.determination_dates.specs.declared.determination.Decision.{Decision}
use Rattle.determination_dates.specs.declared.determination.Decision.TheVariants.{NoHazard, Hazard}
use Rattle.determination_dates.specs.declared.determination.Record.{Record}
use Rattle.determination_dates.specs.Days.{IsDay, IsLimited, IsExpiryDay}
use Rattle.determination_dates.specs.Dates.{is_day, date_on, limited_date}
use Rattle.determination_dates.specs.Effects.{effective_date, expiry_by, expiry_day, last_day, IsKept}
use Rattle.determination_dates.specs.Computed.{with_some, within_range, in_range, deadline_day, deadline_date, reviewable_record, issued_record, affirmed_record, expiry_date, extended_record, last_date, revised_record}
use Rattle.determination_dates.specs.Determinations.{record_affirmed_on, record_extended_to, record_revised_as, fresh_record, ordinary_day}
use Rattle.determination_dates.proofs.DateFacts.{date_there, limited_sound, true_day}
use Rattle.determination_dates.proofs.EffectFacts.{effective_limited}
use Rattle.determination_dates.proofs.Years.{can_shift}
use Rattle.wire_values.specs.Words.{IsAnyLimited}
use Rattle.row_cases.specs.Filings.{IsPlainRecord}
use Rattle.desk_tables.proofs.Shown.{mapped_shown, with_shown}
use Rattle.desk_tables.proofs.DateLimits.{any_limited, dated, expiry_near, month_later}

-- ---- a record whose expiry is within the limit

range_by : (b : Bool) (z : ℤ) (r s : Record) → is_day z ≡ b → (if b then Some r else None) ≡ Some s → (r ≡ s) × IsDay z
range_by true z r s t e = (same_Some r s e, true_day z t)
range_by false z r s t e = absurd (none-some s e)

range_shown : (x : Option ℤ) (r s : Record) → within_range x r ≡ Some s → (r ≡ s) × IfSome x IsDay
range_shown None r s e = (same_Some r s e, tt)
range_shown (Some z) r s e = range_by (is_day z) z r s refl e

-- at issuance
pub record IsPlainIssue (r : Record) : Type 0 where
  pub plain : IsPlainRecord r
  pub expiry : IfSome (expiry_day r) IsDay

fresh_shown : (today : Date) (decision : Decision) (deadline : Option Date) (ordinary : Date) (r : Record) → IsLimited today → IsAnyLimited deadline
    → IsLimited ordinary
    → in_range (fresh_record today decision deadline ordinary) ≡ Some r → IsPlainIssue r
fresh_shown today decision deadline ordinary r day h k is =
    let f = fresh_record today decision deadline ordinary in
    let w = range_shown (expiry_day f) f r is in
    let plain : IsPlainRecord f = record { issued = day; deadline = h; ordinary = k; affirmed = tt; set_expiry = tt; extensions = omega arith; revisions = omega arith } in
    subst IsPlainIssue w.0 (record { plain = plain; expiry = w.1 })

pub issued_shown : (today : Date) (decision : Decision) (reviewable : Bool) (closed : List Date) (r : Record) → IsLimited today
    → issued_record today decision reviewable closed ≡ Some r → IsPlainIssue r
issued_shown today decision true closed r day is =
    with_shown (deadline_date closed today) (reviewable_record today decision) r (IsPlainIssue r)
    (λ d there k.
    let from = ordinary_day (epoch_day today) (Some (epoch_day d)) in
    let deadline = limited_sound (deadline_day closed (epoch_day today)) d there in
    with_shown (limited_date from) (λ o. in_range (fresh_record today decision (Some d) o)) r (IsPlainIssue r)
    (λ o at m. fresh_shown today decision (Some d) o r day deadline.0 (limited_sound from o at).0 m) k) is
issued_shown today decision false closed r day is = fresh_shown today decision None today r day tt day is

-- at a revision, where both counts are within their limits
pub revised_shown : (today : Date) (decision : Decision) (reviewable : Bool) (closed : List Date) (r s : Record) → IsLimited today
    → r.extensions ≤ MOST_EXTENSIONS → r.revisions + 1 ≤ MOST_REVISIONS → revised_record today decision reviewable closed r ≡ Some s → IsPlainIssue s
revised_shown today decision reviewable closed r s day extended counted is =
    mapped_shown (issued_record today decision reviewable closed) (λ x. record_revised_as x r) s (IsPlainIssue s)
    (λ x there made.
    let m = issued_shown today decision reviewable closed x day there in
    let plain : IsPlainRecord (record_revised_as x r) = record {
      issued = m.plain.issued;
      deadline = m.plain.deadline;
      ordinary = m.plain.ordinary;
      affirmed = m.plain.affirmed;
      set_expiry = m.plain.set_expiry;
      extensions = extended;
      revisions = counted;
    } in
    subst IsPlainIssue made (record { plain = plain; expiry = m.expiry })) is

-- after an affirmation
pub record IsAffirmed (today : Date) (r s : Record) : Type 0 where
  pub is : record_affirmed_on today r ≡ s
  pub expiry : IfSome (expiry_day s) IsDay

pub affirmed_shown : (today : Date) (r s : Record) → affirmed_record today r ≡ Some s → IsAffirmed today r s
affirmed_shown today r s e =
    let f = record_affirmed_on today r in
    let w = range_shown (expiry_day f) f s e in
    record { is = w.0; expiry = subst (λ (x : Record). IfSome (expiry_day x) IsDay) w.0 w.1 }

-- ---- the date of the expiry

pub expiry_dated : (r : Record) → IfSome (expiry_day r) IsDay → IsAnyLimited (expiry_date r)
expiry_dated r h = dated (expiry_day r) h

pub effective_dated : (r : Record) → IsKept r → IsAnyLimited (effective_date r)
effective_dated r h = any_limited (effective_date r) (effective_limited r h)

-- ---- an extension

-- the day of a date, which may be some years past the limit
day_shown : (o : Option ℤ) (e : Date) → IfSome o IsExpiryDay → with_some o date_on ≡ Some e → IsExpiryDay (epoch_day e)
day_shown None e h is = absurd (none-some e is)
day_shown (Some z) e h is =
    let d = date_there z (omega (arith, signed_arith, h)) (omega (arith, signed_arith, h)) in
    let same : epoch_day e ≡ z = ap epoch_day (same_Some e d.0 (sym is ∙ d.1)) ∙ d.2 in
    rw (sym same) at h

pub record IsExtended (r s : Record) : Type 0 where
  pub expiry : Date
  pub is : record_extended_to expiry r ≡ s
  pub limited : IsLimited expiry
  -- the last day for the next one is within the limit, too
  pub last : IsDay (epoch_day expiry -ℤ EXTENSION_DAYS)

pub extended_shown : (months : ℕ) (r s : Record) → IsKept r → 1 ≤ months → months ≤ EXTENSION_MONTHS → extended_record months r ≡ Some s → IsExtended r s
extended_shown months r s kept least most is =
    let near = expiry_near r.decision r.set_expiry (effective_date r) kept.set_expiry (effective_limited r kept) in
    with_shown (expiry_date r) _ s (IsExtended r s)
    (λ e at k. mapped_shown (limited_date (add_months e (pos months))) (λ x. record_extended_to x r) s (IsExtended r s)
    (λ x there made.
    let old = day_shown (expiry_day r) e near at in
    let l = limited_sound (add_months e (pos months)) x there in
    let later = month_later e months (can_shift e months (omega (arith, signed_arith, old)) (omega (arith, most))) least in
    record { expiry = x; is = made; limited = l.0; last = (omega (arith, signed_arith, l, later, old), omega (arith, signed_arith, l)) }) k) is

-- its expiry is the day that was set
set_day : (decision : Decision) (x : Date) (effective : Option Date) (P : ℤ → Type 0) → P (epoch_day x) → IfSome (expiry_by decision (Some x) effective) P
set_day Hazard x effective P h = tt
set_day NoHazard x effective P h = h

mapped : (o : Option ℤ) → IfSome o (λ z. IsDay (z -ℤ EXTENSION_DAYS)) → IfSome (option_map (λ z. z -ℤ EXTENSION_DAYS) o) IsDay
mapped None h = tt
mapped (Some z) h = h

pub extended_expiry : (x : Date) (r : Record) → IsLimited x → IsAnyLimited (expiry_date (record_extended_to x r))
extended_expiry x r h = dated (expiry_day (record_extended_to x r)) (set_day r.decision x (effective_date (record_extended_to x r)) IsDay h)

pub extended_last : (x : Date) (r : Record) → IsDay (epoch_day x -ℤ EXTENSION_DAYS) → IsAnyLimited (last_date (record_extended_to x r))
extended_last x r h =
    let s = record_extended_to x r in
    dated (last_day s) (mapped (expiry_day s) (set_day r.decision x (effective_date s) (λ z. IsDay (z -ℤ EXTENSION_DAYS)) h))

-- extensions are counted up to their limit
pub counted_few : (n : ℕ) (b : Bool) → nat_lt n MOST_EXTENSIONS ≡ b → n ≤ MOST_EXTENSIONS → (if b then n + 1 else n) ≤ MOST_EXTENSIONS
counted_few n true is h = grind (arith, is)
counted_few n false is h = h
