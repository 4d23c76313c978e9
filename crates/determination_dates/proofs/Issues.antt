-- What is made at issuance is determined by what it is made of.
use Rattle.std.proofs.Common.{◌≡◌, refl, sym, subst, ap, ◌∙◌, arith, Bool, true, false, Option, Some, None, List, ℤ, ◌<ℤ◌}
use Rattle.std.specs.Option.{option_map}
use Rattle.std.proofs.lemmas.Int.{ints}
use Rattle.jiff_core.specs.declared.civil.date.Date.{Date}
use Rattle.jiff_core.specs.Date.{epoch_day}
use Rattle.jiff_core.proofs.SignedLemmas.{signed_arith}
use Rattle.jiff.proofs.Family.{same_date}
use Rattle.jiff_span.specs.Months.{add_months}
use Rattle.determination_dates.specs.declared.determination.Decision.{Decision}
use Rattle.determination_dates.specs.declared.determination.Record.{Record}
use Rattle.determination_dates.specs.Deadlines.{IsDeadline}
use Rattle.determination_dates.specs.Effects.{expiry_day, IsInRange}
use Rattle.determination_dates.specs.Determinations.{HasDeadline, IsIssued, ordinary_day}

-- there is one deadline
pub deadline_same : (closed : List Date) (issued z w : ℤ) → IsDeadline closed issued z → IsDeadline closed issued w → z ≡ w
deadline_same closed issued z w h k =
    omega (arith, signed_arith, h.least w k.later k.is_open, k.least z h.later h.is_open)

-- months are added to the day, whatever date stands for it
pub months_same : (a b : Date) (k : ℤ) → epoch_day a ≡ epoch_day b → add_months a k ≡ add_months b k
months_same a b k e = ap (λ d. add_months d k) (same_date a b e)

-- a reviewable determination has one deadline
same_deadline : (closed : List Date) (issued : Date) (t : Bool) (a b : Option Date) → HasDeadline closed issued t a → HasDeadline closed issued t b → a ≡ b
same_deadline closed issued true (Some a) (Some b) h k = ap Some (same_date a b (deadline_same closed _ _ _ h k))
same_deadline closed issued true (Some a) None h k = absurd k
same_deadline closed issued true None b h k = absurd h
same_deadline closed issued false None None h k = refl
same_deadline closed issued false None (Some b) h k = absurd k
same_deadline closed issued false (Some a) b h k = absurd h

-- what is made at issuance is one record
pub one_record : (issued : Date) (d : Decision) (t : Bool) (closed : List Date) (r s : Record) → IsIssued issued d t closed r → IsIssued issued d t closed s → r ≡ s
one_record issued d t closed r s h k =
    let on = h.on ∙ sym k.on in
    let decided = h.as_decided ∙ sym k.as_decided in
    let deadline = same_deadline closed issued t r.deadline s.deadline h.deadline k.deadline in
    let ordinary = same_date r.ordinary s.ordinary (h.ordinary ∙ ap (λ o. ordinary_day (epoch_day issued) (option_map epoch_day o)) deadline ∙ sym k.ordinary) in
    let pending = h.pending ∙ sym k.pending in
    let affirmed = h.affirmed ∙ sym k.affirmed in
    let set_expiry = h.set_expiry ∙ sym k.set_expiry in
    let extensions = h.extensions ∙ sym k.extensions in
    let revisions = h.revisions ∙ sym k.revisions in
    λ i. record {
      issued = on i;
      decision = decided i;
      deadline = deadline i;
      ordinary = ordinary i;
      pending = pending i;
      affirmed = affirmed i;
      set_expiry = set_expiry i;
      extensions = extensions i;
      revisions = revisions i;
    }

-- so one is within the limit exactly where another is
pub range_same : (issued : Date) (d : Decision) (t : Bool) (closed : List Date) (r s : Record) → IsIssued issued d t closed r → IsIssued issued d t closed s → IsInRange r → IsInRange s
range_same issued d t closed r s h k i = subst IsInRange (one_record issued d t closed r s h k) i

abbrev value_or : Option ℤ → ℤ → ℤ
value_or None z = z
value_or (Some y) z = y

some_same : (y z : ℤ) → Some y ≡ Some z → y ≡ z
some_same y z e = ap (λ o. value_or o z) e

-- an extension goes to one day
pub extension_same : (r : Record) (k : ℤ) (e e' : Date) → expiry_day r ≡ Some (epoch_day e) → expiry_day r ≡ Some (epoch_day e') → add_months e k ≡ add_months e' k
extension_same r k e e' h g = months_same e e' k (some_same _ _ (sym h ∙ g))

-- the ordinary effective day is after the deadline
pub effective_after : (issued deadline : ℤ) → deadline <ℤ ordinary_day issued (Some deadline)
effective_after issued deadline = grind (arith, ints, signed_arith)
