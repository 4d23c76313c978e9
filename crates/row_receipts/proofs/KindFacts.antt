-- Outcomes and their fields.
use Rattle.std.proofs.Common.{arith, ℕ, ◌≡◌, ◌≢◌, ◌==◌, ◌<◌, ◌^◌, List, [], ◌∷◌, ◌++◌, Bool, true, false, if◌then◌else◌, Option, Some, None, All, codes, refl, ap, sym, subst, ◌∙◌}
use Rattle.std.specs.Fmt.{decimal}
use Rattle.std.proofs.lemmas.List.Elements.{All-nil, All-cons, All-append}
use Rattle.jiff_core.specs.declared.civil.date.Date.{Date}
use Rattle.determination_dates.specs.Days.{IsLimited}
use Rattle.determination_dates.specs.Text.{date_text}
use Rattle.determination_dates.specs.declared.timely.Timeliness.{Timeliness}
use Rattle.determination_dates.specs.declared.timely.Timeliness.TheVariants as timeliness
use Rattle.case_records.specs.declared.outcome.Outcome.{Outcome}
use Rattle.case_records.specs.declared.outcome.Outcome.TheVariants as outcomes
use Rattle.wire_values.specs.Commas.{joined}
use Rattle.wire_values.specs.Words.{disposal_word, optional_date, IsAnyLimited}
use Rattle.wire_values.specs.Wanted.{DateWanted, OptionalDateWanted}
use Rattle.wire_values.proofs.FieldFacts.{fits_short, short_word}
use Rattle.wire_requests.specs.Limits.{IsCase}
use Rattle.wire_replies.specs.States.{date_word}
use Rattle.wire_replies.specs.Outcomes.{late_text, lateness_text, timeliness_text, fcc_text, presumption_text, filed_text, form_text, disposal_day, disposed_text, extended_text, fcc_act_text, outcome_text}
use Rattle.row_register.specs.Parts.{parts_of}
use Rattle.row_register.proofs.PartFacts.{IsUncut, joined_parts, parts_joined}
use Rattle.row_register.proofs.FieldShapes.{uncut}
use Rattle.row_receipts.specs.Kinds.{IsTimeliness, AreDays, HasDays, IsFiled, IsFormCame, IsDisposed, IsExtended, IsFccAct}
use Rattle.row_receipts.specs.Fields.{filed_fields, form_fields, disposed_fields, extended_fields, fcc_fields}
use Rattle.row_receipts.proofs.NumberFacts.{decimal_without}
use Rattle.row_receipts.proofs.Words.{day_is}

-- ---- fields without a comma

-- each of some fields
abbrev pub Each : List (List ℕ) → Type 0
Each [] = Unit {0}
Each (f ∷ fs) = IsUncut f × Each fs

pub each : (fields : List (List ℕ)) → Each fields → All IsUncut fields
each [] h = All-nil IsUncut
each (f ∷ fs) h = All-cons IsUncut f fs h.0 (each fs h.1)

pub number_uncut : (n : ℕ) → n < 2 ^ 64 → IsUncut (decimal n)
number_uncut n h = decimal_without 44 (omega arith) n h

pub date_uncut : (d : Date) → IsLimited d → IsUncut (date_text d)
date_uncut d h = uncut (date_text d) (fits_short DateWanted tt [] (date_text d) (d, refl, h))

pub optional_uncut : (d : Option Date) → IsAnyLimited d → IsUncut (optional_date d)
optional_uncut d h = uncut (optional_date d) (fits_short OptionalDateWanted tt [] (optional_date d) (d, refl, h))

abbrev Plain : ℕ → Type 0
Plain b = (b == 44) ≡ false

spaced : (word : List ℕ) → IsUncut word → (text : List ℕ) → IsUncut text → IsUncut (word ++ 32 ∷ text)
spaced word h text k = All-append Plain word (32 ∷ text) h (All-cons Plain 32 text refl k)

late_uncut : (n : ℕ) → n < 2 ^ 64 → IsUncut (late_text n)
late_uncut n h = spaced (codes "late") (uncut (codes "late") (short_word _ (omega arith) (omega arith) refl)) (decimal n) (number_uncut n h)

emergency_uncut : (d : Date) → IsLimited d → IsUncut (timeliness_text (timeliness.Emergency d))
unfolding date_word
emergency_uncut d h = spaced (codes "emergency") (uncut (codes "emergency") (short_word _ (omega arith) (omega arith) refl)) (date_text d) (date_uncut d h)

either_uncut : (b : Bool) (x y : List ℕ) → IsUncut x → IsUncut y → IsUncut (if b then x else y)
either_uncut true x y h k = h
either_uncut false x y h k = k

lateness_uncut : (word : List ℕ) → IsUncut word → (n : ℕ) → n < 2 ^ 64 → IsUncut (lateness_text word n)
lateness_uncut word h n k = either_uncut (n == 0) word (late_text n) h (late_uncut n k)

dash_uncut : IsUncut (codes "-")
dash_uncut = uncut (codes "-") (short_word _ (omega arith) (omega arith) refl)

timely_uncut : IsUncut (codes "timely")
timely_uncut = uncut (codes "timely") (short_word _ (omega arith) (omega arith) refl)

timeliness_uncut : (t : Timeliness) → IsTimeliness t → IsUncut (timeliness_text t)
timeliness_uncut timeliness.Timely h = timely_uncut
timeliness_uncut (timeliness.Late days) h = late_uncut days (omega (arith, h.1))
timeliness_uncut (timeliness.Emergency due) h = emergency_uncut due h

fcc_uncut : (d : Option ℕ) → AreDays d → IsUncut (fcc_text d)
fcc_uncut None h = dash_uncut
fcc_uncut (Some days) h = lateness_uncut (codes "timely") timely_uncut days (omega (arith, h))

presumption_uncut : (e : Option Bool) → IsUncut (presumption_text e)
presumption_uncut None = dash_uncut
presumption_uncut (Some true) = uncut (codes "explained") (short_word _ (omega arith) (omega arith) refl)
presumption_uncut (Some false) = uncut (codes "unexplained") (short_word _ (omega arith) (omega arith) refl)

disposal_uncut : (affirmed : Bool) → IsUncut (disposal_word affirmed)
disposal_uncut true = uncut (codes "affirm") (short_word _ (omega arith) (omega arith) refl)
disposal_uncut false = uncut (codes "reverse") (short_word _ (omega arith) (omega arith) refl)

-- ---- the parts of an outcome's text are its fields

pub filed_parts : (text : List ℕ) (n : ℕ) (in_time : Timeliness) (fcc : Option ℕ) (explained : Option Bool) → IsCase n → IsTimeliness in_time → AreDays fcc
    → text ≡ filed_text n in_time fcc explained → parts_of 44 text ≡ filed_fields n in_time fcc explained
filed_parts text n in_time fcc explained h k l e =
    ap (parts_of 44) e ∙ joined_parts _ _ (each (filed_fields n in_time fcc explained) (
      uncut (codes "case") (short_word _ (omega arith) (omega arith) refl),
      (number_uncut n (omega (arith, h.1)), (timeliness_uncut in_time k, (fcc_uncut fcc l, (presumption_uncut explained, tt)))),
    ))

pub form_parts : (text : List ℕ) (n late : ℕ) → n < 2 ^ 32 → late < 2 ^ 32 → text ≡ form_text n late → parts_of 44 text ≡ form_fields n late
form_parts text n late h k e =
    ap (parts_of 44) e ∙ joined_parts _ _ (each (form_fields n late) (
      uncut (codes "form") (short_word _ (omega arith) (omega arith) refl),
      (number_uncut n (omega (arith, h)), (lateness_uncut (codes "intime") (uncut (codes "intime") (short_word _ (omega arith) (omega arith) refl)) late (omega (arith, k)), tt)),
    ))

-- a text that tells no case of a notice tells no outcome of its kind, and likewise for each kind

pub no_filed : (text : List ℕ) → ((n : ℕ) (in_time : Timeliness) (fcc : Option ℕ) (explained : Option Bool) → IsCase n → IsTimeliness in_time → AreDays fcc
    → parts_of 44 text ≢ filed_fields n in_time fcc explained) → (v : Outcome) → IsFiled v → text ≢ outcome_text v
no_filed text misses (outcomes.Filed n in_time fcc explained) good e =
    misses n in_time fcc explained good.0 good.1 good.2 (filed_parts text n in_time fcc explained good.0 good.1 good.2 e)
no_filed text misses _ good e = good

pub no_form : (text : List ℕ) (n : ℕ) → n < 2 ^ 32 → ((late : ℕ) → late < 2 ^ 32 → parts_of 44 text ≢ form_fields n late) → (v : Outcome) → IsFormCame n v → text ≢ outcome_text v
no_form text n small misses (outcomes.FormCame number late) good e =
    misses late good.1 (form_parts text n late small good.1 (subst (λ m. text ≡ form_text m late) good.0 e))
no_form text n small misses _ good e = good

-- ---- the decision on a petition

-- days of a decided petition are within the limit
pub days_limited : (affirmed : Bool) (effective expiry : Option Date) → HasDays affirmed effective expiry → IsAnyLimited effective × IsAnyLimited expiry
days_limited true effective expiry h = h
days_limited false effective expiry h = (subst IsAnyLimited (sym h.0) tt, subst IsAnyLimited (sym h.1) tt)

disposal_days : (affirmed : Bool) (effective expiry : Option Date) → HasDays affirmed effective expiry
    → (disposal_day affirmed effective ≡ optional_date effective) × (disposal_day affirmed expiry ≡ optional_date expiry)
disposal_days true effective expiry h = (day_is effective, day_is expiry)
disposal_days false effective expiry h = (ap optional_date (sym h.0), ap optional_date (sym h.1))

disposed_same : (n : ℕ) (affirmed : Bool) (effective expiry : Option Date) → HasDays affirmed effective expiry → disposed_text n affirmed effective expiry ≡ joined (disposed_fields n affirmed effective expiry)
disposed_same n affirmed effective expiry h =
    let same = disposal_days affirmed effective expiry h in
    ap (λ d. joined (codes "dispose" ∷ decimal n ∷ disposal_word affirmed ∷ d ∷ disposal_day affirmed expiry ∷ [])) same.0
    ∙ ap (λ d. joined (codes "dispose" ∷ decimal n ∷ disposal_word affirmed ∷ optional_date effective ∷ d ∷ [])) same.1

disposed_uncut : (n : ℕ) (affirmed : Bool) (effective expiry : Option Date) → n < 2 ^ 32 → HasDays affirmed effective expiry → All IsUncut (disposed_fields n affirmed effective expiry)
disposed_uncut n affirmed effective expiry small h =
    let limited = days_limited affirmed effective expiry h in
    each (disposed_fields n affirmed effective expiry) (
      uncut (codes "dispose") (short_word _ (omega arith) (omega arith) refl),
      (number_uncut n (omega (arith, small)), (disposal_uncut affirmed, (optional_uncut effective limited.0, (optional_uncut expiry limited.1, tt)))),
    )

pub disposed_told : (text : List ℕ) (n : ℕ) (affirmed : Bool) (effective expiry : Option Date) → HasDays affirmed effective expiry → parts_of 44 text ≡ disposed_fields n affirmed effective expiry
    → text ≡ disposed_text n affirmed effective expiry
disposed_told text n affirmed effective expiry h e = parts_joined text _ _ e ∙ sym (disposed_same n affirmed effective expiry h)

pub disposed_parts : (text : List ℕ) (n : ℕ) (affirmed : Bool) (effective expiry : Option Date) → n < 2 ^ 32 → HasDays affirmed effective expiry → text ≡ disposed_text n affirmed effective expiry
    → parts_of 44 text ≡ disposed_fields n affirmed effective expiry
disposed_parts text n affirmed effective expiry small h e =
    ap (parts_of 44) (e ∙ disposed_same n affirmed effective expiry h) ∙ joined_parts _ _ (disposed_uncut n affirmed effective expiry small h)

pub no_disposed : (text : List ℕ) (n : ℕ) → n < 2 ^ 32 → ((affirmed : Bool) (effective expiry : Option Date) → HasDays affirmed effective expiry
    → parts_of 44 text ≢ disposed_fields n affirmed effective expiry) → (v : Outcome) → IsDisposed n v → text ≢ outcome_text v
no_disposed text n small misses (outcomes.Disposed number affirmed effective expiry) good e =
    misses affirmed effective expiry good.1 (disposed_parts text n affirmed effective expiry small good.1 (subst (λ m. text ≡ disposed_text m affirmed effective expiry) good.0 e))
no_disposed text n small misses _ good e = good

-- ---- an extension

pub extended_told : (text : List ℕ) (n : ℕ) (expiry last_day : Date) → parts_of 44 text ≡ extended_fields n expiry last_day → text ≡ extended_text n expiry last_day
unfolding date_word
extended_told text n expiry last_day e = parts_joined text _ _ e

extended_uncut : (n : ℕ) (expiry last_day : Date) → n < 2 ^ 32 → IsLimited expiry → IsLimited last_day → All IsUncut (extended_fields n expiry last_day)
extended_uncut n expiry last_day small h k =
    each (extended_fields n expiry last_day) (
      uncut (codes "extend") (short_word _ (omega arith) (omega arith) refl),
      (number_uncut n (omega (arith, small)), (date_uncut expiry h, (date_uncut last_day k, tt))),
    )

pub extended_parts : (text : List ℕ) (n : ℕ) (expiry last_day : Date) → n < 2 ^ 32 → IsLimited expiry → IsLimited last_day → text ≡ extended_text n expiry last_day
    → parts_of 44 text ≡ extended_fields n expiry last_day
unfolding date_word
extended_parts text n expiry last_day small h k e = ap (parts_of 44) e ∙ joined_parts _ _ (extended_uncut n expiry last_day small h k)

pub no_extended : (text : List ℕ) (n : ℕ) → n < 2 ^ 32 → ((expiry last_day : Date) → IsLimited expiry → IsLimited last_day → parts_of 44 text ≢ extended_fields n expiry last_day)
    → (v : Outcome) → IsExtended n v → text ≢ outcome_text v
no_extended text n small misses (outcomes.Extended number expiry last_day) good e =
    misses expiry last_day good.1 good.2 (extended_parts text n expiry last_day small good.1 good.2 (subst (λ m. text ≡ extended_text m expiry last_day) good.0 e))
no_extended text n small misses _ good e = good

-- ---- what the FCC did

pub fcc_told : (text : List ℕ) (n : ℕ) (expiry : Date) → parts_of 44 text ≡ fcc_fields n expiry → text ≡ fcc_act_text n expiry
unfolding date_word
fcc_told text n expiry e = parts_joined text _ _ e

fcc_act_uncut : (n : ℕ) (expiry : Date) → n < 2 ^ 32 → IsLimited expiry → All IsUncut (fcc_fields n expiry)
fcc_act_uncut n expiry small h =
    each (fcc_fields n expiry) (uncut (codes "fcc") (short_word _ (omega arith) (omega arith) refl), (number_uncut n (omega (arith, small)), (date_uncut expiry h, tt)))

pub fcc_parts : (text : List ℕ) (n : ℕ) (expiry : Date) → n < 2 ^ 32 → IsLimited expiry → text ≡ fcc_act_text n expiry → parts_of 44 text ≡ fcc_fields n expiry
unfolding date_word
fcc_parts text n expiry small h e = ap (parts_of 44) e ∙ joined_parts _ _ (fcc_act_uncut n expiry small h)

pub no_fcc_act : (text : List ℕ) (n : ℕ) → n < 2 ^ 32 → ((expiry : Date) → IsLimited expiry → parts_of 44 text ≢ fcc_fields n expiry) → (v : Outcome) → IsFccAct n v → text ≢ outcome_text v
no_fcc_act text n small misses (outcomes.Fcc number expiry) good e =
    misses expiry good.1 (fcc_parts text n expiry small good.1 (subst (λ m. text ≡ fcc_act_text m expiry) good.0 e))
no_fcc_act text n small misses _ good e = good
