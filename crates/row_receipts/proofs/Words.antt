-- Words of outcomes.
use Rattle.std.proofs.Common.{arith, ℕ, ◌≡◌, ◌≢◌, ◌≤◌, ◌<◌, ◌^◌, List, ◌++◌, Bool, true, false, Option, Some, None, codes, refl}
use Rattle.jiff_core.specs.declared.civil.date.Date.{Date}
use Rattle.determination_dates.specs.Days.{IsLimited}
use Rattle.determination_dates.specs.Text.{date_text}
use Rattle.determination_dates.specs.declared.determination.Decision.{Decision}
use Rattle.determination_dates.specs.declared.determination.Decision.TheVariants as decisions
use Rattle.determination_dates.specs.declared.timely.Timeliness.{Timeliness}
use Rattle.determination_dates.specs.declared.timely.Timeliness.TheVariants as timeliness
use Rattle.wire_values.specs.Words.{decision_word, optional_date}
use Rattle.wire_values.specs.Plainness.{IsShortField}
use Rattle.wire_values.proofs.FieldFacts.{short_word}
use Rattle.wire_replies.specs.States.{date_word, day_text}
use Rattle.wire_replies.specs.Outcomes.{late_text, timeliness_text, presumption_text}
use Rattle.row_receipts.specs.Kinds.{IsTimeliness}

-- ---- days

pub date_is : (d : Date) → date_word d ≡ date_text d
unfolding date_word
date_is d = refl

pub day_is : (d : Option Date) → day_text d ≡ optional_date d
unfolding date_word
day_is None = refl
day_is (Some d) = refl

-- ---- whether a notice is in time

pub emergency_is : (text : List ℕ) (due : Date) → text ≡ codes "emergency " ++ date_text due → text ≡ timeliness_text (timeliness.Emergency due)
unfolding date_word
emergency_is text due e = e

pub no_timeliness : (text : List ℕ) → text ≢ codes "timely" → ((d : Date) → IsLimited d → text ≢ codes "emergency " ++ date_text d) → ((n : ℕ) → 1 ≤ n → n < 2 ^ 32 → text ≢ late_text n)
    → (t : Timeliness) → IsTimeliness t → text ≢ timeliness_text t
unfolding date_word
no_timeliness text timely emergency late timeliness.Timely good e = timely e
no_timeliness text timely emergency late (timeliness.Late days) good e = late days good.0 good.1 e
no_timeliness text timely emergency late (timeliness.Emergency due) good e = emergency due good e

pub no_presumption : (text : List ℕ) → text ≢ codes "-" → text ≢ codes "explained" → text ≢ codes "unexplained" → (e : Option Bool) → text ≢ presumption_text e
no_presumption text n y x None = n
no_presumption text n y x (Some true) = y
no_presumption text n y x (Some false) = x

-- ---- decisions

pub no_decision : (word : List ℕ) → word ≢ codes "nohazard" → word ≢ codes "hazard" → (d : Decision) → word ≢ decision_word d
no_decision word n h decisions.NoHazard = n
no_decision word n h decisions.Hazard = h

pub decision_short : (d : Decision) → IsShortField (decision_word d)
decision_short decisions.NoHazard = short_word _ (omega arith) (omega arith) refl
decision_short decisions.Hazard = short_word _ (omega arith) (omega arith) refl
