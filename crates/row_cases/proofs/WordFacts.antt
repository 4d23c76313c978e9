-- A text that is none of the words of a value, and values of one word.
use Rattle.std.proofs.Common.{arith, ℕ, ◌≡◌, ◌≢◌, Bool, true, false, List, Option, Some, None, codes, refl}
use Rattle.determination_dates.specs.declared.determination.Decision.{Decision}
use Rattle.determination_dates.specs.declared.determination.Decision.TheVariants as decisions
use Rattle.determination_dates.specs.declared.life.End.{End}
use Rattle.determination_dates.specs.declared.life.End.TheVariants as ends
use Rattle.wire_values.specs.Words.{decision_word}
use Rattle.wire_values.specs.Plainness.{IsShortField}
use Rattle.wire_values.proofs.FieldFacts.{short_word}
use Rattle.row_cases.specs.Filings.{end_word, pending_word}

pub no_end : (word : List ℕ) → word ≢ codes "-" → word ≢ codes "abandoned" → word ≢ codes "reversed" → (end : Option End) → word ≢ end_word end
no_end word d a r None = d
no_end word d a r (Some ends.Abandoned) = a
no_end word d a r (Some ends.Reversed) = r

pub no_decision : (word : List ℕ) → word ≢ codes "nohazard" → word ≢ codes "hazard" → (d : Decision) → word ≢ decision_word d
no_decision word n h decisions.NoHazard = n
no_decision word n h decisions.Hazard = h

pub no_pending : (word : List ℕ) → word ≢ codes "pending" → word ≢ codes "-" → (b : Bool) → word ≢ pending_word b
no_pending word p d true = p
no_pending word p d false = d

-- ---- values of one word

pub one_end : (a b : Option End) → end_word a ≡ end_word b → a ≡ b
one_end None None e = refl
one_end None (Some ends.Abandoned) e = absurd (cc)
one_end None (Some ends.Reversed) e = absurd (cc)
one_end (Some ends.Abandoned) None e = absurd (cc)
one_end (Some ends.Abandoned) (Some ends.Abandoned) e = refl
one_end (Some ends.Abandoned) (Some ends.Reversed) e = absurd (cc)
one_end (Some ends.Reversed) None e = absurd (cc)
one_end (Some ends.Reversed) (Some ends.Abandoned) e = absurd (cc)
one_end (Some ends.Reversed) (Some ends.Reversed) e = refl

pub one_decision : (a b : Decision) → decision_word a ≡ decision_word b → a ≡ b
one_decision decisions.NoHazard decisions.NoHazard e = refl
one_decision decisions.NoHazard decisions.Hazard e = absurd (cc)
one_decision decisions.Hazard decisions.NoHazard e = absurd (cc)
one_decision decisions.Hazard decisions.Hazard e = refl

pub decided : (d : Decision) → decision_word d ≡ codes "-" → ⊥
decided decisions.NoHazard e = cc
decided decisions.Hazard e = cc

-- ---- the words are short and plain

pub end_short : (end : Option End) → IsShortField (end_word end)
end_short None = short_word _ (omega arith) (omega arith) refl
end_short (Some ends.Abandoned) = short_word _ (omega arith) (omega arith) refl
end_short (Some ends.Reversed) = short_word _ (omega arith) (omega arith) refl

pub decision_short : (d : Decision) → IsShortField (decision_word d)
decision_short decisions.NoHazard = short_word _ (omega arith) (omega arith) refl
decision_short decisions.Hazard = short_word _ (omega arith) (omega arith) refl

pub pending_short : (b : Bool) → IsShortField (pending_word b)
pending_short true = short_word _ (omega arith) (omega arith) refl
pending_short false = short_word _ (omega arith) (omega arith) refl
