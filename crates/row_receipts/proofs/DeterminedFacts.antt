-- Determinations and their fields.
use Rattle.std.proofs.Common.{arith, ℕ, ◌≡◌, ◌≢◌, ◌<◌, ◌==◌, ◌^◌, List, [], ◌∷◌, ◌++◌, take, length, Option, All, codes, refl, ap, sym, subst, ◌∙◌, append_assoc, append-nil}
use Rattle.std.specs.Fmt.{decimal}
use Rattle.std.proofs.lemmas.List.{append_cancel_left}
use Rattle.std.proofs.lemmas.List.Elements.{All-head, All-tail}
use Rattle.std.proofs.lemmas.List.Splits.{slice_split_at}
use Rattle.jiff_core.specs.declared.civil.date.Date.{Date}
use Rattle.finding_lists.specs.declared.finding.Finding.{Finding}
use Rattle.determination_dates.specs.Days.{IsLimited}
use Rattle.determination_dates.specs.Text.{date_text}
use Rattle.determination_dates.specs.declared.determination.Decision.{Decision}
use Rattle.case_records.specs.declared.outcome.Outcome.{Outcome}
use Rattle.case_records.specs.declared.outcome.Outcome.TheVariants as outcomes
use Rattle.wire_values.specs.Commas.{joined, with_commas}
use Rattle.wire_values.specs.Words.{decision_word, optional_date, IsAnyLimited}
use Rattle.wire_values.specs.Plainness.{IsShortField}
use Rattle.wire_values.proofs.FieldFacts.{short_word}
use Rattle.wire_replies.specs.States.{date_word, day_text}
use Rattle.wire_replies.specs.Entries.{entries_text, list_text}
use Rattle.wire_replies.specs.Outcomes.{determined_fields, determined_text, outcome_text}
use Rattle.row_register.specs.Parts.{parts_of}
use Rattle.row_register.proofs.PartFacts.{IsUncut, parts_joined}
use Rattle.row_register.proofs.FieldShapes.{uncut}
use Rattle.row_cases.specs.Entries.{IsList}
use Rattle.row_receipts.specs.Kinds.{IsDetermined, IsRevised}
use Rattle.row_receipts.specs.Issuances.{AreIssued, IsIssuance}
use Rattle.row_receipts.specs.Fields.{issued_fields}
use Rattle.row_receipts.proofs.Words.{day_is, decision_short}
use Rattle.row_receipts.proofs.KindFacts.{each, number_uncut, date_uncut, optional_uncut}

-- ---- fields behind others

with_commas_append : (xs ys : List (List ℕ)) → with_commas (xs ++ ys) ≡ with_commas xs ++ with_commas ys
with_commas_append [] ys = refl
with_commas_append (x ∷ xs) ys = ap (λ t. (44 ∷ x) ++ t) (with_commas_append xs ys) ∙ sym (append_assoc (44 ∷ x) (with_commas xs) (with_commas ys))

joined_append : (x : List ℕ) (xs ys : List (List ℕ)) → joined (x ∷ (xs ++ ys)) ≡ joined (x ∷ xs) ++ with_commas ys
joined_append x xs ys = ap (λ t. x ++ t) (with_commas_append xs ys) ∙ sym (append_assoc x (with_commas xs) (with_commas ys))

-- the parts of fields with a text behind them
parts_before : (first : List ℕ) (more : List (List ℕ)) (tail : List ℕ) → All IsUncut (first ∷ more) → parts_of 44 (joined (first ∷ more) ++ 44 ∷ tail) ≡ first ∷ (more ++ parts_of 44 tail)
parts_before first [] tail h =
    ap (λ t. parts_of 44 (t ++ 44 ∷ tail)) (append-nil first) ∙ slice_split_at (λ b. b == 44) first 44 tail (All-head IsUncut first [] h) refl
parts_before first (f ∷ fs) tail h =
    ap (parts_of 44) (append_assoc first (44 ∷ joined (f ∷ fs)) (44 ∷ tail))
    ∙ slice_split_at (λ b. b == 44) first 44 (joined (f ∷ fs) ++ 44 ∷ tail) (All-head IsUncut first (f ∷ fs) h) refl
    ∙ ap (λ parts. first ∷ parts) (parts_before f fs tail (All-tail IsUncut first (f ∷ fs) h))

-- ---- a determination before its list

-- its fields behind the first
abbrev more_fields : ℕ → Decision → ℕ → Date → Option Date → Option Date → Option Date → List (List ℕ)
more_fields n decision last issued deadline effective expiry = decimal n ∷ decision_word decision ∷ decimal last ∷ date_text issued
    ∷ optional_date deadline ∷ optional_date effective ∷ optional_date expiry ∷ []

determined_same : (form : List ℕ) (n : ℕ) (decision : Decision) (last : ℕ) (issued : Date) (deadline effective expiry : Option Date)
    → determined_fields form n decision last issued deadline effective expiry ≡ issued_fields form n decision last issued deadline effective expiry
unfolding date_word
determined_same form n decision last issued deadline effective expiry =
    let head : List (List ℕ) → List (List ℕ) = λ days. form ∷ decimal n ∷ decision_word decision ∷ decimal last ∷ date_text issued ∷ days in
    ap (λ d. head (d ∷ day_text effective ∷ day_text expiry ∷ [])) (day_is deadline)
    ∙ ap (λ d. head (optional_date deadline ∷ d ∷ day_text expiry ∷ [])) (day_is effective)
    ∙ ap (λ d. head (optional_date deadline ∷ optional_date effective ∷ d ∷ [])) (day_is expiry)

-- the text of a determination, with its dates as records spell them
pub text_same : (form : List ℕ) (n : ℕ) (decision : Decision) (last : ℕ) (issued : Date) (deadline effective expiry : Option Date) (list : List Finding)
    → determined_text form n decision last issued deadline effective expiry list ≡ joined (issued_fields form n decision last issued deadline effective expiry) ++ list_text list
text_same form n decision last issued deadline effective expiry list = ap (λ fields. joined fields ++ list_text list) (determined_same form n decision last issued deadline effective expiry)

issued_uncut : (form : List ℕ) → IsShortField form → (n : ℕ) (decision : Decision) (last : ℕ) (issued : Date) (deadline effective expiry : Option Date) → AreIssued n last issued deadline effective expiry
    → All IsUncut (issued_fields form n decision last issued deadline effective expiry)
issued_uncut form short n decision last issued deadline effective expiry h =
    each (issued_fields form n decision last issued deadline effective expiry) (
      uncut form short,
      (
        number_uncut n (omega (arith, h.number)),
        (
          uncut (decision_word decision) (decision_short decision),
          (
            number_uncut last h.last_small,
            (date_uncut issued h.issued_in, (optional_uncut deadline h.deadline_in, (optional_uncut effective h.effective_in, (optional_uncut expiry h.expiry_in, tt)))),
          ),
        ),
      ),
    )

-- the parts of a list's text behind its comma
abbrev pub list_parts : List Finding → List (List ℕ)
list_parts list = parts_of 44 (decimal (length list) ++ entries_text list)

pub determined_parts : (form : List ℕ) → IsShortField form → (text : List ℕ) (n : ℕ) (decision : Decision) (last : ℕ) (issued : Date) (deadline effective expiry : Option Date) (list : List Finding)
    → AreIssued n last issued deadline effective expiry → text ≡ determined_text form n decision last issued deadline effective expiry list
    → parts_of 44 text ≡ issued_fields form n decision last issued deadline effective expiry ++ list_parts list
determined_parts form short text n decision last issued deadline effective expiry list h e =
    ap (parts_of 44) (e ∙ text_same form n decision last issued deadline effective expiry list)
    ∙ parts_before form (more_fields n decision last issued deadline effective expiry) (decimal (length list) ++ entries_text list) (issued_uncut form short n decision last issued deadline effective expiry h)

-- a text with these parts
read_text : (form text : List ℕ) (n : ℕ) (decision : Decision) (last : ℕ) (issued : Date) (deadline effective expiry : Option Date) (rest : List (List ℕ))
    → parts_of 44 text ≡ issued_fields form n decision last issued deadline effective expiry ++ rest
    → text ≡ joined (issued_fields form n decision last issued deadline effective expiry) ++ with_commas rest
read_text form text n decision last issued deadline effective expiry rest e =
    parts_joined text _ _ e ∙ joined_append form (more_fields n decision last issued deadline effective expiry) rest

pub determined_told : (form text : List ℕ) (n : ℕ) (decision : Decision) (last : ℕ) (issued : Date) (deadline effective expiry : Option Date) (rest : List (List ℕ)) (list : List Finding)
    → parts_of 44 text ≡ issued_fields form n decision last issued deadline effective expiry ++ rest → with_commas rest ≡ list_text list
    → text ≡ determined_text form n decision last issued deadline effective expiry list
determined_told form text n decision last issued deadline effective expiry rest list e told =
    read_text form text n decision last issued deadline effective expiry rest e
    ∙ ap (λ t. joined (issued_fields form n decision last issued deadline effective expiry) ++ t) told
    ∙ sym (text_same form n decision last issued deadline effective expiry list)

-- a text that tells no determination before a list

pub no_issued : (form : List ℕ) → IsShortField form → (text : List ℕ) (n : ℕ)
    → ((decision : Decision) (last : ℕ) (issued : Date) (deadline effective expiry : Option Date) (rest : List (List ℕ)) → last < 2 ^ 64 → IsLimited issued → IsAnyLimited deadline
    → IsAnyLimited effective → IsAnyLimited expiry → parts_of 44 text ≢ issued_fields form n decision last issued deadline effective expiry ++ rest)
    → IsIssuance form n text → ⊥
no_issued form short text n misses v =
    let h = v.are in
    misses v.decision v.last v.issued v.deadline v.effective v.expiry _ h.last_small h.issued_in h.deadline_in h.effective_in h.expiry_in
    (determined_parts form short text n v.decision v.last v.issued v.deadline v.effective v.expiry v.list h v.is)

-- a text that tells no list behind its determination

pub no_list_behind : (form : List ℕ) → IsShortField form → (text : List ℕ) (n : ℕ) (decision : Decision) (last : ℕ) (issued : Date) (deadline effective expiry : Option Date) (rest : List (List ℕ))
    → parts_of 44 text ≡ issued_fields form n decision last issued deadline effective expiry ++ rest → ((list : List Finding) → IsList list → with_commas rest ≢ list_text list)
    → IsIssuance form n text → ⊥
no_list_behind form short text n decision last issued deadline effective expiry rest p misses v =
    let mine = issued_fields form n decision last issued deadline effective expiry in
    let first : mine ≡ issued_fields form n v.decision v.last v.issued v.deadline v.effective v.expiry =
    ap (take 8) (sym p ∙ determined_parts form short text n v.decision v.last v.issued v.deadline v.effective v.expiry v.list v.are v.is) in
    let whole = sym (read_text form text n decision last issued deadline effective expiry rest p) ∙ v.is ∙ text_same form n v.decision v.last v.issued v.deadline v.effective v.expiry v.list in
    misses v.list v.listed (append_cancel_left (joined mine) (with_commas rest) (list_text v.list) (whole ∙ ap (λ fields. joined fields ++ list_text v.list) (sym first)))

-- ---- the outcomes with such a text

pub determine_short : IsShortField (codes "determine")
determine_short = short_word _ (omega arith) (omega arith) refl

pub revise_short : IsShortField (codes "revise")
revise_short = short_word _ (omega arith) (omega arith) refl

pub determination_issued : (n : ℕ) → n < 2 ^ 32 → (v : Outcome) (text : List ℕ) → IsDetermined n v → text ≡ outcome_text v → IsIssuance (codes "determine") n text
determination_issued n small (outcomes.Determined number decision last issued deadline effective expiry list) text good e = record {
  decision = decision;
  last = last;
  issued = issued;
  deadline = deadline;
  effective = effective;
  expiry = expiry;
  list = list;
  are = record { number = small; last_small = good.1; issued_in = good.2; deadline_in = good.3; effective_in = good.4; expiry_in = good.5 };
  listed = good.6;
  is = subst (λ m. text ≡ determined_text (codes "determine") m decision last issued deadline effective expiry list) good.0 e;
}
determination_issued n small _ text good e = absurd good

pub revision_issued : (n : ℕ) → n < 2 ^ 32 → (v : Outcome) (text : List ℕ) → IsRevised n v → text ≡ outcome_text v → IsIssuance (codes "revise") n text
revision_issued n small (outcomes.Revised number decision last issued deadline effective expiry list) text good e = record {
  decision = decision;
  last = last;
  issued = issued;
  deadline = deadline;
  effective = effective;
  expiry = expiry;
  list = list;
  are = record { number = small; last_small = good.1; issued_in = good.2; deadline_in = good.3; effective_in = good.4; expiry_in = good.5 };
  listed = good.6;
  is = subst (λ m. text ≡ determined_text (codes "revise") m decision last issued deadline effective expiry list) good.0 e;
}
revision_issued n small _ text good e = absurd good
