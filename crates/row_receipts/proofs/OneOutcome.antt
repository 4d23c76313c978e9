-- No two outcomes of an act have the same text.
use Rattle.std.proofs.Common.{arith, ℕ, ◌≡◌, ◌≢◌, ◌<◌, ◌≤◌, ◌==◌, ◌^◌, List, ◌++◌, Bool, true, false, Option, Some, None, inl, inr, if◌then◌else◌, take, drop, get_or, codes, refl, ap, sym, ◌∙◌}
use Rattle.std.specs.Fmt.{decimal}
use Rattle.std.specs.Str.{bytes_eq}
use Rattle.std.proofs.lemmas.Bool.{cases_lt}
use Rattle.std.proofs.lemmas.Bool.Decides.{nat_tests}
use Rattle.std.proofs.lemmas.Fmt.{decimal_injective}
use Rattle.std.proofs.lemmas.List.{append_cancel_left}
use Rattle.determination_dates.specs.declared.determination.Decision.{Decision}
use Rattle.determination_dates.specs.declared.determination.Decision.TheVariants as decisions
use Rattle.determination_dates.specs.declared.timely.Timeliness.{Timeliness}
use Rattle.determination_dates.specs.declared.timely.Timeliness.TheVariants as timeliness
use Rattle.determination_dates.proofs.Texts.{one_date}
use Rattle.case_requests.specs.declared.act.Act.{Act}
use Rattle.case_requests.specs.declared.act.Act.TheVariants as acts
use Rattle.case_records.specs.declared.outcome.Outcome.{Outcome}
use Rattle.case_records.specs.declared.outcome.Outcome.TheVariants as outcomes
use Rattle.wire_values.specs.Commas.{joined}
use Rattle.wire_values.specs.Words.{decision_word, disposal_word}
use Rattle.wire_values.proofs.DateNames.{one_optional}
use Rattle.wire_values.proofs.Named.{one_choice}
use Rattle.wire_cursor.proofs.GroupFacts.{at}
use Rattle.wire_requests.specs.Limits.{IsCase, IsValidAct}
use Rattle.wire_replies.specs.States.{date_word}
use Rattle.wire_replies.specs.Entries.{list_text}
use Rattle.wire_replies.specs.Outcomes.{late_text, lateness_text, timeliness_text, fcc_text, presumption_text, form_text, disposed_text, extended_text, fcc_act_text, determined_text, outcome_text}
use Rattle.row_receipts.specs.Kinds.{IsTimeliness, AreDays, IsFiled, IsFormCame, IsDetermined, IsRevised, IsDisposed, IsExtended, IsFccAct, CanLeadTo}
use Rattle.row_receipts.specs.Fields.{issued_fields}
use Rattle.row_receipts.specs.Issuances.{AreIssued}
use Rattle.row_receipts.proofs.KindFacts.{days_limited, filed_parts, form_parts, disposed_parts, extended_parts, fcc_parts}
use Rattle.row_receipts.proofs.DeterminedFacts.{determine_short, revise_short, text_same, determined_parts}
use Rattle.row_receipts.proofs.FrameFacts.{OneRow, one_list}

-- ---- values of single fields

one_number : (m n : ℕ) → m < 2 ^ 32 → n < 2 ^ 32 → decimal m ≡ decimal n → m ≡ n
one_number m n h k e = decimal_injective m n (omega (arith, h)) (omega (arith, k)) e

one_late : (m n : ℕ) → m < 2 ^ 32 → n < 2 ^ 32 → late_text m ≡ late_text n → m ≡ n
one_late m n h k e = one_number m n h k (ap (drop 5) e)

-- some days late
when_late : (word : List ℕ) (n : ℕ) → 0 < n → lateness_text word n ≡ late_text n
when_late word n h = let apart : (n == 0) ≡ false = grind (arith, nat_tests) in rw apart refl

when_none : (word : List ℕ) (n : ℕ) → n ≤ 0 → lateness_text word n ≡ word
when_none word n h = let same : (n == 0) ≡ true = grind (arith, nat_tests) in rw same refl

-- the word for none is no text of days
one_lateness : (word : List ℕ) → ((n : ℕ) → word ≢ late_text n) → (m n : ℕ) → m < 2 ^ 32 → n < 2 ^ 32 → lateness_text word m ≡ lateness_text word n → m ≡ n
one_lateness word apart m n h k e = elim (cases_lt 0 m) as (λ _. m ≡ n) [
  | inl p ↦ elim (cases_lt 0 n) as (λ _. m ≡ n) [
    | inl q ↦ one_late m n h k (sym (when_late word m p) ∙ e ∙ when_late word n q)
    | inr q ↦ absurd (apart m (sym (when_none word n q) ∙ sym e ∙ when_late word m p))
  ]
  | inr p ↦ elim (cases_lt 0 n) as (λ _. m ≡ n) [
    | inl q ↦ absurd (apart n (sym (when_none word m p) ∙ e ∙ when_late word n q))
    | inr q ↦ omega arith
  ]
]

first : {xs ys : List ℕ} → xs ≡ ys → get_or xs 0 0 ≡ get_or ys 0 0
first e = ap (λ t. get_or t 0 0) e

timely_apart : (n : ℕ) → codes "timely" ≢ late_text n
timely_apart n e = let apart : 116 ≡ 108 = first e in omega (arith, apart)

intime_apart : (n : ℕ) → codes "intime" ≢ late_text n
intime_apart n e = let apart : 105 ≡ 108 = first e in omega (arith, apart)

one_timeliness : (a b : Timeliness) → IsTimeliness a → IsTimeliness b → timeliness_text a ≡ timeliness_text b → a ≡ b
unfolding date_word
one_timeliness timeliness.Timely timeliness.Timely h k e = refl
one_timeliness (timeliness.Late m) (timeliness.Late n) h k e = ap (λ x. timeliness.Late x) (one_late m n h.1 k.1 e)
one_timeliness (timeliness.Emergency c) (timeliness.Emergency d) h k e = ap (λ x. timeliness.Emergency x) (one_date c d h k (ap (drop 10) e))
one_timeliness timeliness.Timely (timeliness.Late n) h k e = absurd (timely_apart n e)
one_timeliness (timeliness.Late m) timeliness.Timely h k e = absurd (timely_apart m (sym e))
one_timeliness timeliness.Timely (timeliness.Emergency d) h k e = let apart : 116 ≡ 101 = first e in absurd (omega (arith, apart))
one_timeliness (timeliness.Emergency c) timeliness.Timely h k e = let apart : 101 ≡ 116 = first e in absurd (omega (arith, apart))
one_timeliness (timeliness.Late m) (timeliness.Emergency d) h k e = let apart : 108 ≡ 101 = first e in absurd (omega (arith, apart))
one_timeliness (timeliness.Emergency c) (timeliness.Late n) h k e = let apart : 101 ≡ 108 = first e in absurd (omega (arith, apart))

-- a dash is neither in time nor late
dash_apart : (n : ℕ) → codes "-" ≢ lateness_text (codes "timely") n
dash_apart n e = elim (cases_lt 0 n) as (λ _. ⊥) [
  | inl p ↦ let apart : 45 ≡ 108 = first (e ∙ when_late (codes "timely") n p) in omega (arith, apart)
  | inr p ↦ let apart : 45 ≡ 116 = first (e ∙ when_none (codes "timely") n p) in omega (arith, apart)
]

one_fcc : (a b : Option ℕ) → AreDays a → AreDays b → fcc_text a ≡ fcc_text b → a ≡ b
one_fcc None None h k e = refl
one_fcc None (Some n) h k e = absurd (dash_apart n e)
one_fcc (Some m) None h k e = absurd (dash_apart m (sym e))
one_fcc (Some m) (Some n) h k e = ap Some (one_lateness (codes "timely") timely_apart m n h k e)

presumption_named : List ℕ → Option Bool
presumption_named word = if bytes_eq word (codes "-") then None else Some (bytes_eq word (codes "explained"))

presumption_again : (e : Option Bool) → presumption_named (presumption_text e) ≡ e
unfolding presumption_named
presumption_again None = refl
presumption_again (Some true) = refl
presumption_again (Some false) = refl

one_presumption : (a b : Option Bool) → presumption_text a ≡ presumption_text b → a ≡ b
one_presumption a b e = sym (presumption_again a) ∙ ap presumption_named e ∙ presumption_again b

one_decision : (a b : Decision) → decision_word a ≡ decision_word b → a ≡ b
one_decision decisions.NoHazard decisions.NoHazard e = refl
one_decision decisions.Hazard decisions.Hazard e = refl
one_decision _ _ e = absurd (cc)

-- ---- outcomes, kind by kind

one_filed : (a b : Outcome) → IsFiled a → IsFiled b → outcome_text a ≡ outcome_text b → a ≡ b
one_filed (outcomes.Filed m s f x) (outcomes.Filed n t g y) h k e =
    let fields = sym (filed_parts _ m s f x h.0 h.1 h.2 refl) ∙ filed_parts _ n t g y k.0 k.1 k.2 e in
    let numbers = one_number m n (omega (arith, h.0)) (omega (arith, k.0)) (at 1 fields) in
    let times = one_timeliness s t h.1 k.1 (at 2 fields) in
    let days = one_fcc f g h.2 k.2 (at 3 fields) in
    let explained = one_presumption x y (at 4 fields) in
    cc
one_filed (outcomes.Filed m s f x) _ h k e = absurd k
one_filed _ b h k e = absurd h

-- two texts that tell the number of one case
in_case : (text : ℕ → List ℕ) (other : ℕ → List ℕ) (m m' n : ℕ) → m ≡ n → m' ≡ n → text m ≡ other m' → text n ≡ other n
in_case text other m m' n p q e = sym (ap text p) ∙ e ∙ ap other q

one_form_came : (n : ℕ) → n < 2 ^ 32 → (a b : Outcome) → IsFormCame n a → IsFormCame n b → outcome_text a ≡ outcome_text b → a ≡ b
one_form_came n small (outcomes.FormCame m late) (outcomes.FormCame m' late') h k e =
    let same = in_case (λ x. form_text x late) (λ x. form_text x late') m m' n h.0 k.0 e in
    let fields = sym (form_parts _ n late small h.1 refl) ∙ form_parts _ n late' small k.1 same in
    let numbers : m ≡ m' = h.0 ∙ sym k.0 in
    let days = one_lateness (codes "intime") intime_apart late late' h.1 k.1 (at 2 fields) in
    cc
one_form_came n small (outcomes.FormCame m late) _ h k e = absurd k
one_form_came n small _ b h k e = absurd h

one_disposed : (n : ℕ) → n < 2 ^ 32 → (a b : Outcome) → IsDisposed n a → IsDisposed n b → outcome_text a ≡ outcome_text b → a ≡ b
one_disposed n small (outcomes.Disposed m a x y) (outcomes.Disposed m' b x' y') h k e =
    let same = in_case (λ i. disposed_text i a x y) (λ i. disposed_text i b x' y') m m' n h.0 k.0 e in
    let fields = sym (disposed_parts _ n a x y small h.1 refl) ∙ disposed_parts _ n b x' y' small k.1 same in
    let numbers : m ≡ m' = h.0 ∙ sym k.0 in
    let affirmed = one_choice disposal_word refl refl a b (at 2 fields) in
    let first = days_limited a x y h.1 in
    let second = days_limited b x' y' k.1 in
    let effective = one_optional x x' first.0 second.0 (at 3 fields) in
    let expiry = one_optional y y' first.1 second.1 (at 4 fields) in
    cc
one_disposed n small (outcomes.Disposed m a x y) _ h k e = absurd k
one_disposed n small _ b h k e = absurd h

one_extended : (n : ℕ) → n < 2 ^ 32 → (a b : Outcome) → IsExtended n a → IsExtended n b → outcome_text a ≡ outcome_text b → a ≡ b
one_extended n small (outcomes.Extended m x y) (outcomes.Extended m' x' y') h k e =
    let same = in_case (λ i. extended_text i x y) (λ i. extended_text i x' y') m m' n h.0 k.0 e in
    let fields = sym (extended_parts _ n x y small h.1 h.2 refl) ∙ extended_parts _ n x' y' small k.1 k.2 same in
    let numbers : m ≡ m' = h.0 ∙ sym k.0 in
    let expiry = one_date x x' h.1 k.1 (at 2 fields) in
    let last_day = one_date y y' h.2 k.2 (at 3 fields) in
    cc
one_extended n small (outcomes.Extended m x y) _ h k e = absurd k
one_extended n small _ b h k e = absurd h

one_fcc_act : (n : ℕ) → n < 2 ^ 32 → (a b : Outcome) → IsFccAct n a → IsFccAct n b → outcome_text a ≡ outcome_text b → a ≡ b
one_fcc_act n small (outcomes.Fcc m x) (outcomes.Fcc m' x') h k e =
    let same = in_case (λ i. fcc_act_text i x) (λ i. fcc_act_text i x') m m' n h.0 k.0 e in
    let fields = sym (fcc_parts _ n x small h.1 refl) ∙ fcc_parts _ n x' small k.1 same in
    let numbers : m ≡ m' = h.0 ∙ sym k.0 in
    let expiry = one_date x x' h.1 k.1 (at 2 fields) in
    cc
one_fcc_act n small (outcomes.Fcc m x) _ h k e = absurd k
one_fcc_act n small _ b h k e = absurd h

one_determined : OneRow → (n : ℕ) → n < 2 ^ 32 → (a b : Outcome) → IsDetermined n a → IsDetermined n b → outcome_text a ≡ outcome_text b → a ≡ b
one_determined one n small (outcomes.Determined m d l i p q r list) (outcomes.Determined m' d' l' i' p' q' r' list') h k e =
    let same = in_case (λ x. determined_text (codes "determine") x d l i p q r list) (λ x. determined_text (codes "determine") x d' l' i' p' q' r' list') m m' n h.0 k.0 e in
    let first : AreIssued n l i p q r = record { number = small; last_small = h.1; issued_in = h.2; deadline_in = h.3; effective_in = h.4; expiry_in = h.5 } in
    let second : AreIssued n l' i' p' q' r' = record { number = small; last_small = k.1; issued_in = k.2; deadline_in = k.3; effective_in = k.4; expiry_in = k.5 } in
    let fields = sym (determined_parts (codes "determine") determine_short _ n d l i p q r list first refl) ∙ determined_parts (codes "determine") determine_short _ n d' l' i' p' q' r' list' second same in
    let heads : issued_fields (codes "determine") n d l i p q r ≡ issued_fields (codes "determine") n d' l' i' p' q' r' = ap (take 8) fields in
    let whole = sym (text_same (codes "determine") n d l i p q r list) ∙ same ∙ text_same (codes "determine") n d' l' i' p' q' r' list' ∙ ap (λ f. joined f ++ list_text list') (sym heads) in
    let numbers : m ≡ m' = h.0 ∙ sym k.0 in
    let decided = one_decision d d' (at 2 heads) in
    let lasts = decimal_injective l l' h.1 k.1 (at 3 heads) in
    let dates = one_date i i' h.2 k.2 (at 4 heads) in
    let deadlines = one_optional p p' h.3 k.3 (at 5 heads) in
    let effectives = one_optional q q' h.4 k.4 (at 6 heads) in
    let expiries = one_optional r r' h.5 k.5 (at 7 heads) in
    let lists = one_list one list list' h.6 k.6 (append_cancel_left (joined (issued_fields (codes "determine") n d l i p q r)) (list_text list) (list_text list') whole) in
    cc
one_determined one n small (outcomes.Determined m d l i p q r list) _ h k e = absurd k
one_determined one n small _ b h k e = absurd h

one_revised : OneRow → (n : ℕ) → n < 2 ^ 32 → (a b : Outcome) → IsRevised n a → IsRevised n b → outcome_text a ≡ outcome_text b → a ≡ b
one_revised one n small (outcomes.Revised m d l i p q r list) (outcomes.Revised m' d' l' i' p' q' r' list') h k e =
    let same = in_case (λ x. determined_text (codes "revise") x d l i p q r list) (λ x. determined_text (codes "revise") x d' l' i' p' q' r' list') m m' n h.0 k.0 e in
    let first : AreIssued n l i p q r = record { number = small; last_small = h.1; issued_in = h.2; deadline_in = h.3; effective_in = h.4; expiry_in = h.5 } in
    let second : AreIssued n l' i' p' q' r' = record { number = small; last_small = k.1; issued_in = k.2; deadline_in = k.3; effective_in = k.4; expiry_in = k.5 } in
    let fields = sym (determined_parts (codes "revise") revise_short _ n d l i p q r list first refl) ∙ determined_parts (codes "revise") revise_short _ n d' l' i' p' q' r' list' second same in
    let heads : issued_fields (codes "revise") n d l i p q r ≡ issued_fields (codes "revise") n d' l' i' p' q' r' = ap (take 8) fields in
    let whole = sym (text_same (codes "revise") n d l i p q r list) ∙ same ∙ text_same (codes "revise") n d' l' i' p' q' r' list' ∙ ap (λ f. joined f ++ list_text list') (sym heads) in
    let numbers : m ≡ m' = h.0 ∙ sym k.0 in
    let decided = one_decision d d' (at 2 heads) in
    let lasts = decimal_injective l l' h.1 k.1 (at 3 heads) in
    let dates = one_date i i' h.2 k.2 (at 4 heads) in
    let deadlines = one_optional p p' h.3 k.3 (at 5 heads) in
    let effectives = one_optional q q' h.4 k.4 (at 6 heads) in
    let expiries = one_optional r r' h.5 k.5 (at 7 heads) in
    let lists = one_list one list list' h.6 k.6 (append_cancel_left (joined (issued_fields (codes "revise") n d l i p q r)) (list_text list) (list_text list') whole) in
    cc
one_revised one n small (outcomes.Revised m d l i p q r list) _ h k e = absurd k
one_revised one n small _ b h k e = absurd h

case_small : (n : ℕ) → IsCase n → n < 2 ^ 32
case_small n h = omega (arith, h.1)

pub one_of_act : OneRow → (act : Act) (a b : Outcome) → IsValidAct act → CanLeadTo act a → CanLeadTo act b → outcome_text a ≡ outcome_text b → a ≡ b
one_of_act one (acts.Amend amendment) a b valid h k e = h ∙ sym k
one_of_act one (acts.Day date) a b valid h k e = h ∙ sym k
one_of_act one (acts.Closed date) a b valid h k e = h ∙ sym k
one_of_act one (acts.File submission) a b valid h k e = one_filed a b h k e
one_of_act one (acts.Form n) a b valid h k e = one_form_came n (case_small n valid) a b h k e
one_of_act one (acts.Determine n finding) a b valid h k e = one_determined one n (case_small n valid) a b h k e
one_of_act one (acts.Petition n party) a b valid h k e = h ∙ sym k
one_of_act one (acts.Dispose n affirm) a b valid h k e = one_disposed n (case_small n valid) a b h k e
one_of_act one (acts.Extend n months started filed warranted) a b valid h k e = one_extended n (case_small n valid.0) a b h k e
one_of_act one (acts.Revise n started ground height finding) a b valid h k e = one_revised one n (case_small n valid.0) a b h k e
one_of_act one (acts.Fcc n completion) a b valid h k e = one_fcc_act n (case_small n valid.0) a b h k e
one_of_act one (acts.Abandon n) a b valid h k e = h ∙ sym k
