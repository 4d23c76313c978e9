-- Rows from before there were revisions, as rows of today.
use Rattle.std.proofs.Common.{arith, ℕ, zero, suc, ◌≡◌, ◌==◌, ◌+◌, ◌-◌, ◌<◌, ◌≤◌, ◌^◌, List, [], ◌∷◌, ◌++◌, append_assoc, length, All, inl, inr, false, Option, Some, None, IfSome, Bor, codes, refl, ap, sym, subst, ◌∙◌, append-nil}
use Rattle.std.specs.Prelude.{MatchOption}
use Rattle.std.specs.List.{after_first, before_first, position_or_len}
use Rattle.std.proofs.lemmas.Str.Pattern.{IsSplitOnceResult, split_once_first}
use Rattle.std.specs.Fmt.{decimal, digits}
use Rattle.std.proofs.lemmas.Bool.{cases_lt}
use Rattle.std.proofs.lemmas.List.Elements.{All-append, All-cons}
use Rattle.std.proofs.lemmas.List.Splits.{slice_split_first, slice_split_none}
use Rattle.std.proofs.lemmas.List.Sums.{fails_before_first}
use Rattle.std.proofs.lemmas.List.Elements.{All-from_get_or}
use Rattle.case_records.specs.declared.case.KeptList.{KeptList}
use Rattle.case_records.specs.declared.case.KeptCase.{KeptCase}
use Rattle.determination_dates.specs.Days.{IsLimited}
use Rattle.determination_dates.specs.Text.{date_text}
use Rattle.determination_dates.specs.declared.determination.Record.{Record}
use Rattle.wire_values.specs.Commas.{joined, with_commas}
use Rattle.wire_values.specs.Words.{decision_word, optional_date}
use Rattle.row_register.specs.Parts.{parts_of}
use Rattle.row_register.proofs.PartFacts.{IsUncut, joined_parts, parts_joined}
use Rattle.row_register.proofs.FieldShapes.{uncut}
use Rattle.row_cases.specs.Entries.{list_fields}
use Rattle.row_cases.specs.Filings.{filing_fields, filing_row, judged_fields, notice_parts, pending_word, record_fields, IsJudged, IsPlainCase, IsPlainRecord}
use Rattle.case_requests.specs.declared.submission.Submission.{Submission}
use Rattle.jiff_core.specs.declared.civil.date.Date.{Date}
use Rattle.determination_dates.specs.declared.life.End.{End}
use Rattle.row_cases.specs.Older.{IsUnrevised, older_filing_fields, older_filing_row, older_judged_fields, older_record_fields, renewed_row, with_field}
use Rattle.row_cases.proofs.FilingFacts.{date_uncut, decimal_uncut, each, judged_uncut, list_uncut, notice_uncut, optional_uncut}
use Rattle.row_cases.proofs.WordFacts.{decision_short, pending_short}

-- ---- a text, part by part

-- each text has a first part
record HasFirst (parts : List (List ℕ)) : Type 0 where
  first : List ℕ
  more : List (List ℕ)
  is : parts ≡ first ∷ more

uncut_text : (text : List ℕ) → length text ≤ position_or_len (λ b. b == 44) text → IsUncut text
uncut_text text h = All-from_get_or (λ b. (b == 44) ≡ false) text 0 (λ i l. fails_before_first (λ b. b == 44) text i 0 (omega (arith, h, l)))

has_first : (text : List ℕ) → HasFirst (parts_of 44 text)
has_first text = elim (cases_lt (position_or_len (λ b. b == 44) text) (length text)) as (λ _. HasFirst (parts_of 44 text)) [
  | inl lt ↦ record { first = _; more = _; is = slice_split_first (λ b. b == 44) text 0 lt }
  | inr ge ↦ record { first = text; more = []; is = slice_split_none (λ b. b == 44) text (uncut_text text (omega (arith, ge))) }
]

-- a row without a comma stays as it is
pub kept_whole : (n : ℕ) (field text : List ℕ) → position_or_len (λ b. b == 44) text ≡ length text → joined (with_field (suc n) field (parts_of 44 text)) ≡ text
kept_whole n field text e =
    ap (λ parts. joined (with_field (suc n) field parts)) (slice_split_none (λ b. b == 44) text (uncut_text text (omega (arith, e)))) ∙ append-nil text

-- and else the parts behind the first come behind its comma
behind_first : (n : ℕ) (field first : List ℕ) (parts : List (List ℕ)) → HasFirst parts → joined (with_field (suc n) field (first ∷ parts)) ≡ first ++ 44 ∷ joined (with_field n field parts)
behind_first n field first parts h =
    subst (λ (ps : List (List ℕ)). joined (with_field (suc n) field (first ∷ ps)) ≡ first ++ 44 ∷ joined (with_field n field ps)) (sym h.is) (of_more n h.first h.more)
  where
    of_more : (n : ℕ) (y : List ℕ) (ys : List (List ℕ)) → joined (with_field (suc n) field (first ∷ y ∷ ys)) ≡ first ++ 44 ∷ joined (with_field n field (y ∷ ys))
    of_more zero y ys = refl
    of_more (suc n) y [] = refl
    of_more (suc n) y (z ∷ zs) = refl

pub one_part_on : (n : ℕ) (field text : List ℕ) → position_or_len (λ b. b == 44) text < length text
    → joined (with_field (suc n) field (parts_of 44 text)) ≡ before_first (λ b. b == 44) text ++ 44 ∷ joined (with_field n field (parts_of 44 (after_first (λ b. b == 44) text)))
one_part_on n field text l =
    let rest = after_first (λ b. b == 44) text in
    ap (λ parts. joined (with_field (suc n) field parts)) (slice_split_first (λ b. b == 44) text 0 l)
    ∙ behind_first n field (before_first (λ b. b == 44) text) (parts_of 44 rest) (has_first rest)

-- at the place of the field
pub put_here : (field text : List ℕ) → joined (with_field 0 field (parts_of 44 text)) ≡ field ++ 44 ∷ text
put_here field text =
    let h = has_first text in
    ap (λ parts. joined (field ∷ parts)) h.is ∙ ap (λ t. field ++ 44 ∷ t) (sym (parts_joined text h.first h.more h.is))

-- ---- the steps of the loop: what was written, and what is still to be

abbrev to_come : ℕ → List ℕ → List ℕ
to_come place text = joined (with_field (25 - place) (codes "0") (parts_of 44 text))

-- where a text is cut
pub cut_at : (bs : List ℕ) (r : Option (Bor (List ℕ) × Bor (List ℕ))) → IsSplitOnceResult 44 bs r
    → MatchOption r (position_or_len (λ b. b == 44) bs ≡ length bs)
    (λ x. (position_or_len (λ b. b == 44) bs < length bs) × (x.0.now ≡ before_first (λ b. b == 44) bs) × (x.1.now ≡ after_first (λ b. b == 44) bs))
cut_at bs r h = split_once_first 44 bs r h (omega arith)

-- a part and its comma
pub step_on : (place : ℕ) (out field behind text whole : List ℕ) → place < 25
    → (position_or_len (λ b. b == 44) text < length text) × (field ≡ before_first (λ b. b == 44) text) × (behind ≡ after_first (λ b. b == 44) text)
    → out ++ to_come place text ≡ whole → ((out ++ field) ++ codes ",") ++ to_come (place + 1) behind ≡ whole
step_on place out field behind text whole l cut so =
    let n : 25 - place ≡ suc (25 - (place + 1)) = omega (arith, l) in
    let front = before_first (λ b. b == 44) text in
    let more = ap (λ k. joined (with_field k (codes "0") (parts_of 44 text))) n ∙ one_part_on (25 - (place + 1)) (codes "0") text cut.0 in
    append_assoc (out ++ field) (codes ",") (to_come (place + 1) behind) ∙ append_assoc out field (codes "," ++ to_come (place + 1) behind)
    ∙ ap (λ t. out ++ t)
    (ap (λ (f : List ℕ). f ++ 44 ∷ to_come (place + 1) behind) cut.1 ∙ ap (λ (b : List ℕ). front ++ 44 ∷ to_come (place + 1) b) cut.2 ∙ sym more)
    ∙ so

-- no comma is left
pub step_end : (place : ℕ) (out text whole : List ℕ) → place < 25 → position_or_len (λ b. b == 44) text ≡ length text → out ++ to_come place text ≡ whole → out ++ text ≡ whole
step_end place out text whole l none so =
    let n : 25 - place ≡ suc (25 - (place + 1)) = omega (arith, l) in
    ap (λ t. out ++ t) (sym (ap (λ k. joined (with_field k (codes "0") (parts_of 44 text))) n ∙ kept_whole (25 - (place + 1)) (codes "0") text none)) ∙ so

-- the field's place
pub step_last : (place : ℕ) (out text whole : List ℕ) → 25 ≤ place → out ++ to_come place text ≡ whole → (out ++ codes "0,") ++ text ≡ whole
step_last place out text whole l so =
    let n : 25 - place ≡ 0 = omega (arith, l) in
    append_assoc out (codes "0,") text
    ∙ ap (λ t. out ++ t) (sym (ap (λ k. joined (with_field k (codes "0") (parts_of 44 text))) n ∙ put_here (codes "0") text)) ∙ so

-- ---- the row of a case

older_record_uncut : (r : Record) (last : ℕ) → IsPlainRecord r → last < 2 ^ 64 → All IsUncut (older_record_fields r last)
older_record_uncut r last h small =
    each (older_record_fields r last) (
      decimal_uncut last small,
      (
        date_uncut r.issued h.issued,
        (
          optional_uncut r.deadline h.deadline,
          (
            date_uncut r.ordinary h.ordinary,
            (
              uncut (pending_word r.pending) (pending_short r.pending),
              (optional_uncut r.affirmed h.affirmed, (optional_uncut r.set_expiry h.set_expiry, (decimal_uncut r.extensions (omega (arith, h.extensions)), tt))),
            ),
          ),
        ),
      ),
    )

older_judged_uncut : (r : Option Record) (kept : Option KeptList) → IsJudged r kept → All IsUncut (older_judged_fields r kept)
older_judged_uncut None None h = judged_uncut None None h
older_judged_uncut None (Some kept) h = absurd h
older_judged_uncut (Some r) None h = absurd h
older_judged_uncut (Some r) (Some kept) h =
    let k = h.1 in
    All-cons IsUncut (decision_word r.decision) (older_record_fields r kept.last ++ list_fields kept.list) (uncut (decision_word r.decision) (decision_short r.decision))
    (All-append IsUncut (older_record_fields r kept.last) (list_fields kept.list) (older_record_uncut r kept.last h.0 k.last) (list_uncut kept.list k.list))

older_uncut : (c : KeptCase) → IsPlainCase c → All IsUncut (older_filing_fields c)
older_uncut c h =
    All-append IsUncut (notice_parts c.submission c.received c.form c.life.end) (older_judged_fields c.life.determination c.list) (notice_uncut c h)
    (older_judged_uncut c.life.determination c.list h.judged)

older_parts : (c : KeptCase) → IsPlainCase c → parts_of 44 (older_filing_row c) ≡ older_filing_fields c
older_parts c h = joined_parts _ _ (older_uncut c h)

none_text : codes "0" ≡ decimal 0
unfolding digits
none_text = refl

-- the fields of today
put_in : (s : Submission) (received : Date) (form : Option Date) (end : Option End) (r : Option Record) (kept : Option KeptList) → IsJudged r kept → IfSome r (λ (x : Record). x.revisions ≡ 0)
    → with_field 25 (codes "0") (notice_parts s received form end ++ older_judged_fields r kept) ≡ notice_parts s received form end ++ judged_fields r kept
put_in s received form end None None h none = refl
put_in s received form end None (Some kept) h none = absurd h
put_in s received form end (Some r) None h none = absurd h
put_in s received form end (Some r) (Some kept) h none =
    ap (λ f. notice_parts s received form end ++ decision_word r.decision ∷ (older_record_fields r kept.last ++ f ∷ list_fields kept.list)) (none_text ∙ ap decimal (sym none))

pub renewed : (c : KeptCase) → IsPlainCase c → IsUnrevised c → renewed_row (older_filing_row c) ≡ filing_row c
renewed c h none =
    ap (λ parts. joined (with_field 25 (codes "0") parts)) (older_parts c h)
    ∙ ap joined (put_in c.submission c.received c.form c.life.end c.life.determination c.list h.judged none)
