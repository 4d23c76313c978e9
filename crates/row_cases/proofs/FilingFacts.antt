-- The fields of the rows of cases.
use Rattle.std.proofs.Common.{arith, ℕ, ◌≡◌, ◌<◌, ◌≤ℤ◌, ◌^◌, List, [], ◌∷◌, ◌++◌, map, length, Option, Some, None, All, codes, refl, ap, sym, subst, ◌∙◌}
use Rattle.std.specs.Fmt.{decimal}
use Rattle.std.proofs.lemmas.List.Elements.{All-nil, All-cons, All-append, All-head, All-tail}
use Rattle.jiff_core.specs.declared.civil.date.Date.{Date}
use Rattle.airfields.specs.Sites.{Site}
use Rattle.finding_lists.specs.declared.finding.Finding.{Finding}
use Rattle.determination_dates.specs.Days.{IsLimited}
use Rattle.determination_dates.specs.Text.{date_text}
use Rattle.determination_dates.specs.declared.determination.Record.{Record}
use Rattle.determination_dates.specs.declared.life.End.{End}
use Rattle.case_requests.specs.declared.submission.Submission.{Submission}
use Rattle.case_records.specs.declared.case.KeptList.{KeptList}
use Rattle.case_records.specs.declared.case.KeptCase.{KeptCase}
use Rattle.wire_values.specs.Words.{kind_word, urgency_word, statement_word, decision_word, optional_date, IsAnyLimited}
use Rattle.wire_values.specs.Wanted.{Choice, DateWanted, OptionalDateWanted, mobile_limit}
use Rattle.wire_values.specs.Plainness.{IsUsual}
use Rattle.wire_values.proofs.FieldFacts.{fits_short, short_word}
use Rattle.wire_values.proofs.LimitFacts.{limit_of_kind}
use Rattle.wire_cursor.specs.Shape.{HasShape}
use Rattle.wire_cursor.specs.Groups.{site_shape, site_fields, IsValidSite}
use Rattle.wire_cursor.proofs.ShapeLaws.{AllUsual}
use Rattle.wire_cursor.proofs.GroupFacts.{site_usual}
use Rattle.wire_requests.specs.Forms.{submission_shape}
use Rattle.wire_requests.specs.Limits.{IsValidSubmission}
use Rattle.wire_requests.specs.Spellings.{submission_fields}
use Rattle.wire_replies.specs.Entries.{entry_text}
use Rattle.row_register.specs.Parts.{parts_of}
use Rattle.row_register.proofs.PartFacts.{IsUncut, joined_parts, parts_joined}
use Rattle.row_register.proofs.FieldShapes.{uncut, uncut_fields}
use Rattle.row_cases.specs.Entries.{IsEntry, IsList, list_fields}
use Rattle.row_cases.specs.Filings.{end_word, pending_word, record_fields, judged_fields, notice_parts, filing_fields, filing_row, IsPlainRecord, IsJudged, IsPlainCase}
use Rattle.row_cases.proofs.Plain.{plain_avoids, decimal_plain}
use Rattle.row_cases.proofs.WordFacts.{end_short, decision_short, pending_short}
use Rattle.row_cases.proofs.EntryFacts.{entry_avoids}

-- ---- a notice

urgency_usual : IsUsual (Choice urgency_word)
urgency_usual = (short_word _ (omega arith) (omega arith) refl, short_word _ (omega arith) (omega arith) refl)

statement_usual : IsUsual (Choice statement_word)
statement_usual = (short_word _ (omega arith) (omega arith) refl, short_word _ (omega arith) (omega arith) refl)

submission_usual : AllUsual submission_shape
submission_usual = (tt, (tt, (tt, (urgency_usual, (statement_usual, site_usual)))))

site_has_shape : (before : List ℕ) (s : Site) → IsValidSite s → HasShape site_shape before (site_fields s)
site_has_shape before s h =
    let l = h.0 in
    let most : s.mobile ≤ℤ mobile_limit (kind_word s.kind) = subst (λ m. s.mobile ≤ℤ m) (sym (limit_of_kind s.kind)) l.mobile_most in (
      (s.at.x, refl, (s.at.on_grid.west, s.at.on_grid.east)),
      (
        (s.at.y, refl, (s.at.on_grid.south, s.at.on_grid.north)),
        (
          (s.terrain, refl, (l.terrain_least, l.terrain_most)),
          (
            (s.height, refl, (l.height_least, l.height_most)),
            ((s.kind, refl), ((s.mobile, refl, (l.mobile_least, most)), ((s.flags, refl), ((s.on, refl, h.1), tt)))),
          ),
        ),
      ),
    )

submission_has_shape : (s : Submission) → IsValidSubmission s → HasShape submission_shape [] (submission_fields s)
submission_has_shape s h = (
  (s.start, refl, h.start),
  ((s.permit, refl, h.permit), ((s.fcc, refl, h.fcc), ((s.emergency, refl), ((s.statement, refl), site_has_shape (statement_word s.statement) s.filing h.filing)))),
)

submission_uncut : (s : Submission) → IsValidSubmission s → All IsUncut (submission_fields s)
submission_uncut s h = uncut_fields submission_shape submission_usual (submission_fields s) (submission_has_shape s h)

-- ---- single fields

pub date_uncut : (d : Date) → IsLimited d → IsUncut (date_text d)
date_uncut d h = uncut (date_text d) (fits_short DateWanted tt [] (date_text d) (d, refl, h))

pub optional_uncut : (d : Option Date) → IsAnyLimited d → IsUncut (optional_date d)
optional_uncut d h = uncut (optional_date d) (fits_short OptionalDateWanted tt [] (optional_date d) (d, refl, h))

pub decimal_uncut : (n : ℕ) → n < 2 ^ 64 → IsUncut (decimal n)
decimal_uncut n h = plain_avoids 44 (omega arith) (decimal n) (decimal_plain n h)

-- each of some fields
abbrev pub Each : List (List ℕ) → Type 0
Each [] = Unit {0}
Each (f ∷ fs) = IsUncut f × Each fs

pub each : (fields : List (List ℕ)) → Each fields → All IsUncut fields
each [] h = All-nil IsUncut
each (f ∷ fs) h = All-cons IsUncut f fs h.0 (each fs h.1)

-- ---- a list and a determination

pub entries_uncut : (list : List Finding) → All IsEntry list → All IsUncut (map entry_text list)
entries_uncut [] h = All-nil IsUncut
entries_uncut (f ∷ fs) h =
    All-cons IsUncut (entry_text f) (map entry_text fs) (entry_avoids 44 (omega arith) refl f (All-head IsEntry f fs h)) (entries_uncut fs (All-tail IsEntry f fs h))

pub list_uncut : (list : List Finding) → IsList list → All IsUncut (list_fields list)
list_uncut list h = All-cons IsUncut (decimal (length list)) (map entry_text list) (decimal_uncut (length list) h.many) (entries_uncut list h.entries)

record_uncut : (r : Record) (last : ℕ) → IsPlainRecord r → last < 2 ^ 64 → All IsUncut (record_fields r last)
record_uncut r last h small =
    each (record_fields r last) (
      decimal_uncut last small,
      (
        date_uncut r.issued h.issued,
        (
          optional_uncut r.deadline h.deadline,
          (
            date_uncut r.ordinary h.ordinary,
            (
              uncut (pending_word r.pending) (pending_short r.pending),
              (optional_uncut r.affirmed h.affirmed, (optional_uncut r.set_expiry h.set_expiry, (decimal_uncut r.extensions (omega (arith, h.extensions)), (decimal_uncut r.revisions (omega (arith, h.revisions)), tt)))),
            ),
          ),
        ),
      ),
    )

dash_uncut : All IsUncut (judged_fields None None)
dash_uncut = each (judged_fields None None) (uncut (codes "-") (short_word (codes "-") (omega arith) (omega arith) refl), tt)

pub judged_uncut : (r : Option Record) (kept : Option KeptList) → IsJudged r kept → All IsUncut (judged_fields r kept)
judged_uncut None None h = dash_uncut
judged_uncut None (Some kept) h = absurd h
judged_uncut (Some r) None h = absurd h
judged_uncut (Some r) (Some kept) h =
    let k = h.1 in
    All-cons IsUncut (decision_word r.decision) (record_fields r kept.last ++ list_fields kept.list) (uncut (decision_word r.decision) (decision_short r.decision))
    (All-append IsUncut (record_fields r kept.last) (list_fields kept.list) (record_uncut r kept.last h.0 k.last) (list_uncut kept.list k.list))

-- ---- the row

standing_uncut : (received : Date) (form : Option Date) (end : Option End) → IsLimited received → IsAnyLimited form → All IsUncut (date_text received ∷ optional_date form ∷ end_word end ∷ [])
standing_uncut received form end h k = each (date_text received ∷ optional_date form ∷ end_word end ∷ []) (date_uncut received h, (optional_uncut form k, (uncut (end_word end) (end_short end), tt)))

pub notice_uncut : (c : KeptCase) → IsPlainCase c → All IsUncut (notice_parts c.submission c.received c.form c.life.end)
notice_uncut c h =
    All-append IsUncut (submission_fields c.submission) (date_text c.received ∷ optional_date c.form ∷ end_word c.life.end ∷ []) (submission_uncut c.submission h.submission)
    (standing_uncut c.received c.form c.life.end h.received h.form)

filing_uncut : (c : KeptCase) → IsPlainCase c → All IsUncut (filing_fields c)
filing_uncut c h =
    All-append IsUncut (notice_parts c.submission c.received c.form c.life.end) (judged_fields c.life.determination c.list) (notice_uncut c h)
    (judged_uncut c.life.determination c.list h.judged)

-- the parts of the row of a case are its fields
pub filing_parts : (c : KeptCase) → IsPlainCase c → (row : List ℕ) → row ≡ filing_row c → parts_of 44 row ≡ filing_fields c
filing_parts c h row e = ap (parts_of 44) e ∙ joined_parts _ _ (filing_uncut c h)

-- and a text with these parts is that row
pub filing_text : (c : KeptCase) (row : List ℕ) → parts_of 44 row ≡ filing_fields c → row ≡ filing_row c
filing_text c row e = parts_joined row _ _ e
