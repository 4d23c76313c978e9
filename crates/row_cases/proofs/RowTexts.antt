-- The texts of rows, written in parts.
use Rattle.std.proofs.Common.{ℕ, ◌≡◌, List, [], ◌∷◌, ◌++◌, Result, Ok, Err, OnErr, ap, sym, ◌∙◌}
use Rattle.std.specs.Fmt.{decimal}
use Rattle.grid_exact.specs.Texts.{Extends}
use Rattle.grid_exact.proofs.Extending.{Extends-then}
use Rattle.determination_dates.specs.Text.{date_text}
use Rattle.determination_dates.specs.declared.determination.Record.{Record}
use Rattle.case_records.specs.declared.case.KeptList.{KeptList}
use Rattle.case_records.specs.declared.case.KeptCase.{KeptCase}
use Rattle.wire_values.specs.Commas.{joined, with_commas}
use Rattle.wire_values.specs.Words.{decision_word, optional_date, urgency_word, statement_word}
use Rattle.wire_cursor.specs.Groups.{site_fields}
use Rattle.wire_requests.specs.Spellings.{submission_fields}
use Rattle.wire_replies.specs.Entries.{list_text}
use Rattle.row_cases.specs.Entries.{list_fields}
use Rattle.row_cases.specs.Filings.{end_word, pending_word, record_fields, judged_fields, filing_row}
use Rattle.row_cases.proofs.ListFacts.{with_commas_append, joined_append, list_text_fields}

-- ---- a determination and its list

abbrev pub issue_fields : Record → ℕ → List (List ℕ)
issue_fields r last = decision_word r.decision ∷ decimal last ∷ date_text r.issued ∷ optional_date r.deadline ∷ date_text r.ordinary ∷ []

abbrev pub course_fields : Record → List (List ℕ)
course_fields r = pending_word r.pending ∷ optional_date r.affirmed ∷ optional_date r.set_expiry ∷ decimal r.extensions ∷ decimal r.revisions ∷ []

pub determination_text : (r : Record) (kept : KeptList) → with_commas (decision_word r.decision ∷ (record_fields r kept.last ++ list_fields kept.list))
    ≡ (with_commas (issue_fields r kept.last) ++ with_commas (course_fields r)) ++ list_text kept.list
determination_text r kept =
    with_commas_append (decision_word r.decision ∷ record_fields r kept.last) (list_fields kept.list)
    ∙ ap (λ t. t ++ with_commas (list_fields kept.list)) (with_commas_append (issue_fields r kept.last) (course_fields r))
    ∙ ap (λ t. (with_commas (issue_fields r kept.last) ++ with_commas (course_fields r)) ++ t) (sym (list_text_fields kept.list))

-- ---- a row

abbrev standing_fields : KeptCase → List (List ℕ)
standing_fields c = date_text c.received ∷ optional_date c.form ∷ end_word c.life.end ∷ []

abbrev more_fields : KeptCase → List (List ℕ)
more_fields c = let s = c.submission in optional_date s.permit ∷ optional_date s.fcc ∷ urgency_word s.emergency ∷ statement_word s.statement ∷ site_fields s.filing

pub row_text : (c : KeptCase) → filing_row c
    ≡ (joined (submission_fields c.submission) ++ with_commas (standing_fields c)) ++ with_commas (judged_fields c.life.determination c.list)
row_text c =
    let start = date_text (let s = c.submission in s.start) in
    joined_append start (more_fields c ++ standing_fields c) (judged_fields c.life.determination c.list)
    ∙ ap (λ t. t ++ with_commas (judged_fields c.life.determination c.list)) (joined_append start (more_fields c) (standing_fields c))

-- ---- a part of a row

pub grown : {T E : Type 0} (r : Result T E) (old first second third x y : List ℕ) → first ≡ old ++ x → second ≡ first ++ y → OnErr r (Extends second third) → OnErr r (Extends old third)
grown (Ok v) old first second third x y e f h = tt
grown (Err v) old first second third x y e f h = Extends-then old first third x e (Extends-then first second third y f h)
