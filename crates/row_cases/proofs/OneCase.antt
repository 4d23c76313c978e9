-- A case is known by its row.
use Rattle.std.proofs.Common.{arith, ℕ, ◌≡◌, List, ◌++◌, Bool, Option, Some, None, take, drop, refl, ap, sym, ◌∙◌}
use Rattle.std.proofs.lemmas.Fmt.{decimal_injective}
use Rattle.jiff_core.specs.declared.civil.date.Date.{Date}
use Rattle.airfields.specs.Sites.{Site}
use Rattle.finding_lists.specs.declared.finding.Finding.{Finding}
use Rattle.determination_dates.specs.declared.determination.Decision.{Decision}
use Rattle.determination_dates.specs.declared.determination.Record.{Record}
use Rattle.determination_dates.specs.declared.life.End.{End}
use Rattle.determination_dates.proofs.Texts.{one_date}
use Rattle.case_requests.specs.declared.submission.Submission.{Submission}
use Rattle.case_records.specs.declared.case.KeptList.{KeptList}
use Rattle.case_records.specs.declared.case.KeptCase.{KeptCase}
use Rattle.wire_values.specs.Words.{urgency_word, statement_word}
use Rattle.wire_values.proofs.DateNames.{one_optional}
use Rattle.wire_values.proofs.Named.{one_choice}
use Rattle.wire_cursor.proofs.GroupFacts.{at, one_site}
use Rattle.wire_requests.specs.Limits.{IsValidSubmission}
use Rattle.wire_requests.specs.Spellings.{submission_fields}
use Rattle.row_cases.specs.Entries.{list_fields}
use Rattle.row_cases.specs.Filings.{pending_word, record_fields, judged_fields, filing_fields, IsPlainRecord, IsKeptList, IsJudged, IsPlainCase, IsFilingRow}
use Rattle.row_cases.specs.declared.filing.FilingRow.{FilingRow}
use Rattle.row_cases.proofs.WordFacts.{one_end, one_decision, decided}
use Rattle.row_cases.proofs.KeyFacts.{one_case}
use Rattle.row_cases.proofs.OneEntry.{one_list}
use Rattle.row_cases.proofs.FilingFacts.{filing_parts}

made_submission : Date → Option Date → Option Date → Bool → Bool → Site → Submission
made_submission start permit fcc emergency statement filing =
    record { start = start; permit = permit; fcc = fcc; emergency = emergency; statement = statement; filing = filing }

same_submission : (a b : Submission) → a.start ≡ b.start → a.permit ≡ b.permit → a.fcc ≡ b.fcc → a.emergency ≡ b.emergency → a.statement ≡ b.statement → a.filing ≡ b.filing
    → made_submission a.start a.permit a.fcc a.emergency a.statement a.filing ≡ made_submission b.start b.permit b.fcc b.emergency b.statement b.filing
same_submission a b s p f e t g = cc

one_submission : (a b : Submission) → IsValidSubmission a → IsValidSubmission b → submission_fields a ≡ submission_fields b → a ≡ b
unfolding made_submission
one_submission a b h k e =
    same_submission a b (one_date a.start b.start h.start k.start (at 0 e)) (one_optional a.permit b.permit h.permit k.permit (at 1 e))
    (one_optional a.fcc b.fcc h.fcc k.fcc (at 2 e)) (one_choice urgency_word refl refl a.emergency b.emergency (at 3 e))
    (one_choice statement_word refl refl a.statement b.statement (at 4 e)) (one_site a.filing b.filing h.filing k.filing (ap (drop 5) e))

made_record : Date → Decision → Option Date → Date → Bool → Option Date → Option Date → ℕ → ℕ → Record
made_record issued decision deadline ordinary pending affirmed set_expiry extensions revisions = record {
  issued = issued;
  decision = decision;
  deadline = deadline;
  ordinary = ordinary;
  pending = pending;
  affirmed = affirmed;
  set_expiry = set_expiry;
  extensions = extensions;
  revisions = revisions;
}

same_record : (a b : Record) → a.issued ≡ b.issued → a.decision ≡ b.decision → a.deadline ≡ b.deadline → a.ordinary ≡ b.ordinary → a.pending ≡ b.pending → a.affirmed ≡ b.affirmed
    → a.set_expiry ≡ b.set_expiry → a.extensions ≡ b.extensions → a.revisions ≡ b.revisions
    → made_record a.issued a.decision a.deadline a.ordinary a.pending a.affirmed a.set_expiry a.extensions a.revisions
    ≡ made_record b.issued b.decision b.deadline b.ordinary b.pending b.affirmed b.set_expiry b.extensions b.revisions
same_record a b i d l o p f s x v = cc

one_record : (a b : Record) {more others : List (List ℕ)} (m n : ℕ) → IsPlainRecord a → IsPlainRecord b → a.decision ≡ b.decision → record_fields a m ++ more ≡ record_fields b n ++ others → a ≡ b
unfolding made_record
one_record a b m n h k d e =
    same_record a b (one_date a.issued b.issued h.issued k.issued (at 1 e)) d (one_optional a.deadline b.deadline h.deadline k.deadline (at 2 e))
    (one_date a.ordinary b.ordinary h.ordinary k.ordinary (at 3 e)) (one_choice pending_word refl refl a.pending b.pending (at 4 e))
    (one_optional a.affirmed b.affirmed h.affirmed k.affirmed (at 5 e)) (one_optional a.set_expiry b.set_expiry h.set_expiry k.set_expiry (at 6 e))
    (decimal_injective a.extensions b.extensions (omega (arith, h.extensions)) (omega (arith, k.extensions)) (at 7 e))
    (decimal_injective a.revisions b.revisions (omega (arith, h.revisions)) (omega (arith, k.revisions)) (at 8 e))

made_kept : ℕ → List Finding → KeptList
made_kept last list = record { last = last; list = list }

one_kept : (a b : KeptList) (r s : Record) → IsKeptList a → IsKeptList b → record_fields r a.last ++ list_fields a.list ≡ record_fields s b.last ++ list_fields b.list → a ≡ b
unfolding made_kept
one_kept a b r s h k e =
    ap (λ n. made_kept n a.list) (decimal_injective a.last b.last h.last k.last (at 0 e))
    ∙ ap (made_kept b.last) (one_list a.list b.list (let x = h.list in x.entries) (let x = k.list in x.entries) (ap (drop 10) e))

-- a determination and its list
record AreSame (r s : Option Record) (a b : Option KeptList) : Type 0 where
  records : r ≡ s
  lists : a ≡ b

one_judged : (r s : Option Record) (a b : Option KeptList) → IsJudged r a → IsJudged s b → judged_fields r a ≡ judged_fields s b → AreSame r s a b
one_judged None None None None h k e = record { records = refl; lists = refl }
one_judged None s (Some a) b h k e = absurd h
one_judged None None None (Some b) h k e = absurd k
one_judged None (Some s) None None h k e = absurd k
one_judged None (Some s) None (Some b) h k e = absurd (decided s.decision (sym (at 0 e)))
one_judged (Some r) s None b h k e = absurd h
one_judged (Some r) None (Some a) None h k e = absurd (decided r.decision (at 0 e))
one_judged (Some r) None (Some a) (Some b) h k e = absurd k
one_judged (Some r) (Some s) (Some a) None h k e = absurd k
one_judged (Some r) (Some s) (Some a) (Some b) h k e =
    let rest = ap (drop 1) e in
    record { records = ap Some (one_record r s a.last b.last h.0 k.0 (one_decision r.decision s.decision (at 0 e)) rest); lists = ap Some (one_kept a b r s h.1 k.1 rest) }

made_case : Submission → Date → Option Date → Option End → Option Record → Option KeptList → KeptCase
made_case submission received form end determination list =
    record { submission = submission; received = received; form = form; life = record { end = end; determination = determination }; list = list }

same_case : (a b : KeptCase) → a.submission ≡ b.submission → a.received ≡ b.received → a.form ≡ b.form → a.life.end ≡ b.life.end → a.life.determination ≡ b.life.determination → a.list ≡ b.list
    → made_case a.submission a.received a.form a.life.end a.life.determination a.list ≡ made_case b.submission b.received b.form b.life.end b.life.determination b.list
same_case a b s r f e d l = cc

one_of_fields : (a b : KeptCase) → IsPlainCase a → IsPlainCase b → filing_fields a ≡ filing_fields b → a ≡ b
unfolding made_case
one_of_fields a b h k e =
    let judged = one_judged a.life.determination b.life.determination a.list b.list h.judged k.judged (ap (drop 16) e) in
    same_case a b (one_submission a.submission b.submission h.submission k.submission (ap (take 13) e)) (one_date a.received b.received h.received k.received (at 13 e))
    (one_optional a.form b.form h.form k.form (at 14 e)) (one_end a.life.end b.life.end (at 15 e)) judged.records judged.lists

made_row : ℕ → KeptCase → FilingRow
made_row number c = record { number = number; case = c }

pub one_filing : (key row : List ℕ) (a b : FilingRow) → IsFilingRow key row a → IsFilingRow key row b → a ≡ b
unfolding made_row
one_filing key row a b h k =
    let fields = sym (filing_parts a.case h.plain row h.row_is) ∙ filing_parts b.case k.plain row k.row_is in
    ap (λ n. made_row n a.case) (one_case a.number b.number h.numbered k.numbered (sym h.key_is ∙ k.key_is))
    ∙ ap (made_row b.number) (one_of_fields a.case b.case h.plain k.plain fields)
