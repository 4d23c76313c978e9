use Rattle.std.proofs.Common.{arith, ◌≡◌, ◌<◌, ◌^◌, ◌++◌, List, ℕ, codes, refl, sym, ◌∙◌}
use Rattle.determination_dates.specs.Days.{IsLimited}
use Rattle.wire_values.specs.Commas.{with_commas}
use Rattle.wire_values.specs.Words.{IsAnyLimited}
use Rattle.wire_replies.specs.Entries.{list_text}
use Rattle.row_cases.specs.Entries.{IsList}
use Rattle.row_receipts.specs.Fields.{issued_fields}
use Rattle.row_receipts.specs.declared.determination.Judged.{Judged}
use Rattle.row_receipts.proofs.OutcomeChoices.{at_none, at_some}
use Rattle.row_receipts.proofs.DeterminedFacts.{determined_told, revision_issued, revise_short}
use Rattle.row_receipts.proofs.determination.revised.Goals as goal

pub returns-in_default : goal.returns-in_default
returns-in_default c = λ v good e.
    at_none _ c.in_default.is (c.in_ok-judged.ensures.none revise_short) c.args.text.now (sym c.new.ensures) (revision_issued c.args.case (omega arith) v c.args.text.now good e)

pub returns : goal.returns
returns c =
    let took =
    at_some
    (λ (j : Judged). (rest : List (List ℕ))
    × (c.new.result ≡ issued_fields (codes "revise") c.args.case j.told.issue.decision j.told.issue.last j.told.issue.issued j.told.course.deadline j.told.course.effective j.told.course.expiry ++ rest)
    × (with_commas rest ≡ list_text j.list)) _ _ c.in-Some.is c.in_ok-judged.ensures.took in
    let limits =
    at_some (λ (j : Judged). IsLimited j.told.issue.issued × IsAnyLimited j.told.course.deadline × IsAnyLimited j.told.course.effective × IsAnyLimited j.told.course.expiry) _ _ c.in-Some.is
    c.in_ok-judged.ensures.limited in
    let small = at_some (λ (j : Judged). j.told.issue.last < 2 ^ 64) _ _ c.in-Some.is c.in_ok-judged.ensures.small in
    let whole = at_some (λ (j : Judged). IsList j.list) _ _ c.in-Some.is c.in_ok-judged.ensures.whole in
    let issue = c.in-Some.judged.told.issue in
    let course = c.in-Some.judged.told.course in
    rw c.revision.ensures (
      (refl, small, limits.0, limits.1, limits.2, limits.3, whole),
      determined_told (codes "revise") c.args.text.now c.args.case issue.decision issue.last issue.issued course.deadline course.effective course.expiry took.0 c.in-Some.judged.list (sym c.new.ensures ∙ took.1) took.2,
    )
