use Rattle.std.proofs.Common.{◌≡◌, sym, ◌∙◌}
use Rattle.case_records.specs.declared.case.KeptCase.{KeptCase}
use Rattle.row_cases.specs.Filings.{filing_fields, IsPlainCase}
use Rattle.row_cases.proofs.Choices.{at_none, at_some}
use Rattle.row_cases.proofs.FilingFacts.{filing_parts, filing_text}
use Rattle.row_cases.proofs.filing.read_filing_row.Goals as goal

pub returns-in_default-2-clause-none : goal.returns-in_default-2-clause-none
returns-in_default-2-clause-none c = λ v is.
    at_none _ c.in_default-2.is c.in_ok-case.ensures.none v.case is.plain (c.new.ensures ∙ filing_parts v.case is.plain c.args.row.now is.row_is)

pub returns-clause-some : goal.returns-clause-some
returns-clause-some c =
    let took = at_some (λ (v : KeptCase). c.new.result ≡ filing_fields v) _ _ c.in-Some-2.is c.in_ok-case.ensures.took in
    record {
      key_is = c.in-Some.ensures.some;
      row_is = filing_text c.in-Some-2.case c.args.row.now (sym c.new.ensures ∙ took);
      numbered = c.in-Some.ensures.numbered;
      plain = at_some IsPlainCase _ _ c.in-Some-2.is c.in_ok-case.ensures.plain;
    }
