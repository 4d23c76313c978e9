use Rattle.std.proofs.Common.{Some, sym, ap}
use Rattle.case_records.specs.declared.case.KeptCase.{KeptCase}
use Rattle.case_records.specs.declared.case.KeptList.{KeptList}
use Rattle.desk_machine.specs.States.{issued_case, with_filing}
use Rattle.filing_desk.proofs.RowFacts.{changed_found}
use Rattle.filing_desk.proofs.desk.Desk.change_issued.Goals as goal

pub returns : goal.returns
returns c =
    let there = c.in-Some.case.now in
    let site = c.args.filing.now in
    let with : KeptList → KeptCase = λ l. record there { submission = with_filing site there.submission; life = c.args.life; list = Some l } in
    changed_found c.put_filing.result c.args.list.now c.put_filing.new.self c.args.number (issued_case site c.args.life c.args.rests_on.now) _ there (with c.in_ok-copy.field-0) (sym c.in-Some.ensures.value)
    (ap with c.in_ok-copy.ensures) c.put_filing.ensures
