use Rattle.std.proofs.Common.{Option, sym, ap}
use Rattle.case_records.specs.declared.case.KeptCase.{KeptCase}
use Rattle.case_records.specs.declared.case.KeptList.{KeptList}
use Rattle.filing_desk.proofs.RowFacts.{changed_found}
use Rattle.filing_desk.proofs.desk.Desk.change_life.Goals as goal

pub returns : goal.returns
returns c =
    let there = c.in-Some.case.now in
    changed_found c.put_filing.result c.args.list.now c.put_filing.new.self c.args.number (λ (d : KeptCase). record d { life = c.args.life }) _ there (record there { life = c.args.life; list = c.in_ok-copy_of.field-0 }) (sym c.in-Some.ensures.value)
    (ap (λ (l : Option KeptList). record there { life = c.args.life; list = l }) c.in_ok-copy_of.ensures) c.put_filing.ensures
