use Rattle.std.proofs.Common.{subst, IfSome}
use Rattle.oe_keeper.specs.Kept.{place}
use Rattle.desk_tables.specs.Parts.{IsNext}
use Rattle.desk_tables.specs.Values.{Row, IsRowOf}
use Rattle.desk_tables.proofs.RowFacts.{HaveOneValue, bad_value}
use Rattle.desk_tables.proofs.opening.read_one.Goals as goal

pub returns-in-Some-clause-bad : goal.returns-in-Some-clause-bad
returns-in-Some-clause-bad c =
    let one : HaveOneValue = record {
      airfields = c.one_airfield_row.ensures;
      runways = c.one_runway_row.ensures;
      days = c.one_desk_row.ensures;
      cases = c.one_filing_row.ensures;
      requests = c.one_receipt_row.ensures;
    } in
    let r : Row = ((place c.args.table, c.args.key.now), c.args.row.now) in
    bad_value one r c.in-Some.value (IsNext c.args.layout c.args.part.now) c.take.result
    (subst (λ o. IfSome o (λ v. IsRowOf r v)) c.in-Some.is c.in_ok-value.ensures.some) c.take.ensures.bad
