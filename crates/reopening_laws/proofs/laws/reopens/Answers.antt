use Rattle.desk_tables.proofs.RowFacts.{HaveOneValue}
use Rattle.desk_tables.proofs.SteppedDesks.{RegisterGoesOn}
use Rattle.reopening_laws.proofs.PartsOf.{PartsGrow}
use Rattle.reopening_laws.proofs.OpensAgain.{opens_again}
use Rattle.reopening_laws.proofs.laws.reopens.Goals as goal

pub returns : goal.returns
returns c =
    let one : HaveOneValue = record {
      airfields = c.one_airfield_row.ensures;
      runways = c.one_runway_row.ensures;
      days = c.one_desk_row.ensures;
      cases = c.one_filing_row.ensures;
      requests = c.one_receipt_row.ensures;
    } in
    let law : RegisterGoesOn = record { register = c.register_goes_on.ensures; names = c.names_go_on.ensures } in
    let grow : PartsGrow = record {
      nothing = c.nothing_is_part.ensures;
      airport = c.airport_comes.ensures;
      heliport = c.heliport_comes.ensures;
      runway = c.runway_comes.ensures;
      whole_is = c.all_is_whole.ensures;
    } in
    opens_again one law grow
