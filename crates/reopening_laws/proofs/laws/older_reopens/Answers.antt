use Rattle.desk_tables.proofs.RowFacts.{HaveOneValue}
use Rattle.desk_tables.proofs.SteppedDesks.{RegisterGoesOn}
use Rattle.reopening_laws.proofs.PartsOf.{PartsGrow}
use Rattle.reopening_laws.proofs.OpensAgain.{first_opens, first_renewed, second_opens, second_renewed}
use Rattle.reopening_laws.proofs.laws.older_reopens.Goals as goal

pub returns-clause-first : goal.returns-clause-first
returns-clause-first c =
    let one : HaveOneValue = record {
      airfields = c.one_airfield_row.ensures;
      runways = c.one_runway_row.ensures;
      days = c.one_desk_row.ensures;
      cases = c.one_filing_row.ensures;
      requests = c.one_receipt_row.ensures;
    } in
    let law : RegisterGoesOn = record { register = c.register_goes_on.ensures; names = c.names_go_on.ensures } in
    let grow : PartsGrow = record {
      nothing = c.nothing_is_part.ensures;
      airport = c.airport_comes.ensures;
      heliport = c.heliport_comes.ensures;
      runway = c.runway_comes.ensures;
      whole_is = c.all_is_whole.ensures;
    } in
    λ s kept aged desk rows some unrevised are plain. first_opens one law grow s kept desk rows c.renewed_rows.ensures aged some unrevised are plain

pub returns-clause-second : goal.returns-clause-second
returns-clause-second c =
    let one : HaveOneValue = record {
      airfields = c.one_airfield_row.ensures;
      runways = c.one_runway_row.ensures;
      days = c.one_desk_row.ensures;
      cases = c.one_filing_row.ensures;
      requests = c.one_receipt_row.ensures;
    } in
    let law : RegisterGoesOn = record { register = c.register_goes_on.ensures; names = c.names_go_on.ensures } in
    let grow : PartsGrow = record {
      nothing = c.nothing_is_part.ensures;
      airport = c.airport_comes.ensures;
      heliport = c.heliport_comes.ensures;
      runway = c.runway_comes.ensures;
      whole_is = c.all_is_whole.ensures;
    } in
    λ s kept aged desk rows some unrevised are. second_opens one law grow s kept desk rows c.renewed_rows.ensures aged some unrevised are

pub returns-clause-first_renewed : goal.returns-clause-first_renewed
returns-clause-first_renewed c =
    let one : HaveOneValue = record {
      airfields = c.one_airfield_row.ensures;
      runways = c.one_runway_row.ensures;
      days = c.one_desk_row.ensures;
      cases = c.one_filing_row.ensures;
      requests = c.one_receipt_row.ensures;
    } in
    let law : RegisterGoesOn = record { register = c.register_goes_on.ensures; names = c.names_go_on.ensures } in
    let grow : PartsGrow = record {
      nothing = c.nothing_is_part.ensures;
      airport = c.airport_comes.ensures;
      heliport = c.heliport_comes.ensures;
      runway = c.runway_comes.ensures;
      whole_is = c.all_is_whole.ensures;
    } in
    λ s kept aged desk rows some unrevised are. first_renewed one law grow s kept desk rows c.renewed_rows.ensures aged some unrevised are

pub returns-clause-second_renewed : goal.returns-clause-second_renewed
returns-clause-second_renewed c =
    let one : HaveOneValue = record {
      airfields = c.one_airfield_row.ensures;
      runways = c.one_runway_row.ensures;
      days = c.one_desk_row.ensures;
      cases = c.one_filing_row.ensures;
      requests = c.one_receipt_row.ensures;
    } in
    let law : RegisterGoesOn = record { register = c.register_goes_on.ensures; names = c.names_go_on.ensures } in
    let grow : PartsGrow = record {
      nothing = c.nothing_is_part.ensures;
      airport = c.airport_comes.ensures;
      heliport = c.heliport_comes.ensures;
      runway = c.runway_comes.ensures;
      whole_is = c.all_is_whole.ensures;
    } in
    λ s kept aged desk rows some unrevised are. second_renewed one law grow s kept desk rows c.renewed_rows.ensures aged some unrevised are
