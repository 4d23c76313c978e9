use Rattle.reopening_laws.proofs.OneReading.{one_desk}
use Rattle.reopening_laws.proofs.laws.opened_is_one.Goals as goal

pub returns : goal.returns
returns c = one_desk (record {
  airfields = c.one_airfield_row.ensures;
  runways = c.one_runway_row.ensures;
  days = c.one_desk_row.ensures;
  cases = c.one_filing_row.ensures;
  requests = c.one_receipt_row.ensures;
})
