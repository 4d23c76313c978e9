use Rattle.line_desk.proofs.CompleteFacts.{accepted, kept, malformed, told}
use Rattle.line_desk.proofs.complete.each_record_is_answered.Goals as goal

pub returns-clause-told : goal.returns-clause-told
returns-clause-told g c = told c.one_reading.ensures.same c.one_reading.ensures.once c.one_reading.ensures.apart

pub returns-clause-kept : goal.returns-clause-kept
returns-clause-kept g c = kept c.one_reading.ensures.same c.one_reading.ensures.once c.one_reading.ensures.apart g.K.Keeper.IsSteady g.K.Keeper.faults g.K.Keeper.Tells

pub returns-clause-accepted : goal.returns-clause-accepted
returns-clause-accepted g c = accepted c.one_reading.ensures.same c.one_reading.ensures.once c.one_reading.ensures.apart

pub returns-clause-malformed : goal.returns-clause-malformed
returns-clause-malformed g c = malformed c.one_reading.ensures.same c.one_reading.ensures.once c.one_reading.ensures.apart
