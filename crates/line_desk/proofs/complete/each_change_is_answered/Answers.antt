use Rattle.line_desk.proofs.CompleteFacts.{answered, steady}
use Rattle.line_desk.proofs.complete.each_change_is_answered.Goals as goal

pub returns-clause-answered : goal.returns-clause-answered
returns-clause-answered g c = answered g.K.Keeper.IsSteady g.K.Keeper.faults

pub returns-clause-steady : goal.returns-clause-steady
returns-clause-steady g c = steady g.K.Keeper.IsSteady g.K.Keeper.faults
