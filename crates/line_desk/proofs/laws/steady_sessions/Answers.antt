use Rattle.line_desk.proofs.PlainFacts.{answered, front, read, begun}
use Rattle.line_desk.proofs.laws.steady_sessions.Goals as goal

pub returns-clause-answered : goal.returns-clause-answered
returns-clause-answered g c = answered g.K.Keeper.Tells g.K.Keeper.IsSteady g.K.Keeper.faults

pub returns-clause-front : goal.returns-clause-front
returns-clause-front g c = front g.K.Keeper.Tells g.K.Keeper.IsSteady g.K.Keeper.faults

pub returns-clause-read : goal.returns-clause-read
returns-clause-read g c = read g.K.Keeper.Tells g.K.Keeper.IsSteady g.K.Keeper.faults

pub returns-clause-begun : goal.returns-clause-begun
returns-clause-begun g c = begun g.K.Keeper.Tells g.K.Keeper.IsSteady g.K.Keeper.faults
