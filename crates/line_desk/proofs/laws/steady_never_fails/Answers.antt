use Rattle.line_desk.proofs.PlainFacts.{plain, steady_on}
use Rattle.line_desk.proofs.laws.steady_never_fails.Goals as goal

pub returns-clause-plain : goal.returns-clause-plain
returns-clause-plain g c = plain g.K.Keeper.Tells g.K.Keeper.IsSteady g.K.Keeper.faults

pub returns-clause-steady : goal.returns-clause-steady
returns-clause-steady g c = steady_on g.K.Keeper.Tells g.K.Keeper.IsSteady g.K.Keeper.faults
