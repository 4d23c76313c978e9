use Rattle.airport_register.proofs.Fields.{found_held_in}
use Rattle.airport_register.proofs.register.Register.get.Goals as goal

pub returns-clause-held : goal.returns-clause-held
returns-clause-held c = found_held_in c.args.id.now c.self.inside.items c.find.result c.self.invariant c.find.ensures
