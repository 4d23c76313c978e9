use Rattle.std.proofs.Common.{sym, ◌∙◌}
use Rattle.row_register.proofs.PartFacts.{where_none, where_some, parts_pair}
use Rattle.row_register.proofs.RunwayFacts.{key_parts}
use Rattle.row_register.proofs.runway.names_of.Goals as goal

pub returns-clause-some : goal.returns-clause-some
returns-clause-some c = where_some c.names.result (λ n took. parts_pair 32 c.args.key.now n.id n.name (sym c.new.ensures ∙ took)) c.names.ensures.took

pub returns-clause-none : goal.returns-clause-none
returns-clause-none c =
    where_none c.names.result (λ misses id name p q e. misses id name p q (c.new.ensures ∙ key_parts c.args.key.now id name p q e)) c.names.ensures.none
