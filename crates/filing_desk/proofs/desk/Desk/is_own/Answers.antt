use Rattle.std.proofs.Common.{◌≡◌, subst, Option, None, option_copied}
use Rattle.std.specs.Option.{option_map}
use Rattle.airfields.specs.Sites.{Site}
use Rattle.desk_machine.specs.Evaluations.{evaluation_of}
use Rattle.filing_desk.proofs.desk.Desk.is_own.Goals as goal

pub returns : goal.returns
returns c own =
    subst (λ (o : Option Site). option_map (evaluation_of c.args.self.now c.args.p (option_copied c.args.given)) o ≡ option_map (evaluation_of c.args.self.now c.args.p None) o) c.structure.ensures (c.is_own.ensures own c.args.self.now)
