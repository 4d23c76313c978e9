use Rattle.std.proofs.Common.{refl, sym}
use Rattle.std.proofs.lemmas.Cmp.{nat_list_cmp_total}
use Rattle.ordered_list.proofs.Finding.{removed_missing}
use Rattle.airfields.specs.Names.{name_cmp}
use Rattle.airfields.specs.Airfields.{id_of}
use Rattle.airport_register.proofs.Fields.{register_removed}
use Rattle.airport_register.proofs.register.Register.remove.Goals as goal

pub invariant_of-self : goal.invariant_of-self
invariant_of-self c = register_removed c.args.id.now c.self.inside.items c.in_ok-self-inside.field-0 c.self.invariant c.in_ok-self-inside.ensures

pub returns-clause-change : goal.returns-clause-change
returns-clause-change c =
    record {
      named = refl;
      was = c.in_ok-before.ensures;
      is_now = sym (removed_missing name_cmp nat_list_cmp_total id_of c.args.id.now c.self.inside.items c.in_ok-self-inside.field-0 c.in_ok-self-inside.ensures);
    }
