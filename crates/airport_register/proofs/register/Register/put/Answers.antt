use Rattle.std.proofs.Common.{Some, sym, ap, ◌∙◌}
use Rattle.std.proofs.lemmas.Cmp.{nat_list_cmp_total}
use Rattle.ordered_list.specs.Ordered.{put_by}
use Rattle.ordered_list.proofs.Finding.{put_found}
use Rattle.airfields.specs.Names.{name_cmp}
use Rattle.airfields.specs.Airfields.{id_of}
use Rattle.airport_register.specs.Amendments.{airfield_at}
use Rattle.airport_register.proofs.Fields.{register_put}
use Rattle.airport_register.proofs.register.Register.put.Goals as goal

pub invariant_of-self : goal.invariant_of-self
invariant_of-self c =
    let items = c.self.inside.items in
    register_put c.args.field items c.in_ok-self-inside.field-0 c.self.invariant c.requires.held (rw c.self.view_is c.requires.room)
    (c.in_ok-self-inside.ensures ∙ ap (λ v. put_by name_cmp id_of v items) c.in_ok-field.ensures.ok)

pub returns-clause-put : goal.returns-clause-put
returns-clause-put c =
    rw (← c.self.view_is) (c.in_ok-self-inside.ensures ∙ ap (λ v. put_by name_cmp id_of v c.self.inside.items) c.in_ok-field.ensures.ok)

pub returns-clause-change : goal.returns-clause-change
returns-clause-change c =
    let items = c.self.inside.items in
    let put = c.in_ok-self-inside.ensures ∙ ap (λ v. put_by name_cmp id_of v items) c.in_ok-field.ensures.ok in
    record {
      named = c.id.ensures;
      was = c.in_ok-before.ensures ∙ ap (airfield_at c.args.self.now) c.id.ensures;
      is_now = ap Some (c.in_ok-after.ensures ∙ c.in_ok-field.ensures.ok) ∙ sym (put_found name_cmp nat_list_cmp_total id_of c.args.field items c.in_ok-self-inside.field-0 put);
    }
