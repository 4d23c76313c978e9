use Rattle.std.proofs.Common.{◌-◌, sym, ap, ◌∙◌, length, slice_get}
use Rattle.std.specs.Arc.{arc_value}
use Rattle.tree_versions.proofs.Chains.{last_get}
use Rattle.tree_versions.proofs.publisher.last_value.Goals as goal

pub returns-in-Ok : goal.returns-in-Ok
returns-in-Ok g c v =
    last_get arc_value v c.args.waiting.now.items c.in-Some.pair.now (ap (λ xs. slice_get xs (length xs - 1)) (sym c.deref.ensures.value) ∙ sym c.in-Some.ensures.value) ∙ sym c.in-Ok.ensures
