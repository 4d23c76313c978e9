use Rattle.std.proofs.Common.{◌≡◌, rules, sym, ◌∙◌}
use Rattle.std.specs.Arc.{arc_value}
use Rattle.std.specs.declared.cmp.Ordering.TheVariants.{Less, Equal, Greater}
use Rattle.std.proofs.lemmas.Result.{IfOk-weaker}
use Rattle.ordered_tree.specs.Branches.{items_of}
use Rattle.ordered_tree.proofs.Order.{around, removed_less, removed_greater, removed_equal}
use Rattle.ordered_tree.proofs.change.+remove.Goals as goal

pub remove_in-returns-in_ok-item-in-Less-clause-listed : goal.remove_in-returns-in_ok-item-in-Less-clause-listed
remove_in-returns-in_ok-item-in-Less-clause-listed g t c =
    let f = c.args.old.now in
    let m = arc_value f.item in
    let h : g.K.Key.Ord.cmp c.args.key (g.K.KeyOf.key_of m) ≡ Less = search rules in
    IfOk-weaker c.balanced.result _ _
    (λ b e. λ r.
    let p = around g.K.Key.Ord.cmp g.met.K.Key.Ord.total g.K.KeyOf.key_of (items_of f.below) m (items_of f.above) r in
    e ∙ rw (c.in_ok-below-in-Less.ensures.listed p.first, c.in_ok-above-in-Less.ensures.listed, c.in_ok-item-in-Less.ensures) (sym (removed_less g.K.Key.Ord.cmp g.met.K.Key.Ord.total g.K.KeyOf.key_of c.args.key m (items_of f.below) (items_of f.above) h p)))
    c.balanced.ensures.listed

pub remove_in-returns-in_ok-item-in-Greater-clause-listed : goal.remove_in-returns-in_ok-item-in-Greater-clause-listed
remove_in-returns-in_ok-item-in-Greater-clause-listed g t c =
    let f = c.args.old.now in
    let m = arc_value f.item in
    let h : g.K.Key.Ord.cmp c.args.key (g.K.KeyOf.key_of m) ≡ Greater = search rules in
    IfOk-weaker c.balanced-in-Greater.result _ _
    (λ b e. λ r.
    let p = around g.K.Key.Ord.cmp g.met.K.Key.Ord.total g.K.KeyOf.key_of (items_of f.below) m (items_of f.above) r in
    e ∙ rw (c.in_ok-below-in-Greater.ensures.listed, c.in_ok-above-in-Greater.ensures.listed p.second, c.in_ok-item-in-Greater.ensures) (sym (removed_greater g.K.Key.Ord.cmp g.met.K.Key.Ord.total g.K.KeyOf.key_of c.args.key m (items_of f.below) (items_of f.above) h p)))
    c.balanced-in-Greater.ensures.listed

pub remove_in-returns-in-Equal-clause-listed : goal.remove_in-returns-in-Equal-clause-listed
remove_in-returns-in-Equal-clause-listed g t c =
    let f = c.args.old.now in
    let m = arc_value f.item in
    let h : g.K.Key.Ord.cmp c.args.key (g.K.KeyOf.key_of m) ≡ Equal = search rules in
    IfOk-weaker c.joined.result _ _
    (λ b e. λ r.
    let p = around g.K.Key.Ord.cmp g.met.K.Key.Ord.total g.K.KeyOf.key_of (items_of f.below) m (items_of f.above) r in
    e ∙ sym (removed_equal g.K.Key.Ord.cmp g.met.K.Key.Ord.total g.K.KeyOf.key_of c.args.key m (items_of f.below) (items_of f.above) h p))
    c.joined.ensures.listed
