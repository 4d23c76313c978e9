use Rattle.std.proofs.Common.{◌≡◌, rules, sym, ◌∙◌}
use Rattle.std.specs.Arc.{arc_value}
use Rattle.std.specs.declared.cmp.Ordering.TheVariants.{Less, Equal, Greater}
use Rattle.ordered_tree.specs.Branches.{items_of}
use Rattle.ordered_tree.proofs.Order.{around, found_less, found_greater, found_equal}
use Rattle.ordered_tree.proofs.find.+find.Goals as goal

pub find_in-returns-in-Less : goal.find_in-returns-in-Less
find_in-returns-in-Less g t c =
    λ r.
    let f = c.args.fork.now in
    let m = arc_value f.item in
    let h : g.K.Key.Ord.cmp c.args.key (g.K.KeyOf.key_of m) ≡ Less = search rules in
    let p = around g.K.Key.Ord.cmp g.met.K.Key.Ord.total g.K.KeyOf.key_of (items_of f.below) m (items_of f.above) r in
    c.find.ensures p.first ∙ sym (found_less g.K.Key.Ord.cmp g.met.K.Key.Ord.total g.K.KeyOf.key_of c.args.key m (items_of f.below) (items_of f.above) h p)

pub find_in-returns-in-Greater : goal.find_in-returns-in-Greater
find_in-returns-in-Greater g t c =
    λ r.
    let f = c.args.fork.now in
    let m = arc_value f.item in
    let h : g.K.Key.Ord.cmp c.args.key (g.K.KeyOf.key_of m) ≡ Greater = search rules in
    let p = around g.K.Key.Ord.cmp g.met.K.Key.Ord.total g.K.KeyOf.key_of (items_of f.below) m (items_of f.above) r in
    c.find-in-Greater.ensures p.second ∙ sym (found_greater g.K.Key.Ord.cmp g.met.K.Key.Ord.total g.K.KeyOf.key_of c.args.key m (items_of f.below) (items_of f.above) h p)

pub find_in-returns-in-Equal : goal.find_in-returns-in-Equal
find_in-returns-in-Equal g t c =
    λ r.
    let f = c.args.fork.now in
    let m = arc_value f.item in
    let h : g.K.Key.Ord.cmp c.args.key (g.K.KeyOf.key_of m) ≡ Equal = search rules in
    let p = around g.K.Key.Ord.cmp g.met.K.Key.Ord.total g.K.KeyOf.key_of (items_of f.below) m (items_of f.above) r in
    sym (found_equal g.K.Key.Ord.cmp g.met.K.Key.Ord.total g.K.KeyOf.key_of c.args.key m (items_of f.below) (items_of f.above) h p)
