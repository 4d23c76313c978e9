use Rattle.std.proofs.Common.{◌≡◌, ◌+◌, ◌<◌, [], option_map, arith, nat_eq, nat_lt, sym, ◌∙◌, true, false}
use Rattle.std.specs.Arc.{arc_value}
use Rattle.std.proofs.lemmas.Bool.{and_from, and_right}
use Rattle.std.proofs.lemmas.Result.{IfOk-weaker}
use Rattle.surface_tree.specs.Squares.{overlaps, in_below, in_cell}
use Rattle.surface_tree.specs.Changes.{edited_by}
use Rattle.surface_tree.proofs.Holdings.{Holds_past, own_past, larger_cell, level_below}
use Rattle.surface_tree.proofs.Owned.{own_copied, not_own, bare_quarters}
use Rattle.surface_tree.proofs.change.+change.Goals as goal

pub changed_part-returns-then-not-overlaps : goal.changed_part-returns-then-not-overlaps
changed_part-returns-then-not-overlaps g t c =
    λ value f h.
    let q = c.args.square.now in
    let a = c.args.edit.now.plot in
    let item = option_map arc_value c.args.edit.now.item in
    let o : overlaps q.level q.west q.south a.area ≡ false = sym c.overlaps.ensures ∙ c.if-not-overlaps.true in
    let n : in_below (q.level + 1) q.level q.west q.south a ≡ false = and_right (nat_lt a.level (q.level + 1)) (overlaps q.level q.west q.south a.area) o in
    rw c.in_ok-try_clone.ensures (Holds_past g.T.Key.Ord.cmp g.met.T.Key.Ord.total g.T.Placed.key_of g.T.Placed.plot_of c.args.edit.now.key a item value f (q.level + 1) q.level q.west q.south (arc_value c.args.part.now) (omega arith) n h)

pub changed_part-returns : goal.changed_part-returns
changed_part-returns g t c = λ value f h. rw c.in_ok-new.ensures.ok (c.in_ok-part.ensures value f h)

pub reached_part-returns-in_default : goal.reached_part-returns-in_default
reached_part-returns-in_default g t c =
    IfOk-weaker c.changed_own-in_default.result _ _
    (λ q p. λ value f h.
    let s = not_own g.T.Placed.plot_of value c.args.square.now (arc_value c.args.part.now) c.deref.result.now c.deref.ensures c.in_default.not-Own h in
    p value f (rw (c.deref-in_default.ensures.value, c.new-entries.ensures.items) s.0, s.1))
    c.changed_own-in_default.ensures

pub changed_own-returns-then-edit-square : goal.changed_own-returns-then-edit-square
changed_own-returns-then-edit-square g t c =
    λ value f h.
    let q = c.args.square.now in
    let a = c.args.edit.now.plot in
    let item = option_map arc_value c.args.edit.now.item in
    let e : a.level ≡ q.level = omega (arith, c.if-edit-square.true) in
    let y : in_cell q.level q.west q.south a ≡ true = and_from (nat_eq a.level q.level) (overlaps q.level q.west q.south a.area) (grind (arith, e)) c.requires.met in (
      omega arith,
      c.in_ok-entries.ensures q.level q.west q.south y value f h.0,
      rw c.in_ok-rest.ensures (Holds_past g.T.Key.Ord.cmp g.met.T.Key.Ord.total g.T.Placed.key_of g.T.Placed.plot_of c.args.edit.now.key a item value f q.level q.level q.west q.south (arc_value c.args.rest.now) (omega arith) (level_below q.level q.west q.south a e) h.1),
    )

pub changed_own-returns : goal.changed_own-returns
changed_own-returns g t c =
    λ value f h.
    let q = c.args.square.now in
    let a = c.args.edit.now.plot in
    let item = option_map arc_value c.args.edit.now.item in
    let m : a.level < q.level = omega (arith, c.if-edit-square.false, c.requires.deep) in
    let n : in_cell q.level q.west q.south a ≡ false = larger_cell q.level q.west q.south a m in
    let past = own_past g.T.Key.Ord.cmp g.met.T.Key.Ord.total g.T.Placed.key_of g.T.Placed.plot_of c.args.edit.now.key a item value f q.level q.west q.south c.args.entries.now n h.0 in (
      omega arith,
      own_copied g.T.Placed.plot_of (edited_by g.T.Key.Ord.cmp g.T.Placed.key_of c.args.edit.now.key item value) q.level q.west q.south c.args.entries.now c.in_ok-entries-2.entries.items c.in_ok-entries-2.ensures.told past,
      rw c.in_ok-rest-3.ensures.ok (c.in_ok-rest-2.ensures q.level value f (λ l. absurd (omega (arith, l)), h.1)),
    )

pub changed_rest-returns-in_ok-quarters-in_default : goal.changed_rest-returns-in_ok-quarters-in_default
changed_rest-returns-in_ok-quarters-in_default g t c =
    IfOk-weaker c.changed_quarters-in_default.result _ _
    (λ q p. λ n value f h.
    p n value f (h.0, bare_quarters g.T.Placed.plot_of value c.args.square.now (arc_value c.args.rest.now) c.deref.result.now c.in_ok-quarters-in_default.quarters c.deref.ensures c.in_default.not-Quartered c.in_ok-quarters-in_default.ensures h.1))
    c.changed_quarters-in_default.ensures

pub changed_quarters-returns : goal.changed_quarters-returns
changed_quarters-returns g t c =
    λ n value f h.
    let q = c.args.square.now in
    let a = c.args.edit.now.plot in
    let item = option_map arc_value c.args.edit.now.item in
    let m : in_cell q.level q.west q.south a ≡ false = larger_cell q.level q.west q.south a c.requires.deep in
    let sw = c.south_west.ensures in
    let se = c.south_east.ensures in
    let nw = c.north_west.ensures in
    let ne = c.north_east.ensures in (
      λ l. own_past g.T.Key.Ord.cmp g.met.T.Key.Ord.total g.T.Placed.key_of g.T.Placed.plot_of c.args.edit.now.key a item value f q.level q.west q.south [] m (h.0 l),
      λ l. (let k = h.1 l in (
        rw (sw.level, sw.west, sw.south) at (c.in_ok-south_west.ensures value f (rw (sw.level, sw.west, sw.south) k.0)),
        rw (se.level, se.west, se.south) at (c.in_ok-south_east.ensures value f (rw (se.level, se.west, se.south) k.1)),
        rw (nw.level, nw.west, nw.south) at (c.in_ok-north_west.ensures value f (rw (nw.level, nw.west, nw.south) k.2)),
        rw (ne.level, ne.west, ne.south) at (c.in_ok-north_east.ensures value f (rw (ne.level, ne.west, ne.south) k.3)),
      )),
    )
