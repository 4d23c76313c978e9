use Rattle.std.proofs.Common.{◌≡◌, ◌≤◌, ◌<◌, arith, sym, ◌∙◌, length, cond, inl, inr, take}
use Rattle.std.proofs.lemmas.Bool.{cases_Bool}
use Rattle.std.proofs.lemmas.List.{take_all, length-set}
use Rattle.grid_exact.specs.Area.{has_point}
use Rattle.surface_tree.specs.declared.entry.Entry.{Entry}
use Rattle.outline_boxes.specs.Bounds.{box_of}
use Rattle.surface_tree.proofs.Picks.{pick_more}
use Rattle.surface_tree.proofs.visit.pick.Goals as goal

pub loop-i-preserved : goal.loop-i-preserved
loop-i-preserved g c =
    let n = c.loop-i.invariant in
    let es = c.args.entries.now in
    let x = c.index-entries-i.result in
    let test = λ (e : Entry g.row.T.Denot). has_point (box_of e.bounds) c.args.x.now in
    let b : test x ≡ c.has.result = sym (rw (← c.index-entries-i.is) at c.has.ensures.test) in
    let k : c.from-count.result ≡ cond c.has.result 1 0 =
    elim (cases_Bool c.has.result) [ inl y ↦ (let h = rw y at c.from-count.ensures in rw y h) | inr y ↦ (let h = rw y at c.from-count.ensures in rw y h) ] in
    let l : c.loop-i.i < length es = c.loop-i-test.true in
    let m = pick_more test es c.loop-i.i c.loop-i.count c.from-count.result c.loop-i.picks x c.has.result l (omega (arith, n.long, n.few, l, c.requires.short)) n.within n.picked c.index-entries-i.is b k in
    let few : c.from-count.result ≤ 1 = elim (cases_Bool c.has.result) [ inl y ↦ (let h = rw y at k in omega (arith, h)) | inr y ↦ (let h = rw y at k in omega (arith, h)) ] in
    record { long = length-set c.loop-i.picks c.loop-i.count c.loop-i.i ∙ n.long; few = omega (arith, n.few, few); within = m.0; picked = m.1; cost = omega (arith, n.cost, c.tick.ensures.one) }

pub returns-clause-picked : goal.returns-clause-picked
returns-clause-picked g c =
    λ d.
    let e : take c.loop-i.i c.args.entries.now ≡ c.args.entries.now = take_all c.loop-i.i c.args.entries.now c.loop-i-test.false in
    rw e at (c.loop-i.invariant.picked d)
