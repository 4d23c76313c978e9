use Rattle.std.proofs.Common.{◌≡◌, ◌+◌, ◌<◌, ℕ, rules, arith, ap, subst, ◌∙◌, length, cond, set}
use Rattle.oe_keeper.specs.Kept.{Key, place}
use Rattle.oe_keeper.specs.Paging.{IsPageOf, rows_of}
use Rattle.oe_keeper.proofs.Paging.{page_rises, removed_page, set_length, emptied}
use Rattle.oe_keeper.proofs.pages.remove_row.Goals as goal

pub remove-is_fewer-requires : goal.remove-is_fewer-requires
remove-is_fewer-requires c =
    let h : c.page_of-p.result < length c.args.pages.now.items = search rules in
    page_rises c.args.pages.now.items c.page_of-p.result c.index_mut.result.now h c.index_mut.ensures.value c.requires.rises

pub returns-then-is_empty-2-clause-removed : goal.returns-then-is_empty-2-clause-removed
returns-then-is_empty-2-clause-removed c =
    let k : Key = (place c.args.table, c.args.key.now) in
    let h : c.page_of-p.result < length c.args.pages.now.items = search rules in
    let is : IsPageOf k c.args.pages.now.items c.page_of-p.result = subst (λ l. IsPageOf k l c.page_of-p.result) c.as_slice.ensures.value c.page_of-p.ensures.place in
    let no : length c.remove-is_fewer.new.self.rows.items ≡ 0 = search rules in
    ap rows_of c.remove.ensures.items ∙ emptied c.args.pages.now.items c.page_of-p.result c.remove-is_fewer.new.self h no
    ∙ removed_page k c.args.pages.now.items c.page_of-p.result c.index_mut.result.now c.remove-is_fewer.new.self h c.index_mut.ensures.value is c.remove-is_fewer.ensures.removed

pub returns-then-is_empty-2-clause-fewer : goal.returns-then-is_empty-2-clause-fewer
returns-then-is_empty-2-clause-fewer c =
    let h : c.page_of-p.result < length c.args.pages.now.items = search rules in
    let no : length c.remove-is_fewer.new.self.rows.items ≡ 0 = search rules in
    let same : length (rows_of c.remove.new.self.items) ≡ length (rows_of (set c.args.pages.now.items c.page_of-p.result c.remove-is_fewer.new.self)) =
    ap (λ l. length (rows_of l)) c.remove.ensures.items ∙ ap length (emptied c.args.pages.now.items c.page_of-p.result c.remove-is_fewer.new.self h no) in
    let n : ℕ = cond c.remove-is_fewer.result 1 0 in
    let page : length c.remove-is_fewer.new.self.rows.items + n ≡ length c.index_mut.result.now.rows.items + 0 = omega (arith, c.remove-is_fewer.ensures.fewer) in
    omega (arith, same, set_length c.args.pages.now.items c.page_of-p.result c.index_mut.result.now c.remove-is_fewer.new.self n 0 h c.index_mut.ensures.value page)

pub returns-else-is_empty-2-clause-removed : goal.returns-else-is_empty-2-clause-removed
returns-else-is_empty-2-clause-removed c =
    let k : Key = (place c.args.table, c.args.key.now) in
    let h : c.page_of-p.result < length c.args.pages.now.items = search rules in
    let is : IsPageOf k c.args.pages.now.items c.page_of-p.result = subst (λ l. IsPageOf k l c.page_of-p.result) c.as_slice.ensures.value c.page_of-p.ensures.place in
    removed_page k c.args.pages.now.items c.page_of-p.result c.index_mut.result.now c.remove-is_fewer.new.self h c.index_mut.ensures.value is c.remove-is_fewer.ensures.removed

pub returns-else-is_empty-2-clause-fewer : goal.returns-else-is_empty-2-clause-fewer
returns-else-is_empty-2-clause-fewer c =
    let h : c.page_of-p.result < length c.args.pages.now.items = search rules in
    let n : ℕ = cond c.remove-is_fewer.result 1 0 in
    let page : length c.remove-is_fewer.new.self.rows.items + n ≡ length c.index_mut.result.now.rows.items + 0 = omega (arith, c.remove-is_fewer.ensures.fewer) in
    omega (arith, set_length c.args.pages.now.items c.page_of-p.result c.index_mut.result.now c.remove-is_fewer.new.self n 0 h c.index_mut.ensures.value page)
