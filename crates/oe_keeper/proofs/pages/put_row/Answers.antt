use Rattle.std.proofs.Common.{◌≡◌, ◌+◌, ◌<◌, ℕ, rules, arith, ap, sym, subst, ◌∙◌, length, cond}
use Rattle.ordered_list.specs.Ordered.{put_by}
use Rattle.oe_keeper.specs.Kept.{Key, key_cmp, place}
use Rattle.oe_keeper.specs.Walk.{key_of}
use Rattle.oe_keeper.specs.Paging.{IsPageOf, rows_of}
use Rattle.oe_keeper.proofs.Using.{always_err}
use Rattle.oe_keeper.proofs.Paging.{Up, page_rises, put_page, same_page, set_length}
use Rattle.oe_keeper.proofs.pages.put_row.Goals as goal

pub put-requires : goal.put-requires
put-requires c =
    let h : c.in_ok-p.p < length c.roomy_page.new.pages.items = search rules in
    page_rises c.roomy_page.new.pages.items c.in_ok-p.p c.index_mut.result.now h c.index_mut.ensures.value (subst Up (sym c.in_ok-p.ensures.same) c.requires.rises)

pub returns-clause-put : goal.returns-clause-put
returns-clause-put c =
    let h : c.in_ok-p.p < length c.roomy_page.new.pages.items = search rules in
    let q : Key = (place c.args.entry.table, c.as_str.result.now) in
    let text : q ≡ key_of c.args.entry = ap (λ t. (place c.args.entry.table, t)) c.as_str.ensures.text in
    let is : IsPageOf (key_of c.args.entry) c.roomy_page.new.pages.items c.in_ok-p.p = subst (λ k. IsPageOf k c.roomy_page.new.pages.items c.in_ok-p.p) text c.in_ok-p.ensures.place in
    put_page c.args.entry c.roomy_page.new.pages.items c.in_ok-p.p c.index_mut.result.now c.put.new.self h c.index_mut.ensures.value is c.in_ok-is_more.ensures.put
    ∙ ap (put_by key_cmp key_of c.args.entry) c.in_ok-p.ensures.same

pub returns-clause-more : goal.returns-clause-more
returns-clause-more c =
    let h : c.in_ok-p.p < length c.roomy_page.new.pages.items = search rules in
    let n : ℕ = cond c.in_ok-is_more.is_more 1 0 in
    let page : length c.put.new.self.rows.items + 0 ≡ length c.index_mut.result.now.rows.items + n = omega (arith, c.in_ok-is_more.ensures.more) in
    let same : length (rows_of c.roomy_page.new.pages.items) ≡ length (rows_of c.args.pages.now.items) = ap length c.in_ok-p.ensures.same in
    omega (arith, same, set_length c.roomy_page.new.pages.items c.in_ok-p.p c.index_mut.result.now c.put.new.self 0 n h c.index_mut.ensures.value page)

pub returns-in_err-is_more-clause-err : goal.returns-in_err-is_more-clause-err
returns-in_err-is_more-clause-err c =
    let h : c.in_ok-p.p < length c.roomy_page.new.pages.items = search rules in
    always_err c.from_residual-in_err-is_more.result
    (same_page c.roomy_page.new.pages.items c.in_ok-p.p c.index_mut.result.now c.put.new.self h c.index_mut.ensures.value c.in_err-is_more.ensures.err ∙ c.in_ok-p.ensures.same)
