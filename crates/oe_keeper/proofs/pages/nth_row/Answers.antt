use Rattle.std.proofs.Common.{arith, ap, sym, ◌∙◌, ◌≡◌, length, take}
use Rattle.std.specs.Prelude.{slice_get}
use Rattle.std.proofs.lemmas.Option.{slice_get_past}
use Rattle.std.proofs.lemmas.List.{take_all}
use Rattle.oe_keeper.specs.Paging.{rows_of}
use Rattle.oe_keeper.proofs.Paging.{got_in}
use Rattle.oe_keeper.proofs.pages.nth_row.Goals as goal

pub returns-then-left-len : goal.returns-then-left-len
returns-then-left-len c =
    c.row_at.ensures ∙ ap (λ l. slice_get l c.pages.left) c.as_slice.ensures.value
    ∙ got_in c.args.pages.now c.pages.page-index c.page-item.result c.pages.left c.args.i (omega arith) c.page-item.is c.pages.invariant (omega arith)

pub returns : goal.returns
returns c =
    let whole : take c.pages.page-index c.args.pages.now ≡ c.args.pages.now = take_all c.pages.page-index c.args.pages.now (omega arith) in
    let all : length (rows_of (take c.pages.page-index c.args.pages.now)) ≡ length (rows_of c.args.pages.now) = ap (λ l. length (rows_of l)) whole in
    sym (slice_get_past (rows_of c.args.pages.now) c.args.i (omega (arith, all, c.pages.invariant)))
