use Rattle.std.proofs.Common.{◌≡◌, sym, ap, ◌∙◌, true, false, subst, is_some}
use Rattle.oe_findings.specs.List.{findings_of}
use Rattle.review_marks.specs.Books.{differs, row_marked_as}
use Rattle.review_marks.specs.Shares.{concerns}
use Rattle.review_marks.specs.Turns.{row_after_change}
use Rattle.review_marks.specs.declared.row.Row.{Row}
use Rattle.review_marks.proofs.Turning.{beq_same, not_concerned, turned_same, turned_to}
use Rattle.review_marks.proofs.book.MarkBook.rechecked.Goals as goal

pub returns-in_default-2-clause-mark : goal.returns-in_default-2-clause-mark
returns-in_default-2-clause-mark g c =
    λ r at.
    let same : c.in-Some.row.now ≡ r = cc (c.in-Some.ensures, at) in
    let no : concerns c.args.change.now c.in-Some.row.now.filing ≡ false = sym c.in_ok-share.ensures.concerned ∙ ap is_some c.in_default-2.is in
    subst (λ (q : Row). q ≡ row_after_change c.args.sky.now c.args.change.now q) same (not_concerned c.args.sky.now c.args.change.now c.args.self.now c.in-Some.row.now no)

pub returns-then-marked-row-clause-mark : goal.returns-then-marked-row-clause-mark
returns-then-marked-row-clause-mark g c =
    λ r at.
    let same : c.in-Some.row.now ≡ r = cc (c.in-Some.ensures, at) in
    let yes : concerns c.args.change.now c.in-Some.row.now.filing ≡ true = sym c.in_ok-share.ensures.concerned ∙ ap is_some c.in-Some-2.is in
    let found : c.in_ok-marked.marked ≡ differs c.in-Some.row.now.stored (findings_of c.args.sky.now c.in-Some.row.now.filing) = c.in_ok-marked.ensures.mark in
    subst (λ (q : Row). q ≡ row_after_change c.args.sky.now c.args.change.now q) same (turned_same c.args.sky.now c.args.change.now c.args.self.now c.in-Some.row.now c.in_ok-marked.marked yes found (beq_same _ _ c.if-marked-row.true))

pub returns-clause-mark : goal.returns-clause-mark
returns-clause-mark g c =
    λ r at.
    let same : c.in-Some.row.now ≡ r = cc (c.in-Some.ensures, at) in
    let yes : concerns c.args.change.now c.in-Some.row.now.filing ≡ true = sym c.in_ok-share.ensures.concerned ∙ ap is_some c.in-Some-2.is in
    let found : c.in_ok-marked.marked ≡ differs c.in-Some.row.now.stored (findings_of c.args.sky.now c.in-Some.row.now.filing) = c.in_ok-marked.ensures.mark in
    subst (λ (q : Row). row_marked_as c.in_ok-marked.marked q ≡ row_after_change c.args.sky.now c.args.change.now q) same (turned_to c.args.sky.now c.args.change.now c.args.self.now c.in-Some.row.now c.in_ok-marked.marked yes found)
