use Rattle.std.proofs.Common.{◌≡◌, Bool, refl, ap, ◌∙◌, subst}
use Rattle.std.specs.Prelude.{IfOk}
use Rattle.oe_findings.specs.List.{findings_of}
use Rattle.review_marks.specs.Books.{differs}
use Rattle.review_marks.specs.declared.change.MarkChange.TheVariants as changes
use Rattle.review_marks.specs.declared.row.Row.{Row}
use Rattle.review_marks.proofs.Exactness.{exact_added}
use Rattle.review_marks.proofs.book.MarkBook.added.Goals as goal

pub returns-clause-change : goal.returns-clause-change
returns-clause-change g c =
    let stored = c.args.stored.now in
    let is : c.differ.result ≡ differs stored (findings_of c.args.sky.now c.args.filing.now) = c.differ.ensures ∙ ap (differs stored) c.in_ok-list.ensures in
    subst (λ (b : Bool). IfOk c.change_to_add.result (λ x. x ≡ changes.Added c.args.case (record { filing = c.args.filing.now; stored = stored; marked = b }))) is c.change_to_add.ensures.change

pub returns-clause-exact : goal.returns-clause-exact
returns-clause-exact g c =
    let sky = c.args.sky.now in
    let stored = c.args.stored.now in
    let row : Row = record { filing = c.args.filing.now; stored = stored; marked = differs stored (findings_of sky c.args.filing.now) } in
    exact_added sky c.change_to_add.result c.args.self.now c.change_to_add.new.self c.args.case row (returns-clause-change g c) refl c.change_to_add.ensures.same
