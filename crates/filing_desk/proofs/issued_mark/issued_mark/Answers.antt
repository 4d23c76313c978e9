use Rattle.std.proofs.Common.{◌≡◌, sym, subst, Bool}
use Rattle.std.specs.Prelude.{IfOk}
use Rattle.oe_findings.specs.List.{findings_of}
use Rattle.review_marks.specs.Books.{differs}
use Rattle.desk_machine.specs.States.{State}
use Rattle.review_marks.specs.declared.change.MarkChange.TheVariants as changes
use Rattle.review_marks.proofs.Unconcerned.{same_lists}
use Rattle.filing_desk.proofs.issued_mark.issued_mark.Goals as goal

pub returns-then-own-clause-change : goal.returns-then-own-clause-change
returns-then-own-clause-change c =
    subst (λ (m : Bool). IfOk c.added_unmarked.result (λ x. x ≡ changes.Added c.args.number (record { filing = c.args.filing.now; stored = c.args.list.now; marked = m })))
    (sym (same_lists c.args.list.now _ (c.requires c.if-own.true))) c.added_unmarked.ensures.change

pub returns-clause-change : goal.returns-clause-change
returns-clause-change c =
    subst (λ (s : State). IfOk c.compared.result (λ x. x ≡ changes.Added c.args.number (record { filing = c.args.filing.now; stored = c.args.list.now; marked = differs c.args.list.now (findings_of s.register c.args.filing.now) })))
    c.desk.view_is c.compared.ensures.change
