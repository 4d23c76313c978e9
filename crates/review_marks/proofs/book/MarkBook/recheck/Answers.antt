use Rattle.std.proofs.Common.{◌++◌, ◌∷◌, [], List, ap, ◌∙◌, sym, subst}
use Rattle.review_marks.specs.Turns.{IsTurnedTo}
use Rattle.review_marks.specs.declared.change.Mark.{Mark}
use Rattle.review_marks.proofs.Turning.{turned_on, with_found}
use Rattle.review_marks.proofs.book.MarkBook.recheck.Goals as goal

pub returns-in-None-clause-turned : goal.returns-in-None-clause-turned
returns-in-None-clause-turned g c =
    λ ks h.
    let old = c.args.marks.now.items in
    subst (λ (ms : List Mark). IsTurnedTo c.args.sky.now c.args.change.now c.args.self.now ms (ks ++ c.args.number ∷ [])) (ap (with_found old) c.in-None.is)
    (turned_on c.args.sky.now c.args.change.now c.args.self.now old ks c.args.number c.in_ok-mark.field-0 h c.in_ok-mark.ensures.case c.in_ok-mark.ensures.mark)

pub returns-in_ok-push-in-Some-clause-turned : goal.returns-in_ok-push-in-Some-clause-turned
returns-in_ok-push-in-Some-clause-turned g c =
    λ ks h.
    let old = c.args.marks.now.items in
    subst (λ (ms : List Mark). IsTurnedTo c.args.sky.now c.args.change.now c.args.self.now ms (ks ++ c.args.number ∷ [])) (ap (with_found old) c.in-Some.is ∙ sym c.in_ok-push-in-Some.ensures.items)
    (turned_on c.args.sky.now c.args.change.now c.args.self.now old ks c.args.number c.in_ok-mark.field-0 h c.in_ok-mark.ensures.case c.in_ok-mark.ensures.mark)
