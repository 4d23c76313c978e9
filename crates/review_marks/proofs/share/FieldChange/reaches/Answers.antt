use Rattle.std.proofs.Common.{sym, ap, ◌∙◌, subst}
use Rattle.airfields.specs.Sites.{IsSite}
use Rattle.review_marks.specs.Near.{lies_in}
use Rattle.review_marks.specs.Shares.{AirfieldChange, concerns}
use Rattle.review_marks.proofs.Reaching.{not_near}
use Rattle.review_marks.proofs.share.FieldChange.reaches.Goals as goal

pub returns-then-not-lies_in-clause-far : goal.returns-then-not-lies_in-clause-far
returns-then-not-lies_in-clause-far c =
    λ off. (
    let o = c.self.inside in
    let site = c.args.filing.now in
    let out = ap (lies_in o.area) (ap (λ s. s.at) (sym c.filing.view_is)) ∙ sym c.lies_in.ensures ∙ c.if-not-lies_in.true in
    sym (ap (λ (v : AirfieldChange). concerns v site) c.self.view_is)
    ∙ not_near o.id o.before.prepared o.after.prepared o.area site (subst IsSite c.filing.view_is c.filing.invariant) o.was_around o.is_around out (sym c.is_on.ensures ∙ off)
    )

pub returns-then-not-lies_in-clause-site : goal.returns-then-not-lies_in-clause-site
returns-then-not-lies_in-clause-site c = subst IsSite c.filing.view_is c.filing.invariant

pub returns-then-reaches-2-clause-site : goal.returns-then-reaches-2-clause-site
returns-then-reaches-2-clause-site c = subst IsSite c.filing.view_is c.filing.invariant

pub returns-else-reaches-2-clause-site : goal.returns-else-reaches-2-clause-site
returns-else-reaches-2-clause-site c = subst IsSite c.filing.view_is c.filing.invariant
