use Rattle.std.proofs.Common.{◌≡◌, pos, ap, arith}
use Rattle.std.proofs.lemmas.Int.{ints}
use Rattle.airfields.specs.Sites.{Site}
use Rattle.site_questions.specs.Ceilings.{Screened, TooHigh}
use Rattle.site_questions.proofs.AnswerFacts.{on_ok}
use Rattle.site_questions.proofs.ceiling_desk.append_told.Goals as goal

pub returns-then-filing-ne0-clause-ok : goal.returns-then-filing-ne0-clause-ok
returns-then-filing-ne0-clause-ok c =
    let same = ap (λ (s : Site). s.height) c.filing.view_is in
    on_ok c.append_refused-then-filing-ne0.result (λ t. TooHigh c.in-Some.filing.now c.in-Some.ensures.some (λ e. absurd (omega (arith, ints, same, e))) t) c.append_refused-then-filing-ne0.ensures.ok

pub returns-clause-ok : goal.returns-clause-ok
returns-clause-ok c =
    let same = ap (λ (s : Site). s.height) c.filing.view_is in
    let zero : c.in-Some.filing.now.height ≡ pos 0 = omega (arith, ints, same) in
    on_ok c.append_bound.result (λ t. Screened c.in-Some.filing.now c.in-Some.ensures.some zero t) c.append_bound.ensures.ok
