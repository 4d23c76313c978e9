use Rattle.std.proofs.Common.{refl}
use Rattle.site_questions.specs.Charts.{malformed}
use Rattle.site_questions.specs.Ways.{Other, Screened}
use Rattle.site_questions.specs.declared.screens.TheConstants.{FORM_FIELD}
use Rattle.site_questions.proofs.AnswerFacts.{err_shown, on_err, on_ok}
use Rattle.site_questions.proofs.way_desk.append_told.Goals as goal

pub returns-clause-ok : goal.returns-clause-ok
returns-clause-ok c = on_ok c.append_station.result (λ s. Screened c.in-Some.filing.now c.in-Some.ensures.some s) c.append_station.ensures.ok

pub returns-clause-made : goal.returns-clause-made
returns-clause-made c = err_shown c.append_station.result (λ s. (s.0, Screened c.in-Some.filing.now c.in-Some.ensures.some s.1)) c.append_station.ensures.made

pub returns-in_default-clause-made : goal.returns-in_default-clause-made
returns-in_default-clause-made c = on_err c.append_refused.result (malformed FORM_FIELD, Other c.in_default.ensures.none refl refl)
