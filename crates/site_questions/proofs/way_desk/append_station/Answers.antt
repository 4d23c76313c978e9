use Rattle.std.proofs.Common.{refl}
use Rattle.site_questions.specs.Ways.{Fails, joining_text}
use Rattle.site_questions.proofs.AnswerFacts.{on_err, on_ok}
use Rattle.site_questions.proofs.way_desk.append_station.Goals as goal

pub returns-in-Err-clause-ok : goal.returns-in-Err-clause-ok
returns-in-Err-clause-ok c = on_ok c.append_joining.result (λ t. Fails c.in-Err.refusal c.in-Err.ensures.exact t c.in-Err.ensures.kept) c.append_joining.ensures.ok

pub returns-in-Err-clause-made : goal.returns-in-Err-clause-made
returns-in-Err-clause-made c = on_err c.append_joining.result (joining_text c.in-Err.refusal, Fails c.in-Err.refusal c.in-Err.ensures.exact refl c.in-Err.ensures.kept)
