use Rattle.std.proofs.Common.{◌∙◌, sym, ap}
use Rattle.http_messages.specs.Frames.{asks_close}
use Rattle.http_messages.proofs.LawFacts.{one, one_status, some, whole, good, cut_not_refused}
use Rattle.httparse.specs.Grammar.{RequestHead}
use Rattle.http_messages.proofs.laws.one_message.Goals as goal

pub returns-clause-method : goal.returns-clause-method
returns-clause-method w = λ stream m t b n u d left after c e x y.
    x.method_is ∙ ap (λ (h : RequestHead). h.method) (one stream m t b n u d left after c e x y).head ∙ sym y.method_is

pub returns-clause-target : goal.returns-clause-target
returns-clause-target w = λ stream m t b n u d left after c e x y.
    x.target_is ∙ ap (λ (h : RequestHead). h.target) (one stream m t b n u d left after c e x y).head ∙ sym y.target_is

pub returns-clause-body : goal.returns-clause-body
returns-clause-body w = λ stream m t b n u d left after c e x y. (one stream m t b n u d left after c e x y).body_is

pub returns-clause-close : goal.returns-clause-close
returns-clause-close w = λ stream m t b n u d left after c e x y.
    x.close_is ∙ ap asks_close (one stream m t b n u d left after c e x y).head ∙ sym y.close_is

pub returns-clause-left : goal.returns-clause-left
returns-clause-left w = λ stream m t b n u d left after c e x y. (one stream m t b n u d left after c e x y).left_is

pub returns-clause-some : goal.returns-clause-some
returns-clause-some w = some

pub returns-clause-whole : goal.returns-clause-whole
returns-clause-whole w = whole

pub returns-clause-good : goal.returns-clause-good
returns-clause-good w = good

pub returns-clause-cut : goal.returns-clause-cut
returns-clause-cut w = cut_not_refused

pub returns-clause-status : goal.returns-clause-status
returns-clause-status w = one_status
