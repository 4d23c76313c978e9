use Rattle.std.proofs.Common.{◌≡◌, ◌∙◌, append_assoc}
use Rattle.std.proofs.lemmas.Result.{IfOk-weaker}
use Rattle.std.specs.String.{string_bytes}
use Rattle.http_messages.specs.Responses.{head_text}
use Rattle.http_messages.proofs.response.head_of.Goals as goal

pub returns : goal.returns
returns c = IfOk-weaker c.format.result _ (λ text. string_bytes text ≡ head_text c.args.status c.args.allow c.args.len c.args.close) (λ t e. e
    ∙ simp (append_assoc, c.phrase_of-phrase.ensures, c.allow_text-allow.ensures, c.close_text-end.ensures)) c.format.ensures.ok
