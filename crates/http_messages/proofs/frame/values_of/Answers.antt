use Rattle.httparse.specs.declared.spans.HeaderSpan.{HeaderSpan}
use Rattle.http_messages.proofs.FrameFacts.{often}
use Rattle.http_messages.proofs.frame.values_of.Goals as goal

pub returns-in-Some-first_field-clause-counts : goal.returns-in-Some-first_field-clause-counts
returns-in-Some-first_field-clause-counts c =
    let d : HeaderSpan = record { name = record { start = 0; end = 0 }; value = record { start = 0; end = 0 } } in
    often _ _ _ _ _ (c.in-Some.ensures.first d) (rw c.split_at.ensures.back at (c.in-Some-first_field.ensures.first d))
