use Rattle.wire_values.proofs.TextFacts.{word_text}
use Rattle.wire_values.proofs.word.Word.as_str.Goals as goal

pub unreachable-requires : goal.unreachable-requires
unreachable-requires c = c.in-Err.ensures.cases.0 (rw c.as_bytes.ensures.value (word_text _ c.self.invariant))
