use Rattle.airfields.proofs.NameText.{field_text}
use Rattle.airfields.proofs.names.FieldId.as_str.Goals as goal

pub unreachable-requires : goal.unreachable-requires
unreachable-requires c = c.in-Err.ensures.cases.0 (rw c.as_bytes.ensures.value (field_text _ c.self.invariant))
