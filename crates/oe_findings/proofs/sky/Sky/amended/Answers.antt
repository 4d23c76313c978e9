use Rattle.oe_findings.proofs.FieldFacts.{left_held}
use Rattle.oe_findings.proofs.sky.Sky.amended.Goals as goal

pub replaced-requires : goal.replaced-requires
replaced-requires c = record { held = left_held _ _ _ c.limits.ensures c.in_ok-changed.ensures.change.is_now }
