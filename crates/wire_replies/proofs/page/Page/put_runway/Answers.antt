use Rattle.airfields.proofs.NameText.{runway_text as is_text}
use Rattle.wire_replies.proofs.page.Page.put_runway.Goals as goal

pub from_utf8_unchecked-requires : goal.from_utf8_unchecked-requires
from_utf8_unchecked-requires c = rw c.as_bytes.ensures.value (is_text _ c.as_bytes.ensures.name)
