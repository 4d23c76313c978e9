use Rattle.wire_replies.proofs.PageFacts.{four_of}
use Rattle.wire_replies.proofs.page.four_bytes.Goals as goal

pub returns : goal.returns
returns c = four_of c.args.from c.args.text.now c.requires
