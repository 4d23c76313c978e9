use Rattle.std.proofs.Common.{refl}
use Rattle.wire_replies.proofs.entries.put_spaced_dash.Goals as goal

pub put_piece-requires-clause-text : goal.put_piece-requires-clause-text
put_piece-requires-clause-text c = refl
