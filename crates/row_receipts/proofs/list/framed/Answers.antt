use Rattle.row_receipts.proofs.FrameFacts.{one_more_part}
use Rattle.row_receipts.proofs.list.framed.Goals as goal

pub loop-part-preserved : goal.loop-part-preserved
loop-part-preserved c =
    one_more_part _ _ _ _ _ _ _ c.loop-part.invariant c.in-Some.ensures.some c.in_ok-push.ensures.items c.in_ok-extend_from_slice.ensures.items
