use Rattle.std.proofs.Common.{◌≡◌, ◌++◌, length}
use Rattle.wire_values.specs.Commas.{with_commas}
use Rattle.row_receipts.specs.Fields.{frame_text}
use Rattle.row_receipts.proofs.list.framed.Given as goal

-- the row so far, and behind it the parts that are left
abbrev pub invariant-loop-part : goal.invariant-loop-part
invariant-loop-part l = frame_text ++ with_commas l.fn.parts ≡ l.row.items ++ with_commas l.parts

abbrev pub decreases-loop-part : goal.decreases-loop-part
decreases-loop-part l = length l.parts
