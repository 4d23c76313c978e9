use Rattle.std.proofs.Common.{take}
use Rattle.desk_receipts.specs.Receipts.{IsIndex}
use Rattle.desk_receipts.proofs.receipts.Receipts.of.Given as goal

abbrev pub invariant-loop-place : goal.invariant-loop-place
invariant-loop-place l = IsIndex l.places (take l.place l.entries.items)
