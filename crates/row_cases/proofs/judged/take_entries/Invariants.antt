use Rattle.std.proofs.Common.{◌≡◌, ◌++◌, All, map, length}
use Rattle.wire_replies.specs.Entries.{entry_text}
use Rattle.row_cases.specs.Entries.{IsEntry}
use Rattle.row_cases.proofs.judged.take_entries.Given as goal

-- the entries so far, and the parts that are left
abbrev pub invariant-loop-text : goal.invariant-loop-text
invariant-loop-text l = record { read : l.fn.parts ≡ map entry_text l.list ++ l.parts; whole : All IsEntry l.list }

abbrev pub decreases-loop-text : goal.decreases-loop-text
decreases-loop-text l = length l.parts
