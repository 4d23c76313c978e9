use Rattle.std.proofs.Common.{take}
use Rattle.std.specs.List.{All}
use Rattle.wire_values.specs.Words.{IsWordByte}
use Rattle.wire_values.proofs.word.Word.new.Given as goal

abbrev pub invariant-loop-byte : goal.invariant-loop-byte
invariant-loop-byte l = All IsWordByte (take l.byte-index l.text)
