use Rattle.std.proofs.Common.{◌≡◌, ◌++◌, take, length, string_bytes, codes}
use Rattle.std.specs.Fmt.{decimal}
use Rattle.grid_exact.specs.Texts.{Extends}
use Rattle.wire_replies.specs.Entries.{entries_text}
use Rattle.wire_replies.proofs.entries.append_list.Given as goal

-- the count and the entries so far, in the text and on the page
abbrev pub invariant-loop-finding : goal.invariant-loop-finding
invariant-loop-finding l =
    (string_bytes l.text ++ l.page ≡ string_bytes l.fn.text ++ ((codes "," ++ decimal (length l.list)) ++ entries_text (take l.finding-index l.list)))
    × Extends (string_bytes l.fn.text) (string_bytes l.text)
