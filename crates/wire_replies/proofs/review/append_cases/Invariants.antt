use Rattle.std.proofs.Common.{◌≡◌, ◌++◌, take, map, string_bytes}
use Rattle.std.specs.Fmt.{decimal}
use Rattle.wire_values.specs.Commas.{with_commas}
use Rattle.wire_replies.proofs.review.append_cases.Given as goal

-- the cases so far
abbrev pub invariant-loop-case : goal.invariant-loop-case
invariant-loop-case l = string_bytes l.text ≡ string_bytes l.fn.text ++ with_commas (map decimal (take l.case-index l.cases))
