use Rattle.std.proofs.Common.{◌≡◌, take}
use Rattle.finding_lists.specs.Orders.{merged_list}
use Rattle.finding_lists.proofs.findings.put_all_among.Given as goal

-- the findings so far were put among the items
abbrev pub invariant-loop-finding : goal.invariant-loop-finding
invariant-loop-finding l = l.items.items ≡ merged_list l.fn.items.items (take l.finding-index l.more)
