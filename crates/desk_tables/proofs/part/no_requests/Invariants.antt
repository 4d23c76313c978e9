use Rattle.std.proofs.Common.{◌≡◌, None, replicate}
use Rattle.desk_tables.proofs.part.no_requests.Given as goal

abbrev pub invariant-loop-made : goal.invariant-loop-made
invariant-loop-made l = l.requests.items ≡ replicate l.made None
