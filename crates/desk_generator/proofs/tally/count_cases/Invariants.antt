use Rattle.std.proofs.Common.{◌≤◌, ◌<◌, ◌-◌, ◌^◌, length}
use Rattle.desk_generator.proofs.tally.count_cases.Given as goal

abbrev pub invariant-loop-next : goal.invariant-loop-next
invariant-loop-next l = record { least : l.count ≤ length l.clerk.state.cases; fits : l.count < 2 ^ 32 }

abbrev pub decreases-loop-next : goal.decreases-loop-next
decreases-loop-next l = 2 ^ 32 - l.count
