use Rattle.std.proofs.Common.{◌≡◌, ◌+◌, ◌-◌}
use Rattle.desk_generator.specs.Desks.{each, revise}
use Rattle.desk_generator.proofs.asking.Generator.revise_all.Given as goal

abbrev pub invariant-loop-done : goal.invariant-loop-done
invariant-loop-done l = each revise (l.count - l.done) (l.done + 1) l.self ≡ each revise l.count 1 l.fn.self
