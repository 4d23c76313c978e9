use Rattle.std.proofs.Common.{◌≡◌, ◌+◌, ◌-◌}
use Rattle.desk_generator.specs.Desks.{each, register}
use Rattle.desk_generator.proofs.asking.Generator.register_all.Given as goal

abbrev pub invariant-loop-done : goal.invariant-loop-done
invariant-loop-done l = each register (l.count - l.done) (l.done + 1) l.self ≡ each register l.count 1 l.fn.self
