use Rattle.std.proofs.Common.{◌≡◌, ◌+◌, ◌-◌}
use Rattle.desk_generator.specs.Desks.{each, file}
use Rattle.desk_generator.proofs.asking.Generator.file_all.Given as goal

abbrev pub invariant-loop-done : goal.invariant-loop-done
invariant-loop-done l = each file (l.count - l.done) (l.done + 1) l.self ≡ each file l.count 1 l.fn.self
