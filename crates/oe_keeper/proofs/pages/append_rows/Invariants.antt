use Rattle.std.proofs.Common.{◌≡◌, ◌++◌}
use Rattle.oe_keeper.proofs.pages.append_rows.Given as goal

abbrev pub invariant-rows : goal.invariant-rows
invariant-rows l = l.all.items ≡ l.initial.all.items ++ l.yielded
