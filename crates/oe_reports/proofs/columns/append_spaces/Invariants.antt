use Rattle.std.proofs.Common.{◌≡◌, ◌++◌, string_bytes}
use Rattle.oe_reports.specs.Columns.{spaces}
use Rattle.oe_reports.proofs.columns.append_spaces.Given as goal

-- the spaces so far
abbrev pub invariant-loop : goal.invariant-loop
invariant-loop l = string_bytes l.text ≡ string_bytes l.fn.text ++ spaces l.counter
