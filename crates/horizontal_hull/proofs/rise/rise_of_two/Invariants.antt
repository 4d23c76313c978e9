use Rattle.std.proofs.Common.{◌≡◌, true, ℕ, ◌-◌, ◌<◌, ◌≤◌}
use Rattle.horizontal_hull.specs.Rises.{in_risen}
use Rattle.horizontal_hull.proofs.rise.rise_of_two.Given as goal

abbrev pub invariant-loop-least : goal.invariant-loop-least
invariant-loop-least l = record {
  order : l.least ≤ l.reached;
  within : l.reached ≤ l.most;
  reaches : l.reached < l.most → in_risen l.x l.reached l.a l.b ≡ true;
  missed : (k : ℕ) → in_risen l.x k l.a l.b ≡ true → l.least ≤ k;
}

abbrev pub decreases-loop-least : goal.decreases-loop-least
decreases-loop-least l = l.reached - l.least
