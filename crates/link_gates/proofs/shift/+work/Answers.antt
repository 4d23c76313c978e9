use Rattle.std.proofs.Common.{rules, ◌≡◌, ◌/◌, IfSome, map, length, take, drop}
use Rattle.link_gates.specs.Teams.{together}
use Rattle.link_gates.proofs.TeamFacts.{together_split}
use Rattle.link_gates.proofs.shift.+work.Goals as goal

pub returns-clause-count : goal.returns-clause-count
returns-clause-count g t c fine =
    let left = c.added.ensures.left fine in
    let right = c.added.ensures.right fine in
    let first : IfSome (together (map g.S.Shift.serves (take (length c.args.shifts.now / 2) c.args.shifts.now))) (λ n. c.join.result.0.served ≡ n) = search (rules, left) in
    let second : IfSome (together (map g.S.Shift.serves (drop (length c.args.shifts.now / 2) c.args.shifts.now))) (λ n. c.join.result.1.served ≡ n) = search (rules, right) in
    together_split g.S.Shift.serves (length c.args.shifts.now / 2) c.args.shifts.now c.join.result.0.served c.join.result.1.served c.added.result.served c.added.ensures.served first second
