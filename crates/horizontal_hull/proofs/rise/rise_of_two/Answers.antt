use Rattle.std.proofs.Common.{◌≡◌, ◌∙◌, false, arith, sym}
use Rattle.horizontal_hull.specs.Rises.{in_risen}
use Rattle.horizontal_hull.proofs.Rises.{missed_below}
use Rattle.horizontal_hull.proofs.rise.rise_of_two.Goals as goal

pub loop-least-preserved : goal.loop-least-preserved
loop-least-preserved c =
    let f : in_risen c.args.x.now c.probe-asked.result c.args.a.now c.args.b.now ≡ false = sym (c.is_within.ensures c.args.a.now c.args.b.now c.args.x.now c.of-seen.ensures) ∙ c.if-is_within.false in
    record {
      order = omega (arith, c.probe-asked.ensures.high);
      within = c.loop-least.invariant.within;
      reaches = c.loop-least.invariant.reaches;
      missed = λ k h. (let l = missed_below c.args.x.now c.args.a.now c.args.b.now c.probe-asked.result k f h in omega (arith, l));
    }

pub returns-then-is_in_discs : goal.returns-then-is_in_discs
returns-then-is_in_discs c = record { bound = omega arith; reaches = λ l. c.is_in_discs.ensures c.if-is_in_discs.true; least = λ k h. omega arith }
