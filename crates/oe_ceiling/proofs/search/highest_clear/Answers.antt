use Rattle.std.proofs.Common.{◌≡◌, ℕ, ◌+◌, ◌-◌, ◌^◌, ◌<◌, ◌≤◌, ◌≤ℤ◌, ℤ, pos, ◌+ℤ◌, List, ap, arith, subst, sym, FitsSigned, w64, to_z, of_z, to_z-of_z}
use Rattle.std.proofs.lemmas.Int.{ints}
use Rattle.airfields.specs.Sites.{Site}
use Rattle.airfields.specs.declared.airfield.Airfield.{Airfield}
use Rattle.oe_ceiling.specs.Ceilings.{IsCeiling, IsClear}
use Rattle.oe_ceiling.specs.Searches.{IsNarrowed}
use Rattle.oe_ceiling.proofs.Halving.{at_end, at_start, lower_half, one_less, upper_half}
use Rattle.oe_ceiling.proofs.Heights.{at_most}
use Rattle.oe_ceiling.proofs.search.highest_clear.Goals as goal

pub loop-left-init : goal.loop-left-init
loop-left-init g c = record {
  narrowed = at_start c.args.sky.now c.args.filing.now c.limits.ensures c.requires;
  counted = λ n h. record { counted = omega arith };
}

-- the sum that the code makes
sum : (z s : ℤ) (step : ℕ) → s ≡ pos step → step < 2 ^ 32 → pos 0 ≤ℤ z → z ≤ℤ pos (2 ^ 13) → to_z w64 (of_z w64 (z +ℤ to_z w64 (of_z w64 s))) ≡ z +ℤ pos step
sum z s step e small low high =
    let fs : FitsSigned w64 s = omega (arith, ints, e, small) in
    let ft : FitsSigned w64 (z +ℤ s) = omega (arith, ints, e, small, low, high) in
    simp to_z-of_z (ap (λ (k : ℤ). z +ℤ k) e)

pub loop-left-preserved-then-is_clear : goal.loop-left-preserved-then-is_clear
loop-left-preserved-then-is_clear g c =
    let z = to_z w64 c.loop-left.height-bits in
    let n = c.loop-left.invariant.narrowed in
    let t : to_z w64 (of_z w64 (z +ℤ to_z w64 (of_z w64 c.from-step.result))) ≡ z +ℤ pos c.pow.result =
    sum z c.from-step.result c.pow.result c.from-step.ensures c.pow.type_inv n.low (omega (arith, ints, n.high)) in
    let clear : IsClear c.args.sky.now c.args.filing.now (z +ℤ pos c.pow.result) = subst (IsClear c.args.sky.now c.args.filing.now) t (c.is_clear.ensures.found.0 c.if-is_clear.true) in
    record {
      narrowed = subst (IsNarrowed c.args.sky.now c.args.filing.now (c.loop-left.left - 1)) (sym t)
          (upper_half c.args.sky.now c.args.filing.now c.loop-left.left c.pow.result z c.loop-left-test.true c.pow.ensures n clear);
      counted = λ k h. one_less (15 + k) c.args.steps.now c.loop-left.steps c.is_clear.new.steps c.loop-left.left c.loop-left-test.true (c.is_clear.ensures.near k h) (c.loop-left.invariant.counted k h);
    }

pub loop-left-preserved : goal.loop-left-preserved
loop-left-preserved g c =
    let z = to_z w64 c.loop-left.height-bits in
    let n = c.loop-left.invariant.narrowed in
    let t : to_z w64 (of_z w64 (z +ℤ to_z w64 (of_z w64 c.from-step.result))) ≡ z +ℤ pos c.pow.result =
    sum z c.from-step.result c.pow.result c.from-step.ensures c.pow.type_inv n.low (omega (arith, ints, n.high)) in
    record {
      narrowed = lower_half c.args.sky.now c.args.filing.now c.loop-left.left c.pow.result z c.loop-left-test.true c.pow.ensures n
          (λ clear. let e = c.is_clear.ensures.found.1 (subst (IsClear c.args.sky.now c.args.filing.now) (sym t) clear) in absurd (cc));
      counted = λ k h. one_less (15 + k) c.args.steps.now c.loop-left.steps c.is_clear.new.steps c.loop-left.left c.loop-left-test.true (c.is_clear.ensures.near k h) (c.loop-left.invariant.counted k h);
    }

highest : (airfields : List Airfield) (s : Site) (left : ℕ) (height : ℤ) → left ≤ 0 → IsNarrowed airfields s left height → IsCeiling airfields s height
highest airfields s left height l h =
    let e : left ≡ 0 = omega (arith, l) in
    at_end airfields s height (subst (λ (k : ℕ). IsNarrowed airfields s k height) e h)

pub returns-clause-highest : goal.returns-clause-highest
returns-clause-highest g c =
    highest c.args.sky.now c.args.filing.now c.loop-left.left (to_z w64 c.loop-left.height-bits) c.loop-left-test.false c.loop-left.invariant.narrowed

pub returns-clause-most : goal.returns-clause-most
returns-clause-most g c =
    at_most c.args.sky.now c.args.filing.now (to_z w64 c.loop-left.height-bits) c.limits.ensures
    (highest c.args.sky.now c.args.filing.now c.loop-left.left (to_z w64 c.loop-left.height-bits) c.loop-left-test.false c.loop-left.invariant.narrowed)
