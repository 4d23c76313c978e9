use Rattle.std.proofs.Common.{◌≡◌, ◌<◌, ◌≤◌, ◌+◌, ◌++◌, ◌∷◌, [], List, ℕ, subst, arith, length, take, drop, cond, suc}
use Rattle.review_marks.specs.Books.{row_at, with_marks}
use Rattle.review_marks.specs.Shares.{AirfieldChange, change_of, concerns_row}
use Rattle.review_marks.specs.Turns.{HasReached, IsTurnedTo}
use Rattle.review_marks.proofs.Turning.{IsAt, exact_after, step_on, steps_all, turned_done, turned_next}
use Rattle.review_marks.proofs.NearCases.{near_cases}
use Rattle.review_marks.proofs.book.MarkBook.amended.Goals as goal

pub returns-in_err-recheck-clause-steps : goal.returns-in_err-recheck-clause-steps
returns-in_err-recheck-clause-steps g c =
    let changed = change_of c.args.changed.now in
    let rows = c.args.self.now in
    let ns = c.in_ok-reached.reached.items in
    let short : c.loop-i.i < length ns = omega (arith, c.loop-i-test.true, c.len-i-end.ensures) in
    let more = subst (λ (v : AirfieldChange). c.recheck.new.steps ≤ c.loop-i.steps + cond (concerns_row v (row_at rows c.index.result.now)) 1 0) c.in_ok-change.ensures c.recheck.ensures.steps in
    steps_all changed rows _ c.args.steps.now c.recheck.new.steps
    (step_on changed rows ns c.loop-i.i c.index.result.now c.args.steps.now c.loop-i.steps c.recheck.new.steps short c.index.ensures c.loop-i.invariant.1 more)

pub loop-i-preserved : goal.loop-i-preserved
loop-i-preserved g c =
    let changed = change_of c.args.changed.now in
    let sky = c.args.sky.now in
    let rows = c.args.self.now in
    let ns = c.in_ok-reached.reached.items in
    let short : c.loop-i.i < length ns = omega (arith, c.loop-i-test.true, c.len-i-end.ensures) in
    let more = subst (λ (v : AirfieldChange). c.recheck.new.steps ≤ c.loop-i.steps + cond (concerns_row v (row_at rows c.index.result.now)) 1 0) c.in_ok-change.ensures c.recheck.ensures.steps in
    let turns = subst (λ (v : AirfieldChange). (ks : List ℕ) → IsTurnedTo sky v rows c.loop-i.marks.items ks → IsTurnedTo sky v rows c.recheck.new.marks.items (ks ++ c.index.result.now ∷ [])) c.in_ok-change.ensures c.in_ok-recheck.ensures.turned in
    let one : suc c.loop-i.i ≡ c.loop-i.i + 1 = omega arith in (
      subst (λ (i : ℕ). IsTurnedTo sky changed rows c.recheck.new.marks.items (take i ns)) one
          (turned_next sky changed rows c.recheck.new.marks.items ns c.loop-i.i c.index.result.now short c.index.ensures (turns (take c.loop-i.i ns) c.loop-i.invariant.0)),
      subst (λ (i : ℕ). IsAt changed rows (drop i ns) c.args.steps.now c.recheck.new.steps) one
          (step_on changed rows ns c.loop-i.i c.index.result.now c.args.steps.now c.loop-i.steps c.recheck.new.steps short c.index.ensures c.loop-i.invariant.1 more),
    )

pub returns-clause-turned : goal.returns-clause-turned
returns-clause-turned g c =
    let all = subst (λ (v : AirfieldChange). HasReached v c.args.self.now c.in_ok-reached.reached.items (length c.args.self.now)) c.in_ok-change.ensures c.in_ok-reached.ensures.all in
    turned_done c.args.sky.now (change_of c.args.changed.now) c.args.self.now c.loop-i.marks.items c.in_ok-reached.reached.items c.loop-i.i (omega (arith, c.loop-i-test.false, c.len-i-end.ensures)) all c.loop-i.invariant.0

pub returns-clause-exact : goal.returns-clause-exact
returns-clause-exact g c =
    let all = subst (λ (v : AirfieldChange). HasReached v c.args.self.now c.in_ok-reached.reached.items (length c.args.self.now)) c.in_ok-change.ensures c.in_ok-reached.ensures.all in
    λ before leads exact.
    exact_after c.args.sky.now (change_of c.args.changed.now) c.args.self.now before (with_marks c.loop-i.marks.items c.args.self.now) leads
    (turned_done c.args.sky.now (change_of c.args.changed.now) c.args.self.now c.loop-i.marks.items c.in_ok-reached.reached.items c.loop-i.i (omega (arith, c.loop-i-test.false, c.len-i-end.ensures)) all c.loop-i.invariant.0) exact

pub returns-clause-steps : goal.returns-clause-steps
returns-clause-steps g c = steps_all (change_of c.args.changed.now) c.args.self.now _ c.args.steps.now c.loop-i.steps c.loop-i.invariant.1

pub returns-in_err-recheck-clause-near : goal.returns-in_err-recheck-clause-near
returns-in_err-recheck-clause-near g c n near =
    let cases = near_cases (change_of c.args.changed.now) c.args.self.now n c.requires.held c.in_ok-reached.ensures.sites near in
    let steps = returns-in_err-recheck-clause-steps g c in
    omega (arith, cases, steps)

pub returns-clause-near : goal.returns-clause-near
returns-clause-near g c n near =
    let cases = near_cases (change_of c.args.changed.now) c.args.self.now n c.requires.held c.in_ok-reached.ensures.sites near in
    let steps = returns-clause-steps g c in
    omega (arith, cases, steps)
