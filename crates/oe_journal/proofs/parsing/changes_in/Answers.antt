use Rattle.std.proofs.Common.{◌≡◌, ◌-◌, suc, ◌∷◌, [], length, Ok, ap, ◌∙◌, arith, length-append}
use Rattle.std.proofs.lemmas.Result.{err_from_is_err_and}
use Rattle.oe_journal.specs.Reading.{changes_within, changes_of}
use Rattle.oe_journal.proofs.ReadingLoop.{with_front, goes_on, fails, ends}
use Rattle.oe_journal.proofs.Takes.{not_empty, is_empty, change_takes}
use Rattle.oe_journal.proofs.Spelled.{ok_is_spelled, malformed_is_not}
use Rattle.oe_journal.proofs.parsing.changes_in.Goals as goal

pub returns-in_err-change-clause-read : goal.returns-in_err-change-clause-read
returns-in_err-change-clause-read c =
    let p = err_from_is_err_and c.from_residual.result c.from_residual.ensures.1 in
    let some = not_empty (length c.rest.rest.now) c.is_empty.result c.is_empty.ensures c.rest-test.true in
    let size = c.rest.invariant.size in
    let n = length c.args.bytes.now - length c.rest.changes.items in
    let one : n ≡ suc (n - 1) = omega arith in
    rw (p.1, p.2) (fails c.in_err-change.field-0.0 c.rest.changes.items n (n - 1) c.rest.rest.now (changes_of c.args.bytes.now) one some c.in_err-change.ensures c.rest.invariant.read)

pub returns-in_err-change-clause-malformed : goal.returns-in_err-change-clause-malformed
returns-in_err-change-clause-malformed c = malformed_is_not c.args.bytes.now c.from_residual.result (returns-in_err-change-clause-read c)

pub rest-smaller : goal.rest-smaller
rest-smaller c = change_takes c.rest.rest.now c.in_ok-change.change c.in_ok-change.after.now c.in_ok-change.ensures

pub rest-preserved : goal.rest-preserved
rest-preserved c =
    let some = not_empty (length c.rest.rest.now) c.is_empty.result c.is_empty.ensures c.rest-test.true in
    let size = c.rest.invariant.size in
    let shorter = change_takes c.rest.rest.now c.in_ok-change.change c.in_ok-change.after.now c.in_ok-change.ensures in
    let pushed = c.in_ok-push.ensures.items in
    let len = ap length pushed ∙ length-append c.rest.changes.items (c.in_ok-change.change ∷ []) in
    let n = length c.args.bytes.now - length c.rest.changes.items in
    let m = length c.args.bytes.now - length c.push.new.self.items in
    let one : n ≡ suc m = omega arith in
    let on = goes_on c.rest.changes.items n m c.rest.rest.now c.in_ok-change.change c.in_ok-change.after.now (changes_of c.args.bytes.now) one some c.in_ok-change.ensures c.rest.invariant.read in
    record {
      read = ap (λ l. with_front l (changes_within m c.in_ok-change.after.now)) pushed ∙ on;
      size = omega arith;
    }

pub returns-clause-read : goal.returns-clause-read
returns-clause-read c = ends c.rest.changes.items _ c.rest.rest.now (changes_of c.args.bytes.now) (is_empty (length c.rest.rest.now) c.is_empty.result c.is_empty.ensures c.rest-test.false) c.rest.invariant.read

pub returns-clause-spelled : goal.returns-clause-spelled
returns-clause-spelled c = ok_is_spelled c.args.bytes.now (Ok c.rest.changes) (λ i. omega (arith, c.type_inv.bytes i)) (returns-clause-read c)
