use Rattle.std.proofs.Common.{◌≡◌, subst, ℕ, length, arith}
use Rattle.filing_desk.specs.Marked.{AreMarksTo}
use Rattle.filing_desk.proofs.MarksAnew.{marks_all}
use Rattle.filing_desk.proofs.reopening.counted_marks.Goals as goal

pub returns : goal.returns
returns g c =
    let all : c.loop-place.place ≡ length c.args.desk.now.cases = omega (arith, c.loop-place-test.false, c.loop-place.auto.place-end, c.count-place-end.ensures) in
    marks_all c.args.desk.now c.loop-place.marks (subst (λ (n : ℕ). AreMarksTo c.args.desk.now n c.loop-place.marks) all c.loop-place.invariant)
