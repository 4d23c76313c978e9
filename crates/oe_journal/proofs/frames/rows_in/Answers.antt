use Rattle.std.proofs.Common.{arith, length-drop}
use Rattle.std.proofs.lemmas.List.{take_rest}
use Rattle.oe_journal.proofs.FileLoop.{found, not_found, shows_more, shown_all, shown_end}
use Rattle.oe_journal.proofs.frames.rows_in.Goals as goal

pub frames-smaller : goal.frames-smaller
frames-smaller c =
    let first = found c.args.file.now c.frames.end c.frames.tables c.frames.invariant c.first_payload.result c.in-Some.payload _ c.first_payload.ensures.payload c.in-Some.is (take_rest c.args.file.now c.frames.end) in
    let within = first.within in
    let len = length-drop c.frames.end c.args.file.now in
    omega arith

pub frames-preserved : goal.frames-preserved
frames-preserved c =
    let first = found c.args.file.now c.frames.end c.frames.tables c.frames.invariant c.first_payload.result c.in-Some.payload _ c.first_payload.ensures.payload c.in-Some.is (take_rest c.args.file.now c.frames.end) in
    shows_more c.args.file.now c.frames.end c.frames.tables c.frames.invariant c.in-Some.payload.now c.change_by.new.tables first c.in_ok-change_by.ensures

pub returns-clause-rows : goal.returns-clause-rows
returns-clause-rows c =
    shown_all c.args.file.now c.frames.end c.frames.tables c.frames.invariant (not_found c.args.file.now c.frames.end c.frames.tables c.frames.invariant c.first_payload.result _ c.first_payload.ensures.payload c.in_default.is (take_rest c.args.file.now c.frames.end))

pub returns-clause-end : goal.returns-clause-end
returns-clause-end c =
    shown_end c.args.file.now c.frames.end c.frames.tables c.frames.invariant (not_found c.args.file.now c.frames.end c.frames.tables c.frames.invariant c.first_payload.result _ c.first_payload.ensures.payload c.in_default.is (take_rest c.args.file.now c.frames.end))
