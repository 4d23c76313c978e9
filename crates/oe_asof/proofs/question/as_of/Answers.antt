use Rattle.std.proofs.Common.{◌+◌, arith}
use Rattle.oe_asof.specs.Lines.{NoSite}
use Rattle.oe_asof.proofs.LineFacts.{numbered}
use Rattle.oe_asof.proofs.question.as_of.Goals as goal

pub returns-in-Err-clause-wrong : goal.returns-in-Err-clause-wrong
returns-in-Err-clause-wrong c =
    NoSite c.in-Some-entry_number.number c.next-2.new.self (c.in-Err.bad.before + 2)
    (numbered _ _ _ _ _ _ c.in-Some.ensures.some c.in-Some-next.ensures.some c.in-Some-entry_number.ensures.some c.in-Some-entry_number.ensures.small) c.in-Err.ensures.bad (omega arith)
