use Rattle.std.proofs.Common.{arith}
use Rattle.short_text.proofs.Fill.{filled_with}
use Rattle.short_text.proofs.short_text.ShortText.new.Goals as goal

pub invariant_of-result : goal.invariant_of-result
invariant_of-result g c = rw (c.copy_from_slice.ensures.after, c.in-Ok.ensures.1) (filled_with _ c.args.text.now (omega arith))
