use Rattle.std.proofs.Common.{pos, arith, FitsSigned, w64, to_z-of_z}
use Rattle.std.proofs.lemmas.Int.{ints}
use Rattle.oe_ceiling.proofs.ListsBelow.{clear_below}
use Rattle.oe_ceiling.proofs.search.ceiling.Goals as goal

pub returns-then-is_clear-clause-most : goal.returns-then-is_clear-clause-most
returns-then-is_clear-clause-most g c =
    let f : FitsSigned w64 c.highest_clear.result = omega (arith, ints, c.highest_clear.ensures.highest.not_negative, c.highest_clear.ensures.most) in
    simp to_z-of_z c.highest_clear.ensures.most

pub returns-else-is_clear-clause-found : goal.returns-else-is_clear-clause-found
returns-else-is_clear-clause-found g c = λ height low clear.
    let e = c.is_clear.ensures.found.1 (clear_below c.args.sky.now c.args.filing.now (pos 0) height low clear) in
    absurd (cc)
