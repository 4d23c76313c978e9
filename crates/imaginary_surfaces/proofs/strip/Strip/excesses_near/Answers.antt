use Rattle.std.proofs.Common.{arith, ap}
use Rattle.std.proofs.lemmas.Int.{ints, by_lt_z}
use Rattle.imaginary_surfaces.proofs.strip.Strip.excesses_near.Goals as goal

pub excesses_before-requires-clause-before : goal.excesses_before-requires-clause-before
excesses_before-requires-clause-before c =
    by_lt_z _ _ (λ l. l) (λ l. absurd (let e = ap (λ o. o.along) c.requires.at in let t = c.is_past_start.ensures.1 (omega (arith, ints, e, l)) in let f = c.if-not-is_past_start.true in cc))

pub excesses_past-requires-clause-past : goal.excesses_past-requires-clause-past
excesses_past-requires-clause-past c =
    by_lt_z _ _ (λ l. l) (λ l. absurd (let e = ap (λ o. o.along) c.requires.at in let n = ap (λ o. o.square) c.requires.at in let t = c.is_before_end.ensures.1 (omega (arith, ints, e, n, l)) in let f = c.if-not-is_before_end.true in cc))
