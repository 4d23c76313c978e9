use Rattle.std.proofs.Common.{inl, refl}
use Rattle.oe_sqlite.proofs.laws.told_again.Goals as goal

pub returns-in-Ok : goal.returns-in-Ok
returns-in-Ok g c clean nowhere untold found rows told =
    c.in-Ok.ensures.file nowhere untold refl rows (inl (c.in_ok-store.ensures.rows clean rows told (g.P.Opens.image c.args.next.opener) found))
