use Rattle.std.proofs.Common.{codes, refl}
use Rattle.row_register.proofs.Keys.{two_parts}
use Rattle.row_register.proofs.desk.append_desk_key.Goals as goal

pub returns-in_ok-append_text-in-Closed-clause-ok : goal.returns-in_ok-append_text-in-Closed-clause-ok
returns-in_ok-append_text-in-Closed-clause-ok c =
    rw c.in-Closed.is (two_parts c.append.result _ _ _ (codes "closed ") _ _ c.in_ok-append_text-in-Closed.ensures.ok c.append.ensures.ok refl)
