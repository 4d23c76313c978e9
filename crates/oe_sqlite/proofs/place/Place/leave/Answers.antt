use Rattle.std.proofs.Common.{◌≡◌, Bool, true, false, not, IsTrue, refl, sym, subst, arith}
use Rattle.std.proofs.Math.Logic.{∥∥₁_map}
use Rattle.sqlite.specs.Files.{file_state}
use Rattle.sqlite.specs.State.{HasCleanDisk}
use Rattle.oe_sqlite.specs.Places.{TellsAt, MayLeaveAt}
use Rattle.oe_sqlite.specs.declared.place.Place.{Place}
use Rattle.oe_sqlite.proofs.place.Place.leave.Goals as goal

outside : (b : Bool) → IsTrue (not b) → b ≡ false
outside true h = absurd cc
outside false h = refl

pub returns-in-File-clause-rows : goal.returns-in-File-clause-rows
returns-in-File-clause-rows g c clean rows tells =
    c.leave_rows.ensures.after clean (outside _ (subst IsTrue c.is_autocommit.ensures.value c.if-not-is_autocommit.false)) rows
    (subst (λ (p : Place _ _). TellsAt p rows) c.in-File.is tells)

pub returns-in-File-clause-found : goal.returns-in-File-clause-found
returns-in-File-clause-found g c clean image may =
    let sure : HasCleanDisk (file_state c.in-File.conn) = omega (arith, c.leave_rows.ensures.clean) in
    ∥∥₁_map (c.leave_rows.ensures.found clean image may) (λ it. (it.0, subst (λ (p : Place _ _). MayLeaveAt p it.0) (sym c.in-File.is) (sure, it.1), it.2))
