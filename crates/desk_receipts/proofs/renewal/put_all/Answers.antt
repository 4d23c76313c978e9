use Rattle.std.proofs.Common.{List, subst, Err}
use Rattle.oe_keeper.specs.Keeping.{HasAll, IfFailed, Rose}
use Rattle.oe_keeper.specs.declared.change.RowChange.{RowChange}
use Rattle.oe_keeper.specs.declared.keeper.KeepErr.{KeepErr}
use Rattle.desk_receipts.proofs.renewal.put_all.Goals as goal

pub returns-in-Ok-clause-made : goal.returns-in-Ok-clause-made
returns-in-Ok-clause-made g c = subst (λ (l : List RowChange). HasAll g.K.Keeper.Tells c.args.keeper.now c.apply.new.self l) c.as_slice.ensures c.in-Ok.ensures.all

pub returns-in-Err-Failed-clause-cause : goal.returns-in-Err-Failed-clause-cause
returns-in-Err-Failed-clause-cause g c =
    let h = c.in-Err-Failed.ensures in
    let old = c.args.keeper.now in
    let new = c.apply.new.self in
    record {
      unsteady = λ steady. subst (λ (why : KeepErr). IfFailed {T = Unit {0}} (Err why) ⊥) c.in-Err-Failed.field-0-is (h.unfailing steady);
      rose = subst (λ (why : KeepErr). IfFailed {T = Unit {0}} (Err why) (Rose (g.K.Keeper.faults old) (g.K.Keeper.faults new))) c.in-Err-Failed.field-0-is h.cause.failed;
    }

pub returns-in-Ok-clause-later : goal.returns-in-Ok-clause-later
returns-in-Ok-clause-later g c = record { steady = c.in-Ok.ensures.steady; counted = c.in-Ok.ensures.cause.later }

pub returns-in-Err-Failed-clause-later : goal.returns-in-Err-Failed-clause-later
returns-in-Err-Failed-clause-later g c = record { steady = c.in-Err-Failed.ensures.steady; counted = c.in-Err-Failed.ensures.cause.later }
