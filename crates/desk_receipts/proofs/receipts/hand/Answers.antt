use Rattle.std.proofs.Common.{subst, Err}
use Rattle.oe_keeper.specs.Keeping.{IfFailed, Rose}
use Rattle.oe_keeper.specs.declared.keeper.KeepErr.{KeepErr}
use Rattle.desk_receipts.proofs.Unasked.{told_on, told_still}
use Rattle.desk_receipts.proofs.receipts.hand.Goals as goal

pub returns-in-Ok-clause-handed : goal.returns-in-Ok-clause-handed
returns-in-Ok-clause-handed g c =
    let h = c.in-Ok.ensures in
    record {
      done = told_on g.K.Keeper.Tells c.args.keeper.now c.apply.new.self c.args.changes.now h.silent h.all;
      undone = tt;
      loaded = h.loaded;
      later = record { steady = h.steady; counted = h.cause.later };
      cause = tt;
    }

pub returns-in-Err-Failed-clause-handed : goal.returns-in-Err-Failed-clause-handed
returns-in-Err-Failed-clause-handed g c =
    let h = c.in-Err-Failed.ensures in
    let old = c.args.keeper.now in
    let new = c.apply.new.self in
    record {
      done = tt;
      undone = told_still g.K.Keeper.Tells old new h.silent h.none;
      loaded = h.loaded;
      later = record { steady = h.steady; counted = h.cause.later };
      cause = λ e. record {
        unsteady = λ steady. subst (λ (why : KeepErr). IfFailed {T = Unit {0}} (Err why) ⊥) c.in-Err-Failed.field-0-is (h.unfailing steady);
        rose = subst (λ (why : KeepErr). IfFailed {T = Unit {0}} (Err why) (Rose (g.K.Keeper.faults old) (g.K.Keeper.faults new))) c.in-Err-Failed.field-0-is h.cause.failed;
      };
    }

pub returns-in-Err-NoMemory-clause-handed : goal.returns-in-Err-NoMemory-clause-handed
returns-in-Err-NoMemory-clause-handed g c =
    let h = c.in-Err-NoMemory.ensures in
    record {
      done = tt;
      undone = told_still g.K.Keeper.Tells c.args.keeper.now c.apply.new.self h.silent h.none;
      loaded = h.loaded;
      later = record { steady = h.steady; counted = h.cause.later };
      cause = λ e. absurd (cc (e));
    }
