use Rattle.std.proofs.Common.{List, option_copied, subst, Err, ◌≡◌}
use Rattle.oe_keeper.specs.Keeping.{IfFailed, Rose}
use Rattle.oe_keeper.specs.declared.change.RowChange.{RowChange}
use Rattle.oe_keeper.specs.declared.keeper.KeepErr.{KeepErr}
use Rattle.desk_receipts.specs.Renewals.{HasRenewed}
use Rattle.filing_desk.proofs.Deciding.{opened_now}
use Rattle.filing_desk.proofs.Opened.{bad_found, later_twice, not_renewed, told_renewed}
use Rattle.filing_desk.proofs.clerk.Clerk.open.Goals as goal

pub invariant_of-result : goal.invariant_of-result
invariant_of-result g c =
    let h = g.K.Keeper in
    let opened = c.in-Ok-office_of.opened in
    let kept = c.in-Ok.tables in
    let between = c.load.new.self in
    let after = c.renew.new.keeper in
    let renewed = subst (λ (changes : List RowChange). HasRenewed h.Tells changes between after) c.in-Ok-office_of.ensures.renewal c.in-Ok-renew.ensures.renewed in
    let begun = opened_now opened.office c.accepted-base.result after c.accepted-base.ensures.value in
    record {
      within = begun.0;
      opening = begun.1;
      desk = c.opened_is_desk.ensures opened.office kept c.in-Ok-office_of.ensures.opened;
      told = told_renewed h.Tells kept between after opened.office c.in-Ok.ensures.rows renewed c.in-Ok-office_of.ensures.rows;
      loaded = c.in-Ok-renew.ensures.loaded;
    }

pub returns-in-Ok-renew-clause-opened : goal.returns-in-Ok-renew-clause-opened
returns-in-Ok-renew-clause-opened g c =
    let h = c.in-Ok.ensures in
    let k = g.K.Keeper in
    let between = c.load.new.self in
    let after = c.renew.new.keeper in
    let begun = opened_now c.in-Ok-office_of.opened.office c.accepted-base.result after c.accepted-base.ensures.value in
    record {
      kept = c.in-Ok.tables;
      between = between;
      loaded = record { found = h.found; told = h.rows; stays = h.stays };
      renewed = subst (λ (changes : List RowChange). HasRenewed k.Tells changes between after) c.in-Ok-office_of.ensures.renewal c.in-Ok-renew.ensures.renewed;
      later = later_twice k.Tells k.Finds k.IsSteady k.faults c.args.keeper (option_copied c.args.place) between after
          (record { steady = h.steady; counted = h.cause.later }) c.in-Ok-renew.ensures.later;
      opens = c.in-Ok-office_of.ensures.opened;
      accepted = begun.2;
    }

pub returns-in-Err-Failed-clause-cause : goal.returns-in-Err-Failed-clause-cause
returns-in-Err-Failed-clause-cause g c =
    let h = c.in-Err-Failed.ensures in
    let old = c.args.keeper in
    let new = c.load.new.self in (
      new,
      record { steady = h.steady; counted = h.cause.later },
      record {
        unsteady = λ steady. subst (λ (why : KeepErr). IfFailed {T = Unit {0}} (Err why) ⊥) c.in-Err-Failed.field-0-is (h.unfailing steady);
        rose = subst (λ (why : KeepErr). IfFailed {T = Unit {0}} (Err why) (Rose (g.K.Keeper.faults old) (g.K.Keeper.faults new))) c.in-Err-Failed.field-0-is h.cause.failed;
      },
    )

pub returns-in-Err-clause-cause : goal.returns-in-Err-clause-cause
returns-in-Err-clause-cause g c =
    let h = c.in-Ok.ensures in
    bad_found g.K.Keeper.Tells g.K.Keeper.Finds g.K.Keeper.IsSteady g.K.Keeper.faults c.args.keeper (option_copied c.args.place) c.in-Ok.tables c.load.new.self
    (record { found = h.found; told = h.rows; stays = h.stays }) c.in-Err.why c.in-Err.ensures.bad

pub returns-in-Err-renew-clause-cause : goal.returns-in-Err-renew-clause-cause
returns-in-Err-renew-clause-cause g c =
    let h = c.in-Ok.ensures in
    not_renewed g.K.Keeper.Tells g.K.Keeper.Finds g.K.Keeper.IsSteady g.K.Keeper.faults c.args.keeper (option_copied c.args.place) c.load.new.self c.renew.new.keeper
    (record { steady = h.steady; counted = h.cause.later }) c.in-Err-renew.ensures.later c.in-Err-renew.why c.in-Err-renew.ensures.cause
