use Rattle.std.proofs.Common.{◌≡◌, inl, inr, true, false, refl, sym, ap, subst, ◌∙◌}
use Rattle.std.proofs.lemmas.Bool.{cases_Bool}
use Rattle.crash_disks.specs.Crash.{Passes}
use Rattle.oe_journal.specs.Frames.{rows_of}
use Rattle.oe_journal.specs.Journal.{IsCutTo}
use Rattle.oe_journal.specs.Standing.{MayStand}
use Rattle.oe_journal.proofs.Loaded.{on_err_map, if_ok_both, if_no_memory, if_failed, not_both}
use Rattle.oe_journal.proofs.Moments.{on_ok}
use Rattle.oe_journal.proofs.journal.JournalKeeperKeeper.load.Goals as goal

pub returns-clause-silent : goal.returns-clause-silent
returns-clause-silent g c =
    on_err_map c.reload.result
    (λ silent now telling.
    let k = c.args.self.now in
    let told = silent telling.is_told in
    elim (cases_Bool k.is_open) [
      | inl is_open ↦
          let e = c.in_ok-open.ensures.again is_open in
          ∣ (rows_of (g.D.Disk.content k.disk), record { disk_tells = telling.disk_tells; is_open = is_open; is_told = ap (λ j. j.is_told) (sym e) ∙ told; rows_are = refl }) ∣₁
      | inr shut ↦ absurd (not_both c.open.new.self.is_told told (c.in_ok-open.ensures.first shut).is_told)
    ])
    c.reload.ensures.silent

pub returns-clause-kept : goal.returns-clause-kept
returns-clause-kept g c =
    if_no_memory {R = c.reload.new.self.is_told ≡ true → g.D.Disk.content c.reload.new.self.disk ≡ g.D.Disk.content c.open.new.self.disk} c.reload.result
    (λ same_told same rows telling.
    let e = c.in_ok-open.ensures.again telling.is_open in
    let is_told = same_told ∙ ap (λ j. j.is_told) e ∙ telling.is_told in
    record {
      disk_tells = telling.disk_tells;
      is_open = c.reload.ensures.open ∙ ap (λ j. j.is_open) e ∙ telling.is_open;
      is_told = is_told;
      rows_are = telling.rows_are ∙ ap rows_of (sym (same telling.disk_tells is_told ∙ ap (λ j. g.D.Disk.content j.disk) e));
    })
    c.reload.ensures.kept c.reload.ensures.same

pub returns-clause-stands : goal.returns-clause-stands
returns-clause-stands g c = λ told. if_ok_both c.reload.result (λ rows mended is r stand. mended.stands r stand ∙ sym is) (c.reload.ensures.mended told) (c.reload.ensures.rows told)

pub returns-clause-file : goal.returns-clause-file
returns-clause-file g c =
    λ told.
    let d = g.D.Disk in
    let new = c.reload.new.self in
    on_ok c.reload.result
    (λ mended. record {
      again = λ is_open. subst (λ j. IsCutTo d.content (d.content j.disk) new) (c.in_ok-open.ensures.again is_open) mended.file;
      first = λ shut. (c.open.new.self.disk, (c.in_ok-open.ensures.first shut).opens, mended.file);
    })
    (c.reload.ensures.mended told)

pub returns-clause-fresh : goal.returns-clause-fresh
returns-clause-fresh g c = λ told. on_ok c.reload.result (λ mended. record { stands = λ r stand. mended.stands r stand ∙ sym mended.acknowledges }) (c.reload.ensures.mended told)

pub returns-clause-crash : goal.returns-clause-crash
returns-clause-crash g c =
    λ told is_open.
    let d = g.D.Disk in
    let new = c.reload.new.self in
    let e = c.in_ok-open.ensures.again is_open in
    record {
      stands = λ rows stand. subst (λ j. MayStand j.to_settle j.end (d.MayLeave j.disk) rows) e (c.reload.ensures.stands told rows stand);
      time = λ past.
          subst (λ j. Passes (d.moment j.disk) (d.moment new.disk) (d.LeftSince j.disk) (d.LeftSince new.disk) (λ x. MayStand j.to_settle j.end (d.MayLeave j.disk) (rows_of x))) e (c.reload.ensures.time told past);
    }

pub returns-clause-first_crash : goal.returns-clause-first_crash
returns-clause-first_crash g c =
    λ told shut _.
    let d = g.D.Disk in
    let new = c.reload.new.self in
    let opened = c.open.new.self in
    let f = c.in_ok-open.ensures.first shut in (
      opened.disk,
      f.opens,
      record {
        stands = λ rows stand. subst (λ e. MayStand false e (d.MayLeave opened.disk) rows) f.end (subst (λ b. MayStand b opened.end (d.MayLeave opened.disk) rows) f.to_settle (c.reload.ensures.stands told rows stand));
        time = λ past.
            subst (λ e. Passes (d.moment opened.disk) (d.moment new.disk) (d.LeftSince opened.disk) (d.LeftSince new.disk) (λ x. MayStand false e (d.MayLeave opened.disk) (rows_of x))) f.end
            (subst (λ b. Passes (d.moment opened.disk) (d.moment new.disk) (d.LeftSince opened.disk) (d.LeftSince new.disk) (λ x. MayStand b opened.end (d.MayLeave opened.disk) (rows_of x))) f.to_settle (c.reload.ensures.time told past));
      },
    )

pub returns-clause-untold : goal.returns-clause-untold
returns-clause-untold g c = if_failed c.reload.result (λ untold rows telling. not_both c.reload.new.self.is_told telling.is_told untold) c.reload.ensures.untold
