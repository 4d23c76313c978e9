use Rattle.std.proofs.Common.{length, inr, false, refl, sym, ap, subst, ◌∙◌, arith}
use Rattle.oe_keeper.specs.Kept.{Kept, rows_after_changes}
use Rattle.oe_journal.specs.Frames.{rows_of}
use Rattle.oe_journal.specs.Standing.{MayStand, IsReady, IsFrame}
use Rattle.oe_journal.proofs.Loaded.{loaded_of, not_both}
use Rattle.oe_journal.proofs.Gates.{acknowledged_now}
use Rattle.oe_journal.proofs.journal.JournalKeeperKeeper.apply.Goals as goal

pub returns-in_err-frame-clause-silent : goal.returns-in_err-frame-clause-silent
returns-in_err-frame-clause-silent g c = λ now telling. ∣ (now, telling) ∣₁

pub append-requires-clause-ready : goal.append-requires-clause-ready
append-requires-clause-ready g c = (loaded_of g.D.Disk.IsTold g.D.Disk.content g.D.Disk.MayLeave c.args.self.now c.requires).ready

pub append-requires-clause-bound : goal.append-requires-clause-bound
append-requires-clause-bound g c = (loaded_of g.D.Disk.IsTold g.D.Disk.content g.D.Disk.MayLeave c.args.self.now c.requires).bound

pub append-requires-clause-some : goal.append-requires-clause-some
append-requires-clause-some g c = let l = ap length (c.as_slice.ensures.value ∙ c.in_ok-frame.ensures.bytes) in omega arith

pub returns-in-Ok-clause-tells : goal.returns-in-Ok-clause-tells
returns-in-Ok-clause-tells g c =
    λ told rows was.
    let d = g.D.Disk in
    let k = c.args.self.now in
    let loaded = loaded_of d.IsTold d.content d.MayLeave k c.requires in
    let is_frame : IsFrame c.as_slice.result.now c.args.changes.now = record { is = c.as_slice.ensures.value ∙ c.in_ok-frame.ensures.bytes; bound = let b = c.in_ok-frame.ensures.bound in omega arith; fits = c.in_ok-frame.ensures.fits } in
    let done = c.in-Ok.ensures.appended told c.args.changes.now is_frame in
    let ready = subst (λ b. IsReady (d.content k.disk) (d.MayLeave k.disk) k.end b) (loaded.settled was.is_told) (loaded.ready told) in
    let here = g.met.D.Disk.content_left k.disk told in
    let acknowledged_is = was.rows_are ∙ acknowledged_now k.end (d.content k.disk) (d.MayLeave k.disk) here ready (d.content k.disk) here in
    record {
      disk_tells = told;
      is_open = c.append.ensures.open ∙ was.is_open;
      is_told = c.append.ensures.told ∙ was.is_told;
      rows_are = ap (λ (r : Kept). rows_after_changes r c.args.changes.now) acknowledged_is ∙ sym done.rows;
    }

pub returns-in-Ok-clause-all : goal.returns-in-Ok-clause-all
returns-in-Ok-clause-all g c = λ before now was telling. telling.rows_are ∙ sym (returns-in-Ok-clause-tells g c was.disk_tells before was).rows_are

pub returns-in-Ok-clause-silent : goal.returns-in-Ok-clause-silent
returns-in-Ok-clause-silent g c =
    λ now telling.
    let d = g.D.Disk in
    let k = c.args.self.now in
    let loaded = loaded_of d.IsTold d.content d.MayLeave k c.requires in
    ∣ (rows_of (d.content k.disk), record { disk_tells = telling.disk_tells; is_open = loaded.is_open; is_told = sym c.append.ensures.told ∙ telling.is_told; rows_are = refl }) ∣₁

pub returns-in-Ok-clause-loaded : goal.returns-in-Ok-clause-loaded
returns-in-Ok-clause-loaded g c =
    let d = g.D.Disk in
    let k = c.args.self.now in
    let loaded = loaded_of d.IsTold d.content d.MayLeave k c.requires in
    let is_frame : IsFrame c.as_slice.result.now c.args.changes.now = record { is = c.as_slice.ensures.value ∙ c.in_ok-frame.ensures.bytes; bound = let b = c.in_ok-frame.ensures.bound in omega arith; fits = c.in_ok-frame.ensures.fits } in
    let new = c.append.new.self in
    ∣ record {
      is_open = c.append.ensures.open ∙ loaded.is_open;
      bound = c.append.ensures.bound;
      settled = λ _. c.in-Ok.ensures.settled;
      ready = λ told. subst (λ b. IsReady (d.content new.disk) (d.MayLeave new.disk) new.end b) (sym c.in-Ok.ensures.settled) (c.in-Ok.ensures.appended told c.args.changes.now is_frame).ready;
    } ∣₁

pub returns-in-Ok-clause-stands : goal.returns-in-Ok-clause-stands
returns-in-Ok-clause-stands g c =
    λ told rows stand.
    let d = g.D.Disk in
    let is_frame : IsFrame c.as_slice.result.now c.args.changes.now = record { is = c.as_slice.ensures.value ∙ c.in_ok-frame.ensures.bytes; bound = let b = c.in_ok-frame.ensures.bound in omega arith; fits = c.in_ok-frame.ensures.fits } in
    let new = c.append.new.self in
    (c.in-Ok.ensures.appended told c.args.changes.now is_frame).stands rows (subst (λ b. MayStand b new.end (d.MayLeave new.disk) rows) c.in-Ok.ensures.settled stand)

pub returns-in-Ok-clause-file : goal.returns-in-Ok-clause-file
returns-in-Ok-clause-file g c =
    λ told.
    let is_frame : IsFrame c.as_slice.result.now c.args.changes.now = record { is = c.as_slice.ensures.value ∙ c.in_ok-frame.ensures.bytes; bound = let b = c.in_ok-frame.ensures.bound in omega arith; fits = c.in_ok-frame.ensures.fits } in
    (c.in-Ok.ensures.appended told c.args.changes.now is_frame).file

pub returns-in-Ok-clause-may_stand : goal.returns-in-Ok-clause-may_stand
returns-in-Ok-clause-may_stand g c =
    λ told rows stand.
    let d = g.D.Disk in
    let is_frame : IsFrame c.as_slice.result.now c.args.changes.now = record { is = c.as_slice.ensures.value ∙ c.in_ok-frame.ensures.bytes; bound = let b = c.in_ok-frame.ensures.bound in omega arith; fits = c.in_ok-frame.ensures.fits } in
    let new = c.append.new.self in
    inr ((c.in-Ok.ensures.appended told c.args.changes.now is_frame).stands rows (subst (λ b. MayStand b new.end (d.MayLeave new.disk) rows) c.in-Ok.ensures.settled stand))

pub returns-clause-loaded : goal.returns-clause-loaded
returns-clause-loaded g c =
    let d = g.D.Disk in
    let k = c.args.self.now in
    let loaded = loaded_of d.IsTold d.content d.MayLeave k c.requires in
    let is_frame : IsFrame c.as_slice.result.now c.args.changes.now = record { is = c.as_slice.ensures.value ∙ c.in_ok-frame.ensures.bytes; bound = let b = c.in_ok-frame.ensures.bound in omega arith; fits = c.in_ok-frame.ensures.fits } in
    let new = c.append.new.self in
    ∣ record {
      is_open = c.append.ensures.open ∙ loaded.is_open;
      bound = c.append.ensures.bound;
      settled = λ e. absurd cc;
      ready = λ told. subst (λ e. IsReady (d.content new.disk) (d.MayLeave new.disk) e new.to_settle) (sym c.in-Err.ensures.place) (c.in-Err.ensures.unappended told c.args.changes.now is_frame).ready;
    } ∣₁

pub returns-clause-may_stand : goal.returns-clause-may_stand
returns-clause-may_stand g c =
    λ told rows stand.
    let d = g.D.Disk in
    let is_frame : IsFrame c.as_slice.result.now c.args.changes.now = record { is = c.as_slice.ensures.value ∙ c.in_ok-frame.ensures.bytes; bound = let b = c.in_ok-frame.ensures.bound in omega arith; fits = c.in_ok-frame.ensures.fits } in
    let new = c.append.new.self in
    (c.in-Err.ensures.unappended told c.args.changes.now is_frame).stands rows (subst (λ e. MayStand new.to_settle e (d.MayLeave new.disk) rows) c.in-Err.ensures.place stand)

pub returns-clause-untold : goal.returns-clause-untold
returns-clause-untold g c = λ rows telling. not_both false telling.is_told refl
