use Rattle.std.proofs.Common.{sym, subst}
use Rattle.std.specs.Prelude.{OnOk, OnErr, MatchResult}
use Rattle.oe_keeper.specs.Kept.{Kept, rows_after_changes}
use Rattle.oe_keeper.specs.Keeping.{Stays, StaysSilent, HasAll}
use Rattle.oe_sqlite.specs.Places.{TellsAt, IsHeldAt, IsInMemory, IsStore, StaysAt}
use Rattle.oe_sqlite.proofs.Telling.{always_ok, changed_memory, stays_same}
use Rattle.oe_sqlite.specs.declared.place.Place.{Place}
use Rattle.oe_sqlite.specs.declared.place.Place.TheVariants.{Memory, File}
use Rattle.oe_sqlite.proofs.place.Place.change.Goals as goal

pub returns-in-Memory-clause-held : goal.returns-in-Memory-clause-held
returns-in-Memory-clause-held g c = subst (λ (p : Place _ _). IsHeldAt p → IsHeldAt {g = g.D.Disk} (Memory c.change_told.new.conn)) (sym c.in-Memory.is) (λ held. (c.change_told.ensures.held held.0, c.change_told.ensures.mode held.1))

pub returns-in-Memory-clause-all : goal.returns-in-Memory-clause-all
returns-in-Memory-clause-all g c = subst (λ (p : Place _ _). OnOk c.change_told.result (HasAll TellsAt p (Memory c.change_told.new.conn) c.args.changes.now)) (sym c.in-Memory.is) c.change_told.ensures.all

pub returns-in-Memory-clause-none : goal.returns-in-Memory-clause-none
returns-in-Memory-clause-none g c = subst (λ (p : Place _ _). OnErr c.change_told.result (Stays TellsAt p (Memory c.change_told.new.conn))) (sym c.in-Memory.is) c.change_told.ensures.none

pub returns-in-Memory-clause-silent : goal.returns-in-Memory-clause-silent
returns-in-Memory-clause-silent g c = subst (λ (p : Place _ _). IsHeldAt p → StaysSilent TellsAt p (Memory c.change_told.new.conn)) (sym c.in-Memory.is) (λ held now told. ∣ c.change_told.ensures.silent held.0 now told ∣₁)

pub returns-in-File-clause-held : goal.returns-in-File-clause-held
returns-in-File-clause-held g c = subst (λ (p : Place _ _). IsHeldAt p → IsHeldAt (File c.change_told-in-File.new.conn)) (sym c.in-File.is) (λ held. (c.change_told-in-File.ensures.held held.0, c.change_told-in-File.ensures.mode held.1))

pub returns-in-File-clause-all : goal.returns-in-File-clause-all
returns-in-File-clause-all g c = subst (λ (p : Place _ _). OnOk c.change_told-in-File.result (HasAll TellsAt p (File c.change_told-in-File.new.conn) c.args.changes.now)) (sym c.in-File.is) c.change_told-in-File.ensures.all

pub returns-in-File-clause-none : goal.returns-in-File-clause-none
returns-in-File-clause-none g c = subst (λ (p : Place _ _). OnErr c.change_told-in-File.result (Stays TellsAt p (File c.change_told-in-File.new.conn))) (sym c.in-File.is) c.change_told-in-File.ensures.none

pub returns-in-File-clause-silent : goal.returns-in-File-clause-silent
returns-in-File-clause-silent g c = subst (λ (p : Place _ _). IsHeldAt p → StaysSilent TellsAt p (File c.change_told-in-File.new.conn)) (sym c.in-File.is) (λ held now told. ∣ c.change_told-in-File.ensures.silent held.0 now told ∣₁)

pub returns-in-Memory-clause-crash : goal.returns-in-Memory-clause-crash
returns-in-Memory-clause-crash g c held before told db may = absurd may

pub returns-in-File-clause-crash : goal.returns-in-File-clause-crash
returns-in-File-clause-crash g c held before told db may =
    let was = subst (λ (p : Place _ _). IsHeldAt p) c.in-File.is held in
    let tells = subst (λ (p : Place _ _). TellsAt p before) c.in-File.is told in
    c.change_told-in-File.ensures.crash may.0 was.1 before tells db may.1

pub returns-in-Memory-clause-placed : goal.returns-in-Memory-clause-placed
returns-in-Memory-clause-placed g c = subst (λ (p : Place _ _). StaysAt p (Memory c.change_told.new.conn)) (sym c.in-Memory.is) tt

pub returns-in-File-clause-placed : goal.returns-in-File-clause-placed
returns-in-File-clause-placed g c = subst (λ (p : Place _ _). StaysAt p (File c.change_told-in-File.new.conn)) (sym c.in-File.is) tt

pub returns-in-Memory-clause-stored : goal.returns-in-Memory-clause-stored
returns-in-Memory-clause-stored g c = always_ok c.change_told.result (subst (λ (p : Place _ _). IsStore p) (sym c.in-Memory.is) tt)

pub returns-in-File-clause-stored : goal.returns-in-File-clause-stored
returns-in-File-clause-stored g c = always_ok c.change_told-in-File.result (subst (λ (p : Place _ _). IsStore p) (sym c.in-File.is) tt)

pub returns-in-Memory-clause-memory : goal.returns-in-Memory-clause-memory
returns-in-Memory-clause-memory g c = λ here before told.
    let was = subst (λ (p : Place _ _). TellsAt p before) c.in-Memory.is told in
    changed_memory c.change_told.result c.in-Memory.conn c.change_told.new.conn before c.args.changes.now c.change_told.ensures.held c.change_told.ensures.all c.change_told.ensures.none was

pub returns-in-File-clause-memory : goal.returns-in-File-clause-memory
returns-in-File-clause-memory g c = λ here before told. absurd (subst (λ (p : Place _ _). IsInMemory p) c.in-File.is here)

pub returns-in-Nowhere-clause-placed : goal.returns-in-Nowhere-clause-placed
returns-in-Nowhere-clause-placed g c = stays_same c.args.self.now
