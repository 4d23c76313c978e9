use Rattle.std.proofs.Common.{◌≡◌, sym, subst}
use Rattle.std.specs.Prelude.{IfOk}
use Rattle.oe_keeper.specs.Kept.{Kept}
use Rattle.oe_keeper.specs.Keeping.{Stays, StaysSilent}
use Rattle.oe_sqlite.specs.Places.{TellsAt, IsHeldAt, IsInMemory, IsStore, StaysAt}
use Rattle.oe_sqlite.proofs.Telling.{always_ok, loaded_memory, stays_same}
use Rattle.oe_sqlite.specs.declared.place.Place.{Place}
use Rattle.oe_sqlite.specs.declared.place.Place.TheVariants.{Memory, File}
use Rattle.oe_sqlite.proofs.place.Place.load_again.Goals as goal

pub returns-in-Memory-clause-held : goal.returns-in-Memory-clause-held
returns-in-Memory-clause-held g c = subst (λ (p : Place _ _). IsHeldAt p → IsHeldAt {g = g.D.Disk} (Memory c.load_again.new.conn)) (sym c.in-Memory.is) (λ held. (c.load_again.ensures.held held.0, c.load_again.ensures.mode held.1))

pub returns-in-Memory-clause-rows : goal.returns-in-Memory-clause-rows
returns-in-Memory-clause-rows g c = subst (λ (p : Place _ _). IsHeldAt p → IfOk c.load_again.result (λ rows. (now : Kept) → TellsAt {g = g.D.Disk} (Memory c.load_again.new.conn) now → now ≡ rows)) (sym c.in-Memory.is) (λ held. c.load_again.ensures.rows held.0)

pub returns-in-Memory-clause-stays : goal.returns-in-Memory-clause-stays
returns-in-Memory-clause-stays g c = subst (λ (p : Place _ _). Stays TellsAt p (Memory c.load_again.new.conn)) (sym c.in-Memory.is) c.load_again.ensures.stays

pub returns-in-Memory-clause-silent : goal.returns-in-Memory-clause-silent
returns-in-Memory-clause-silent g c = subst (λ (p : Place _ _). IsHeldAt p → StaysSilent TellsAt p (Memory c.load_again.new.conn)) (sym c.in-Memory.is) (λ held now told. ∣ c.load_again.ensures.silent held.0 now told ∣₁)

pub returns-in-File-clause-held : goal.returns-in-File-clause-held
returns-in-File-clause-held g c = subst (λ (p : Place _ _). IsHeldAt p → IsHeldAt (File c.load_again-in-File.new.conn)) (sym c.in-File.is) (λ held. (c.load_again-in-File.ensures.held held.0, c.load_again-in-File.ensures.mode held.1))

pub returns-in-File-clause-rows : goal.returns-in-File-clause-rows
returns-in-File-clause-rows g c = subst (λ (p : Place _ _). IsHeldAt p → IfOk c.load_again-in-File.result (λ rows. (now : Kept) → TellsAt (File c.load_again-in-File.new.conn) now → now ≡ rows)) (sym c.in-File.is) (λ held. c.load_again-in-File.ensures.rows held.0)

pub returns-in-File-clause-stays : goal.returns-in-File-clause-stays
returns-in-File-clause-stays g c = subst (λ (p : Place _ _). Stays TellsAt p (File c.load_again-in-File.new.conn)) (sym c.in-File.is) c.load_again-in-File.ensures.stays

pub returns-in-File-clause-silent : goal.returns-in-File-clause-silent
returns-in-File-clause-silent g c = subst (λ (p : Place _ _). IsHeldAt p → StaysSilent TellsAt p (File c.load_again-in-File.new.conn)) (sym c.in-File.is) (λ held now told. ∣ c.load_again-in-File.ensures.silent held.0 now told ∣₁)

pub returns-in-Memory-clause-placed : goal.returns-in-Memory-clause-placed
returns-in-Memory-clause-placed g c = subst (λ (p : Place _ _). StaysAt p (Memory c.load_again.new.conn)) (sym c.in-Memory.is) tt

pub returns-in-File-clause-placed : goal.returns-in-File-clause-placed
returns-in-File-clause-placed g c = subst (λ (p : Place _ _). StaysAt p (File c.load_again-in-File.new.conn)) (sym c.in-File.is) tt

pub returns-in-Memory-clause-memory : goal.returns-in-Memory-clause-memory
returns-in-Memory-clause-memory g c = λ here before told.
    let was = subst (λ (p : Place _ _). TellsAt p before) c.in-Memory.is told in
    loaded_memory c.load_again.result c.in-Memory.conn c.load_again.new.conn before c.load_again.ensures.held c.load_again.ensures.rows c.load_again.ensures.stays was

pub returns-in-File-clause-memory : goal.returns-in-File-clause-memory
returns-in-File-clause-memory g c = λ here before told. absurd (subst (λ (p : Place _ _). IsInMemory p) c.in-File.is here)

pub returns-in-Memory-clause-stored : goal.returns-in-Memory-clause-stored
returns-in-Memory-clause-stored g c = always_ok c.load_again.result (subst (λ (p : Place _ _). IsStore p) (sym c.in-Memory.is) tt)

pub returns-in-File-clause-stored : goal.returns-in-File-clause-stored
returns-in-File-clause-stored g c = always_ok c.load_again-in-File.result (subst (λ (p : Place _ _). IsStore p) (sym c.in-File.is) tt)

pub returns-in-Nowhere-clause-placed : goal.returns-in-Nowhere-clause-placed
returns-in-Nowhere-clause-placed g c = stays_same c.args.self.now
