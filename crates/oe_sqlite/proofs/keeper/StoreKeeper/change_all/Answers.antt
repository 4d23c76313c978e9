use Rattle.std.proofs.Math.Logic.{∥∥₁_map}
use Rattle.oe_sqlite.proofs.Telling.{match_told, silent_told, on_err}
use Rattle.oe_sqlite.proofs.keeper.StoreKeeper.change_all.Goals as goal

pub invariant_of-self : goal.invariant_of-self
invariant_of-self g c = record { held = ∥∥₁_map c.args.self.now.held (λ h t. c.change.ensures.held (h t)) }

pub returns-clause-none : goal.returns-clause-none
returns-clause-none g c = on_err c.change.result (λ stays before now b n. stays before now b.1 n.1) c.change.ensures.none

pub returns-clause-silent : goal.returns-clause-silent
returns-clause-silent g c = silent_told c.args.self.now.is_told c.args.self.now.place c.change.new.self c.args.self.now.held c.change.ensures.silent

pub returns-clause-crash : goal.returns-clause-crash
returns-clause-crash g c before told db may = ∥∥₁_map c.args.self.now.held (λ held. c.change.ensures.crash (held told.0) before told.1 db may)

pub returns-clause-memory : goal.returns-clause-memory
returns-clause-memory g c here before told = match_told _ _ c.change.result c.args.self.now.is_told told.0 (c.change.ensures.memory here before told.1)
