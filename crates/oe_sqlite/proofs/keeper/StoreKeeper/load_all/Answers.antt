use Rattle.std.proofs.Common.{true≢false, sym, ◌∙◌}
use Rattle.std.proofs.Math.Logic.{∥∥₁_map}
use Rattle.oe_sqlite.proofs.Telling.{rows_told, silent_told, always_err, always_ok, never_ok, never_on_ok}
use Rattle.oe_sqlite.proofs.keeper.StoreKeeper.load_all.Goals as goal

pub invariant_of-self : goal.invariant_of-self
invariant_of-self g c = record { held = ∥∥₁_map c.args.self.now.held (λ h t. c.load_again.ensures.held (h t)) }

pub returns-then-self-clause-rows : goal.returns-then-self-clause-rows
returns-then-self-clause-rows g c = rows_told c.load_again.result c.args.self.now.is_told c.args.self.now.place c.load_again.new.self c.args.self.now.held c.load_again.ensures.rows

pub returns-then-self-clause-stays : goal.returns-then-self-clause-stays
returns-then-self-clause-stays g c before now b n = c.load_again.ensures.stays before now b.1 n.1

pub returns-then-self-clause-silent : goal.returns-then-self-clause-silent
returns-then-self-clause-silent g c = always_err c.load_again.result (silent_told c.args.self.now.is_told c.args.self.now.place c.load_again.new.self c.args.self.now.held c.load_again.ensures.silent)

pub returns-then-self-clause-memory : goal.returns-then-self-clause-memory
returns-then-self-clause-memory g c nowhere none = never_ok _ c.load_again.result c.args.self.now.place c.load_again.ensures.stored nowhere

pub returns-then-self-clause-opened : goal.returns-then-self-clause-opened
returns-then-self-clause-opened g c nowhere = never_on_ok _ c.load_again.result c.args.self.now.place c.load_again.ensures.stored nowhere

pub returns-then-self-clause-placed : goal.returns-then-self-clause-placed
returns-then-self-clause-placed g c = always_ok c.load_again.result c.load_again.ensures.placed

pub returns-then-self-clause-again : goal.returns-then-self-clause-again
returns-then-self-clause-again g c here before told = let h = c.load_again.ensures.memory here before told.1 in ((told.0, h.0), h.1)

pub returns-else-self-clause-again : goal.returns-else-self-clause-again
returns-else-self-clause-again g c here before told = absurd (true≢false (sym told.0 ∙ c.if-self.false))
