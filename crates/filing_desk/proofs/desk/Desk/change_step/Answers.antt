use Rattle.std.proofs.Common.{◌≡◌, ◌++◌, sym, subst}
use Rattle.std.specs.Prelude.{OnOk}
use Rattle.case_acts.specs.declared.effect.Step.{Step}
use Rattle.desk_tables.specs.Changes.{step_changes}
use Rattle.filing_desk.proofs.desk.Desk.change_step.Goals as goal

pub returns-in-FormPut : goal.returns-in-FormPut
returns-in-FormPut c =
    subst (λ (step : Step). OnOk c.change_form.result (c.change_form.new.list ≡ c.args.list.now ++ step_changes c.args.self.now step)) (sym c.in-FormPut.is) c.change_form.ensures

pub returns-in-LifePut : goal.returns-in-LifePut
returns-in-LifePut c =
    subst (λ (step : Step). OnOk c.change_life.result (c.change_life.new.list ≡ c.args.list.now ++ step_changes c.args.self.now step)) (sym c.in-LifePut.is) c.change_life.ensures

pub returns-in-Issued : goal.returns-in-Issued
returns-in-Issued c =
    subst (λ (step : Step). OnOk c.change_issued.result (c.change_issued.new.list ≡ c.args.list.now ++ step_changes c.args.self.now step)) (sym c.in-Issued.is) c.change_issued.ensures
