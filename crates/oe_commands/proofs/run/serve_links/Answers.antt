use Rattle.std.proofs.Common.{◌≡◌, inl, inr, option_copied, refl, subst, sym, ◌∙◌}
use Rattle.line_desk.specs.Desk.{serving}
use Rattle.oe_commands.specs.Runs.{IsUnopened}
use Rattle.oe_commands.specs.declared.status.Status.{Status}
use Rattle.oe_commands.proofs.OpenFacts.{bad_row, unopened}
use Rattle.oe_commands.proofs.run.serve_links.Goals as goal

pub returns-in-Ok-clause-links : goal.returns-in-Ok-clause-links
returns-in-Ok-clause-links g c = inl (record {
  opened = serving c.in-Ok.clerk;
  rows = c.in-Ok.ensures.opened.kept;
  found = c.in-Ok.ensures.opened.loaded.found;
  opens = c.in-Ok.ensures.opened.opens;
  later = c.in-Ok.ensures.opened.later;
  told = c.keeper.ensures.told;
  end = c.serve.result;
  ended = c.service_status.ensures;
  serves = c.serve.ensures.serves;
})

pub returns-in-Err-clause-links : goal.returns-in-Err-clause-links
returns-in-Err-clause-links g c =
    inr (
      subst (λ (s : Status). IsUnopened g.K.Keeper.Finds g.K.Keeper.IsSteady c.args.keeper (option_copied c.args.path) s) (sym c.refused_status.ensures)
          (unopened g.K.Keeper.Tells g.K.Keeper.Finds g.K.Keeper.IsSteady g.K.Keeper.faults c.args.keeper (option_copied c.args.path) c.in-Err.refusal c.in-Err.ensures.cause),
      refl,
      refl,
    )

pub returns-in-Err-clause-bad_row : goal.returns-in-Err-clause-bad_row
returns-in-Err-clause-bad_row g c = λ table key e.
    bad_row g.K.Keeper.Tells g.K.Keeper.Finds g.K.Keeper.IsSteady g.K.Keeper.faults c.args.keeper (option_copied c.args.path) c.in-Err.refusal c.in-Err.ensures.cause table key (sym c.refused_status.ensures ∙ e)
