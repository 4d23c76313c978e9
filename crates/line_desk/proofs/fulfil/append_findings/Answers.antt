use Rattle.std.proofs.Common.{ap, ◌∙◌, List}
use Rattle.airfields.specs.declared.airfield.Airfield.{Airfield}
use Rattle.oe_findings.specs.List.{findings_of}
use Rattle.line_desk.proofs.QueryFacts.{found_after, found_told, ok_shown, on_err, on_ok}
use Rattle.line_desk.specs.Desk.{serving}
use Rattle.line_desk.proofs.fulfil.append_findings.Goals as goal

pub returns-clause-ok : goal.returns-clause-ok
returns-clause-ok g c =
    on_ok c.append_found.result
    (found_told g.K.Keeper.IsSteady g.K.Keeper.faults (serving c.args.clerk.now) _ _ c.args.filing.now c.accepted.result c.as_slice.result.now c.accepted.ensures
    (c.as_slice.ensures ∙ ok_shown c.screen.result c.if-is_err.ensures.value c.screen.ensures.found ∙ ap (λ (xs : List Airfield). findings_of xs c.args.filing.now) c.sky.ensures)) c.append_found.ensures.ok

pub returns-clause-made : goal.returns-clause-made
returns-clause-made g c = on_err c.append_found.result (found_after g.K.Keeper.IsSteady g.K.Keeper.faults (serving c.args.clerk.now) c.args.filing.now)

pub returns-then-is_err-clause-made : goal.returns-then-is_err-clause-made
returns-then-is_err-clause-made g c = on_err c.append_reply.result (found_after g.K.Keeper.IsSteady g.K.Keeper.faults (serving c.args.clerk.now) c.args.filing.now)
