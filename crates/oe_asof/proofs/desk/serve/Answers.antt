use Rattle.std.proofs.Common.{◌∙◌, ◌<◌, ap, length, List}
use Rattle.airfield_findings.proofs.EntryFacts.{where_ok}
use Rattle.desk_machine.specs.States.{last_number}
use Rattle.line_desk.proofs.QueryFacts.{on_err}
use Rattle.line_desk.proofs.StepFacts.{after_wanting, some_bytes}
use Rattle.oe_asof.specs.Versions.{Version, version, with_version}
use Rattle.oe_asof.proofs.ServeFacts.{all_kept, order_kept}
use Rattle.oe_asof.proofs.desk.serve.Goals as goal

pub keep_version-requires-clause-order : goal.keep_version-requires-clause-order
keep_version-requires-clause-order g c =
    rw c.in-Ok.ensures.same
    (order_kept g.K.Keeper.Tells g.K.Keeper.IsSteady g.K.Keeper.faults c.args.history.now.versions _ _ _ _ _ c.requires.all c.in_ok-append_answer.ensures.ok)

pub returns-clause-all : goal.returns-clause-all
returns-clause-all g c =
    where_ok c.keep_version.result
    (λ e. all_kept g.K.Keeper.Tells g.K.Keeper.IsSteady g.K.Keeper.faults c.args.history.now.versions _ _ _ _ _ _ c.requires.all c.in_ok-append_answer.ensures.ok
    (e ∙ ap (λ (vs : List Version). with_version vs (version (last_number c.append_answer.new.clerk.state) c.append_answer.new.clerk.state.register)) c.in-Ok.ensures.same))
    c.keep_version.ensures.kept

pub returns-in-Err-clause-made : goal.returns-in-Err-clause-made
returns-in-Err-clause-made g c =
    let some : 0 < length c.args.line.now = some_bytes c.is_empty.result c.args.line.now c.is_empty.ensures (cc (c.if-is_empty.false)) in
    on_err c.append_refused.result (after_wanting g.K.Keeper.IsSteady g.K.Keeper.faults _ c.args.line.now some)

pub returns-clause-made : goal.returns-clause-made
returns-clause-made g c =
    let answer = c.in_ok-append_answer.ensures.ok in
    on_err c.keep_version.result (answer.reply, answer.step)

pub returns-clause-part : goal.returns-clause-part
returns-clause-part g c =
    let answer = c.in_ok-append_answer.ensures.ok in
    on_err c.keep_version.result (record { part = answer.reply; grown = answer.appended })
