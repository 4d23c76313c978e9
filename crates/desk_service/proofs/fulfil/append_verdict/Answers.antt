use Rattle.std.proofs.Common.{◌≡◌, ◌+◌, [], ap, refl, ◌∙◌, length, List}
use Rattle.std.specs.Arc.{arc_value}
use Rattle.airfields.specs.declared.airfield.Airfield.{Airfield}
use Rattle.finding_lists.specs.Verdicts.{verdict_of}
use Rattle.oe_findings.specs.List.{findings_of}
use Rattle.wire_requests.specs.declared.request.Request.TheVariants as requests
use Rattle.wire_requests.specs.declared.request.Query.TheVariants as queries
use Rattle.wire_replies.specs.declared.reply.Reply.TheVariants as replies
use Rattle.desk_service.proofs.Lines.{after, on_err, on_ok}
use Rattle.desk_service.proofs.Staying.{shown, wanting}
use Rattle.desk_service.proofs.Numbers.{number_is, verdict_is, version_here}
use Rattle.desk_service.proofs.fulfil.append_verdict.Goals as goal

pub returns-in_default-clause-ok : goal.returns-in_default-clause-ok
returns-in_default-clause-ok g c =
    on_ok c.append_reply.result (λ appended. wanting g.F.Keeper.Keeper.IsSteady g.F.Keeper.Keeper.faults g.J.Naming.first g.J.Naming.base g.J.Opening.opening (requests.Query (queries.Verdict c.args.filing.now)) _ _ c.args.place.now c.look.new.self c.look.ensures.stays appended) c.append_reply.ensures.ok

pub returns-clause-ok : goal.returns-clause-ok
returns-clause-ok g c =
    let site = c.args.filing.now in
    let w : List Airfield = arc_value c.in-Ok.shown.value in
    let t = c.look.new.self in
    let last : c.base.result + c.in-Ok.shown.number ≡ g.J.Naming.base + length t.front = number_is _ _ _ _ t.front c.base.ensures c.in-Ok.shown.counted c.in-Ok.ensures.front in
    let found : c.verdict.result ≡ verdict_of (findings_of w site) = c.verdict.ensures ∙ ap (λ (xs : List Airfield). verdict_of (findings_of xs site)) c.deref.ensures in
    on_ok c.append_reply-2.result
    (λ appended. shown g.F.Keeper.Keeper.IsSteady g.F.Keeper.Keeper.faults g.J.Naming.first g.J.Naming.base g.J.Opening.opening (queries.Verdict site) (replies.Verdict (c.base.result + c.in-Ok.shown.number) c.verdict.result) _ _ c.args.place.now t
    (w, version_here g.J.Naming.first c.in-Ok.shown.front t.front w c.in-Ok.ensures.front c.in-Ok.ensures.version, verdict_is _ _ _ _ last found) c.in-Ok.ensures.looks tt appended) c.append_reply-2.ensures.ok

pub returns-in_default-clause-made : goal.returns-in_default-clause-made
returns-in_default-clause-made g c =
    on_err c.append_reply.result
    (after g.F.Keeper.Keeper.IsSteady g.F.Keeper.Keeper.faults g.J.Naming.first g.J.Naming.base g.J.Opening.opening c.args.place.now c.look.new.self (requests.Query (queries.Verdict c.args.filing.now)) _ (wanting g.F.Keeper.Keeper.IsSteady g.F.Keeper.Keeper.faults g.J.Naming.first g.J.Naming.base g.J.Opening.opening (requests.Query (queries.Verdict c.args.filing.now)) [] _ c.args.place.now c.look.new.self c.look.ensures.stays refl))

pub returns-clause-made : goal.returns-clause-made
returns-clause-made g c =
    let site = c.args.filing.now in
    let w : List Airfield = arc_value c.in-Ok.shown.value in
    let s = c.args.place.now in
    let t = c.look.new.self in
    let last : c.base.result + c.in-Ok.shown.number ≡ g.J.Naming.base + length t.front = number_is _ _ _ _ t.front c.base.ensures c.in-Ok.shown.counted c.in-Ok.ensures.front in
    let found : c.verdict.result ≡ verdict_of (findings_of w site) = c.verdict.ensures ∙ ap (λ (xs : List Airfield). verdict_of (findings_of xs site)) c.deref.ensures in
    on_err c.append_reply-2.result
    (after g.F.Keeper.Keeper.IsSteady g.F.Keeper.Keeper.faults g.J.Naming.first g.J.Naming.base g.J.Opening.opening s t (requests.Query (queries.Verdict site)) _
    (shown g.F.Keeper.Keeper.IsSteady g.F.Keeper.Keeper.faults g.J.Naming.first g.J.Naming.base g.J.Opening.opening (queries.Verdict site) (replies.Verdict (c.base.result + c.in-Ok.shown.number) c.verdict.result) [] _ s t
    (w, version_here g.J.Naming.first c.in-Ok.shown.front t.front w c.in-Ok.ensures.front c.in-Ok.ensures.version, verdict_is _ _ _ _ last found) c.in-Ok.ensures.looks tt refl))
