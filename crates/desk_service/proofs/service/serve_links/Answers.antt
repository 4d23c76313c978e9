use Rattle.std.proofs.Common.{◌∙◌, ap, map}
use Rattle.link_gates.specs.Teams.{together, served_in, served_of}
use denote.Param.{param}
use denote.Param.Send.{sendable, IsSend, IsSync}
use Rattle.std.proofs.Crossing.{crosses}
use Rattle.desk_machine.proofs.entry.Entry.TheSendSync as entry
use Rattle.tree_versions.proofs.publisher.Publisher.TheSendSync as publisher
use Rattle.tree_versions.proofs.seat.Seat.TheSendSync as seat
use Rattle.desk_service.proofs.ShiftFacts.{told_count}
use Rattle.desk_service.proofs.Threads.{clerk_send, routes_field_send, sky_send, sky_sync}
use Rattle.desk_service.proofs.service.serve_links.Goals as goal

pub returns-in-Ok-clause-count : goal.returns-in-Ok-clause-count
returns-in-Ok-clause-count g c lists e fine =
    let told = c.in-Ok.ensures.serves c.args.plan.now.turns lists (c.listen.ensures.lists ∙ e) in
    let counted = c.work_all.ensures.count fine in
    told_count (together (map (λ s. served_in s.turns (g.G.Port.Port.links s.port)) c.in_ok-shifts-in-Ok.shifts.items)) c.work_all.result.served
    (served_of c.args.plan.now.workers c.args.plan.now.turns lists) (ap together c.in_ok-shifts-in-Ok.ensures.serves ∙ told) (rw (← c.as_mut_slice.ensures.value) counted)

pub returns-in-Ok-clause-steady : goal.returns-in-Ok-clause-steady
returns-in-Ok-clause-steady g c = λ s. c.work_all.ensures.steady (rw c.as_mut_slice.ensures.value (c.in_ok-shifts-in-Ok.ensures.steady (c.in-Ok.ensures.steady_ports (c.listen.ensures.steady s))))

pub work_all-requires-send-S : goal.work_all-requires-send-S
work_all-requires-send-S g c κs within =
    let k : IsSend (param 0 g.row.K) = c.type_bounds.send-K in let j : IsSend (param 1 g.row.J) = c.type_bounds.send-J in
    let y : IsSync (param 1 g.row.J) = c.type_bounds.sync-J in let p : IsSend (param 4 g.row.G-Port) = c.type_bounds.send-G-Port in
    search (clerk_send, publisher.the_send, seat.the_send, routes_field_send, sky_send, sky_sync, entry.the_send, entry.the_sync, crosses, sendable) depth 60 fits 20000
