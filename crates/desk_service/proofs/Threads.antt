-- What a shift holds may go to another thread, or be read by it. The compiler finds this of most types by itself; its search gives up where a
-- type that holds itself (the parts of a tree) stands far below, so those are said one by one.
use denote.RattleType.{RattleType}
use denote.Struct.Declared as declared
use denote.Param.Send.{IsSend, IsSync, sendable, view_send, recorded_send, struct_send}
use Rattle.std.proofs.Crossing.{crosses}
use Rattle.airport_register.specs.contracts.register.Register as Register
use Rattle.oe_findings.specs.contracts.sky.Sky as Sky
use Rattle.oe_findings.specs.contracts.surroundings.Surroundings as Surroundings
use Rattle.http_messages.specs.contracts.routes.Routes as Routes
use Rattle.oe_keeper.specs.declared.keeper.Keeper as Keeper
use Rattle.filing_desk.specs.contracts.desk.Desk as Desk
use Rattle.filing_desk.specs.contracts.desk.Desk.TheInside as desk
use Rattle.filing_desk.specs.contracts.office.Office as Office
use Rattle.filing_desk.specs.contracts.office.Office.TheInside as office
use Rattle.filing_desk.specs.contracts.clerk.Clerk as Clerk
use Rattle.filing_desk.specs.contracts.clerk.Clerk.TheInside as clerk
use Rattle.desk_receipts.proofs.receipts.Receipts.TheSendSync as receipts
use Rattle.review_marks.proofs.book.MarkBook.TheSendSync as marks
use Rattle.case_records.proofs.case.KeptCase.TheSendSync as kept
use Rattle.determination_dates.proofs.closed.ClosedDays.TheSendSync as closed
use Rattle.airfield_findings.proofs.prepared.Prepared.TheSendSync as prepared
use Rattle.matchit.proofs.tree.Node.TheLaws.TheKnot as node
use Rattle.ordered_tree.proofs.branch.Branch.TheLaws.TheKnot as branch
use Rattle.surface_tree.proofs.part.Part.TheLaws.TheKnot as part

pub register_send : IsSend Register.the_row
register_send = first_of (search (crosses, branch.crosses, sendable) depth 60 fits 20000, search (crosses, branch.crosses_both, sendable) depth 60 fits 20000)

pub register_sync : IsSync Register.the_row
register_sync = first_of (search (crosses, branch.crosses, sendable) depth 60 fits 20000, search (crosses, branch.crosses_both, sendable) depth 60 fits 20000)

surroundings_send : IsSend Surroundings.the_row
surroundings_send = first_of (search (prepared.the_send, prepared.the_sync, crosses, branch.crosses, part.crosses, sendable) depth 60 fits 20000, search (prepared.the_send, prepared.the_sync, crosses, branch.crosses_both, part.crosses_both, sendable) depth 60 fits 20000)

surroundings_sync : IsSync Surroundings.the_row
surroundings_sync = first_of (search (prepared.the_send, prepared.the_sync, crosses, branch.crosses, part.crosses, sendable) depth 60 fits 20000, search (prepared.the_send, prepared.the_sync, crosses, branch.crosses_both, part.crosses_both, sendable) depth 60 fits 20000)

pub sky_send : IsSend Sky.the_row
sky_send = search (register_send, surroundings_send, crosses, sendable) depth 40

pub sky_sync : IsSync Sky.the_row
sky_sync = search (register_sync, surroundings_sync, crosses, sendable) depth 40

desk_send : IsSend Desk.the_row
desk_send = view_send desk.the_row _ _ _ _ (recorded_send desk.the_field.row _ _ desk.the_type.to_one
    (struct_send (declared.shape desk.the_type) (sky_send, (search (crosses, sendable) depth 60 fits 20000, (search (closed.the_send, crosses, sendable) depth 60 fits 20000, (search (kept.the_send, crosses, sendable) depth 60 fits 20000, (receipts.the_send, tt)))))))

office_send : IsSend Office.the_row
office_send = view_send office.the_row _ _ _ _ (recorded_send office.the_field.row _ _ office.the_type.to_one
    (struct_send (declared.shape office.the_type) (desk_send, (marks.the_send, tt))))

pub clerk_send : (K : RattleType) (g : Keeper.Ghosts K.Denot) → IsSend K → IsSend (Clerk.the_row K g)
clerk_send K g s = view_send (clerk.the_row K g) _ _ _ _ (recorded_send (clerk.the_field K g).row _ _ (clerk.the_type K g).to_one
    (struct_send (declared.shape (clerk.the_type K g)) (office_send, (s, (search sendable, tt)))))

pub routes_field_send : IsSend Routes.the_field.row
routes_field_send = search (crosses, node.crosses, sendable) depth 60 fits 20000
