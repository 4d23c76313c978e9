-- The reply to a request, over anything that answers records.
use Rattle.std.specs.Prelude.{ℕ, ◌≡◌, ◌<◌, ◌⊎◌, List, [], length, Some, None}
use Rattle.case_records.specs.declared.refusal.Refusal.TheVariants as refusals
use Rattle.wire_replies.specs.Replies.{reply_text}
use Rattle.wire_replies.specs.declared.reply.Reply.TheVariants as replies
use Rattle.http_messages.specs.Routing.{IsRouted}
use Rattle.http_messages.specs.declared.routes.Routed.{Routed}
use Rattle.http_messages.specs.declared.routes.Routed.TheVariants as routed
use Rattle.oe_http.specs.Machine.{Step as LineStep}
use Rattle.http_session.specs.Machine.{Asked, Reply}
use Rattle.http_session.specs.Statuses.{status_of}
use Rattle.http_session.specs.declared.status.TheConstants.{NOT_ALLOWED, NOT_FOUND}

-- the reply to a record; an empty record, which as a line has no reply, is malformed at field 1
abbrev pub AnswersRecord : {St : Type 0} → LineStep St → St → List ℕ → List ℕ → St → Type 0
AnswersRecord step before line text after =
    ((line ≡ []) × (text ≡ reply_text (replies.Refused (refusals.Malformed 1))) × (after ≡ before))
    ⊎ ((0 < length line) × step before line text after)

-- the reply by the request's route: a record is answered, and the status follows from the text; else the state is unchanged
abbrev pub RepliesTo : {St : Type 0} → LineStep St → St → Routed → Reply → St → Type 0
RepliesTo step before (routed.Record line) reply after =
    AnswersRecord step before line reply.body after × (reply.status ≡ status_of reply.body) × (reply.allow ≡ None)
RepliesTo step before routed.NotFound reply after =
    (reply ≡ record { status = NOT_FOUND; allow = None; body = [] }) × (after ≡ before)
RepliesTo step before (routed.NotAllowed get) reply after =
    (reply ≡ record { status = NOT_ALLOWED; allow = Some get; body = [] }) × (after ≡ before)
RepliesTo step before routed.NoMemory reply after = ⊥

-- the reply to a request, by the routes
abbrev pub Replies : {St : Type 0} → LineStep St → St → Asked → Reply → St → Type 0
Replies step before asked reply after =
    (found : Routed) × IsRouted asked.method asked.target asked.body found × RepliesTo step before found reply after
