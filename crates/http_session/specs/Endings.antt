-- The bytes that a session of HTTP has written when it ends.
use Rattle.std.specs.Prelude.{ℕ, ◌≡◌, ◌<◌, ◌⊎◌, false, List, [], ◌++◌, length, Option, Some, None}
use Rattle.std.specs.Io.KnownBytes.{Appends, append_known}
use Rattle.oe_http.specs.Written.{Sent}
use Rattle.http_messages.specs.Messages.{IsTruncated, IsRefused}
use Rattle.http_messages.specs.declared.request.Incoming.{Incoming}
use Rattle.http_messages.specs.declared.request.Incoming.TheVariants as incoming
use Rattle.http_messages.specs.declared.status.TheConstants.{NO_MEMORY}
use Rattle.http_session.specs.Machine.{Asks, Step, Exchange, texts, exchange_text, refusal_text, Runs, StaysOpen, ClosesAtLast}
use Rattle.oe_http.specs.declared.session.Ended.{Ended}
use Rattle.oe_http.specs.declared.session.Ended.TheVariants as endings

-- a text is a front of another
abbrev pub IsFront : List ℕ → List ℕ → Type 0
IsFront part text = (rest : List ℕ) × (text ≡ part ++ rest)

-- a front of the response to the next request
abbrev pub BeginsNext : {St : Type 0} → Step St → St → List ℕ → List ℕ → Type 0
BeginsNext {St} step now stream part =
    ((e : Exchange) × (next : St) × (left : List ℕ) × Asks stream e.asked e.close left × step now e.asked e.reply next × IsFront part (exchange_text e))
    ⊎ ((status : ℕ) × IsRefused stream status × IsFront part (refusal_text status))

-- the first requests of a stream were answered, none of them asks to end the session, and these bytes come after them
pub record Served {St : Type 0} (step : Step St) (before : St) (stream : List ℕ) (es : List Exchange) (after : St) (left : List ℕ) : Type 0 where
  pub ran : Runs step before stream es after left
  pub opens : StaysOpen es

-- the bytes written for a stream, by how the session ended
abbrev pub Ends : {St : Type 0} → Step St → Ended → St → St → List ℕ → (List ℕ → Type 0) → Type 0
-- the response to each request, to the end of the stream, or up to and with the first that asks to end the session
Ends step endings.Closed before after stream Wrote =
    (es : List Exchange) × (left : List ℕ) × Runs step before stream es after left × ((StaysOpen es × (left ≡ [])) ⊎ ClosesAtLast es) × Wrote (texts es)
-- the response to each request before the one that is cut off
Ends step endings.Truncated before after stream Wrote =
    (es : List Exchange) × (left : List ℕ) × Served step before stream es after left × IsTruncated left × Wrote (texts es)
-- the same, and the response to the refused request
Ends step (endings.Refused status) before after stream Wrote =
    (es : List Exchange) × (left : List ℕ) × Served step before stream es after left × IsRefused left status × Wrote (texts es ++ refusal_text status)
-- the responses to the first requests; that these are all that were read whole is not said
Ends step endings.ReadFault before after stream Wrote =
    (es : List Exchange) × (left : List ℕ) × Served step before stream es after left × Wrote (texts es)
Ends step endings.Long before after stream Wrote =
    (es : List Exchange) × (left : List ℕ) × Served step before stream es after left × Wrote (texts es)
-- the last response may be cut short
Ends {St} step endings.WriteFault before after stream Wrote =
    (es : List Exchange) × (left part : List ℕ) × (now : St) × Served step before stream es now left × BeginsNext step now left part × Wrote (texts es ++ part)
-- whole responses, and a front of the 507 response
Ends {St} step endings.NoMemory before after stream Wrote =
    (es : List Exchange) × (left part : List ℕ) × (now : St) × Served step before stream es now left × IsFront part (refusal_text NO_MEMORY) × Wrote (texts es ++ part)

-- as above, where the bytes of the source are known
abbrev pub EndsSo : {St : Type 0} → Step St → Ended → St → St → Option (List ℕ) → Option (List ℕ) → Option (List ℕ) → Type 0
EndsSo step ended before after None held_old held_new = Unit {0}
EndsSo step ended before after (Some stream) held_old held_new = Ends step ended before after stream (λ text. Appends held_old held_new text)

-- however a session ends: the first requests of a stream took one state to the other, in order, at most up to the first that asks to end the session
abbrev pub CarriesOut : {St : Type 0} → Step St → St → St → Option (List ℕ) → Type 0
CarriesOut step before after None = Unit {0}
CarriesOut step before after (Some stream) =
    (es : List Exchange) × (left : List ℕ) × Runs step before stream es after left × (StaysOpen es ⊎ ClosesAtLast es)

-- ---- for proofs alone

-- requests took the state on, up to where the stream stands now
abbrev pub RunsTo : {St : Type 0} → Step St → St → St → Option (List ℕ) → Option (List ℕ) → Type 0
RunsTo step before after None unread = Unit {0}
RunsTo step before after (Some stream) None = ⊥
RunsTo step before after (Some stream) (Some left) = (es : List Exchange) × Served step before stream es after left

-- the state stays, or the next request took it on
abbrev pub GoesFurther : {St : Type 0} → Step St → St → St → Option (List ℕ) → Type 0
GoesFurther step before after None = Unit {0}
GoesFurther step before after (Some stream) =
    (after ≡ before) ⊎ ((e : Exchange) × (left : List ℕ) × Asks stream e.asked e.close left × step before e.asked e.reply after)

-- a text that is not empty was written, or a front of it
abbrev pub WroteFront : Option (List ℕ) → Option (List ℕ) → List ℕ → Type 0
WroteFront held_old held_new text = (0 < length text) × ((rest : List ℕ) × Sent held_old held_new text rest)

-- one request that does not ask to end the session was read, where the bytes are known: of the responses that waited and its own a front was written, and the rest waits
abbrev pub Goes : {St : Type 0} → Step St → St → St → Option (List ℕ) → Option (List ℕ) → Option (List ℕ) → Option (List ℕ) → List ℕ → List ℕ → Type 0
Goes step before after None unread held_old held_new waiting_old waiting_new = Unit {0}
Goes step before after (Some stream) None held_old held_new waiting_old waiting_new = ⊥
Goes step before after (Some stream) (Some left) held_old held_new waiting_old waiting_new =
    (e : Exchange) × (e.close ≡ false) × Asks stream e.asked e.close left × step before e.asked e.reply after
    × Sent held_old held_new (waiting_old ++ exchange_text e) waiting_new

-- the session ended: what waited was written, and then what is written at this end; or not all that waited could be written
abbrev pub Stops : {St : Type 0} → Step St → Ended → St → St → Option (List ℕ) → Option (List ℕ) → Option (List ℕ) → List ℕ → Type 0
Stops step ended before after unread held_old held_new waiting =
    EndsSo step ended before after unread (append_known held_old waiting) held_new
    ⊎ ((ended ≡ endings.WriteFault) × WroteFront held_old held_new waiting)

-- what waited was written, and the session ended as it was to end; or not all of it could be written
abbrev pub Finishes : Ended → Ended → Option (List ℕ) → Option (List ℕ) → List ℕ → Type 0
Finishes wanted ended held_old held_new waiting =
    ((ended ≡ wanted) × Sent held_old held_new waiting [])
    ⊎ ((ended ≡ endings.WriteFault) × WroteFront held_old held_new waiting)

-- what waited was written, and then the 507 response or a front of it; or not all that waited could be written
abbrev pub GivesUp : Ended → Option (List ℕ) → Option (List ℕ) → List ℕ → Type 0
GivesUp endings.NoMemory held_old held_new waiting = (rest : List ℕ) × Sent (append_known held_old waiting) held_new (refusal_text NO_MEMORY) rest
GivesUp endings.WriteFault held_old held_new waiting = WroteFront held_old held_new waiting
GivesUp (endings.Refused status) held_old held_new waiting = ⊥
GivesUp endings.Closed held_old held_new waiting = ⊥
GivesUp endings.Truncated held_old held_new waiting = ⊥
GivesUp endings.ReadFault held_old held_new waiting = ⊥
GivesUp endings.Long held_old held_new waiting = ⊥

-- what waited was written, and then the response to a refused request; or a front of them; or the session gave up
abbrev pub RefusesSo : Ended → ℕ → Option (List ℕ) → Option (List ℕ) → List ℕ → Type 0
RefusesSo (endings.Refused told) status held_old held_new waiting = (told ≡ status) × Sent held_old held_new (waiting ++ refusal_text status) []
RefusesSo endings.WriteFault status held_old held_new waiting = (rest : List ℕ) × Sent held_old held_new (waiting ++ refusal_text status) rest
RefusesSo endings.NoMemory status held_old held_new waiting = (rest : List ℕ) × Sent (append_known held_old waiting) held_new (refusal_text NO_MEMORY) rest
RefusesSo endings.Closed status held_old held_new waiting = ⊥
RefusesSo endings.Truncated status held_old held_new waiting = ⊥
RefusesSo endings.ReadFault status held_old held_new waiting = ⊥
RefusesSo endings.Long status held_old held_new waiting = ⊥

-- a request was read, since the session goes on
abbrev pub IsRequest : Incoming → Type 0
IsRequest (incoming.Request method target body close) = Unit {0}
IsRequest incoming.Closed = ⊥
IsRequest incoming.Truncated = ⊥
IsRequest (incoming.Refused status) = ⊥
IsRequest incoming.ReadFault = ⊥
IsRequest incoming.Long = ⊥
IsRequest incoming.NoMemory = ⊥
