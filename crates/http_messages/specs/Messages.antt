-- The messages of a stream: the message at its front, and the bytes after it.
use Rattle.std.specs.Prelude.{ℕ, ◌≡◌, ◌≤◌, ◌<◌, ◌+◌, ◌-◌, ◌⊎◌, Bool, List, [], ◌++◌, length, Option, Some, None}
use Rattle.std.specs.Io.KnownBytes.{prepend_known}
use Rattle.httparse.specs.Grammar.{RequestHead, ReadsRequest, print_request}
use Rattle.http_messages.specs.Heads.{IsOpen, RefusesLarge, RefusesMalformed}
use Rattle.http_messages.specs.declared.decision.TheConstants.{HEAD_LIMIT, MOST_FIELDS}
use Rattle.oe_http.specs.declared.lines.TheConstants.{INPUT_LIMIT}
use Rattle.http_messages.specs.declared.held.Held.{Held}
use Rattle.http_messages.specs.declared.held.TheConstants.{READ_SIZE}
use Rattle.http_messages.specs.declared.request.Incoming.{Incoming}
use Rattle.http_messages.specs.declared.request.Incoming.TheVariants as incoming
use Rattle.http_messages.specs.declared.status.TheConstants.{HEAD_TOO_LARGE, MALFORMED}
use Rattle.http_messages.specs.Frames.{Frame, Body, Refused, frame_of, asks_close}

-- a stream begins with a head within the limits, whose fields give this frame of its body
pub record BeginsWith (stream : List ℕ) (head : RequestHead) (rest : List ℕ) (frame : Frame) : Type 0 where
  pub reads : ReadsRequest stream head rest
  pub few : length head.fields ≤ MOST_FIELDS
  pub small : length (print_request head) ≤ HEAD_LIMIT
  pub framed : frame_of head ≡ frame

-- a stream is this request, and then the bytes that are left
pub record IsMessage (stream method target body : List ℕ) (close : Bool) (left : List ℕ) : Type 0 where
  pub head : RequestHead
  pub begins : BeginsWith stream head (body ++ left) (Body (length body))
  pub method_is : method ≡ head.method
  pub target_is : target ≡ head.target
  pub close_is : close ≡ asks_close head

-- a stream ends inside the body that its head announces
pub record EndsInBody (stream : List ℕ) : Type 0 where
  pub head : RequestHead
  pub rest : List ℕ
  pub size : ℕ
  pub begins : BeginsWith stream head rest (Body size)
  pub short : length rest < size

-- a stream begins with a head whose fields are refused
abbrev pub RefusesFields : List ℕ → ℕ → Type 0
RefusesFields stream status = (head : RequestHead) × (rest : List ℕ) × BeginsWith stream head rest (Refused status)

-- a head or a body is wanting its end
abbrev pub IsCut : List ℕ → Type 0
IsCut bytes = IsOpen bytes ⊎ EndsInBody bytes

-- a stream ends inside a head or a body
abbrev pub IsTruncated : List ℕ → Type 0
IsTruncated stream = (0 < length stream) × IsCut stream

-- a stream is refused with this status
abbrev pub IsRefused : List ℕ → ℕ → Type 0
IsRefused stream status =
    ((status ≡ HEAD_TOO_LARGE) × RefusesLarge stream) ⊎ ((status ≡ MALFORMED) × RefusesMalformed stream) ⊎ RefusesFields stream status

-- the next message of a stream, and the bytes left after it
abbrev pub Comes : List ℕ → Incoming → List ℕ → Type 0
Comes stream (incoming.Request method target body close) left = IsMessage stream method target body close left
Comes stream incoming.Closed left = (stream ≡ []) × (left ≡ [])
Comes stream incoming.Truncated left = IsTruncated stream
Comes stream (incoming.Refused status) left = IsRefused stream status
Comes stream incoming.ReadFault left = Unit {0}
Comes stream incoming.Long left = Unit {0}
Comes stream incoming.NoMemory left = Unit {0}

-- nothing is known of a stream after a failed read
abbrev pub IsBroken : Incoming → Type 0
IsBroken (incoming.Request method target body close) = ⊥
IsBroken incoming.Closed = ⊥
IsBroken incoming.Truncated = ⊥
IsBroken (incoming.Refused status) = ⊥
IsBroken incoming.ReadFault = Unit {0}
IsBroken incoming.Long = Unit {0}
IsBroken incoming.NoMemory = Unit {0}

-- as above, where the bytes of the source are known
abbrev pub GivesMessage : Option (List ℕ) → Option (List ℕ) → Incoming → Type 0
GivesMessage None after i = Unit {0}
GivesMessage (Some stream) None i = IsBroken i
GivesMessage (Some stream) (Some left) i = Comes stream i left

-- what is told without a read: a request, a refusal, or want of memory
abbrev pub IsOfHeld : Incoming → Type 0
IsOfHeld (incoming.Request method target body close) = Unit {0}
IsOfHeld (incoming.Refused status) = Unit {0}
IsOfHeld incoming.NoMemory = Unit {0}
IsOfHeld incoming.Closed = ⊥
IsOfHeld incoming.Truncated = ⊥
IsOfHeld incoming.ReadFault = ⊥
IsOfHeld incoming.Long = ⊥

-- the bytes that are still to come, where known
abbrev pub unread_of : Held → Option (List ℕ) → Option (List ℕ)
unread_of held left = prepend_known held.bytes.items left

-- the greatest number of bytes still to use: those that are held, and those that may be read before the limit is reached
abbrev pub most_left : Held → ℕ
most_left held = length held.bytes.items + (INPUT_LIMIT + READ_SIZE - held.taken)

-- each message uses at least one of the bytes still to use
abbrev pub Turns : ℕ → ℕ → Incoming → Type 0
Turns before after (incoming.Request method target body close) = after < before
Turns before after incoming.Closed = Unit {0}
Turns before after incoming.Truncated = Unit {0}
Turns before after (incoming.Refused status) = Unit {0}
Turns before after incoming.ReadFault = Unit {0}
Turns before after incoming.Long = Unit {0}
Turns before after incoming.NoMemory = Unit {0}
