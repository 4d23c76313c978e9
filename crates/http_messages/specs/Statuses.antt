-- Every refusal has a status code of HTTP.
use Rattle.http.specs.StatusCode.{IsStatusCode}
use Rattle.http_messages.specs.declared.frame.Framing.{Framing}
use Rattle.http_messages.specs.declared.frame.Framing.TheVariants as framings
use Rattle.http_messages.specs.declared.request.Incoming.{Incoming}
use Rattle.http_messages.specs.declared.request.Incoming.TheVariants as incoming
use Rattle.http_messages.specs.declared.said.HeadRead.{HeadRead}
use Rattle.http_messages.specs.declared.said.HeadRead.TheVariants as reads

-- where a request is refused
abbrev pub HasStatus : Incoming → Type 0
HasStatus (incoming.Refused status) = IsStatusCode status
HasStatus (incoming.Request method target body close) = Unit {0}
HasStatus incoming.Closed = Unit {0}
HasStatus incoming.Truncated = Unit {0}
HasStatus incoming.ReadFault = Unit {0}
HasStatus incoming.Long = Unit {0}
HasStatus incoming.NoMemory = Unit {0}

-- ---- for proofs alone

-- where its fields are refused
abbrev pub HasFrameStatus : Framing → Type 0
HasFrameStatus (framings.Refused status) = IsStatusCode status
HasFrameStatus (framings.Body size) = Unit {0}

-- the same, of a head that was read
abbrev pub HasHeadStatus : HeadRead → Type 0
HasHeadStatus (reads.Refused status) = IsStatusCode status
HasHeadStatus (reads.Head said) = Unit {0}
HasHeadStatus reads.NoMemory = Unit {0}
