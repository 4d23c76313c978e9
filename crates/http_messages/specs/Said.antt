-- For proofs alone: the meaning of a whole head.
use Rattle.std.specs.Prelude.{◌≡◌}
use Rattle.httparse.specs.Grammar.{RequestHead}
use Rattle.http_messages.specs.declared.said.Head.{Head}
use Rattle.http_messages.specs.declared.said.HeadRead.{HeadRead}
use Rattle.http_messages.specs.declared.said.HeadRead.TheVariants as reads
use Rattle.http_messages.specs.Frames.{Body, Refused, frame_of, asks_close}

-- the head's meaning in the code's types
pub record Says (said : Head) (head : RequestHead) : Type 0 where
  pub method_is : said.method ≡ head.method
  pub target_is : said.target ≡ head.target
  pub framed : frame_of head ≡ Body said.size
  pub close_is : said.close ≡ asks_close head

-- the same, or the status with which its fields are refused
abbrev pub SaysOr : HeadRead → RequestHead → Type 0
SaysOr (reads.Head said) head = Says said head
SaysOr (reads.Refused status) head = frame_of head ≡ Refused status
SaysOr reads.NoMemory head = Unit {0}
