-- For proofs alone: the next head of a stream, with the bytes held then.
use Rattle.std.specs.Prelude.{ℕ, ◌≤◌, List, length, Option}
use Rattle.std.specs.Io.KnownBytes.{IsAtEnd}
use Rattle.httparse.specs.Grammar.{RequestHead}
use Rattle.httparse.specs.Spans.{IsRequestAt, IsRequestWithin}
use Rattle.httparse.specs.declared.spans.HeaderSpan.{HeaderSpan}
use Rattle.http_messages.specs.Heads.{IsOpen, RefusesLarge, RefusesMalformed}
use Rattle.http_messages.specs.declared.decision.TheConstants.{HEAD_LIMIT, MOST_FIELDS}
use Rattle.http_messages.specs.declared.held.HeadEnd.{HeadEnd}
use Rattle.http_messages.specs.declared.held.HeadEnd.TheVariants as ended

-- the decision on the held bytes
abbrev pub HeadComes : Option (List ℕ) → List ℕ → List HeaderSpan → HeadEnd → Type 0
HeadComes left bytes headers (ended.Whole spans) =
    IsRequestWithin bytes headers spans
    × ((h : RequestHead) × IsRequestAt bytes headers spans h × (length h.fields ≤ MOST_FIELDS) × (spans.len ≤ HEAD_LIMIT))
HeadComes left bytes headers ended.TooLarge = RefusesLarge bytes
HeadComes left bytes headers ended.Malformed = RefusesMalformed bytes
HeadComes left bytes headers ended.End = IsAtEnd left × IsOpen bytes
HeadComes left bytes headers (ended.Failed why) = Unit {0}

-- a fact, unless the read failed
abbrev pub UnlessFailed : HeadEnd → Type 0 → Type 0
UnlessFailed (ended.Failed why) P = Unit {0}
UnlessFailed (ended.Whole spans) P = P
UnlessFailed ended.TooLarge P = P
UnlessFailed ended.Malformed P = P
UnlessFailed ended.End P = P
