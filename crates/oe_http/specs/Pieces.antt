-- For proofs alone: the pieces of a line, which the reader gathers block by block.
use Rattle.std.specs.Prelude.{ℕ, ◌-◌, ◌≢◌, get_or, ◌≡◌, ◌≤◌, ◌<◌, Bool, true, false, if◌then◌else◌, List, [], ◌∷◌, ◌++◌, length, take, drop, ◌+◌, Option, Some, None}
use Rattle.std.specs.Io.KnownBytes.{Consumes, IsAtEnd}
use Rattle.grid_exact.specs.declared.text.TheConstants.{LINE_LIMIT}
use Rattle.oe_http.specs.Lines.{IsPlain}
use Rattle.oe_http.specs.declared.lines.TheConstants.{LONGEST}
use Rattle.oe_http.specs.declared.lines.Next.{Next}
use Rattle.oe_http.specs.declared.lines.Next.TheVariants as next

-- the stored bytes of a line: all of them, or anything where they are too many
abbrev pub Kept : List ℕ → Bool → List ℕ → Type 0
Kept line false raw = (line ≡ raw) × (length raw ≤ LONGEST)
Kept line true raw = LONGEST < length raw

-- these bytes of a line were read so far
pub record HasRead (before after : Option (List ℕ)) (is_long : Bool) (line : List ℕ) : Type 0 where
  pub raw : List ℕ
  pub takes : Consumes before after raw
  pub plain : IsPlain raw
  pub kept : Kept line is_long raw

-- a line's bytes were read, with the line feed after them where there is one
pub record TakesRaw (before after : Option (List ℕ)) (has_feed is_long : Bool) (line : List ℕ) : Type 0 where
  pub raw : List ℕ
  pub takes : Consumes before after (raw ++ (if has_feed then 10 ∷ [] else []))
  pub ends : has_feed ≡ false → IsAtEnd after
  pub plain : IsPlain raw
  pub kept : Kept line is_long raw

-- a line uses up at least its own bytes of those still to return, and one where it ends with a line feed or is long
pub record Turns (before after : ℕ) (has_feed is_long : Bool) (line : List ℕ) : Type 0 where
  pub fed : has_feed ≡ true → after < before
  pub long : is_long ≡ true → after < before
  pub kept : after + length line ≤ before

-- the first line feed is at this index
pub record FeedAt (bytes : List ℕ) (at : ℕ) : Type 0 where
  pub within : at < length bytes
  pub feed : drop at bytes ≡ 10 ∷ drop (at + 1) bytes
  pub plain : IsPlain (take at bytes)

-- the index of the first line feed, if there is one
abbrev pub FirstFeed : List ℕ → Option ℕ → Type 0
FirstFeed bytes None = IsPlain bytes
FirstFeed bytes (Some at) = FeedAt bytes at

-- the end of the last whole line, 0 where there is none
pub record WholeLinesEnd (bytes : List ℕ) (at : ℕ) : Type 0 where
  pub within : at ≤ length bytes
  pub feed : 0 < at → get_or bytes (at - 1) 0 ≡ 10
  pub after : (j : ℕ) → at ≤ j → j < length bytes → get_or bytes j 0 ≢ 10

-- a byte is pending, or nothing is to come
abbrev pub IsFilled : Bool → List ℕ → Option (List ℕ) → Type 0
IsFilled true pending unread = 0 < length pending
IsFilled false pending unread = IsAtEnd unread

-- whether a line is within the limit
abbrev pub IsSized : Next → List ℕ → Type 0
IsSized next.Whole line = length line ≤ LINE_LIMIT
IsSized next.TooLong line = LINE_LIMIT < length line
IsSized next.End line = ⊥
