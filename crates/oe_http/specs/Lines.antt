-- The lines of an input, one at a time.
use Rattle.std.specs.Prelude.{ℕ, get_or, ◌≡◌, ◌≤◌, ◌<◌, ◌==◌, false, List, [], ◌∷◌, length, All, Option, Some, None}
use Rattle.std.specs.Str.Lines.{lines}
use Rattle.std.specs.Io.KnownBytes.{Consumes}
use Rattle.grid_exact.specs.declared.text.TheConstants.{LINE_LIMIT}
use Rattle.oe_http.specs.declared.lines.Next.{Next}
use Rattle.oe_http.specs.declared.lines.Next.TheVariants as next

-- none of some bytes is a line feed
abbrev pub IsPlain : List ℕ → Type 0
IsPlain bytes = All (λ b. (b == 10) ≡ false) bytes

-- a line feed is among some bytes
abbrev pub HasFeed : List ℕ → Type 0
HasFeed bytes = (at : ℕ) × (at < length bytes) × (get_or bytes at 0 ≡ 10)

-- the next line of some bytes, and the bytes after it
abbrev pub LineIs : List ℕ → List ℕ → Next → List ℕ → Type 0
LineIs xs ys next.End line = (xs ≡ []) × (ys ≡ [])
LineIs xs ys next.Whole line = (lines xs ≡ line ∷ lines ys) × (length line ≤ LINE_LIMIT)
LineIs xs ys next.TooLong line = (long : List ℕ) × (lines xs ≡ long ∷ lines ys) × (LINE_LIMIT < length long)

-- as above, where the bytes are known
abbrev pub GivesLine : Option (List ℕ) → Option (List ℕ) → Next → List ℕ → Type 0
GivesLine None after n line = Unit {0}
GivesLine (Some xs) None n line = ⊥
GivesLine (Some xs) (Some ys) n line = LineIs xs ys n line

-- bytes were read that end no line, where they are known
abbrev pub TakesPart : Option (List ℕ) → Option (List ℕ) → Type 0
TakesPart before after = (part : List ℕ) × Consumes before after part × IsPlain part
