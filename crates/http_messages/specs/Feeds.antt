-- The ends of a head's lines.
use Rattle.std.specs.Prelude.{ℕ, ◌≡◌, ◌≢◌, ◌<◌, ◌+◌, ◌-◌, ◌==◌, ◌∷◌, ◌++◌, Bool, true, false, List, length, take, slice_index}
use Rattle.std.specs.List.{count_by}
use Rattle.httparse.specs.Grammar.{IsToken, AllPass, is_uri_byte}
use Rattle.httparse.specs.Pieces.{is_newline}
use Rattle.http_messages.specs.declared.lines.TheConstants.{LINES}

-- LF
abbrev pub is_feed : ℕ → Bool
is_feed b = b == 10

-- the number of line feeds in the first bytes
abbrev pub feeds_before : List ℕ → ℕ → ℕ
feeds_before bytes at = count_by is_feed (take at bytes)

-- the index of the first byte that is neither CR nor LF
pub record IsFirstVisible (bytes : List ℕ) (at : ℕ) : Type 0 where
  pub within : at < length bytes
  pub visible : is_newline (slice_index bytes at) ≡ false
  pub earlier : (k : ℕ) → k < at → is_newline (slice_index bytes k) ≡ true

-- the index after the start line and the greatest number of fields, where a byte is
pub record IsBehind (bytes : List ℕ) (at : ℕ) : Type 0 where
  pub within : at < length bytes
  pub feeds : feeds_before bytes at ≡ LINES
  pub some : 0 < at
  pub feed : slice_index bytes (at - 1) ≡ 10
  pub earlier : (k : ℕ) → k < at → feeds_before bytes k ≢ LINES

-- the byte is the first that fails the test
pub record IsFirstOther (test : ℕ → Bool) (text : List ℕ) (at : ℕ) : Type 0 where
  pub within : at < length text
  pub fails : test (slice_index text at) ≡ false
  pub earlier : (k : ℕ) → k < at → test (slice_index text k) ≡ true

-- each CR before the index is followed by LF
abbrev pub HasWholeEnds : List ℕ → ℕ → Type 0
HasWholeEnds bytes start = (k : ℕ) → k < start → slice_index bytes k ≡ 13 → slice_index bytes (k + 1) ≡ 10

-- a method, a space and the beginning of a target
abbrev pub IsOpenTarget : List ℕ → Type 0
IsOpenTarget text = (method : List ℕ) × (target : List ℕ) × IsToken method × AllPass is_uri_byte target × (text ≡ method ++ 32 ∷ target)
