-- For proofs alone: the bytes that fields consist of.
use Rattle.std.specs.Prelude.{ℕ, ◌≤◌, ◌<◌, ◌≤ℤ◌, List, length, nat_le, Bool, true, false, ◌&&◌, ◌≡◌, All}
use Rattle.whole_number.specs.Whole.{HasNineDigits}
use Rattle.wire_values.specs.Wanted.{Wanted, Spelled, Between, Counted, Choice}
use Rattle.wire_values.specs.declared.word.TheConstants.{WORD_LIMIT}

-- a byte from the minus sign to the letter z
abbrev pub is_field_byte : ℕ → Bool
is_field_byte b = nat_le 45 b && nat_le b 122

-- a field is one or more such bytes, up to a limit
pub record IsShortField (field : List ℕ) : Type 0 where
  pub least : 1 ≤ length field
  pub most : length field ≤ WORD_LIMIT
  pub bytes : All (λ b. is_field_byte b ≡ true) field

-- words are such fields, and limits have at most nine digits and leave room for a number or count
abbrev pub IsUsual : Wanted → Type 0
IsUsual (Spelled word) = IsShortField word
IsUsual (Between low high) = HasNineDigits low × HasNineDigits high × (low ≤ℤ high)
IsUsual (Counted low high) = (low ≤ high) × (high < 1000000000)
IsUsual (Choice word) = IsShortField (word true) × IsShortField (word false)
IsUsual _ = Unit {0}
