-- Whole numbers as text: `0`, or digits without a leading zero, with `-` before them where negative; at most nine digits.
use Rattle.std.specs.Prelude.{◌≡◌, ◌≤ℤ◌, List, ℕ, ℤ, neg_ℤ}
use Rattle.whole_number.specs.declared.whole.TheConstants.{NUMBER_LIMIT}
use Rattle.std.specs.Fmt.{signed_decimal}

-- at most nine digits
abbrev pub HasNineDigits : ℤ → Type 0
HasNineDigits z = (neg_ℤ NUMBER_LIMIT ≤ℤ z) × (z ≤ℤ NUMBER_LIMIT)

-- the bytes are the only spelling of a whole number of at most nine digits
abbrev pub Spells : List ℕ → ℤ → Type 0
Spells bytes z = (bytes ≡ signed_decimal z) × HasNineDigits z
