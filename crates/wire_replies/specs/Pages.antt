-- Words of at most eight bytes, and digits.
use Rattle.std.specs.Prelude.{ℕ, ◌+◌, ◌/◌, ◌%◌, Bool, List, [], ◌∷◌, ◌≡◌, ◌≤◌, nat_lt, true, take}
use Rattle.std.specs.List.{list_all}

-- the byte is an ASCII byte
abbrev pub is_seven_bit : ℕ → Bool
is_seven_bit b = nat_lt b 128

-- the first `len` of eight bytes are the text, an ASCII one
abbrev pub IsPiece : List ℕ → ℕ → List ℕ → Type 0
IsPiece word len text = (len ≤ 8) × ((take len word ≡ text) × (list_all is_seven_bit text ≡ true))

-- the tens and the ones of a number below 100
abbrev pub pair_text : ℕ → List ℕ
pair_text n = (48 + n / 10) ∷ (48 + n % 10) ∷ []
