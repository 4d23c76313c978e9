-- The keys of cases.
use Rattle.std.specs.Prelude.{ℕ, ◌/◌, List, [], ◌∷◌}
use Rattle.determination_dates.specs.Text.{last_digit}

-- the case number in six digits, padded with zeros
abbrev pub case_key : ℕ → List ℕ
case_key n = last_digit (n / 100000) ∷ last_digit (n / 10000) ∷ last_digit (n / 1000) ∷ last_digit (n / 100) ∷ last_digit (n / 10) ∷ last_digit n ∷ []
