-- Dates are ASCII text.
use Rattle.std.proofs.Common.{ℕ, ◌/◌, List, [], ◌∷◌, ◌<◌, ◌≡◌, refl, arith}
use Rattle.std.specs.Prelude.{All}
use Rattle.std.specs.Str.{IsUtf8}
use Rattle.std.proofs.lemmas.Str.{IsUtf8-from_ascii}
use Rattle.std.proofs.lemmas.Str.Ascii.{IsAscii-from_all}
use Rattle.std.proofs.lemmas.List.Elements.{All-nil, All-cons}
use Rattle.jiff_core.specs.declared.civil.date.Date.{Date}
use Rattle.determination_dates.specs.Text.{date_text, ymd_text, year_of, last_digit}
use Rattle.wire_replies.specs.States.{date_word}

digit : (n : ℕ) (bs : List ℕ) → All (λ b. b < 128) bs → All (λ b. b < 128) (last_digit n ∷ bs)
digit n bs h = All-cons (λ b. b < 128) (last_digit n) bs (omega arith) h

dash : (bs : List ℕ) → All (λ b. b < 128) bs → All (λ b. b < 128) (45 ∷ bs)
dash bs h = All-cons (λ b. b < 128) 45 bs (omega arith) h

two : (n : ℕ) (bs : List ℕ) → All (λ b. b < 128) bs → All (λ b. b < 128) (last_digit (n / 10) ∷ last_digit n ∷ bs)
two n bs h = digit (n / 10) (last_digit n ∷ bs) (digit n bs h)

day : (d : ℕ) → All (λ b. b < 128) (last_digit (d / 10) ∷ last_digit d ∷ [])
day d = two d [] (All-nil (λ b. b < 128))

month : (m d : ℕ) → All (λ b. b < 128) (last_digit (m / 10) ∷ last_digit m ∷ 45 ∷ last_digit (d / 10) ∷ last_digit d ∷ [])
month m d = two m (45 ∷ last_digit (d / 10) ∷ last_digit d ∷ []) (dash (last_digit (d / 10) ∷ last_digit d ∷ []) (day d))

abbrev rest : ℕ → ℕ → List ℕ
rest m d = 45 ∷ last_digit (m / 10) ∷ last_digit m ∷ 45 ∷ last_digit (d / 10) ∷ last_digit d ∷ []

small : (y m d : ℕ) → All (λ b. b < 128) (ymd_text y m d)
small y m d =
    digit (y / 1000) (last_digit (y / 100) ∷ last_digit (y / 10) ∷ last_digit y ∷ rest m d)
    (digit (y / 100) (last_digit (y / 10) ∷ last_digit y ∷ rest m d)
    (two y (rest m d) (dash (last_digit (m / 10) ∷ last_digit m ∷ 45 ∷ last_digit (d / 10) ∷ last_digit d ∷ []) (month m d))))

pub date_is_text : (d : Date) → IsUtf8 (date_text d)
date_is_text d = IsUtf8-from_ascii (date_text d) (IsAscii-from_all (date_text d) (small (year_of d.year) d.month d.day))

pub date_word_is : (d : Date) → date_word d ≡ date_text d
unfolding date_word
date_word_is d = refl
