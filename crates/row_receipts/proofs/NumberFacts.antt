-- Numbers are texts of digits.
use Rattle.std.proofs.Common.{arith, ℕ, ◌≡◌, ◌==◌, ◌≤◌, ◌<◌, ◌^◌, false, List, [], ◌∷◌, All, subst, sym}
use Rattle.std.specs.Fmt.{decimal}
use Rattle.std.specs.Str.{IsUtf8}
use Rattle.std.specs.Str.Parse.{AllDigits}
use Rattle.std.proofs.lemmas.Bool.Decides.{nat_tests}
use Rattle.std.proofs.lemmas.Fmt.{digits_decimal}
use Rattle.std.proofs.lemmas.Str.{IsUtf8-from_ascii}
use Rattle.std.proofs.lemmas.Str.Ascii.{IsAscii-from_all}
use Rattle.std.proofs.lemmas.Str.Parse.{digit_from_value}
use Rattle.std.proofs.lemmas.List.Elements.{All-nil, All-cons, All-weaker}
use Rattle.wire_values.proofs.Named.{own}

-- a byte of a digit
abbrev pub IsDigit : ℕ → Type 0
IsDigit b = (48 ≤ b) × (b ≤ 57)

all_digits : (ds : List ℕ) → AllDigits 10 ds → All IsDigit ds
all_digits [] p = All-nil IsDigit
all_digits (d ∷ ds) p =
    let h = digit_from_value d p.0 in
    let e : IsDigit d = (grind (arith, nat_tests), grind (arith, nat_tests)) in
    All-cons IsDigit d ds e (all_digits ds p.1)

pub decimal_digits : (n : ℕ) → n < 2 ^ 64 → All IsDigit (decimal n)
decimal_digits n h = all_digits (decimal n) (digits_decimal own n h)

small : (b : ℕ) → IsDigit b → b < 128
small b h = omega (arith, h.1)

pub decimal_utf8 : (n : ℕ) (text : List ℕ) → n < 2 ^ 64 → text ≡ decimal n → IsUtf8 text
decimal_utf8 n text h e =
    subst IsUtf8 (sym e) (IsUtf8-from_ascii (decimal n) (IsAscii-from_all (decimal n) (All-weaker IsDigit (λ b. b < 128) small (decimal n) (decimal_digits n h))))

-- digits have no mark below them, as a comma or a line feed

apart : (c : ℕ) → c < 48 → (b : ℕ) → IsDigit b → (b == c) ≡ false
apart c low b h = let least : 48 ≤ b = h.0 in grind (arith, nat_tests)

pub decimal_without : (c : ℕ) → c < 48 → (n : ℕ) → n < 2 ^ 64 → All (λ b. (b == c) ≡ false) (decimal n)
decimal_without c low n h = All-weaker IsDigit (λ b. (b == c) ≡ false) (apart c low) (decimal n) (decimal_digits n h)
