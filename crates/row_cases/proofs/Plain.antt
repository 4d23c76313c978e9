-- Plain texts: of bytes from the minus sign to the letter z. Such a text has no space, comma or line feed.
use Rattle.std.proofs.Common.{arith, ℕ, ◌≡◌, ◌==◌, ◌≤◌, ◌<◌, ◌^◌, true, false, List, [], ◌∷◌, All, inl, inr}
use Rattle.std.specs.Fmt.{decimal}
use Rattle.std.specs.Str.Parse.{AllDigits}
use Rattle.std.proofs.lemmas.Bool.Decides.{nat_tests}
use Rattle.std.proofs.lemmas.Fmt.{digits_decimal}
use Rattle.std.proofs.lemmas.Str.Parse.{digit_from_value}
use Rattle.std.proofs.lemmas.List.Elements.{All-nil, All-cons, All-weaker}
use Rattle.airfields.specs.Names.{IsRunwayByte, IsRunwayName}
use Rattle.wire_values.specs.Plainness.{is_field_byte}
use Rattle.wire_values.proofs.Named.{own}

-- no byte of the text is this one
abbrev pub Avoids : ℕ → List ℕ → Type 0
Avoids c text = All (λ b. (b == c) ≡ false) text

abbrev pub IsPlainText : List ℕ → Type 0
IsPlainText text = All (λ b. is_field_byte b ≡ true) text

higher : (c : ℕ) → c < 45 → (b : ℕ) → is_field_byte b ≡ true → (b == c) ≡ false
higher c low b e = let least : 45 ≤ b = grind (arith, nat_tests) in grind (arith, nat_tests)

pub plain_avoids : (c : ℕ) → c < 45 → (text : List ℕ) → IsPlainText text → Avoids c text
plain_avoids c low text h = All-weaker (λ b. is_field_byte b ≡ true) (λ b. (b == c) ≡ false) (higher c low) text h

-- digits are plain, and none is a dot

digits_plain : (ds : List ℕ) → AllDigits 10 ds → IsPlainText ds
digits_plain [] p = All-nil (λ b. is_field_byte b ≡ true)
digits_plain (d ∷ ds) p =
    let h = digit_from_value d p.0 in
    let e : is_field_byte d ≡ true = grind (arith, nat_tests) in
    All-cons (λ b. is_field_byte b ≡ true) d ds e (digits_plain ds p.1)

pub decimal_plain : (n : ℕ) → n < 2 ^ 64 → IsPlainText (decimal n)
decimal_plain n h = digits_plain (decimal n) (digits_decimal own n h)

digits_undotted : (ds : List ℕ) → AllDigits 10 ds → Avoids 46 ds
digits_undotted [] p = All-nil (λ b. (b == 46) ≡ false)
digits_undotted (d ∷ ds) p =
    let h = digit_from_value d p.0 in
    let e : (d == 46) ≡ false = grind (arith, nat_tests) in
    All-cons (λ b. (b == 46) ≡ false) d ds e (digits_undotted ds p.1)

pub decimal_undotted : (n : ℕ) → n < 2 ^ 64 → Avoids 46 (decimal n)
decimal_undotted n h = digits_undotted (decimal n) (digits_decimal own n h)

-- names of runways have no dot

runway_byte : (b : ℕ) → IsRunwayByte b → (b == 46) ≡ false
runway_byte b (inl (inl h)) = let low : 65 ≤ b = h.0 in grind (arith, nat_tests)
runway_byte b (inl (inr h)) = let low : 48 ≤ b = h.0 in grind (arith, nat_tests)
runway_byte b (inr e) = let low : 47 ≤ b = omega (arith, e) in grind (arith, nat_tests)

pub runway_undotted : (name : List ℕ) → IsRunwayName name → Avoids 46 name
runway_undotted name h = All-weaker IsRunwayByte (λ b. (b == 46) ≡ false) runway_byte name h.bytes
