-- The names and keys of the requests.
use Rattle.std.proofs.Common.{arith, ◌≡◌, ◌≤◌, ◌<◌, ◌+◌, ◌/◌, ◌%◌, ◌^◌, ℕ, List, [], ◌∷◌, length, codes, inl, inr, refl, All}
use Rattle.std.specs.Fmt.{decimal}
use Rattle.std.specs.Str.Parse.{AllDigits}
use Rattle.std.proofs.lemmas.Fmt.{decimal_nonempty, length-decimal-le, digits_decimal}
use Rattle.std.proofs.lemmas.List.Elements.{All-nil, All-cons}
use Rattle.std.proofs.lemmas.Str.Parse.{digit_from_value}
use Rattle.airfields.specs.Names.{IsLetterOrDigit, IsRunwayByte, IsFieldId, IsRunwayName}
use Rattle.wire_values.specs.Words.{IsWordByte, IsWord}
use Rattle.wire_values.proofs.Named.{own}
use Rattle.desk_generator.specs.Drawings.{digit, airport_name}

digit_byte : (n : ℕ) → (48 ≤ digit n) × (digit n ≤ 57)
digit_byte n = (omega arith, omega arith)

digit_in : (n : ℕ) → IsLetterOrDigit (digit n)
digit_in n = inr (digit_byte n)

pub field_id : (n : ℕ) → IsFieldId (airport_name n)
field_id n =
    let one = All-cons IsLetterOrDigit (digit n) [] (digit_in n) (All-nil IsLetterOrDigit) in
    let two = All-cons IsLetterOrDigit (digit (n / 10)) (digit n ∷ []) (digit_in (n / 10)) one in
    let three = All-cons IsLetterOrDigit (digit (n / 100)) (digit (n / 10) ∷ digit n ∷ []) (digit_in (n / 100)) two in
    let four = All-cons IsLetterOrDigit (digit (n / 1000)) (digit (n / 100) ∷ digit (n / 10) ∷ digit n ∷ []) (digit_in (n / 1000)) three in
    record {
      least = omega arith;
      most = omega arith;
      bytes = All-cons IsLetterOrDigit 71 (digit (n / 1000) ∷ digit (n / 100) ∷ digit (n / 10) ∷ digit n ∷ []) (inl (omega arith, omega arith)) four;
    }

runway_digit : (d : ℕ) → 48 ≤ d → d ≤ 57 → IsRunwayByte d
runway_digit d l m = inl (inr (l, m))

pub is_runway_name : IsRunwayName (codes "09/27")
is_runway_name =
    let five = All-cons IsRunwayByte 55 [] (runway_digit 55 (omega arith) (omega arith)) (All-nil IsRunwayByte) in
    let four = All-cons IsRunwayByte 50 (55 ∷ []) (runway_digit 50 (omega arith) (omega arith)) five in
    let three = All-cons IsRunwayByte 47 (50 ∷ 55 ∷ []) (inr refl) four in
    let two = All-cons IsRunwayByte 57 (47 ∷ 50 ∷ 55 ∷ []) (runway_digit 57 (omega arith) (omega arith)) three in
    record {
      least = omega arith;
      most = omega arith;
      bytes = All-cons IsRunwayByte 48 (57 ∷ 47 ∷ 50 ∷ 55 ∷ []) (runway_digit 48 (omega arith) (omega arith)) two;
    }

pub is_caller : IsWord (codes "g")
is_caller = record { least = omega arith; most = omega arith; bytes = All-cons IsWordByte 103 [] (inr (inl (omega arith, omega arith))) (All-nil IsWordByte) }

word_digits : (ds : List ℕ) → AllDigits 10 ds → All IsWordByte ds
word_digits [] p = All-nil IsWordByte
word_digits (d ∷ ds) p =
    let h = digit_from_value d p.0 in
    All-cons IsWordByte d ds (inr (inr (inl h))) (word_digits ds p.1)

pub is_key : (n : ℕ) → n < 2 ^ 32 → IsWord (decimal n)
is_key n h =
    let small : n < 2 ^ 64 = omega (arith, h) in
    record {
      least = omega (arith, decimal_nonempty n small);
      most = omega (arith, length-decimal-le 10 n (omega arith) (omega (arith, h)) small);
      bytes = word_digits (decimal n) (digits_decimal own n small);
    }
