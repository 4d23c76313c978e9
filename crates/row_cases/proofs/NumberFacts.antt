-- Numbers are ASCII text.
use Rattle.std.proofs.Common.{arith, ℕ, ◌≡◌, ◌<◌, ◌^◌, true, List, subst, sym}
use Rattle.std.specs.Fmt.{decimal}
use Rattle.std.specs.Str.{IsUtf8}
use Rattle.std.proofs.lemmas.Bool.Decides.{nat_tests}
use Rattle.std.proofs.lemmas.List.Elements.{All-weaker}
use Rattle.std.proofs.lemmas.Str.{IsUtf8-from_ascii}
use Rattle.std.proofs.lemmas.Str.Ascii.{IsAscii-from_all}
use Rattle.wire_values.specs.Plainness.{is_field_byte}
use Rattle.row_cases.proofs.Plain.{decimal_plain}

small : (b : ℕ) → is_field_byte b ≡ true → b < 128
small b e = grind (arith, nat_tests)

pub decimal_utf8 : (n : ℕ) (text : List ℕ) → n < 2 ^ 64 → text ≡ decimal n → IsUtf8 text
decimal_utf8 n text h e =
    subst IsUtf8 (sym e) (IsUtf8-from_ascii (decimal n) (IsAscii-from_all (decimal n) (All-weaker (λ b. is_field_byte b ≡ true) (λ b. b < 128) small (decimal n) (decimal_plain n h))))
