-- Fields that are as wanted have no comma.
use Rattle.std.proofs.Common.{arith, ℕ, ◌≡◌, ◌==◌, ◌≤◌, ◌<◌, true, false, List, [], All}
use Rattle.std.proofs.lemmas.Bool.Decides.{nat_tests}
use Rattle.std.proofs.lemmas.List.Elements.{All-weaker}
use Rattle.wire_values.specs.Wanted.{Wanted}
use Rattle.wire_values.specs.Plainness.{is_field_byte, IsShortField}
use Rattle.wire_cursor.specs.Shape.{HasShape}
use Rattle.wire_cursor.proofs.ShapeLaws.{AllUsual, fields_short}
use Rattle.row_register.proofs.PartFacts.{IsUncut}

no_comma : (b : ℕ) → is_field_byte b ≡ true → (b == 44) ≡ false
no_comma b e = let low : 45 ≤ b = grind (arith, nat_tests) in grind (arith, nat_tests)

pub uncut : (field : List ℕ) → IsShortField field → IsUncut field
uncut field h = All-weaker (λ b. is_field_byte b ≡ true) (λ b. (b == 44) ≡ false) no_comma field h.bytes

-- nor a space or the end of a line
no_mark : (c : ℕ) → c < 45 → (b : ℕ) → is_field_byte b ≡ true → (b == c) ≡ false
no_mark c low b e = let least : 45 ≤ b = grind (arith, nat_tests) in grind (arith, nat_tests)

pub unmarked : (c : ℕ) → c < 45 → (field : List ℕ) → IsShortField field → All (λ b. (b == c) ≡ false) field
unmarked c low field h = All-weaker (λ b. is_field_byte b ≡ true) (λ b. (b == c) ≡ false) (no_mark c low) field h.bytes

pub uncut_fields : (ws : List Wanted) → AllUsual ws → (fields : List (List ℕ)) → HasShape ws [] fields → All IsUncut fields
uncut_fields ws u fields h = All-weaker IsShortField IsUncut uncut fields (fields_short ws u [] fields h)
