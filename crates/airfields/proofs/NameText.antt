-- Names are ASCII text.
use Rattle.std.proofs.Common.{ℕ, List, ◌<◌, inl, inr, arith}
use Rattle.std.specs.Str.{IsUtf8}
use Rattle.std.proofs.lemmas.Str.{IsUtf8-from_ascii}
use Rattle.std.proofs.lemmas.Str.Ascii.{IsAscii-from_all}
use Rattle.std.proofs.lemmas.List.Elements.{All-weaker}
use Rattle.airfields.specs.Names.{IsLetterOrDigit, IsRunwayByte, IsFieldId, IsRunwayName}

letter_small : (b : ℕ) → IsLetterOrDigit b → b < 128
letter_small b (inl h) = omega (arith, h)
letter_small b (inr h) = omega (arith, h)

runway_small : (b : ℕ) → IsRunwayByte b → b < 128
runway_small b (inl h) = letter_small b h
runway_small b (inr h) = omega arith

pub field_text : (name : List ℕ) → IsFieldId name → IsUtf8 name
field_text name h = IsUtf8-from_ascii name (IsAscii-from_all name (All-weaker IsLetterOrDigit (λ b. b < 128) letter_small name h.bytes))

pub runway_text : (name : List ℕ) → IsRunwayName name → IsUtf8 name
runway_text name h = IsUtf8-from_ascii name (IsAscii-from_all name (All-weaker IsRunwayByte (λ b. b < 128) runway_small name h.bytes))
