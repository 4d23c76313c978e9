-- Words are ASCII text.
use Rattle.std.proofs.Common.{ℕ, List, ◌<◌, inl, inr, arith}
use Rattle.std.specs.Str.{IsUtf8}
use Rattle.std.proofs.lemmas.Str.{IsUtf8-from_ascii}
use Rattle.std.proofs.lemmas.Str.Ascii.{IsAscii-from_all}
use Rattle.std.proofs.lemmas.List.Elements.{All-weaker}
use Rattle.wire_values.specs.Words.{IsWordByte, IsWord}

byte_small : (b : ℕ) → IsWordByte b → b < 128
byte_small b (inl h) = omega (arith, h)
byte_small b (inr (inl h)) = omega (arith, h)
byte_small b (inr (inr (inl h))) = omega (arith, h)
byte_small b (inr (inr (inr (inl h)))) = omega arith
byte_small b (inr (inr (inr (inr h)))) = omega arith

pub word_text : (word : List ℕ) → IsWord word → IsUtf8 word
word_text word h = IsUtf8-from_ascii word (IsAscii-from_all word (All-weaker IsWordByte (λ b. b < 128) byte_small word h.bytes))
