-- For proofs alone: a text stored in an array that is longer than it.
use Rattle.std.specs.Prelude.{ℕ, List, ◌++◌, ◌≤◌, ◌≡◌, length, take, replicate, ◌-◌}
use Rattle.std.proofs.Common.{sym, ap, ◌∙◌}

-- the text, padded with zeros to this length
unfoldable pub filled : ℕ → List ℕ → List ℕ
filled most text = text ++ replicate (most - length text) 0

-- the first `len` bytes are the text, and zeros fill the rest
pub record IsFilled (most : ℕ) (bytes : List ℕ) (len : ℕ) : Type 0 where
  pub within : len ≤ most
  pub rest : bytes ≡ filled most (take len bytes)
  pub is_len : length (take len bytes) ≡ len

-- so the bytes and the length follow from the text alone
pub filled_again : {T : Type 0} (most : ℕ) (bytes : List ℕ) (len : ℕ) (made : List ℕ → ℕ → T) → IsFilled most bytes len → made (filled most (take len bytes)) (length (take len bytes)) ≡ made bytes len
filled_again most bytes len made h = ap (λ b. made b (length (take len bytes))) (sym h.rest) ∙ ap (made bytes) h.is_len
