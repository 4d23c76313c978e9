-- Texts in two parts, with a byte between them that the first part has not.
use Rattle.std.proofs.Common.{◌≡◌, ◌≢◌, inl, inr, refl, sym, ap, ◌∙◌, arith, ℕ, List, [], ◌∷◌, ◌++◌, All, Bool, true, false, ◌==◌}
use Rattle.std.proofs.lemmas.List.Elements.{All-head, All-tail, All-weaker}
use Rattle.std.proofs.lemmas.Bool.Decides.{Decides-eqb}
use Rattle.airfields.specs.Names.{IsFieldId, IsLetterOrDigit}
use Rattle.wire_values.specs.Words.{IsWord, IsWordByte}

unequal : (b : ℕ) → b ≢ 32 → (t : Bool) → (b == 32) ≡ t → t ≡ false
unequal b h true e = absurd (h ((Decides-eqb b 32).0 e))
unequal b h false e = refl

head_of : ℕ → List ℕ → ℕ
head_of d [] = d
head_of d (x ∷ xs) = x

tail_of : List ℕ → List ℕ
tail_of [] = []
tail_of (x ∷ xs) = xs

never : {P : Type 0} (mark x : ℕ) → (x == mark) ≡ false → x ≡ mark → P
never mark x h e = absurd (cc (sym h ∙ (Decides-eqb x mark).1 e))

pub split_at : (mark : ℕ) (a b x y : List ℕ) → All (λ c. (c == mark) ≡ false) a → All (λ c. (c == mark) ≡ false) b → a ++ (mark ∷ x) ≡ b ++ (mark ∷ y) → (a ≡ b) × (x ≡ y)
unfolding head_of tail_of
split_at mark [] [] x y h k e = (refl, ap tail_of e)
split_at mark [] (d ∷ b) x y h k e = never mark d (All-head (λ c. (c == mark) ≡ false) d b k) (sym (ap (head_of mark) e))
split_at mark (c ∷ a) [] x y h k e = never mark c (All-head (λ c. (c == mark) ≡ false) c a h) (ap (head_of mark) e)
split_at mark (c ∷ a) (d ∷ b) x y h k e =
    let rest = split_at mark a b x y (All-tail (λ c. (c == mark) ≡ false) c a h) (All-tail (λ c. (c == mark) ≡ false) d b k) (ap tail_of e) in
    (λ i. ap (head_of mark) e i ∷ rest.0 i, rest.1)

-- ---- names and words have no space

letter_or_digit : (b : ℕ) → IsLetterOrDigit b → (b == 32) ≡ false
letter_or_digit b (inl h) = let e : b ≢ 32 = omega (arith, h.0) in unequal b e (b == 32) refl
letter_or_digit b (inr h) = let e : b ≢ 32 = omega (arith, h.0) in unequal b e (b == 32) refl

word_byte : (b : ℕ) → IsWordByte b → (b == 32) ≡ false
word_byte b h = unequal b (apart h) (b == 32) refl
  where
    apart : IsWordByte b → b ≢ 32
    apart (inl k) = omega (arith, k.0)
    apart (inr (inl k)) = omega (arith, k.0)
    apart (inr (inr (inl k))) = omega (arith, k.0)
    apart (inr (inr (inr (inl k)))) = omega (arith, k)
    apart (inr (inr (inr (inr k)))) = omega (arith, k)

pub field_without_space : (id : List ℕ) → IsFieldId id → All (λ b. (b == 32) ≡ false) id
field_without_space id h = All-weaker IsLetterOrDigit (λ b. (b == 32) ≡ false) letter_or_digit id h.bytes

pub word_without_space : (word : List ℕ) → IsWord word → All (λ b. (b == 32) ≡ false) word
word_without_space word h = All-weaker IsWordByte (λ b. (b == 32) ≡ false) word_byte word h.bytes
