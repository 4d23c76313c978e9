-- Facts of which it can be told whether they hold.
use Rattle.std.proofs.Common.{arith, ℕ, ◌≤◌, ◌≡◌, ◌⊎◌, ℤ, ◌≤ℤ◌, ◌<ℤ◌, Bool, true, false, List, [], ◌∷◌, length, All, inl, inr, refl, sym, ap, ◌∙◌, Decides}
use Rattle.std.specs.Prelude.{int_le}
use Rattle.std.specs.Str.{bytes_eq}
use Rattle.std.proofs.lemmas.Bool.{cases_lt}
use Rattle.std.proofs.lemmas.Bool.Decides.{eqb_tells}
use Rattle.std.proofs.lemmas.Int.{ints}
use Rattle.std.proofs.lemmas.List.Elements.{All-nil, All-cons, All-head, All-tail}
use Rattle.std.proofs.lemmas.Slice.Eq.{bytes_eq-Decides}

-- the fact holds or does not hold
abbrev pub Decided : Type 0 → Type 0
Decided P = P ⊎ (P → ⊥)

-- facts that follow from each other
pub decided_by : {P Q : Type 0} → (P → Q) → (Q → P) → Decided P → Decided Q
decided_by to from (inl p) = inl (to p)
decided_by to from (inr no_p) = inr (λ q. no_p (from q))

pub both_decided : {P Q : Type 0} → Decided P → Decided Q → Decided (P × Q)
both_decided (inl p) (inl q) = inl (p, q)
both_decided (inl p) (inr no_q) = inr (λ h. no_q h.1)
both_decided (inr no_p) d = inr (λ h. no_p h.0)

pub either_decided : {P Q : Type 0} → Decided P → Decided Q → Decided (P ⊎ Q)
either_decided (inl p) d = inl (inl p)
either_decided (inr no_p) (inl q) = inl (inr q)
either_decided (inr no_p) (inr no_q) = inr (λ h. elim h [ inl p ↦ no_p p | inr q ↦ no_q q ])

from_test : {P : Type 0} (b : Bool) → Decides b P → Decided P
from_test true d = inl (d.0 refl)
from_test false d = inr (λ p. let e : false ≡ true = d.1 p in cc)

pub same_text : (xs ys : List ℕ) → Decided (xs ≡ ys)
same_text xs ys = from_test (bytes_eq xs ys) (bytes_eq-Decides xs ys)

pub le_decided : (m n : ℕ) → Decided (m ≤ n)
le_decided m n = elim (cases_lt n m) [ inl lt ↦ inr (λ h. omega (arith, h, lt)) | inr le ↦ inl le ]

pub same_decided : (m n : ℕ) → Decided (m ≡ n)
same_decided m n = elim (eqb_tells m n) [ inl h ↦ inl h.1 | inr h ↦ inr h.1 ]

le_by : (a b : ℤ) (t : Bool) → int_le a b ≡ t → Decided (a ≤ℤ b)
le_by a b true e = inl (omega (arith, ints, e))
le_by a b false e = inr (λ h. omega (arith, ints, e, h))

pub whole_le_decided : (a b : ℤ) → Decided (a ≤ℤ b)
whole_le_decided a b = le_by a b (int_le a b) refl

pub all_decided : {P : ℕ → Type 0} → ((b : ℕ) → Decided (P b)) → (xs : List ℕ) → Decided (All P xs)
all_decided {P} each [] = inl (All-nil P)
all_decided {P} each (x ∷ xs) =
    decided_by (λ (h : P x × All P xs). All-cons P x xs h.0 h.1) (λ (h : All P (x ∷ xs)). (All-head P x xs h, All-tail P x xs h)) (both_decided (each x) (all_decided each xs))

-- there is a value whose spelling the text is, where each value is read back from its spelling
pub spelling_decided : {T : Type 0} (word : T → List ℕ) (named : List ℕ → T) → ((t : T) → named (word t) ≡ t) → (text : List ℕ) → Decided ((t : T) × (text ≡ word t))
spelling_decided {T} word named again text =
    decided_by (λ (e : text ≡ word (named text)). (named text, e)) (λ (h : (t : T) × (text ≡ word t)). h.1 ∙ ap word (sym (ap named h.1 ∙ again h.0)))
    (same_text text (word (named text)))
