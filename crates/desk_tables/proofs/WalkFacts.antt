-- Rows that are read one after another.
use Rattle.std.proofs.Common.{◌≡◌, refl, sym, ap, ◌∙◌, subst, arith, ℕ, ◌+◌, ◌<◌, ◌≤◌, Bool, true, false, cond, List, [], ◌∷◌, ◌++◌, length, length-append, take, Some, None, inl, inr}
use Rattle.std.specs.List.{filter, slice_get}
use Rattle.std.proofs.lemmas.List.{take_more, take_all}
use Rattle.std.proofs.lemmas.List.Elements.{filter-append}
use Rattle.std.proofs.lemmas.Option.{slice_get_within, get_or_from_slice_get, slice_get_cases}
use Rattle.desk_tables.specs.Values.{Row, IsRowOf}
use Rattle.desk_tables.specs.Parts.{Part, IsNext, Reads, with_row}
use Rattle.desk_tables.specs.declared.layout.Layout.{Layout}
use Rattle.desk_tables.specs.declared.value.RowValue.{RowValue}

-- ---- the front of a list with one more

pub take_next : {X : Type 0} (xs : List X) (i : ℕ) (x : X) → slice_get xs i ≡ Some x → take (i + 1) xs ≡ take i xs ++ x ∷ []
take_next xs i x at = take_more xs i x (slice_get_within xs i x at) ∙ ap (λ y. take i xs ++ y ∷ []) (get_or_from_slice_get xs i x x at)

module _ {X : Type 0} (p : X → Bool) where
  -- how many of the first i pass the test
  abbrev pub passing : ℕ → List X → ℕ
  passing i xs = length (filter p (take i xs))

  one_or_none : (b : Bool) (x : X) → length (cond b (x ∷ []) []) ≡ cond b 1 0
  one_or_none true x = refl
  one_or_none false x = refl

  counted : (xs : List X) (x : X) → length (filter p (xs ++ x ∷ [])) ≡ length (filter p xs) + cond (p x) 1 0
  counted xs x = ap length (filter-append p xs (x ∷ [])) ∙ length-append (filter p xs) (filter p (x ∷ [])) ∙ ap (λ n. length (filter p xs) + n) (one_or_none (p x) x)

  pub passing_next : (xs : List X) (i : ℕ) (x : X) → slice_get xs i ≡ Some x → passing (i + 1) xs ≡ passing i xs + cond (p x) 1 0
  passing_next xs i x at = ap (λ front. length (filter p front)) (take_next xs i x at) ∙ counted (take i xs) x

  pub passing_all : (xs : List X) (i : ℕ) → length xs ≤ i → passing i xs ≡ length (filter p xs)
  passing_all xs i l = ap (λ front. length (filter p front)) (take_all i xs l)

-- ---- reading

module _ (layout : Layout) where
  pub reads_more : (p : Part) (rows : List Row) (q : Part) (r : Row) (v : RowValue) → Reads layout p rows q → IsRowOf r v → IsNext layout q v → Reads layout p (rows ++ r ∷ []) (with_row v q)
  reads_more p [] q r v reads is next = (v, is, subst (λ x. IsNext layout x v) (sym reads) next, ap (with_row v) reads)
  reads_more p (s ∷ rows) q r v reads is next = (reads.0, reads.1, reads.2, reads_more (with_row reads.0 p) rows q r v reads.3 is next)

  pub reads_next : (p : Part) (rows : List Row) (i : ℕ) (q : Part) (r : Row) (v : RowValue) → slice_get rows i ≡ Some r → Reads layout p (take i rows) q → IsRowOf r v → IsNext layout q v
      → Reads layout p (take (i + 1) rows) (with_row v q)
  reads_next p rows i q r v at reads is next = subst (λ front. Reads layout p front (with_row v q)) (sym (take_next rows i r at)) (reads_more p (take i rows) q r v reads is next)

-- ---- places that there are

pub none_within : {X : Type 0} (xs : List X) (i : ℕ) → i < length xs → slice_get xs i ≡ None → ⊥
none_within xs i l none = elim (slice_get_cases xs i).1 [
  | inl found ↦ absurd (cc (sym found.2 ∙ none))
  | inr past ↦ omega (arith, l, past.0)
]
