-- The changes that bring tables of an older format to that of today.
use Rattle.std.proofs.Common.{◌≡◌, ◌≢◌, refl, sym, ap, ◌∙◌, ℕ, ◌+◌, ◌==◌, Bool, true, false, not, ◌&&◌, cond, List, [], ◌∷◌, ◌++◌, Some, append-nil, append_assoc, take}
use Rattle.std.specs.List.{flat_map, slice_get}
use Rattle.std.specs.Str.{bytes_eq}
use Rattle.std.proofs.lemmas.Bool.Decides.{Decides-eqb}
use Rattle.std.proofs.lemmas.Slice.Eq.{bytes_eq-Decides}
use Rattle.oe_keeper.specs.declared.change.RowChange.{RowChange}
use Rattle.oe_keeper.specs.declared.change.RowChange.TheVariants.{Put}
use Rattle.oe_keeper.specs.declared.change.Table.TheVariants as tables
use Rattle.row_cases.specs.Older.{renewed_row}
use Rattle.desk_tables.specs.Opening.{renewed_filing}
use Rattle.desk_tables.proofs.WalkFacts.{take_next}

module _ {A B : Type 0} (f : A → List B) where
  flat_more : (xs : List A) (x : A) → flat_map f (xs ++ x ∷ []) ≡ flat_map f xs ++ f x
  flat_more [] x = append-nil (f x)
  flat_more (y ∷ ys) x = ap (λ rest. f y ++ rest) (flat_more ys x) ∙ sym (append_assoc (f y) (flat_map f ys) (f x))

  -- those of the first rows and one more
  pub flat_next : (xs : List A) (i : ℕ) (x : A) → slice_get xs i ≡ Some x → flat_map f (take (i + 1) xs) ≡ flat_map f (take i xs) ++ f x
  flat_next xs i x at = ap (flat_map f) (take_next xs i x at) ∙ flat_more (take i xs) x

  -- the list so far, with those of the next row
  pub flat_on : (xs : List A) (i : ℕ) (x : A) (head : B) (before after : List B) → slice_get xs i ≡ Some x → before ≡ head ∷ flat_map f (take i xs) → after ≡ before ++ f x
      → after ≡ head ∷ flat_map f (take (i + 1) xs)
  flat_on xs i x head before after at so step = step ∙ (ap (λ (list : List B). list ++ f x) so ∙ ap (λ (list : List B). head ∷ list) (sym (flat_next xs i x at)))

-- ---- the change of one row

abbrev change_by : List ℕ → List ℕ → Bool → Bool → List RowChange
change_by key row filed same = cond (filed && not same) (Put tables.Filing key (renewed_row row) ∷ []) []

-- there is none of another table
pub not_filing : (t : ℕ) (key row : List ℕ) (list : List RowChange) → t ≢ 3 → list ≡ list ++ renewed_filing ((t, key), row)
not_filing t key row list out = by (t == 3) refl
  where
    by : (b : Bool) → (t == 3) ≡ b → list ≡ list ++ renewed_filing ((t, key), row)
    by true e = absurd (out ((Decides-eqb t 3).0 e))
    by false e = sym (ap (λ b. list ++ change_by key row b (bytes_eq (renewed_row row) row)) e ∙ append-nil list)

pub as_filing : (t : ℕ) (key row : List ℕ) → t ≡ 3 → renewed_filing ((3, key), row) ≡ renewed_filing ((t, key), row)
as_filing t key row e = ap (λ (n : ℕ). renewed_filing ((n, key), row)) (sym e)

-- and none of a row that stays as it is
pub row_same : (key row text : List ℕ) (list : List RowChange) → text ≡ renewed_row row → text ≡ row → list ≡ list ++ renewed_filing ((3, key), row)
row_same key row text list is same =
    sym (ap (λ b. list ++ change_by key row true b) ((bytes_eq-Decides (renewed_row row) row).1 (sym is ∙ same)) ∙ append-nil list)

pub row_other : (key row text : List ℕ) (list : List RowChange) → text ≡ renewed_row row → text ≢ row → list ++ Put tables.Filing key text ∷ [] ≡ list ++ renewed_filing ((3, key), row)
row_other key row text list is other = by (bytes_eq (renewed_row row) row) refl
  where
    by : (b : Bool) → bytes_eq (renewed_row row) row ≡ b → list ++ Put tables.Filing key text ∷ [] ≡ list ++ renewed_filing ((3, key), row)
    by true e = absurd (other (is ∙ (bytes_eq-Decides (renewed_row row) row).0 e))
    by false e = ap (λ (x : List ℕ). list ++ Put tables.Filing key x ∷ []) is ∙ sym (ap (λ b. list ++ change_by key row true b) e)
