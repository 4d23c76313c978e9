-- A state has one set of rows.
use Rattle.std.proofs.Common.{◌≡◌, ◌≢◌, refl, sym, ap, ◌∙◌, subst, arith, ℕ, zero, suc, List, Option, Some, None, Bool, true, false, not}
use Rattle.std.specs.FinMap as maps
use Rattle.std.specs.Str.{bytes_eq}
use Rattle.std.proofs.lemmas.Slice.Eq.{bytes_eq-Decides}
use Rattle.oe_keeper.specs.Kept.{Kept, key_cmp_total}
use Rattle.oe_keeper.specs.declared.change.Table.TheVariants as tables
use Rattle.oe_keeper.proofs.Keys.{key_cmp-same}
use Rattle.desk_machine.specs.States.{State}
use Rattle.desk_tables.specs.Tables.{Found, AreNamed, found_in}
use Rattle.desk_tables.specs.Rows.{AreRows, AreTables, is_bare}

-- whether two texts that are found or not are the same
abbrev are_same : Option (List ℕ) → Option (List ℕ) → Bool
are_same None None = true
are_same None (Some b) = false
are_same (Some a) None = false
are_same (Some a) (Some b) = bytes_eq a b

same_found : (a b : Option (List ℕ)) → are_same a b ≡ true → a ≡ b
same_found None None h = refl
same_found None (Some b) h = absurd (cc (h))
same_found (Some a) None h = absurd (cc (h))
same_found (Some a) (Some b) h = ap Some ((bytes_eq-Decides a b).0 h)

found_same : (a b : Option (List ℕ)) → a ≡ b → are_same a b ≡ true
found_same None b e = subst (λ o. are_same None o ≡ true) e refl
found_same (Some a) b e = subst (λ o. are_same (Some a) o ≡ true) e ((bytes_eq-Decides a a).1 refl)

module _ {N : Type 0} (IsName : N → Type 0) (key : N → List ℕ) (row : N → Option (List ℕ)) (f g : Found) where
  -- what stands under a text is a name's row, or nothing
  one_by : (text : List ℕ) (b : Bool) → are_same (f text) (g text) ≡ b → AreNamed IsName key row f → AreNamed IsName key row g → f text ≡ g text
  one_by text true e h k = same_found (f text) (g text) e
  one_by text false e h k =
      let no_name : (n : N) → IsName n → text ≢ key n =
      λ n is at. absurd (cc (sym e ∙ found_same (f text) (g text) (ap f at ∙ h.there n is ∙ sym (k.there n is) ∙ ap g (sym at)))) in
      h.only text no_name ∙ sym (k.only text no_name)

  one_table : AreNamed IsName key row f → AreNamed IsName key row g → (text : List ℕ) → f text ≡ g text
  one_table h k text = one_by text (are_same (f text) (g text)) refl h k

one_at : (f : Bool) (s : State) (a b : Kept) → AreTables f s a → AreTables f s b → (t : ℕ) (text : List ℕ) → maps.get a (t, text) ≡ maps.get b (t, text)
one_at f s a b h k zero text = one_table _ _ _ (found_in a tables.Airfield) (found_in b tables.Airfield) h.airfields k.airfields text
one_at f s a b h k (suc zero) text = one_table _ _ _ (found_in a tables.Runway) (found_in b tables.Runway) h.runways k.runways text
one_at f s a b h k (suc (suc zero)) text = one_table _ _ _ (found_in a tables.Desk) (found_in b tables.Desk) h.days k.days text
one_at f s a b h k (suc (suc (suc zero))) text = one_table _ _ _ (found_in a tables.Filing) (found_in b tables.Filing) h.filings k.filings text
one_at f s a b h k (suc (suc (suc (suc zero)))) text = one_table _ _ _ (found_in a tables.Receipt) (found_in b tables.Receipt) h.receipts k.receipts text
one_at f s a b h k (suc (suc (suc (suc (suc t))))) text = h.only _ text (omega arith) ∙ sym (k.only _ text (omega arith))

pub one_tables : (f : Bool) (s : State) (a b : Kept) → AreTables f s a → AreTables f s b → a ≡ b
one_tables f s a b h k = maps.same_map key_cmp_total key_cmp-same a b (λ q. one_at f s a b h k q.0 q.1)

pub one_rows : (s : State) (a b : Kept) → AreRows s a → AreRows s b → a ≡ b
one_rows s a b h k = one_tables (not (is_bare s)) s a b h k
