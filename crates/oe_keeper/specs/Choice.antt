-- A keeper of two.
use Rattle.std.specs.Prelude.{◌≡◌, ℕ, Bool, true, false, List, Option, Some, None, codes, nat_eq}
use Rattle.std.specs.List.{ends_with}
use Rattle.oe_keeper.specs.Kept.{Kept}
use Rattle.oe_keeper.specs.declared.by_name.Chosen.{Chosen}
use Rattle.oe_keeper.specs.declared.by_name.Chosen.TheVariants.{Neither, First, Second}

-- the place is that of a journal
abbrev pub ends_in_oej : Option (List ℕ) → Bool
ends_in_oej None = false
ends_in_oej (Some path) = ends_with nat_eq path (codes ".oej")

-- whether a load goes to the second
abbrev pub goes_second : Chosen → Option (List ℕ) → Bool
goes_second Neither place = ends_in_oej place
goes_second First place = false
goes_second Second place = true

-- whether the second was chosen
abbrev pub is_second_chosen : Chosen → Bool
is_second_chosen Neither = false
is_second_chosen First = false
is_second_chosen Second = true

-- the choice of the second, or of the first
abbrev pub IsChoice : Chosen → Bool → Type 0
IsChoice c true = c ≡ Second
IsChoice c false = c ≡ First

module _ {A B : Type 0} where
  -- where the second is called the first stays as it was, and else the second
  abbrev pub LeavesOther : A → A → B → B → Bool → Type 0
  LeavesOther a new_a b new_b true = new_a ≡ a
  LeavesOther a new_a b new_b false = new_b ≡ b

  abbrev pub TellsOf : (A → Kept → Type 0) → (B → Kept → Type 0) → A → B → Chosen → Kept → Type 0
  TellsOf TellsA TellsB a b Neither rows = ⊥
  TellsOf TellsA TellsB a b First rows = TellsA a rows
  TellsOf TellsA TellsB a b Second rows = TellsB b rows

  abbrev pub LoadedOf : (A → Type 0) → (B → Type 0) → A → B → Chosen → Type 0
  LoadedOf IsLoadedA IsLoadedB a b Neither = ⊥
  LoadedOf IsLoadedA IsLoadedB a b First = IsLoadedA a
  LoadedOf IsLoadedA IsLoadedB a b Second = IsLoadedB b

  abbrev pub FindsOf : (A → Option (List ℕ) → Kept → Type 0) → (B → Option (List ℕ) → Kept → Type 0) → A → B → Bool → Option (List ℕ) → Kept → Type 0
  FindsOf FindsA FindsB a b true place rows = FindsB b place rows
  FindsOf FindsA FindsB a b false place rows = FindsA a place rows

  pub one_of : (TellsA : A → Kept → Type 0) (TellsB : B → Kept → Type 0) → ((a : A) (x y : Kept) → TellsA a x → TellsA a y → x ≡ y) → ((b : B) (x y : Kept) → TellsB b x → TellsB b y → x ≡ y)
      → (a : A) (b : B) (c : Chosen) (x y : Kept) → TellsOf TellsA TellsB a b c x → TellsOf TellsA TellsB a b c y → x ≡ y
  one_of TellsA TellsB oneA oneB a b Neither x y p q = absurd p
  one_of TellsA TellsB oneA oneB a b First x y p q = oneA a x y p q
  one_of TellsA TellsB oneA oneB a b Second x y p q = oneB b x y p q
