-- A keeper that tells now told before, whichever of the two it is.
use Rattle.std.proofs.Common.{◌≡◌, ℕ, true, false, List, Option}
use Rattle.oe_keeper.specs.Kept.{Kept}
use Rattle.oe_keeper.specs.Keeping.{StaysSilent}
use Rattle.oe_keeper.specs.declared.by_name.Chosen.{Chosen}
use Rattle.oe_keeper.specs.declared.by_name.Chosen.TheVariants.{Neither, First, Second}
use Rattle.oe_keeper.specs.Choice.{TellsOf, goes_second}

module _ {A B : Type 0} (TellsA : A → Kept → Type 0) (TellsB : B → Kept → Type 0) where
  pub silent_first : (a new : A) (b : B) (c : Chosen) → c ≡ First → StaysSilent TellsA a new → (now : Kept) → TellsOf TellsA TellsB new b c now → ∥ ((x : Kept) × TellsOf TellsA TellsB a b c x) ∥₁
  silent_first a new b Neither is silent now t = absurd t
  silent_first a new b First is silent now t = silent now t
  silent_first a new b Second is silent now t = absurd cc

  pub silent_second : (a : A) (b new : B) (c : Chosen) → c ≡ Second → StaysSilent TellsB b new → (now : Kept) → TellsOf TellsA TellsB a new c now → ∥ ((x : Kept) × TellsOf TellsA TellsB a b c x) ∥₁
  silent_second a b new Neither is silent now t = absurd t
  silent_second a b new First is silent now t = absurd cc
  silent_second a b new Second is silent now t = silent now t

  pub load_first : (a new : A) (b : B) (c : Chosen) (place : Option (List ℕ)) → goes_second c place ≡ false → StaysSilent TellsA a new → (now : Kept) → TellsOf TellsA TellsB new b c now → ∥ ((x : Kept) × TellsOf TellsA TellsB a b c x) ∥₁
  load_first a new b Neither place is silent now t = absurd t
  load_first a new b First place is silent now t = silent now t
  load_first a new b Second place is silent now t = absurd cc

  pub load_second : (a : A) (b new : B) (c : Chosen) (place : Option (List ℕ)) → goes_second c place ≡ true → StaysSilent TellsB b new → (now : Kept) → TellsOf TellsA TellsB a new c now → ∥ ((x : Kept) × TellsOf TellsA TellsB a b c x) ∥₁
  load_second a b new Neither place is silent now t = absurd t
  load_second a b new First place is silent now t = absurd cc
  load_second a b new Second place is silent now t = silent now t
