-- What a keeper says, where it is used.
use Rattle.std.proofs.Common.{Bool, IsTrue, Result, Ok, Err}
use Rattle.std.specs.Prelude.{OnErr}
use Rattle.std.proofs.Math.Logic.{∥∥₁_map}
use Rattle.oe_keeper.specs.Kept.{Kept}
use Rattle.oe_keeper.specs.Keeping.{StaysSilent}
use Rattle.oe_keeper.specs.Placed.{TellsWhere, IsLoadedWhere}

module _ {K : Type 0} where
  pub loaded_if : (IsLoaded : K → Type 0) (b : Bool) (k : K) → IsTrue b → ∥ (IsLoadedWhere IsLoaded b k) ∥₁ → ∥ IsLoaded k ∥₁
  loaded_if IsLoaded b k h l = ∥∥₁_map l (λ f. f h)

  pub loaded_where : (IsLoaded : K → Type 0) (b : Bool) (k : K) → ∥ IsLoaded k ∥₁ → ∥ (IsLoadedWhere IsLoaded b k) ∥₁
  loaded_where IsLoaded b k l = ∥∥₁_map l (λ x _. x)

  pub silent_where : (Tells : K → Kept → Type 0) (b : Bool) (old new : K) → StaysSilent Tells old new → (now : Kept) → TellsWhere Tells b new now → ∥ ((x : Kept) × TellsWhere Tells b old x) ∥₁
  silent_where Tells b old new silent now t = ∥∥₁_map (silent now t.1) (λ w. (w.0, (t.0, w.1)))

pub always_err : {T E : Type 0} {Q : Type 0} (r : Result T E) → Q → OnErr r Q
always_err (Ok x) q = tt
always_err (Err e) q = q
