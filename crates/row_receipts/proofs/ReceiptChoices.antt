-- What holds of a value that may be there.
use Rattle.std.proofs.Common.{◌≡◌, Option, Some, None, IfSome, IfNone, subst}

pub at_none : {A P : Type 0} (o : Option A) → o ≡ None → IfNone o P → P
at_none {A} {P} o e h = subst (λ o. IfNone o P) e h

pub at_some : {A : Type 0} (P : A → Type 0) (o : Option A) (x : A) → o ≡ Some x → IfSome o P → P x
at_some P o x e h = subst (λ o. IfSome o P) e h
