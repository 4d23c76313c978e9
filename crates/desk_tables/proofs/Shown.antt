-- What a value was made of, where it is there.
use Rattle.std.proofs.Common.{◌≡◌, refl, Option, Some, None}
use Rattle.std.specs.Option.{option_map}
use Rattle.std.proofs.lemmas.Option.{none-some, same_Some}
use Rattle.determination_dates.specs.Computed.{with_some}

pub mapped_shown : {A B : Type 0} (o : Option A) (f : A → B) (e : B) (P : Type 0) → ((x : A) → o ≡ Some x → f x ≡ e → P) → option_map f o ≡ Some e → P
mapped_shown None f e P g is = absurd (none-some e is)
mapped_shown (Some x) f e P g is = g x refl (same_Some (f x) e is)

pub with_shown : {A B : Type 0} (o : Option A) (f : A → Option B) (e : B) (P : Type 0) → ((x : A) → o ≡ Some x → f x ≡ Some e → P) → with_some o f ≡ Some e → P
with_shown None f e P g is = absurd (none-some e is)
with_shown (Some x) f e P g is = g x refl is
