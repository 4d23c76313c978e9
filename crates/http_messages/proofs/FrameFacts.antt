-- Fields of a name.
use Rattle.std.proofs.Common.{ℕ, zero, suc, ◌≡◌, ◌<◌, Bool, ◌||◌, true, false, List, [], ◌∷◌, length, get_or, map, drop, refl, ap, ◌∙◌, arith}
use Rattle.http_messages.specs.Frames.{Pair, values, is_called}
use Rattle.std.specs.List.{list_any}

pub any_at : {A B : Type 0} (p : B → Bool) (f : A → B) (xs : List A) (i : ℕ) (d : A) → i < length xs → p (f (get_or xs i d)) ≡ true
    → list_any p (map f xs) ≡ true
any_at p f [] i d below passes = absurd (omega (arith, below))
any_at p f (x ∷ xs) zero d below passes = rw passes refl
any_at p f (x ∷ xs) (suc i) d below passes =
    elim (p (f x)) as (λ b. (b || list_any p (map f xs)) ≡ true) [
      | true ↦ refl
      | false ↦ any_at p f xs i d (omega (arith, below)) passes
    ]

pub any_none : {A B : Type 0} (p : B → Bool) (f : A → B) (xs : List A) → ((i : ℕ) (d : A) → i < length xs → p (f (get_or xs i d)) ≡ false)
    → list_any p (map f xs) ≡ false
any_none p f [] none = refl
any_none p f (x ∷ xs) none = rw (none 0 x (omega arith)) (any_none p f xs (λ i d below. none (suc i) d (omega (arith, below))))

-- the values of a name that no field has from a place on
pub values_none : {A : Type 0} (name : List ℕ) (f : A → Pair) (xs : List A) → ((i : ℕ) (d : A) → i < length xs
    → is_called name (f (get_or xs i d)) ≡ false) → values name (map f xs) ≡ []
values_none name f [] none = refl
values_none name f (x ∷ xs) none = rw (none 0 x (omega arith)) (values_none name f xs (λ i d below. none (suc i) d (omega (arith, below))))

-- the first field of a name
pub values_first : {A : Type 0} (name : List ℕ) (f : A → Pair) (xs : List A) (at : ℕ) (d : A) → at < length xs
    → is_called name (f (get_or xs at d)) ≡ true
    → ((i : ℕ) (d : A) → i < at → is_called name (f (get_or xs i d)) ≡ false)
    → values name (map f xs) ≡ (f (get_or xs at d)).1 ∷ values name (map f (drop (suc at) xs))
values_first name f [] at d below is none = absurd (omega (arith, below))
values_first name f (x ∷ xs) zero d below is none = rw is refl
values_first name f (x ∷ xs) (suc at) d below is none = rw (none 0 x (omega arith)) (values_first name f xs at d (omega (arith, below)) is
    (λ i d less. none (suc i) d (omega (arith, less))))

same_get : {A : Type 0} (xs : List A) (at : ℕ) (d e : A) → at < length xs → get_or xs at d ≡ get_or xs at e
same_get [] at d e below = absurd (omega (arith, below))
same_get (x ∷ xs) zero d e below = refl
same_get (x ∷ xs) (suc at) d e below = same_get xs at d e (omega (arith, below))

pub values_first_at : {A : Type 0} (name : List ℕ) (f : A → Pair) (xs : List A) (at next : ℕ) (d e : A) → next ≡ suc at → at < length xs
    → is_called name (f (get_or xs at e)) ≡ true
    → ((i : ℕ) (d : A) → i < at → is_called name (f (get_or xs i d)) ≡ false)
    → values name (map f xs) ≡ (f (get_or xs at d)).1 ∷ values name (map f (drop next xs))
values_first_at name f xs at next d e n below is none =
    rw n (values_first name f xs at d below (ap (λ x. is_called name (f x)) (same_get xs at d e below) ∙ is) none)

pub often : (vs rest more : List (List ℕ)) (v w : List ℕ) → vs ≡ v ∷ rest → rest ≡ w ∷ more → (x y : List ℕ) × (z : List (List ℕ)) × (vs ≡ x ∷ y ∷ z)
often vs rest more v w e f = (v, w, more, e ∙ ap (λ (t : List (List ℕ)). v ∷ t) f)
