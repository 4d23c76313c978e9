-- Lists by their places, and lists of places of which some are filled.
use Rattle.std.proofs.Common.{◌≡◌, refl, sym, ap, arith, ℕ, zero, suc, ◌+◌, ◌≤◌, List, [], ◌∷◌, ◌++◌, length, Option, Some, None, IfSome, All, slice_get}
use Rattle.std.proofs.Common.{slice_set, replicate}
use Rattle.std.specs.List.{flat_map}
use Rattle.std.specs.Option.{option_to_list, option_map}
use Rattle.std.proofs.lemmas.List.Elements.{All-cons, All-head, All-tail}
use Rattle.std.proofs.lemmas.Option.{same_Some}

module _ {X : Type 0} where
  -- what is so at each place is so after one of them was set
  pub set_each : (P : ℕ → X → Type 0) (xs : List X) (i : ℕ) (x : X) → ((j : ℕ) → IfSome (slice_get xs j) (P j)) → P i x → (j : ℕ)
      → IfSome (slice_get (slice_set xs i x) j) (P j)
  set_each P [] i x h p j = h j
  set_each P (y ∷ ys) zero x h p zero = p
  set_each P (y ∷ ys) zero x h p (suc j) = h (suc j)
  set_each P (y ∷ ys) (suc i) x h p zero = h zero
  set_each P (y ∷ ys) (suc i) x h p (suc j) = set_each (λ k. P (suc k)) ys i x (λ k. h (suc k)) p j

  pub same_by_places : (xs ys : List X) → ((i : ℕ) → slice_get xs i ≡ slice_get ys i) → xs ≡ ys
  same_by_places [] [] h = refl
  same_by_places [] (y ∷ ys) h = absurd (cc (h zero))
  same_by_places (x ∷ xs) [] h = absurd (cc (h zero))
  same_by_places (x ∷ xs) (y ∷ ys) h = λ i. same_Some x y (h zero) i ∷ same_by_places xs ys (λ k. h (suc k)) i

  pub all_at : (P : X → Type 0) (xs : List X) (i : ℕ) (x : X) → All P xs → slice_get xs i ≡ Some x → P x
  all_at P (y ∷ ys) zero x h at = rw (sym (same_Some y x at)) (All-head P y ys h)
  all_at P (y ∷ ys) (suc i) x h at = all_at P ys i x (All-tail P y ys h) at
  all_at P [] i x h at = absurd (cc (at))

  -- past the last place there is nothing
  pub past : (xs : List X) (i : ℕ) → slice_get xs i ≡ None → length xs ≤ i
  past [] i none = omega arith
  past (x ∷ xs) zero none = absurd (cc (none))
  past (x ∷ xs) (suc i) none = omega (arith, past xs i none)

  -- what each has, and one more
  pub all_with : (P : X → Type 0) (xs ys : List X) (x : X) → All P (xs ++ ys) → P x → All P (xs ++ x ∷ ys)
  all_with P [] ys x h p = All-cons P x ys p h
  all_with P (z ∷ zs) ys x h p = All-cons P z (zs ++ x ∷ ys) (All-head P z (zs ++ ys) h) (all_with P zs ys x (All-tail P z (zs ++ ys) h) p)

  pub length_with : (xs ys : List X) (x : X) → length (xs ++ x ∷ ys) ≡ length (xs ++ ys) + 1
  length_with [] ys x = omega arith
  length_with (z ∷ zs) ys x = omega (arith, length_with zs ys x)

  -- ---- places that are filled

  abbrev pub filled : List (Option X) → List X
  filled os = flat_map option_to_list os

  -- no place is filled at first
  pub none_filled : (n i : ℕ) (P : X → Type 0) → IfSome (slice_get (replicate n None) i) (λ o. IfSome o P)
  none_filled zero i P = tt
  none_filled (suc n) zero P = tt
  none_filled (suc n) (suc i) P = none_filled n i P

  pub filled_most : (os : List (Option X)) → length (filled os) ≤ length os
  filled_most [] = omega arith
  filled_most (None ∷ os) = omega (arith, filled_most os)
  filled_most (Some x ∷ os) = omega (arith, filled_most os)

  pub filled_all : (os : List (Option X)) → length os ≤ length (filled os) → (i : ℕ) → slice_get os i ≡ option_map Some (slice_get (filled os) i)
  filled_all [] l i = refl
  filled_all (None ∷ os) l i = absurd (omega (arith, l, filled_most os))
  filled_all (Some x ∷ os) l zero = refl
  filled_all (Some x ∷ os) l (suc i) = filled_all os (omega (arith, l)) i

  -- one more stands among those that were there
  pub record IsFilledMore (os : List (Option X)) (i : ℕ) (x : X) : Type 0 where
    pub front : List X
    pub rest : List X
    pub old : filled os ≡ front ++ rest
    pub new : filled (slice_set os i (Some x)) ≡ front ++ x ∷ rest

  pub filled_more : (os : List (Option X)) (i : ℕ) (x : X) → slice_get os i ≡ Some None → IsFilledMore os i x
  filled_more [] i x free = absurd (cc (free))
  filled_more (None ∷ os) zero x free = record { front = []; rest = filled os; old = refl; new = refl }
  filled_more (Some y ∷ os) zero x free = absurd (cc (free))
  filled_more (None ∷ os) (suc i) x free = let more = filled_more os i x free in record { front = more.front; rest = more.rest; old = more.old; new = more.new }
  filled_more (Some y ∷ os) (suc i) x free =
      let more = filled_more os i x free in record { front = y ∷ more.front; rest = more.rest; old = ap (λ l. y ∷ l) more.old; new = ap (λ l. y ∷ l) more.new }

-- ---- what a value that may be there is mapped to

pub unmapped : {X Y : Type 0} (f : X → Y) (o : Option X) → option_map f o ≡ None → o ≡ None
unmapped f None h = refl
unmapped f (Some x) h = absurd (cc (h))

pub mapped : {X Y : Type 0} (f : X → Y) (o : Option X) (y : Y) → option_map f o ≡ Some y → (x : X) × (o ≡ Some x) × (f x ≡ y)
mapped f None y h = absurd (cc (h))
mapped f (Some x) y h = (x, refl, same_Some (f x) y h)
