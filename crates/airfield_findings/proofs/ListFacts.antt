-- What is taken of a list, part by part.
use Rattle.std.proofs.Common.{arith, ℕ, zero, suc, ◌≡◌, ◌<◌, ◌+◌, List, [], ◌∷◌, ◌++◌, take, length, get_or, map, Some, None, refl, sym, ◌∙◌, ap, append_assoc, subst}
use Rattle.std.specs.Prelude.{slice_get}
use Rattle.std.specs.List.{flat_map}
use Rattle.std.proofs.lemmas.List.{map-append, flat_map_more, take_more, append-nil}

pub at_place : {X : Type 0} (xs : List X) (i : ℕ) (x : X) → slice_get xs i ≡ Some x → (i < length xs) × (get_or xs i x ≡ x)
at_place [] i x e = absurd (cc)
at_place (y ∷ xs) zero x e = (omega arith, cc)
at_place (y ∷ xs) (suc i) x e = let r = at_place xs i x e in (omega (arith, r.0), r.1)

pub not_past : {X : Type 0} (xs : List X) (i : ℕ) → i < length xs → slice_get xs i ≡ None → ⊥
not_past [] i l e = omega arith
not_past (y ∷ xs) zero l e = cc
not_past (y ∷ xs) (suc i) l e = not_past xs i (omega arith) e

-- one item more
pub taken_more : {X : Type 0} (xs : List X) (i : ℕ) (x : X) → slice_get xs i ≡ Some x → take (i + 1) xs ≡ take i xs ++ x ∷ []
taken_more xs i x e = let r = at_place xs i x e in take_more xs i x r.0 ∙ ap (λ y. take i xs ++ y ∷ []) r.1

-- one image more
pub image_more : {X A : Type 0} (f : X → A) (xs ys : List X) (x : X) (images : List A) (image : A) → ys ≡ xs ++ x ∷ [] → map f xs ≡ images → f x ≡ image → map f ys ≡ images ++ image ∷ []
image_more f xs ys x images image grown before made = rw (grown, map-append f xs (x ∷ []), before, made) refl

module _ {A : Type 0} (Old Mid New : List A → Type 0) where
  -- two parts, one after the other
  pub both : (xs ys : List A) → ((list : List A) → Old list → Mid (list ++ xs)) → ((list : List A) → Mid list → New (list ++ ys)) → (list : List A) → Old list → New (list ++ (xs ++ ys))
  both xs ys first second list taken = subst New (append_assoc list xs ys) (second (list ++ xs) (first list taken))

-- the parts of the images of all items so far, and the part of the image of the item x at place i
pub one_more_image : {A X Y : Type 0} (Old Mid New : List A → Type 0) (f : Y → List A) (g : X → Y) (xs : List X) (i : ℕ) (x : X) → i < length xs → x ≡ get_or xs i x
    → ((list : List A) → Old list → Mid (list ++ flat_map f (map g (take i xs)))) → ((list : List A) → Mid list → New (list ++ f (g x))) → (list : List A) → Old list → New (list ++ flat_map f (map g (take (i + 1) xs)))
one_more_image Old Mid New f g xs i x l e first second list taken =
    let t : take (i + 1) xs ≡ take i xs ++ x ∷ [] = take_more xs i x l ∙ ap (λ y. take i xs ++ y ∷ []) (sym e) in
    let m : map g (take (i + 1) xs) ≡ map g (take i xs) ++ g x ∷ [] = ap (map g) t ∙ map-append g (take i xs) (x ∷ []) in
    subst New (flat_map_more f list (map g (take i xs)) (g x) ∙ ap (λ ys. list ++ flat_map f ys) (sym m))
    (second (list ++ flat_map f (map g (take i xs))) (first list taken))

-- the same without images
pub one_more_item : {A X : Type 0} (Old Mid New : List A → Type 0) (f : X → List A) (xs : List X) (i : ℕ) (x : X) → i < length xs → x ≡ get_or xs i x
    → ((list : List A) → Old list → Mid (list ++ flat_map f (take i xs))) → ((list : List A) → Mid list → New (list ++ f x)) → (list : List A) → Old list → New (list ++ flat_map f (take (i + 1) xs))
one_more_item Old Mid New f xs i x l e first second list taken =
    let t : take (i + 1) xs ≡ take i xs ++ x ∷ [] = take_more xs i x l ∙ ap (λ y. take i xs ++ y ∷ []) (sym e) in
    subst New (flat_map_more f list (take i xs) x ∙ ap (λ ys. list ++ flat_map f ys) (sym t))
    (second (list ++ flat_map f (take i xs)) (first list taken))

-- no part
pub none : {A : Type 0} (Old : List A → Type 0) (list : List A) → Old list → Old (list ++ [])
none Old list taken = subst Old (sym (append-nil list)) taken
