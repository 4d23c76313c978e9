-- Some one, two or three of a list: their tests, and what follows from them.
use Rattle.std.proofs.Common.{◌≡◌, ◌⊎◌, inl, inr, ◌↔◌, ◌||◌, ◌&&◌, Bool, true, false, List, [], ◌∷◌, refl, subst}
use Rattle.std.specs.Prelude.{IsTrue, not}
use Rattle.std.specs.List.{All, list_any}
use Rattle.std.proofs.lemmas.List.Elements.{All-head, All-tail}
use Rattle.center_polygon.specs.Somes.{SomeOne, SomeTwo, SomeThree, some_two, some_three}

-- ---- tests of one thing or another, of both, and of none
pub or_test : {P Q : Type 0} (p q : Bool) → (IsTrue p ↔ P) → (IsTrue q ↔ Q) → IsTrue (p || q) ↔ (P ⊎ Q)
or_test true q h k = (λ t. inl (h.0 refl), λ s. refl)
or_test false q h k = (λ t. inr (k.0 t), λ s. elim s [ inl x ↦ absurd (let e : false ≡ true = h.1 x in cc) | inr y ↦ k.1 y ])

pub and_test : {P Q : Type 0} (p q : Bool) → (IsTrue p ↔ P) → (IsTrue q ↔ Q) → IsTrue (p && q) ↔ (P × Q)
and_test true q h k = (λ t. (h.0 refl, k.0 t), λ s. k.1 s.1)
and_test false q h k = (λ t. absurd (let e : false ≡ true = t in cc), λ s. absurd (let e : false ≡ true = h.1 s.0 in cc))

pub not_test : {P : Type 0} (p : Bool) → (IsTrue p ↔ P) → IsTrue (not p) ↔ (P → ⊥)
not_test true h = (λ t. absurd (let e : false ≡ true = t in cc), λ n. absurd (n (h.0 refl)))
not_test false h = (λ t p. let e : false ≡ true = h.1 p in cc, λ n. refl)

-- a test that refutes what it tests answered false
pub false_test : {P : Type 0} (p : Bool) → (IsTrue p ↔ P) → (P → ⊥) → p ≡ false
false_test true h n = absurd (n (h.0 refl))
false_test false h n = refl

none_test : IsTrue false ↔ ⊥
none_test = (λ t. absurd (let e : false ≡ true = t in cc), λ x. absurd x)

-- ---- the tests
pub SomeOne-test : {A : Type 0} (P : A → Type 0) (p : A → Bool) → ((a : A) → IsTrue (p a) ↔ P a) → (xs : List A) → IsTrue (list_any p xs) ↔ SomeOne P xs
SomeOne-test P p h [] = none_test
SomeOne-test P p h (a ∷ xs) = or_test (p a) (list_any p xs) (h a) (SomeOne-test P p h xs)

pub SomeTwo-test : {A : Type 0} (P : A → A → Type 0) (p : A → A → Bool) → ((a b : A) → IsTrue (p a b) ↔ P a b) → (xs : List A) → IsTrue (some_two p xs) ↔ SomeTwo P xs
SomeTwo-test P p h [] = none_test
SomeTwo-test P p h (a ∷ xs) = or_test (list_any (p a) xs) (some_two p xs) (SomeOne-test (P a) (p a) (h a) xs) (SomeTwo-test P p h xs)

pub SomeThree-test : {A : Type 0} (P : A → A → A → Type 0) (p : A → A → A → Bool) → ((a b d : A) → IsTrue (p a b d) ↔ P a b d) → (xs : List A) → IsTrue (some_three p xs) ↔ SomeThree P xs
SomeThree-test P p h [] = none_test
SomeThree-test P p h (a ∷ xs) = or_test (some_two (p a) xs) (some_three p xs) (SomeTwo-test (P a) (p a) (h a) xs) (SomeThree-test P p h xs)

-- ---- what each has follows for some
SomeOne_map : {A : Type 0} {P Q : A → Type 0} → ((a : A) → P a → Q a) → (xs : List A) → SomeOne P xs → SomeOne Q xs
SomeOne_map f [] s = s
SomeOne_map f (a ∷ xs) s = elim s [ inl x ↦ inl (f a x) | inr y ↦ inr (SomeOne_map f xs y) ]

pub SomeTwo_map : {A : Type 0} {P Q : A → A → Type 0} → ((a b : A) → P a b → Q a b) → (xs : List A) → SomeTwo P xs → SomeTwo Q xs
SomeTwo_map f [] s = s
SomeTwo_map f (a ∷ xs) s = elim s [ inl x ↦ inl (SomeOne_map (f a) xs x) | inr y ↦ inr (SomeTwo_map f xs y) ]

-- ---- where all elements have a property, and each that has the other too gives the goal
SomeOne_elim : {A : Type 0} {R : A → Type 0} {P : A → Type 0} {G : Type 0} → ((a : A) → R a → P a → G) → (xs : List A) → All R xs → SomeOne P xs → G
SomeOne_elim f [] r s = absurd s
SomeOne_elim {R = R} f (a ∷ xs) r s =
    let head : R a = All-head R a xs r in
    let tail : All R xs = All-tail R a xs r in
    elim s [ inl x ↦ f a head x | inr y ↦ SomeOne_elim f xs tail y ]

pub SomeTwo_elim : {A : Type 0} {R : A → Type 0} {P : A → A → Type 0} {G : Type 0} → ((a b : A) → R a → R b → P a b → G) → (xs : List A) → All R xs → SomeTwo P xs → G
SomeTwo_elim f [] r s = absurd s
SomeTwo_elim {R = R} f (a ∷ xs) r s =
    let head : R a = All-head R a xs r in
    let tail : All R xs = All-tail R a xs r in
    elim s [ inl x ↦ SomeOne_elim (λ b. f a b head) xs tail x | inr y ↦ SomeTwo_elim f xs tail y ]

pub SomeThree_elim : {A : Type 0} {R : A → Type 0} {P : A → A → A → Type 0} {G : Type 0} → ((a b d : A) → R a → R b → R d → P a b d → G) → (xs : List A) → All R xs → SomeThree P xs → G
SomeThree_elim f [] r s = absurd s
SomeThree_elim {R = R} f (a ∷ xs) r s =
    let head : R a = All-head R a xs r in
    let tail : All R xs = All-tail R a xs r in
    elim s [ inl x ↦ SomeTwo_elim (λ b d. f a b d head) xs tail x | inr y ↦ SomeThree_elim f xs tail y ]

pub SomeThree_map : {A : Type 0} {P Q : A → A → A → Type 0} → ((a b d : A) → P a b d → Q a b d) → (xs : List A) → SomeThree P xs → SomeThree Q xs
SomeThree_map f [] s = s
SomeThree_map f (a ∷ xs) s = elim s [ inl x ↦ inl (SomeTwo_map (f a) xs x) | inr y ↦ inr (SomeThree_map f xs y) ]

-- ---- those of a list that have a property, in some order
SomeOne_of : {A : Type 0} (P : A → Type 0) (xs : List A) (a : A) → SomeOne (λ b. a ≡ b) xs → P a → SomeOne P xs
SomeOne_of P [] a i p = absurd i
SomeOne_of P (x ∷ xs) a i p = elim i [ inl e ↦ inl (subst P e p) | inr j ↦ inr (SomeOne_of P xs a j p) ]

SomeTwo_of : {A : Type 0} (P : A → A → Type 0) → ((a b : A) → P a b → P b a) → ((a : A) → P a a → ⊥) → (xs : List A) (a b : A) → SomeOne (λ u. a ≡ u) xs → SomeOne (λ u. b ≡ u) xs → P a b → SomeTwo P xs
SomeTwo_of P swap apart [] a b i j p = absurd i
SomeTwo_of P swap apart (x ∷ xs) a b i j p =
    elim i [
      | inl e ↦ elim j [
        | inl f ↦ absurd (apart x (subst (λ u. P x u) f (subst (λ u. P u b) e p)))
        | inr k ↦ inl (SomeOne_of (P x) xs b k (subst (λ u. P u b) e p))
      ]
      | inr k ↦ elim j [
        | inl f ↦ inl (SomeOne_of (P x) xs a k (swap a x (subst (λ u. P a u) f p)))
        | inr l ↦ inr (SomeTwo_of P swap apart xs a b k l p)
      ]
    ]

pub SomeThree_of : {A : Type 0} (P : A → A → A → Type 0) → ((a b d : A) → P a b d → P b d a) → ((a b d : A) → P a b d → P a d b) → ((a d : A) → P a a d → ⊥) → (xs : List A) (a b d : A) →
    SomeOne (λ u. a ≡ u) xs → SomeOne (λ u. b ≡ u) xs → SomeOne (λ u. d ≡ u) xs → P a b d → SomeThree P xs
SomeThree_of P turn swap apart [] a b d i j k p = absurd i
SomeThree_of {A = A} P turn swap apart (x ∷ xs) a b d i j k p =
    elim i [
      | inl e ↦ with_first b d j k (subst (λ u. P u b d) e p)
      | inr i' ↦ elim j [
        | inl e ↦ with_first d a k (inr i') (turn a x d (subst (λ u. P a u d) e p))
        | inr j' ↦ elim k [
          | inl e ↦ with_first a b (inr i') (inr j') (turn b x a (turn a b x (subst (λ u. P a b u) e p)))
          | inr k' ↦ inr (SomeThree_of P turn swap apart xs a b d i' j' k' p)
        ]
      ]
    ]
  where
    with_first : (b d : A) → SomeOne (λ u. b ≡ u) (x ∷ xs) → SomeOne (λ u. d ≡ u) (x ∷ xs) → P x b d → SomeThree P (x ∷ xs)
    with_first b d j k p =
        elim j [
          | inl e ↦ absurd (apart x d (subst (λ u. P x u d) e p))
          | inr j' ↦ elim k [
            | inl e ↦ absurd (apart x b (turn b x x (turn x b x (subst (λ u. P x b u) e p))))
            | inr k' ↦ inl (SomeTwo_of (P x) (swap x) (λ u q. apart u x (turn x u u q)) xs b d j' k' p)
          ]
        ]
