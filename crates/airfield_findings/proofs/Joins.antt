-- The least boxes of several boxes.
use Rattle.std.proofs.Common.{◌≡◌, ℕ, zero, suc, ◌<◌, pos, ◌+ℤ◌, List, [], ◌∷◌, ◌++◌, length, get_or, Option, Some, None, Bool, true, refl, sym, subst, arith}
use Rattle.std.specs.List.{All, Contains, list_any}
use Rattle.std.specs.Option.{option_to_list}
use Rattle.std.proofs.lemmas.Int.{ints}
use Rattle.std.proofs.lemmas.Bool.{or_left, or_right}
use Rattle.std.proofs.lemmas.List.Elements.{All-append, All-contains, All-cons, All-head, All-nil, All-same, All-tail, All-weaker}
use Rattle.grid_exact.specs.declared.area.Area.{Area}
use Rattle.outline_boxes.specs.Boxes.{Encloses, HoldsBoth, IsLeastBox}
use Rattle.outline_boxes.proofs.More.{Encloses_through}
use Rattle.airfield_findings.specs.Plots.{IsJoin}
use Rattle.airfield_findings.proofs.BoxOrder.{encloses_same}

-- both parts of a list
pub left : {X : Type 0} (P : X → Type 0) (xs ys : List X) → All P (xs ++ ys) → All P xs
left P [] ys h = All-nil P
left P (x ∷ xs) ys h = All-cons P x xs (All-head P x (xs ++ ys) h) (left P xs ys (All-tail P x (xs ++ ys) h))

pub right : {X : Type 0} (P : X → Type 0) (xs ys : List X) → All P (xs ++ ys) → All P ys
right P [] ys h = h
right P (x ∷ xs) ys h = right P xs ys (All-tail P x (xs ++ ys) h)

-- one of a list that meets a test
any_at : {X : Type 0} (p : X → Bool) (xs : List X) (n : ℕ) (d : X) → n < length xs → p (get_or xs n d) ≡ true → list_any p xs ≡ true
any_at p [] n d l h = absurd (omega arith)
any_at p (x ∷ xs) zero d l h = or_left (p x) (list_any p xs) h
any_at p (x ∷ xs) (suc n) d l h = or_right (p x) (list_any p xs) (any_at p xs n d (omega (arith, l)) h)

pub any_of : {X : Type 0} (p : X → Bool) (xs : List X) (x : X) → Contains xs x → p x ≡ true → list_any p xs ≡ true
any_of p xs x c h = any_at p xs c.0 x c.1 (subst (λ (y : _). p y ≡ true) (sym c.2) h)

-- no box lies in every other one
pub no_least : (b : Area) → ¬ ((other : Area) → Encloses other b)
no_least b h =
    let e = h (record { x0 = b.x0 +ℤ pos 1; y0 = b.y0; x1 = b.x1; y1 = b.y1 }) in
    omega (arith, ints, e.west)

abbrev In : Area → Area → Type 0
In b t = Encloses b t

-- what encloses the boxes encloses their join
pub join_most : (areas : List Area) (o : Option Area) (b : Area) → IsJoin areas o → All (In b) areas → All (In b) (option_to_list o)
join_most areas None b j h = All-nil (In b)
join_most areas (Some box) b j h = All-cons (In b) box [] (j.1.least b h) (All-nil (In b))

-- and what a box of them encloses, a box of the join encloses
pub join_over : (areas : List Area) (o : Option Area) (t k : Area) → IsJoin areas o → Contains areas t → Encloses t k → (box : Area) × Contains (option_to_list o) box × Encloses box k
join_over areas None t k j c e = absurd (let l : 0 < length areas = omega (arith, c.1) in let z : length areas ≡ 0 = rw j refl in omega (arith, l, z))
join_over areas (Some box) t k j c e = (box, (0, omega arith, refl), Encloses_through box t k (All-contains (In box) areas t j.1.holds c) e)

-- the join of two boxes
pub both_joined : (a b box : Area) → IsLeastBox (HoldsBoth a b) box → IsJoin (a ∷ b ∷ []) (Some box)
both_joined a b box h = (
  λ e. absurd (cc),
  record {
    holds = All-cons (In box) a (b ∷ []) h.holds.first (All-cons (In box) b [] h.holds.second (All-nil (In box)));
    least = λ other k. h.least other (record { first = All-head (In other) a (b ∷ []) k; second = All-head (In other) b [] (All-tail (In other) a (b ∷ []) k) });
  },
)

-- what encloses the join encloses the boxes
pub join_all : (areas : List Area) (o : Option Area) (b : Area) → IsJoin areas o → All (In b) (option_to_list o) → All (In b) areas
join_all areas None b j h = All-same (In b) areas [] j (All-nil (In b))
join_all areas (Some box) b j h = All-weaker (In box) (In b) (λ t e. Encloses_through b box t (All-head (In b) box [] h) e) areas j.1.holds

pub some_joined : (first second : Option Area) (a b box : Area) → first ≡ Some a → second ≡ Some b → IsLeastBox (HoldsBoth a b) box → IsJoin (option_to_list first ++ option_to_list second) (Some box)
some_joined first second a b box e k h =
    subst (λ (p : Option Area). IsJoin (option_to_list p ++ option_to_list second) (Some box)) (sym e)
    (subst (λ (q : Option Area). IsJoin (a ∷ option_to_list q) (Some box)) (sym k) (both_joined a b box h))

-- the join with a runway's areas more
pub join_next : (hull all own new : Area) (areas six : List Area) → IsLeastBox (λ b. All (In b) (hull ∷ areas)) all → IsLeastBox (λ b. All (In b) six) own → IsLeastBox (HoldsBoth all own) new → IsLeastBox (λ b. All (In b) (hull ∷ (areas ++ six))) new
join_next hull all own new areas six a o n =
    let first = All-weaker (In all) (In new) (λ t e. Encloses_through new all t n.holds.first e) (hull ∷ areas) a.holds in
    let second = All-weaker (In own) (In new) (λ t e. Encloses_through new own t n.holds.second e) six o.holds in
    record {
      holds = All-append (In new) (hull ∷ areas) six first second;
      least = λ b h. n.least b (record { first = a.least b (left (In b) (hull ∷ areas) six h); second = o.least b (right (In b) (hull ∷ areas) six h) });
    }

-- a box that lies in one of them is one of them
pub join_inner : (inner outer all : Area) (rest : List Area) → Encloses outer inner → IsLeastBox (λ b. All (In b) (outer ∷ rest)) all → IsLeastBox (λ b. All (In b) (inner ∷ outer ∷ rest)) all
join_inner inner outer all rest e h = record {
  holds = All-cons (In all) inner (outer ∷ rest) (Encloses_through all outer inner (All-head (In all) outer rest h.holds) e) h.holds;
  least = λ b k. h.least b (All-tail (In b) inner (outer ∷ rest) k);
}

pub join_of_one : (a : Area) → IsLeastBox (λ b. All (In b) (a ∷ [])) a
join_of_one a = record {
  holds = All-cons (In a) a [] (encloses_same a) (All-nil (In a));
  least = λ b h. All-head (In b) a [] h;
}
