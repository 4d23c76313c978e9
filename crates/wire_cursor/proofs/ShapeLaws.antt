-- Fields have a shape, or there is a first bad one; and what a shape tells of the fields.
use Rattle.std.proofs.Common.{arith, ℕ, zero, suc, ◌+◌, ◌≡◌, ◌⊎◌, List, [], ◌∷◌, take, length, All, refl, ap, subst, inl, inr}
use Rattle.std.proofs.lemmas.List.Elements.{All-nil, All-cons}
use Rattle.wire_values.specs.Wanted.{Wanted, Fits}
use Rattle.wire_values.specs.Plainness.{IsShortField, IsUsual}
use Rattle.wire_values.proofs.FieldFacts.{fits_decided, fits_short, example}
use Rattle.wire_cursor.specs.Shape.{HasShape, FirstBad}

-- each of the wanted fields is usual
abbrev pub AllUsual : List Wanted → Type 0
AllUsual [] = Unit {0}
AllUsual (w ∷ ws) = IsUsual w × AllUsual ws

-- ---- one or the other

abbrev pub BadSomewhere : List Wanted → List ℕ → List (List ℕ) → ℕ → Type 0
BadSomewhere ws before fields number = (n : ℕ) × FirstBad ws before fields number n

pub shape_or_bad : (ws : List Wanted) → AllUsual ws → (before : List ℕ) (fields : List (List ℕ)) (number : ℕ)
    → HasShape ws before fields ⊎ BadSomewhere ws before fields number
shape_or_bad [] u before [] number = inl tt
shape_or_bad [] u before (f ∷ fs) number = inr (number, refl)
shape_or_bad (w ∷ ws) u before [] number = inr (number, refl)
shape_or_bad (w ∷ ws) u before (f ∷ fs) number =
    elim (fits_decided w u.0 before f) as (λ _. HasShape (w ∷ ws) before (f ∷ fs) ⊎ BadSomewhere (w ∷ ws) before (f ∷ fs) number) [
      | inr misfit ↦ inr (number, inr (misfit, refl))
      | inl fits ↦ elim (shape_or_bad ws u.1 f fs (number + 1)) as (λ _. HasShape (w ∷ ws) before (f ∷ fs) ⊎ BadSomewhere (w ∷ ws) before (f ∷ fs) number) [
        | inl h ↦ inl (fits, h)
        | inr bad ↦ inr (bad.0, inl (fits, bad.1))
      ]
    ]

-- ---- the place of a bad field, counted from 0

abbrev pub BadAt : List Wanted → List ℕ → List (List ℕ) → ℕ → Type 0
BadAt [] before [] k = ⊥
BadAt [] before (f ∷ fs) k = k ≡ 0
BadAt (w ∷ ws) before [] k = k ≡ 0
BadAt (w ∷ ws) before (f ∷ fs) zero = Fits w before f → ⊥
BadAt (w ∷ ws) before (f ∷ fs) (suc k) = Fits w before f × BadAt ws f fs k

pub place_of : (ws : List Wanted) (before : List ℕ) (fields : List (List ℕ)) (number n : ℕ) → FirstBad ws before fields number n
    → (k : ℕ) × (n ≡ number + k) × BadAt ws before fields k
place_of [] before [] number n h = absurd h
place_of [] before (f ∷ fs) number n h = (0, omega (arith, h), refl)
place_of (w ∷ ws) before [] number n h = (0, omega (arith, h), refl)
place_of (w ∷ ws) before (f ∷ fs) number n (inl h) =
    let p = place_of ws f fs (number + 1) n h.1 in
    (suc p.0, omega (arith, p.1), (h.0, p.2))
place_of (w ∷ ws) before (f ∷ fs) number n (inr h) = (0, omega (arith, h.1), h.0)

heads : {x y : List ℕ} {xs ys : List (List ℕ)} → x ∷ xs ≡ y ∷ ys → (x ≡ y) × (xs ≡ ys)
heads e = (cc, cc)

-- no fields of the shape are the same up to the bad one
pub no_shape : (ws : List Wanted) (before : List ℕ) (xs fields : List (List ℕ)) (k : ℕ) → HasShape ws before xs → BadAt ws before fields k
    → take (suc k) xs ≡ take (suc k) fields → ⊥
no_shape [] before [] [] k h b e = b
no_shape [] before [] (f ∷ fs) k h b e = cc
no_shape [] before (x ∷ xs) fields k h b e = h
no_shape (w ∷ ws) before [] fields k h b e = h
no_shape (w ∷ ws) before (x ∷ xs) [] k h b e = cc
no_shape (w ∷ ws) before (x ∷ xs) (f ∷ fs) zero h b e = b (subst (Fits w before) (heads e).0 h.0)
no_shape (w ∷ ws) before (x ∷ xs) (f ∷ fs) (suc k) h b e = no_shape ws f xs fs k (subst (λ y. HasShape ws y xs) (heads e).0 h.1) b.1 (heads e).1

-- ---- fields with what they tell

-- a field for each that is wanted
abbrev pub Values : List ℕ → List Wanted → Type 0
Values before [] = Unit {0}
Values before (w ∷ ws) = (first : (field : List ℕ) × Fits w before field) × Values first.0 ws

abbrev pub texts : (before : List ℕ) (ws : List Wanted) → Values before ws → List (List ℕ)
texts before [] v = []
texts before (w ∷ ws) v = v.0.0 ∷ texts v.0.0 ws v.1

pub texts_shape : (before : List ℕ) (ws : List Wanted) (v : Values before ws) → HasShape ws before (texts before ws v)
texts_shape before [] v = tt
texts_shape before (w ∷ ws) v = (v.0.1, texts_shape v.0.0 ws v.1)

pub values_of : (ws : List Wanted) (before : List ℕ) (fields : List (List ℕ)) → HasShape ws before fields → (v : Values before ws) × (texts before ws v ≡ fields)
values_of [] before [] h = (tt, refl)
values_of [] before (f ∷ fs) h = absurd h
values_of (w ∷ ws) before [] h = absurd h
values_of (w ∷ ws) before (f ∷ fs) h = let more = values_of ws f fs h.1 in (((f, h.0), more.0), ap (λ xs. f ∷ xs) more.1)

pub examples : (before : List ℕ) (ws : List Wanted) → AllUsual ws → Values before ws
examples before [] u = tt
examples before (w ∷ ws) u = let first = example before w u.0 in (first, examples first.0 ws u.1)

-- the fields before a bad one, completed by examples
pub completed : (ws : List Wanted) → AllUsual ws → (before : List ℕ) (fields : List (List ℕ)) (k : ℕ) → BadAt ws before fields k
    → (v : Values before ws) × (take k (texts before ws v) ≡ take k fields)
completed [] u before [] k b = absurd b
completed [] u before (f ∷ fs) k b = (tt, rw b refl)
completed (w ∷ ws) u before [] k b = (examples before (w ∷ ws) u, rw b refl)
completed (w ∷ ws) u before (f ∷ fs) zero b = (examples before (w ∷ ws) u, refl)
completed (w ∷ ws) u before (f ∷ fs) (suc k) b =
    let more = completed ws u.1 f fs k b.1 in
    (((f, b.0), more.0), ap (λ xs. f ∷ xs) more.1)

-- ---- the fields are short and plain

pub fields_short : (ws : List Wanted) → AllUsual ws → (before : List ℕ) (fields : List (List ℕ)) → HasShape ws before fields → All IsShortField fields
fields_short [] u before [] h = All-nil IsShortField
fields_short [] u before (f ∷ fs) h = absurd h
fields_short (w ∷ ws) u before [] h = absurd h
fields_short (w ∷ ws) u before (f ∷ fs) h = All-cons IsShortField f fs (fits_short w u.0 before f h.0) (fields_short ws u.1 f fs h.1)

pub as_many : (ws : List Wanted) (before : List ℕ) (fields : List (List ℕ)) → HasShape ws before fields → length fields ≡ length ws
as_many [] before [] h = refl
as_many [] before (f ∷ fs) h = absurd h
as_many (w ∷ ws) before [] h = absurd h
as_many (w ∷ ws) before (f ∷ fs) h = omega (arith, as_many ws f fs h.1)
