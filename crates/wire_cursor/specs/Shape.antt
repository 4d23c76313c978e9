-- The shape of a record: the kinds of its fields, from first to last.
use Rattle.std.specs.Prelude.{ℕ, ◌+◌, ◌≡◌, ◌⊎◌, List, [], ◌∷◌, ◌++◌}
use Rattle.wire_values.specs.Wanted.{Wanted, Fits}

-- the fields fit the shape exactly, none missing and none left over; before is the field before them
abbrev pub HasShape : List Wanted → List ℕ → List (List ℕ) → Type 0
HasShape [] before [] = Unit {0}
HasShape [] before (field ∷ fields) = ⊥
HasShape (wanted ∷ more) before [] = ⊥
HasShape (wanted ∷ more) before (field ∷ fields) = Fits wanted before field × HasShape more field fields

-- the first field, counted from `number`, that does not fit; one past the last where fields are missing
abbrev pub FirstBad : List Wanted → List ℕ → List (List ℕ) → ℕ → ℕ → Type 0
FirstBad [] before [] number n = ⊥
FirstBad [] before (field ∷ fields) number n = n ≡ number
FirstBad (wanted ∷ more) before [] number n = n ≡ number
FirstBad (wanted ∷ more) before (field ∷ fields) number n =
    (Fits wanted before field × FirstBad more field fields (number + 1) n) ⊎ ((¬ Fits wanted before field) × (n ≡ number))

-- ---- for proofs alone: a reader that takes the fields of a record one by one

-- its position: the field before, the fields left, and the number of the next one, counted from 1
pub record Place : Type 0 where
  pub before : List ℕ
  pub rest : List (List ℕ)
  pub number : ℕ

-- the position before the first field
abbrev pub beginning : List (List ℕ) → Place
beginning fields = record { before = []; rest = fields; number = 1 }

-- it took this field
pub record Steps (field : List ℕ) (old new : Place) : Type 0 where
  pub rest : old.rest ≡ field ∷ new.rest
  pub before : new.before ≡ field
  pub number : new.number ≡ old.number + 1

-- it took fields that fit and have this spelling: whatever is expected after them, the whole record fits where the rest does,
-- and its first bad field is that of the rest
pub record Took (wanted : List Wanted) (spelling : List (List ℕ)) (old new : Place) : Type 0 where
  pub read : old.rest ≡ spelling ++ new.rest
  pub fits : (more : List Wanted) → HasShape more new.before new.rest → HasShape (wanted ++ more) old.before old.rest
  pub bad : (more : List Wanted) (n : ℕ) → FirstBad more new.before new.rest new.number n → FirstBad (wanted ++ more) old.before old.rest old.number n

-- it stopped at the field of this number, the first that does not fit, whatever is expected after it
pub record Stops (wanted : List Wanted) (old : Place) (n : ℕ) : Type 0 where
  pub first : (more : List Wanted) → FirstBad (wanted ++ more) old.before old.rest old.number n

-- the field of this number is the first of those left that does not fit, where nothing more is expected
pub record IsBad (wanted : List Wanted) (old : Place) (n : ℕ) : Type 0 where
  pub first : FirstBad wanted old.before old.rest old.number n
