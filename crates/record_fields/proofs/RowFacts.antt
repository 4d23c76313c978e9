-- The fields of a row are taken one after the other.
use Rattle.std.proofs.Common.{ℕ, zero, suc, ◌+◌, ◌≡◌, List, [], ◌∷◌, Some, None, refl, ap, drop, add-one, length, ◌<◌, ◌^◌}
use Rattle.csv.specs.Records.{Row, cut_from, fields_of, field_at}

pub row_next : (fields : List (List ℕ)) (i : ℕ) (text : List ℕ) → field_at fields i ≡ Some text → drop i fields ≡ text ∷ drop (i + 1) fields
unfolding field_at
row_next [] i text e = absurd (cc)
row_next (f ∷ fs) zero text e = let q : f ≡ text = cc in ap (λ x. x ∷ fs) q
row_next (f ∷ fs) (suc i) text e = rw (add-one (suc i)) (rw (add-one i) at (row_next fs i text e))

-- there is no field after the last
pub row_end : (fields : List (List ℕ)) (i : ℕ) → field_at fields i ≡ None → drop i fields ≡ []
unfolding field_at
row_end [] zero e = refl
row_end [] (suc i) e = refl
row_end (f ∷ fs) zero e = absurd (cc)
row_end (f ∷ fs) (suc i) e = row_end fs i e

-- a row has as many fields as ends of fields
pub length-cut_from : (start : ℕ) (ends bytes : List ℕ) → length (cut_from start ends bytes) ≡ length ends
unfolding cut_from
length-cut_from start [] bytes = refl
length-cut_from start (e ∷ es) bytes = ap suc (length-cut_from e es bytes)

pub few_fields : (row : Row) → length row.ends < 2 ^ 64 → length (fields_of row) < 2 ^ 64
few_fields row few = rw (length-cut_from 0 row.ends row.bytes) few
