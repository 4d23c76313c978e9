-- Merging the findings of two groups of airfields into one list, in order of the names of their airfields.
use Rattle.std.specs.Prelude.{ℕ, List, [], ◌∷◌, Option, Some, None, Bool, true, false, if◌then◌else◌}
use Rattle.std.specs.Ordering.{is_le}
use Rattle.airfields.specs.Names.{name_cmp}
use Rattle.finding_lists.specs.declared.finding.Finding.{Finding}

-- the name a is not greater than the name b; no name counts as less than every name
abbrev pub is_up_to : Option (List ℕ) → Option (List ℕ) → Bool
is_up_to None b = true
is_up_to (Some a) None = false
is_up_to (Some a) (Some b) = is_le (name_cmp a b)

-- the entry y of a list stays before an inserted entry x: y has no airfield, or one whose name is not greater
abbrev pub stays_before : Finding → Finding → Bool
stays_before y x = is_up_to y.key.field x.key.field

-- the list with the entry x inserted before the first entry that does not stay before it
abbrev pub put_in_order : Finding → List Finding → List Finding
put_in_order x [] = x ∷ []
put_in_order x (y ∷ ys) = if stays_before y x then y ∷ put_in_order x ys else x ∷ y ∷ ys

-- the entries of the second list inserted among those of the first by the names of their airfields, one after another
abbrev pub merged_list : List Finding → List Finding → List Finding
merged_list list [] = list
merged_list list (x ∷ xs) = merged_list (put_in_order x list) xs
