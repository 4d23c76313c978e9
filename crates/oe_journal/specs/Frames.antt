-- What the bytes of a file stand for. A frame is a gate, the payload's length in eight bytes with the highest first, and the payload.
use Rattle.std.specs.Prelude.{ℕ, zero, suc, ◌+◌, List, [], ◌∷◌, ◌++◌, map, fold, length, slice_index, take, drop, Bool, ◌&&◌, Option, Some, None, nat_eq, nat_lt, if◌then◌else◌, codes}
use Rattle.std.specs.Fmt.{decimal}
use Rattle.std.specs.Int.{w64, from_be_bytes}
use Rattle.std.specs.FinMap as maps
use Rattle.oe_keeper.specs.Kept.{Kept, rows_after_changes}
use Rattle.oe_keeper.specs.declared.change.Table.TheVariants.{Desk}
use Rattle.oe_keeper.specs.declared.change.RowChange.{RowChange}
use Rattle.oe_keeper.specs.declared.change.RowChange.TheVariants.{Put}
use Rattle.oe_journal.specs.Reading.{changes_of}

-- the length that stands behind the first gate
unfoldable pub size_at : List ℕ → ℕ
size_at file = from_be_bytes w64 (take 8 (drop 1 file))

-- the first frame counts: its gate is 1, and its length, its whole payload and one byte after it are within the file
unfoldable pub counts : List ℕ → Bool
counts file = nat_eq (slice_index file 0) 1 && nat_lt (9 + size_at file) (length file)

abbrev pub payload : List ℕ → List ℕ
payload file = take (size_at file) (drop 9 file)

-- the payload of the first frame, where that counts
abbrev pub first_of : List ℕ → Option (List ℕ)
first_of file = if counts file then Some (payload file) else None

-- The frames up to the first that does not count, each with the place of its gate. n bytes of the frame before are still to come.
unfoldable pub frames_after : ℕ → ℕ → List ℕ → List (ℕ × List ℕ)
frames_after n at [] = []
frames_after (suc n) at (b ∷ rest) = frames_after n (at + 1) rest
frames_after zero at (b ∷ rest) = if counts (b ∷ rest) then (at, payload (b ∷ rest)) ∷ frames_after (8 + size_at (b ∷ rest)) (at + 1) rest else []

-- how many bytes they take
unfoldable pub extent_after : ℕ → List ℕ → ℕ
extent_after n [] = 0
extent_after (suc n) (b ∷ rest) = 1 + extent_after n rest
extent_after zero (b ∷ rest) = if counts (b ∷ rest) then 1 + extent_after (8 + size_at (b ∷ rest)) rest else 0

abbrev pub frames : List ℕ → List (ℕ × List ℕ)
frames file = frames_after 0 0 file

-- the place of the first gate that does not count
abbrev pub extent : List ℕ → ℕ
extent file = extent_after 0 file

-- what a frame that holds no list of changes stands for
abbrev pub damaged : ℕ → RowChange
damaged at = Put Desk (codes "damaged " ++ decimal at) (codes "-")

abbrev pub or_damaged : ℕ → Option (List RowChange) → List RowChange
or_damaged at (Some changes) = changes
or_damaged at None = damaged at ∷ []

-- the list of changes that a frame stands for
abbrev pub list_of : ℕ × List ℕ → List RowChange
list_of frame = or_damaged frame.0 (changes_of frame.1)

-- the lists of changes that a file stands for, in order
abbrev pub lists_of : List ℕ → List (List RowChange)
lists_of file = map list_of (frames file)

-- the rows after lists of changes
abbrev pub rows_after : Kept → List (List RowChange) → Kept
rows_after = fold rows_after_changes

-- the rows that a file stands for
unfoldable pub rows_of : List ℕ → Kept
rows_of file = rows_after maps.empty (lists_of file)
