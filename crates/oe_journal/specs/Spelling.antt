-- How a list of changes is spelled, and the block of a file that holds it.
use Rattle.std.specs.Prelude.{◌≡◌, ℕ, ◌<◌, ◌^◌, List, [], ◌∷◌, ◌++◌, length}
use Rattle.std.specs.List.{flat_map, AllByRecursion}
use Rattle.std.specs.Int.{w64, to_be_bytes}
use Rattle.std.specs.Str.{IsUtf8}
use Rattle.oe_keeper.specs.Kept.{place}
use Rattle.oe_keeper.specs.declared.change.RowChange.{RowChange}
use Rattle.oe_keeper.specs.declared.change.RowChange.TheVariants.{Put, Remove}

-- eight bytes of length, and that many bytes
abbrev pub text : List ℕ → List ℕ
text bytes = to_be_bytes w64 (length bytes) ++ bytes

-- a letter, the table's place, the key, and of a put the row
abbrev pub spelled_change : RowChange → List ℕ
spelled_change (Put table key row) = 80 ∷ place table ∷ text key ++ text row
spelled_change (Remove table key) = 82 ∷ place table ∷ text key

abbrev pub spelled : List RowChange → List ℕ
spelled changes = flat_map spelled_change changes

-- what stands behind the gate: the payload's length, the payload, and the next gate, closed
abbrev pub block : List ℕ → List ℕ
block payload = to_be_bytes w64 (length payload) ++ payload ++ 0 ∷ []

-- what has a spelling
abbrev pub FitsText : List ℕ → Type 0
FitsText bytes = (length bytes < 2 ^ 64) × IsUtf8 bytes

abbrev pub Fits : RowChange → Type 0
Fits (Put table key row) = FitsText key × FitsText row
Fits (Remove table key) = FitsText key

abbrev pub AreChanges : List RowChange → Type 0
AreChanges changes = AllByRecursion Fits changes

-- the bytes spell these changes
pub record Spells (bytes : List ℕ) (changes : List RowChange) : Type 0 where
  pub is : bytes ≡ spelled changes
  pub fits : AreChanges changes
