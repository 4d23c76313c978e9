-- Names of airfields and runways.
use Rattle.std.specs.Prelude.{ℕ, List, ◌≤◌, ◌≡◌, ◌⊎◌, length}
use Rattle.std.specs.List.{All}
use Rattle.std.specs.Ordering.{nat_cmp}
use Rattle.std.specs.Cmp.Lexicographic.{slice_cmp}
use Rattle.std.specs.declared.cmp.Ordering.{Ordering}
use Rattle.airfields.specs.declared.names.TheConstants.{NAME_LIMIT}

-- the code of a letter A to Z or of a digit
abbrev pub IsLetterOrDigit : ℕ → Type 0
IsLetterOrDigit b = ((65 ≤ b) × (b ≤ 90)) ⊎ ((48 ≤ b) × (b ≤ 57))

-- the code of a letter A to Z, of a digit, or of the slash between the two numbers of a runway
abbrev pub IsRunwayByte : ℕ → Type 0
IsRunwayByte b = IsLetterOrDigit b ⊎ (b ≡ 47)

-- the name of an airfield: letters and digits, from one up to the limit
pub record IsFieldId (name : List ℕ) : Type 0 where
  pub least : 1 ≤ length name
  pub most : length name ≤ NAME_LIMIT
  pub bytes : All IsLetterOrDigit name

-- the name of a runway: letters, digits and slashes, from one up to the limit
pub record IsRunwayName (name : List ℕ) : Type 0 where
  pub least : 1 ≤ length name
  pub most : length name ≤ NAME_LIMIT
  pub bytes : All IsRunwayByte name

-- the order of names, byte by byte
abbrev pub name_cmp : List ℕ → List ℕ → Ordering
name_cmp = slice_cmp nat_cmp
