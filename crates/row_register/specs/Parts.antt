-- The parts of a text between separator bytes.
use Rattle.std.specs.Prelude.{ℕ, ◌==◌, List, []}
use Rattle.std.specs.List.{slice_split}
use Rattle.row_register.specs.declared.parts.Left.{Left}
use Rattle.row_register.specs.declared.parts.Left.TheVariants as lefts

-- ---- for proofs alone

abbrev pub parts_of : ℕ → List ℕ → List (List ℕ)
parts_of separator text = slice_split (λ b. b == separator) text

-- the parts that are left
abbrev pub parts_left : ℕ → Left → List (List ℕ)
parts_left separator (lefts.Text text) = parts_of separator text.now
parts_left separator lefts.Nothing = []
