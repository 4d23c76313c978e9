-- The columns of tables.
use Rattle.std.specs.Prelude.{ℕ, ◌-◌, List, ◌++◌, length, replicate, codes}

-- this number of spaces
abbrev pub spaces : ℕ → List ℕ
spaces count = replicate count 32

-- a text right-aligned in a column of this width; a longer text gets no spaces
abbrev pub at_right : ℕ → List ℕ → List ℕ
at_right width text = spaces (width - length text) ++ text

-- a text left-aligned in a column of this width; a longer text gets no spaces
abbrev pub at_left : ℕ → List ℕ → List ℕ
at_left width text = text ++ spaces (width - length text)

-- the gap between two columns
abbrev pub gap : List ℕ
gap = codes "  "
