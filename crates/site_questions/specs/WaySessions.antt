-- The output of a session of ways for its input: a way that has stations at the end of the input ends there.
-- Where the bytes of a stream are not known, these conditions say nothing.
use Rattle.std.specs.Prelude.{ℕ, List, [], ◌∷◌, ◌++◌, ◌≡◌, ◌⊎◌, Option, Some, None}
use Rattle.std.specs.Io.KnownBytes.{Appends}
use Rattle.std.specs.Str.Lines.{lines}
use Rattle.airfields.specs.Sites.{Site}
use Rattle.oe_http.specs.Machine.{Runs, Starts}
use Rattle.oe_http.specs.declared.session.Ended.{Ended}
use Rattle.oe_http.specs.declared.session.Ended.TheVariants as endings
use Rattle.site_questions.specs.Ways.{Survey, WayStep, way_end}

-- what ends a way at the end of the input: the line that ends a way, where it has stations
abbrev pub closing : List Site → List (List ℕ)
closing [] = []
closing (site ∷ way) = way_end ∷ []

-- the texts for all lines, in order, and that for the way that they leave
pub record IsWhole (before : Survey) (all : List (List ℕ)) (text : List ℕ) : Type 0 where
  pub replies : List ℕ
  pub last : List ℕ
  pub end : Survey
  pub after : Survey
  pub runs : Runs WayStep before all replies end
  pub closes : Runs WayStep end (closing end.way) last after
  pub text_is : text ≡ replies ++ last

-- the texts for all lines, in order, and a beginning of that for the way that they leave
pub record IsClosing (before : Survey) (all : List (List ℕ)) (text : List ℕ) : Type 0 where
  pub replies : List ℕ
  pub rest : List ℕ
  pub end : Survey
  pub runs : Runs WayStep before all replies end
  pub starts : Starts WayStep end (closing end.way) rest
  pub text_is : text ≡ replies ++ rest

-- a beginning of all these texts
abbrev pub IsBeginning : Survey → List (List ℕ) → List ℕ → Type 0
IsBeginning before all text = Starts WayStep before all text ⊎ IsClosing before all text

-- all lines of an input were replied to, and the way that they left was told
abbrev pub WaysAnswered : Survey → Option (List ℕ) → Option (List ℕ) → Option (List ℕ) → Type 0
WaysAnswered before None held_old held_new = Unit {0}
WaysAnswered before (Some input) held_old held_new = (text : List ℕ) × Appends held_old held_new text × IsWhole before (lines input) text

-- a beginning of these texts was written
abbrev pub WaysBegun : Survey → Option (List ℕ) → Option (List ℕ) → Option (List ℕ) → Type 0
WaysBegun before None held_old held_new = Unit {0}
WaysBegun before (Some input) held_old held_new = (text : List ℕ) × Appends held_old held_new text × IsBeginning before (lines input) text

-- ---- for proofs alone

-- how the way that the lines left was ended: its text was written, or a beginning of it at a fault of the output, or nothing
pub record Closes (end : Survey) (ended : Ended) (held_old held_new : Option (List ℕ)) : Type 0 where
  pub closed : ended ≡ endings.Closed → (last : List ℕ) × (after : Survey) × Runs WayStep end (closing end.way) last after × Appends held_old held_new last
  pub begun : (rest : List ℕ) × Starts WayStep end (closing end.way) rest × Appends held_old held_new rest
  pub memory : ended ≡ endings.NoMemory → Appends held_old held_new []
  pub ways : (ended ≡ endings.Closed) ⊎ (ended ≡ endings.WriteFault) ⊎ (ended ≡ endings.NoMemory)
