-- The output of a session for its input. Where the bytes of a stream are not known, these conditions say nothing.
use Rattle.std.specs.Prelude.{ℕ, ◌+◌, List, [], ◌++◌, ◌≡◌, ◌≤◌, ◌⊎◌, length, Option, Some, None}
use Rattle.std.specs.Io.KnownBytes.{Appends}
use Rattle.std.specs.Str.Lines.{lines}
use Rattle.oe_http.specs.Causes.{Rose}
use Rattle.oe_http.specs.Lines.{IsPlain}
use Rattle.oe_http.specs.declared.lines.TheConstants.{INPUT_LIMIT}
use Rattle.oe_http.specs.Machine.{Step, Runs, Starts}
use Rattle.oe_http.specs.declared.session.Ended.{Ended}
use Rattle.oe_http.specs.declared.session.Ended.TheVariants as endings

-- the replies to some lines were written, in order, and took one state to another
pub record Replied {St : Type 0} (step : Step St) (before after : St) (lines : List (List ℕ)) (held_old held_new : Option (List ℕ)) : Type 0 where
  pub text : List ℕ
  pub appends : Appends held_old held_new text
  pub runs : Runs step before lines text after

-- to all lines of an input
abbrev pub Answered : {St : Type 0} → Step St → St → St → Option (List ℕ) → Option (List ℕ) → Option (List ℕ) → Type 0
Answered step before after None held_old held_new = Unit {0}
Answered step before after (Some input) held_old held_new = Replied step before after (lines input) held_old held_new

-- to the first lines of an input
abbrev pub AnsweredFront : {St : Type 0} → Step St → St → Option (List ℕ) → Option (List ℕ) → Option (List ℕ) → Type 0
AnsweredFront step before None held_old held_new = Unit {0}
AnsweredFront {St} step before (Some input) held_old held_new =
    (done more : List (List ℕ)) × (now : St) × (lines input ≡ done ++ more) × Replied step before now done held_old held_new

-- to all lines that were read whole: the bytes read after these end no line
abbrev pub AnsweredRead : {St : Type 0} → Step St → St → St → Option (List ℕ) → Option (List ℕ) → Option (List ℕ) → Option (List ℕ) → Type 0
AnsweredRead step before after None left held_old held_new = Unit {0}
AnsweredRead step before after (Some input) None held_old held_new = ⊥
AnsweredRead step before after (Some input) (Some left) held_old held_new =
    (done : List (List ℕ)) × (part : List ℕ) × (lines input ≡ done ++ lines (part ++ left)) × IsPlain part
    × Replied step before after done held_old held_new

-- a beginning of the replies to all lines of an input was written
abbrev pub Begun : {St : Type 0} → Step St → St → Option (List ℕ) → Option (List ℕ) → Option (List ℕ) → Type 0
Begun step before None held_old held_new = Unit {0}
Begun step before (Some input) held_old held_new =
    (text : List ℕ) × Appends held_old held_new text × Starts step before (lines input) text

-- the first lines of an input took one state to another, in order, and a beginning of their replies was written
pub record CarriedOut {St : Type 0} (step : Step St) (before after : St) (input : List ℕ) (held_old held_new : Option (List ℕ)) : Type 0 where
  pub done : List (List ℕ)
  pub more : List (List ℕ)
  pub first : lines input ≡ done ++ more
  pub written : List ℕ
  pub rest : List ℕ
  pub runs : Runs step before done (written ++ rest) after
  pub appends : Appends held_old held_new written

-- as above, where the input is known
abbrev pub CarriesOut : {St : Type 0} → Step St → St → St → Option (List ℕ) → Option (List ℕ) → Option (List ℕ) → Type 0
CarriesOut step before after None held_old held_new = Unit {0}
CarriesOut step before after (Some input) held_old held_new = CarriedOut step before after input held_old held_new

-- nothing is left of an input
abbrev pub ReadToEnd : Option (List ℕ) → Option (List ℕ) → Type 0
ReadToEnd None left = Unit {0}
ReadToEnd (Some input) left = left ≡ Some []

-- at least this many bytes of an input were taken
abbrev pub TookAtLeast : ℕ → Option (List ℕ) → Option (List ℕ) → Type 0
TookAtLeast n None left = Unit {0}
TookAtLeast n (Some input) None = ⊥
TookAtLeast n (Some input) (Some left) = n + length left ≤ length input

-- the input read and the output written, by how the session ended
pub record WritesWhole {St : Type 0} (step : Step St) (before after : St) (ended : Ended) (input left held_old held_new : Option (List ℕ)) : Type 0 where
  pub read_to_end : ended ≡ endings.Closed → ReadToEnd input left
  -- at a fault of the input, or at its limit, each line that was read whole has its reply
  pub whole : (ended ≡ endings.ReadFault) ⊎ (ended ≡ endings.Long) → AnsweredRead step before after input left held_old held_new
  -- where memory ran out, no part of a reply was written
  pub memory : ended ≡ endings.NoMemory → AnsweredFront step before input held_old held_new

-- why a session ended so: counts of faults never fall, and a fault is reported only where its count rose
pub record HasCauses (ended : Ended) (input left : Option (List ℕ)) (read_old read_new write_old write_new : ℕ) : Type 0 where
  pub read : ended ≡ endings.ReadFault → Rose read_old read_new
  pub write : ended ≡ endings.WriteFault → Rose write_old write_new
  pub long : ended ≡ endings.Long → TookAtLeast INPUT_LIMIT input left
  pub read_later : read_old ≤ read_new
  pub write_later : write_old ≤ write_new

-- the ways in which a session over lines ends: it is neither cut short nor refused
abbrev pub IsOfLines : Ended → Type 0
IsOfLines endings.Truncated = ⊥
IsOfLines (endings.Refused status) = ⊥
IsOfLines endings.Closed = Unit {0}
IsOfLines endings.ReadFault = Unit {0}
IsOfLines endings.WriteFault = Unit {0}
IsOfLines endings.Long = Unit {0}
IsOfLines endings.NoMemory = Unit {0}

-- neither count of faults rose, or stands at the end of its type
pub record Unfailed (read_old read_new write_old write_new : ℕ) : Type 0 where
  pub read : Rose read_old read_new → ⊥
  pub write : Rose write_old write_new → ⊥

-- the ways in which a session ends over streams that do not fail
abbrev pub IsUnharmed : Ended → Type 0
IsUnharmed endings.Closed = Unit {0}
IsUnharmed endings.Truncated = Unit {0}
IsUnharmed (endings.Refused status) = Unit {0}
IsUnharmed endings.ReadFault = ⊥
IsUnharmed endings.WriteFault = ⊥
IsUnharmed endings.Long = Unit {0}
IsUnharmed endings.NoMemory = Unit {0}

-- where neither stream failed, the session ended with its input, or at what it refuses, or at the limit of its input, or out of memory
pub record Completes (ended : Ended) (read_old read_new write_old write_new : ℕ) : Type 0 where
  pub unharmed : Unfailed read_old read_new write_old write_new → IsUnharmed ended
