-- For proofs alone: the versions in the history of a desk.
use Rattle.std.specs.Prelude.{ℕ, ◌+◌, ◌≡◌, ◌≤◌, List, [], ◌∷◌, ◌++◌, Some, None}
use Rattle.airfields.specs.Sites.{Site}
use Rattle.airfields.specs.declared.airfield.Airfield.{Airfield}
use Rattle.oe_findings.specs.List.{findings_of}
use Rattle.desk_machine.specs.declared.entry.Entry.{Entry}
use Rattle.desk_machine.specs.States.{State, last_number}
use Rattle.desk_machine.specs.Fronts.{register_after, register_after_act}
use Rattle.oe_asof.specs.Lines.{Asks, IsMalformed}
use Rattle.oe_asof.specs.Replies.{accepted_since, as_of_text, malformed_text, no_memory_text, not_kept_text}
use Rattle.oe_asof.specs.Versions.{AreEnds, Version, airfields_at, version}

-- the versions after each of these entries, where these were the airfields after the entry of a number before them
abbrev pub later_versions : ℕ → List Airfield → List Entry → List Version
later_versions number airfields [] = []
later_versions number airfields (e ∷ es) =
    version (number + 1) (register_after_act airfields e.change.act) ∷ later_versions (number + 1) (register_after_act airfields e.change.act) es

-- the version at an opening, and that after each entry accepted since
abbrev pub versions_since : ℕ → List Airfield → List Entry → List Version
versions_since base opening accepted = version base opening ∷ later_versions base opening accepted

-- these are all versions of a desk in this state since its opening
pub record IsCurrent (base : ℕ) (opening : List Airfield) (s : State) (versions : List Version) : Type 0 where
  pub within : base ≤ last_number s
  pub versions_are : versions ≡ versions_since base opening (accepted_since base s)
  pub register : s.register ≡ register_after opening (accepted_since base s)

-- the opening, where there is a version
abbrev pub base_in : List Version → ℕ
base_in [] = 0
base_in (v ∷ more) = v.number

abbrev pub opening_in : List Version → List Airfield
opening_in [] = []
opening_in (v ∷ more) = v.airfields

abbrev pub HasAll : List Version → State → Type 0
HasAll versions s = IsCurrent (base_in versions) (opening_in versions) s versions

-- no entry, or one more, whose amendment, if it is one, changes the airfields
pub data Moves (s t : State) : Type 0 where
  Same : t ≡ s → Moves s t
  Adds : (e : Entry) → t.entries ≡ s.entries ++ e ∷ [] → t.register ≡ register_after_act s.register e.change.act → Moves s t

-- a text of this kind was appended
pub record Appended (Is : List ℕ → Type 0) (old new : List ℕ) : Type 0 where
  pub reply : List ℕ
  pub is : Is reply
  pub appended : new ≡ old ++ reply

-- the list of a structure over the version of a number, or why there is none, was appended
pub data IsListed (versions : List Version) (number : ℕ) (site : Site) (old new : List ℕ) : Type 0 where
  Found : (airfields : List Airfield) → airfields_at number versions ≡ Some airfields → new ≡ old ++ as_of_text number (findings_of airfields site) → IsListed versions number site old new
  NotKept : (first last : ℕ) → airfields_at number versions ≡ None → AreEnds versions first last → new ≡ old ++ not_kept_text first last → IsListed versions number site old new
  NoRoom : new ≡ old ++ no_memory_text → IsListed versions number site old new

-- the reply to a line that asks for a list, by the versions
pub data IsToldBy (versions : List Version) (line text : List ℕ) : Type 0 where
  Found : (number : ℕ) (site : Site) (airfields : List Airfield) → Asks line number site → airfields_at number versions ≡ Some airfields
      → text ≡ as_of_text number (findings_of airfields site) → IsToldBy versions line text
  NotKept : (number : ℕ) (site : Site) (first last : ℕ) → Asks line number site → airfields_at number versions ≡ None → AreEnds versions first last → text ≡ not_kept_text first last
      → IsToldBy versions line text
  Refused : (field : ℕ) → IsMalformed line field → text ≡ malformed_text field → IsToldBy versions line text
  Wanting : text ≡ no_memory_text → IsToldBy versions line text
