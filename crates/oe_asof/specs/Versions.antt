-- The airfields as they stood after earlier entries.
use Rattle.std.specs.Prelude.{ℕ, ◌≡◌, true, is_some, ◌-◌, ◌==◌, List, ◌∷◌, [], ◌++◌, length, cond, Option, Some, None, slice_get}
use Rattle.std.specs.Option.{option_map}
use Rattle.std.specs.Ordering.{nat_cmp}
use Rattle.airfields.specs.Sites.{Site}
use Rattle.airfields.specs.declared.airfield.Airfield.{Airfield}
use Rattle.oe_findings.specs.List.{findings_of}
use Rattle.ordered_list.specs.Ordered.{Rises, found_by}
use Rattle.oe_asof.specs.declared.answer.Dated.{Dated}
use Rattle.oe_asof.specs.declared.answer.Dated.TheVariants as answers

-- the airfields, and the number of the entry after which they stood so
pub record Version : Type 0 where
  pub number : ℕ
  pub airfields : List Airfield

abbrev pub version : ℕ → List Airfield → Version
version number airfields = record { number = number; airfields = airfields }

abbrev pub number_of : Version → ℕ
number_of v = v.number

abbrev pub airfields_of : Version → List Airfield
airfields_of v = v.airfields

-- the versions that are kept, and for how many more there is room
pub record Keeping : Type 0 where
  pub versions : List Version
  pub spare : ℕ

-- each number is below those after it
abbrev pub AreRising : List Version → Type 0
AreRising versions = Rises nat_cmp number_of versions

-- the last version
abbrev pub latest : List Version → Option Version
latest versions = slice_get versions (length versions - 1)

-- the airfields of the version of this number
abbrev pub airfields_at : ℕ → List Version → Option (List Airfield)
airfields_at number versions = option_map airfields_of (found_by nat_cmp number_of number versions)

abbrev pub with_version_after : Option Version → List Version → Version → List Version
with_version_after None versions v = versions ++ v ∷ []
with_version_after (Some last) versions v = cond (last.number == v.number) versions (versions ++ v ∷ [])

-- the versions with one more; with one of the last number they stay
abbrev pub with_version : List Version → Version → List Version
with_version versions v = with_version_after (latest versions) versions v

-- the first and the last number
abbrev pub AreEnds : List Version → ℕ → ℕ → Type 0
AreEnds versions first last = (option_map number_of (slice_get versions 0) ≡ Some first) × (option_map number_of (latest versions) ≡ Some last)

-- what is answered of a number: the list over the airfields under it, for which memory may be wanting; where there are none, the first and
-- the last number
abbrev pub IsDated : List Version → ℕ → Site → Dated → Type 0
IsDated versions number site (answers.Found list) = option_map (λ airfields. findings_of airfields site) (airfields_at number versions) ≡ Some list
IsDated versions number site (answers.NotKept first last) = (airfields_at number versions ≡ None) × AreEnds versions first last
IsDated versions number site answers.NoMemory = is_some (airfields_at number versions) ≡ true
