-- Findings that a row can spell. Excesses are whole tenths of a foot.
use Rattle.std.specs.Prelude.{ℕ, ◌^◌, ◌<◌, ◌≤◌, ◌≡◌, List, ◌∷◌, map, length, Option, Some, None, All, codes}
use Rattle.std.specs.Fmt.{decimal}
use Rattle.airfields.specs.Names.{IsFieldId, IsRunwayName}
use Rattle.finding_lists.specs.declared.finding.Rule.{Rule}
use Rattle.finding_lists.specs.declared.finding.Rule.TheVariants as rules
use Rattle.finding_lists.specs.declared.finding.SurfaceKey.{SurfaceKey}
use Rattle.finding_lists.specs.declared.finding.Finding.{Finding}
use Rattle.wire_values.specs.Words.{name_text}
use Rattle.wire_replies.specs.Entries.{rule_word, entry_text, runway_part_text}
use Rattle.row_cases.specs.declared.extent.Extent.{Extent}
use Rattle.row_cases.specs.declared.extent.Extent.TheVariants as extents

-- the parts that a rule's key has: no airfield; an airfield; a runway; the end or side of a runway or of a heliport, with its
-- least number: an approach surface has an end 1 or 2, and a transitional surface also a side 0
abbrev pub extent_of : Rule → Extent
extent_of rules.H499 = extents.Nowhere
extent_of rules.Near = extents.Whole
extent_of rules.Horizontal = extents.Whole
extent_of rules.Conical = extents.Whole
extent_of rules.Primary = extents.Strip
extent_of rules.Approach = extents.StripPart 1
extent_of rules.Transition = extents.StripPart 0
extent_of rules.PadPrimary = extents.Whole
extent_of rules.PadApproach = extents.PadPart 1
extent_of rules.PadTransition = extents.PadPart 0
extent_of rules.NoticeA = extents.Nowhere
extent_of rules.NoticeB1 = extents.Strip
extent_of rules.NoticeB2 = extents.Strip
extent_of rules.NoticeB3 = extents.Whole
extent_of rules.NoticeD = extents.Whole
extent_of rules.WayA = extents.Nowhere
extent_of rules.WayB1 = extents.Strip
extent_of rules.WayB2 = extents.Strip
extent_of rules.WayB3 = extents.Whole

-- the name of an airfield, or of a runway
abbrev pub IsField : Option (List ℕ) → Type 0
IsField None = ⊥
IsField (Some name) = IsFieldId name

abbrev pub IsStrip : Option (List ℕ) → Type 0
IsStrip None = ⊥
IsStrip (Some name) = IsRunwayName name

-- an end 1 or 2, or a side from 0 where 0 is the least
abbrev pub IsPart : ℕ → ℕ → Type 0
IsPart least part = (least ≤ part) × (part ≤ 2)

-- the key has exactly these parts
abbrev pub HasExtent : Extent → SurfaceKey → Type 0
HasExtent extents.Nowhere key = (key.field ≡ None) × (key.runway ≡ None) × (key.part ≡ 0)
HasExtent extents.Whole key = IsField key.field × (key.runway ≡ None) × (key.part ≡ 0)
HasExtent extents.Strip key = IsField key.field × IsStrip key.runway × (key.part ≡ 0)
HasExtent (extents.StripPart least) key = IsField key.field × IsStrip key.runway × IsPart least key.part
HasExtent (extents.PadPart least) key = IsField key.field × (key.runway ≡ None) × IsPart least key.part

-- 77.9(d) has no height, so its excess is 0
abbrev pub IsLevel : Rule → ℕ → Type 0
IsLevel rules.NoticeD excess = excess ≡ 0
IsLevel _ excess = Unit {0}

-- a finding that its entry spells completely
pub record IsEntry (f : Finding) : Type 0 where
  pub place : HasExtent (extent_of f.rule) f.key
  pub level : IsLevel f.rule f.excess
  pub small : f.excess < 2 ^ 32

-- the number of entries, and the entries
abbrev pub list_fields : List Finding → List (List ℕ)
list_fields list = decimal (length list) ∷ map entry_text list

-- a list that its fields spell completely
pub record IsList (list : List Finding) : Type 0 where
  pub many : length list < 2 ^ 64
  pub entries : All IsEntry list

-- ---- for proofs alone: the airfield and the surface of an entry, by the parts of its rule's key

abbrev pub field_word : Extent → SurfaceKey → List ℕ
field_word extents.Nowhere key = codes "-"
field_word extents.Whole key = name_text key.field
field_word extents.Strip key = name_text key.field
field_word (extents.StripPart least) key = name_text key.field
field_word (extents.PadPart least) key = name_text key.field

abbrev pub surface_word : Extent → SurfaceKey → List ℕ
surface_word extents.Nowhere key = codes "-"
surface_word extents.Whole key = codes "-"
surface_word extents.Strip key = name_text key.runway
surface_word (extents.StripPart least) key = runway_part_text key
surface_word (extents.PadPart least) key = decimal key.part

-- two words are the airfield and the surface of a key with these parts
pub record TellsKey (extent : Extent) (field surface : List ℕ) (key : SurfaceKey) : Type 0 where
  pub field_is : field ≡ field_word extent key
  pub surface_is : surface ≡ surface_word extent key
  pub place : HasExtent extent key

-- four words spell this finding's entry
pub record TellsEntry (rule field surface excess : List ℕ) (f : Finding) : Type 0 where
  pub rule_is : rule ≡ rule_word f.rule
  pub key : TellsKey (extent_of f.rule) field surface f.key
  pub excess_is : excess ≡ decimal f.excess
  pub level : IsLevel f.rule f.excess
  pub small : f.excess < 2 ^ 32
