-- The entries that one airfield gives to a structure's list of findings, and the cases that a change of it concerns.
use Rattle.std.specs.Prelude.{◌≡◌, ℕ, ◌&&◌, ◌||◌, nat_eq, not, Bool, false, is_none, List, [], ◌∷◌, ◌++◌, Option, Some, None, if◌then◌else◌}
use Rattle.std.specs.Option.{option_map, option_map_or}
use Rattle.std.specs.Cmp.Lexicographic.{pointwise}
use Rattle.std.specs.Arc.{arc_value}
use Rattle.std.specs.List.{filter}
use Rattle.airfields.specs.Airfields.{IsHeld, category_of}
use Rattle.airfields.specs.Categories.{is_described}
use Rattle.airfields.specs.Sites.{Site}
use Rattle.airfields.specs.declared.airfield.Airfield.{Airfield}
use Rattle.airport_register.specs.declared.amendment.Changed.{Changed}
use Rattle.notice_slopes.specs.Exemptions.{exemption_of}
use Rattle.airfield_findings.specs.Entries.{field_key, of_airfield, slope_entries}
use Rattle.finding_lists.specs.declared.finding.Finding.{Finding}
use Rattle.finding_lists.specs.declared.finding.Rule.TheVariants as rules
use Rattle.review_marks.specs.Books.{differs}
use Rattle.review_marks.specs.declared.row.Row.{Row}
use Rattle.review_marks.specs.declared.share.Share.{Share}

abbrev pub findings_of_field : (Airfield → List Finding) → Option Airfield → List Finding
findings_of_field f None = []
findings_of_field f (Some field) = f field

-- the structure is on the airfield of this name
abbrev pub names : List ℕ → Site → Bool
names id site = option_map_or (pointwise nat_eq id) site.on false

abbrev pub is_described_field : Option Airfield → Bool
is_described_field o = option_map_or (λ f. is_described (category_of f)) o false

abbrev pub is_due : Site → Bool
is_due site = is_none (exemption_of site)

abbrev pub share_of : List ℕ → Option Airfield → Site → Share
share_of id o site =
    record {
      standards = findings_of_field (of_airfield site) o;
      slope = if is_due site then findings_of_field (slope_entries site) o else [];
      is_on = names id site && is_described_field o;
    }

abbrev pub differ_bools : Bool → Bool → Bool
differ_bools a b = (a && not b) || (not a && b)

abbrev pub differ_shares : Share → Share → Bool
differ_shares a b = differs a.standards b.standards || differs a.slope b.slope || differ_bools a.is_on b.is_on

-- ---- all its entries in the list

-- an entry is about the airfield of this name
abbrev pub is_about : List ℕ → Finding → Bool
is_about id f = option_map_or (pointwise nat_eq id) f.key.field false

-- the entries of a list on the airfield
abbrev pub about : List ℕ → List Finding → List Finding
about id list = filter (is_about id) list

-- the entry of 77.9(d), construction on the airfield
abbrev pub on_entries : List ℕ → Bool → List Finding
on_entries id is_on = if is_on then record { rule = rules.NoticeD; key = field_key id 0; excess = 0 } ∷ [] else []

-- its entries in the list of a structure: its standards, and where notice is due its notice slope and construction on it
abbrev pub entries_by : List ℕ → Site → Share → List Finding
entries_by id site share = share.standards ++ share.slope ++ on_entries id (is_due site && share.is_on)

-- ---- changes

-- the airfield of a name before a change and after it, where there is one
pub record AirfieldChange : Type 0 where
  pub id : List ℕ
  pub was : Option Airfield
  pub is_now : Option Airfield

abbrev pub change_of : Changed → AirfieldChange
change_of c = record { id = c.id; was = option_map arc_value c.before; is_now = option_map arc_value c.after }

-- the airfield before and after the change gives different entries to the list of a structure: the change concerns the case. Its point
-- then lies under a surface or a slope of one of the two, or its structure is on the airfield
abbrev pub concerns : AirfieldChange → Site → Bool
concerns c site = differ_shares (share_of c.id c.was site) (share_of c.id c.is_now site)

abbrev pub concerns_row : AirfieldChange → Option Row → Bool
concerns_row c o = option_map_or (λ r. concerns c r.filing) o false

-- both are airfields as a register holds them
pub record AreHeld (c : AirfieldChange) : Type 0 where
  pub was_held : (f : Airfield) → c.was ≡ Some f → IsHeld f
  pub is_held : (f : Airfield) → c.is_now ≡ Some f → IsHeld f
