-- The book after an airfield changed.
use Rattle.std.specs.Prelude.{◌≡◌, ℕ, ◌+◌, ◌<◌, ◌≤◌, Bool, true, false, ◌||◌, nat_eq, cond, List, [], ◌∷◌, Option, Some, None, if◌then◌else◌}
use Rattle.std.specs.Option.{option_map}
use Rattle.airfields.specs.declared.airfield.Airfield.{Airfield}
use Rattle.ordered_list.specs.Ordered.{Rises}
use Rattle.airfields.specs.Names.{name_cmp}
use Rattle.airfields.specs.Airfields.{id_of}
use Rattle.airport_register.specs.Amendments.{airfield_at, list_with_replaced}
use Rattle.oe_findings.specs.List.{findings_of}
use Rattle.review_marks.specs.Books.{differs, row_marked_as, row_at, with_marks}
use Rattle.review_marks.specs.Shares.{AirfieldChange, concerns, concerns_row}
use Rattle.review_marks.specs.declared.row.Row.{Row}
use Rattle.review_marks.specs.declared.change.Mark.{Mark}

-- a case that the change concerns is marked by its list over the present airfields, and any other keeps its mark
abbrev pub row_after_change : List Airfield → AirfieldChange → Row → Row
row_after_change airfields c r = if concerns c r.filing then row_marked_as (differs r.stored (findings_of airfields r.filing)) r else r

-- the airfields, in rising order of name, before a change of one of them, and those after it
pub record Leads (before after : List Airfield) (c : AirfieldChange) : Type 0 where
  pub rises : Rises name_cmp id_of before
  pub was_there : c.was ≡ airfield_at before c.id
  pub is_there : c.is_now ≡ airfield_at after c.id
  pub put : after ≡ list_with_replaced c.id c.is_now before

-- the airfields, in rising order of name, are those after a change of one of them
pub record Shows (airfields : List Airfield) (c : AirfieldChange) : Type 0 where
  pub rises : Rises name_cmp id_of airfields
  pub is_there : c.is_now ≡ airfield_at airfields c.id

-- the number of cases of the book that it concerns
abbrev pub concerned_count : AirfieldChange → List (Option Row) → ℕ
concerned_count c [] = 0
concerned_count c (o ∷ rows) = cond (concerns_row c o) 1 0 + concerned_count c rows

-- ---- intermediate steps

-- the row with a newly computed mark, if there is one
abbrev pub by_mark : Option Mark → Row → Row
by_mark None r = r
by_mark (Some m) r = row_marked_as m.marked r

-- a number is among these
abbrev pub among : List ℕ → ℕ → Bool
among [] n = false
among (k ∷ ks) n = nat_eq k n || among ks n

abbrev pub row_after_change_if : Bool → List Airfield → AirfieldChange → Row → Row
row_after_change_if b airfields c r = cond b (row_after_change airfields c r) r

-- with these marks, the cases of these numbers are re-marked, and no other
abbrev pub IsTurnedTo : List Airfield → AirfieldChange → List (Option Row) → List Mark → List ℕ → Type 0
IsTurnedTo airfields c rows ms ks = (n : ℕ) → row_at (with_marks ms rows) n ≡ option_map (row_after_change_if (among ks n) airfields c) (row_at rows n)

-- numbers in rising order, each above b and none above the last
abbrev pub ClimbsTo : ℕ → List ℕ → ℕ → Type 0
ClimbsTo b [] top = b ≤ top
ClimbsTo b (n ∷ ns) top = (b < n) × ClimbsTo n ns top

-- each case up to a number that the change concerns is in the list
abbrev pub HasReached : AirfieldChange → List (Option Row) → List ℕ → ℕ → Type 0
HasReached c rows ns top = (n : ℕ) (r : Row) → n ≤ top → row_at rows n ≡ Some r → concerns c r.filing ≡ true → among ns n ≡ true
