-- The result of an amendment.
use Rattle.std.specs.Prelude.{ℕ, List, ◌≡◌, option_map}
use Rattle.std.specs.Arc.{arc_value}
use Rattle.airport_register.specs.Amendments.{airfield_at}
use Rattle.airfields.specs.declared.airfield.Airfield.{Airfield}
use Rattle.airport_register.specs.declared.amendment.Changed.{Changed}

-- the airfield of this name in the register before and in the register after
pub record IsChange (before after : List Airfield) (id : List ℕ) (change : Changed) : Type 0 where
  pub named : change.id ≡ id
  pub was : option_map arc_value change.before ≡ airfield_at before id
  pub is_now : option_map arc_value change.after ≡ airfield_at after id
