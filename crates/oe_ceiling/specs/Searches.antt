-- For proofs alone: the search for a ceiling, by halving.
use Rattle.std.specs.Prelude.{ℕ, ℤ, pos, ◌+◌, ◌*◌, ◌^◌, ◌≤◌, ◌+ℤ◌, ◌≤ℤ◌, List}
use Rattle.airfields.specs.Sites.{Site}
use Rattle.airfields.specs.declared.airfield.Airfield.{Airfield}
use Rattle.oe_ceiling.specs.Ceilings.{IsClear}
use Rattle.oe_ceiling.specs.declared.search.TheConstants.{HALVINGS}

-- there is no finding at this height, and there is one 2 ^ left above it
pub record IsNarrowed (airfields : List Airfield) (site : Site) (left : ℕ) (height : ℤ) : Type 0 where
  pub few : left ≤ HALVINGS
  pub low : pos 0 ≤ℤ height
  pub high : (height +ℤ pos (2 ^ left)) ≤ℤ pos (2 ^ HALVINGS)
  pub clear : IsClear airfields site height
  pub met : ¬ IsClear airfields site (height +ℤ pos (2 ^ left))

-- so many tests are left that the steps of all of them together stay within the limit of their number
pub record AreCounted (limit start steps left : ℕ) : Type 0 where
  pub counted : steps + left * limit ≤ start + HALVINGS * limit
