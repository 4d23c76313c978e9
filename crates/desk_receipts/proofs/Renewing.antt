-- A keeper whose rows are brought to the format of today.
use Rattle.std.proofs.Common.{◌≡◌, ◌≢◌, refl, true, false, List, [], ◌∷◌, Result, Ok, Err}
use Rattle.std.specs.Prelude.{OnOk}
use Rattle.oe_keeper.specs.Kept.{Kept}
use Rattle.oe_keeper.specs.Keeping.{HasAll, StaysSilent}
use Rattle.oe_keeper.specs.declared.change.RowChange.{RowChange}
use Rattle.determination_dates.specs.Closed.{is_none_of}
use Rattle.desk_receipts.specs.Renewals.{HasRenewed}

none_there : (changes : List RowChange) → is_none_of changes ≡ true → changes ≡ []
none_there [] e = refl
none_there (c ∷ changes) e = absurd (cc (e))

some_there : (changes : List RowChange) → is_none_of changes ≡ false → changes ≢ []
some_there [] e none = cc (e)
some_there (c ∷ changes) e none = cc (none)

module _ {K : Type 0} (Tells : K → Kept → Type 0) where
  -- where there are no changes, the keeper is not asked
  pub left_alone : (changes : List RowChange) (k : K) → is_none_of changes ≡ true → HasRenewed Tells changes k k
  left_alone changes k e = record { made = λ some. absurd (some (none_there changes e)); same = λ none. refl; silent = λ now is. ∣ (now, is) ∣₁ }

  -- the others were made
  pub renewed_by : (changes : List RowChange) (k l : K) → is_none_of changes ≡ false → HasAll Tells k l changes → StaysSilent Tells k l → HasRenewed Tells changes k l
  renewed_by changes k l e all silent = record { made = λ some. all; same = λ none. absurd (some_there changes e none); silent = silent }

  -- as the keeper's answer says
  pub renewed_when : {T E : Type 0} (r : Result T E) (changes : List RowChange) (k l : K) → is_none_of changes ≡ false → OnOk r (HasAll Tells k l changes) → OnOk r (StaysSilent Tells k l) → OnOk r (HasRenewed Tells changes k l)
  renewed_when (Ok x) changes k l e all silent = renewed_by changes k l e all silent
  renewed_when (Err why) changes k l e all silent = tt
