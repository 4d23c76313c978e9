-- The row of a case that is changed.
use Rattle.std.proofs.Common.{◌≡◌, sym, subst, ℕ, List, [], ◌∷◌, ◌++◌, Option, Some, Result}
use Rattle.std.specs.Prelude.{OnOk}
use Rattle.oe_keeper.specs.declared.change.RowChange.{RowChange}
use Rattle.case_records.specs.declared.case.KeptCase.{KeptCase}
use Rattle.desk_tables.specs.Changes.{put_filing, case_changes}

pub changed_found : {T E : Type 0} (r : Result T E) (old new : List RowChange) (number : ℕ) (f : KeptCase → KeptCase) (o : Option KeptCase) (c d : KeptCase) → o ≡ Some c → d ≡ f c
    → OnOk r (new ≡ old ++ put_filing number d ∷ []) → OnOk r (new ≡ old ++ case_changes number f o)
changed_found r old new number f o c d there made h =
    subst (λ (v : Option KeptCase). OnOk r (new ≡ old ++ case_changes number f v)) (sym there) (subst (λ (x : KeptCase). OnOk r (new ≡ old ++ put_filing number x ∷ [])) made h)
