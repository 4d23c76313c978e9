-- Cases whose dates are within the limit, with one more.
use Rattle.std.proofs.Common.{ℕ, zero, suc, List, [], ◌∷◌, ◌++◌, IfSome, slice_get}
use Rattle.case_acts.specs.Cases.{IsSound}
use Rattle.case_records.specs.declared.case.KeptCase.{KeptCase}

pub sound_more : (cases : List KeptCase) (c : KeptCase) → ((i : ℕ) → IfSome (slice_get cases i) IsSound) → IsSound c → (i : ℕ) → IfSome (slice_get (cases ++ c ∷ []) i) IsSound
sound_more [] c h s zero = s
sound_more [] c h s (suc j) = tt
sound_more (x ∷ xs) c h s zero = h zero
sound_more (x ∷ xs) c h s (suc j) = sound_more xs c (λ k. h (suc k)) s j
