-- Keys that are written in parts.
use Rattle.std.proofs.Common.{◌≡◌, ℕ, List, ◌++◌, ap, ◌∙◌, append_assoc}
use Rattle.std.proofs.Common.{Result, OnOk, Ok, Err}

-- two parts, one behind the other
pub two_parts : {T E : Type 0} (r : Result T E) (old now new first second whole : List ℕ) → now ≡ old ++ first → OnOk r (new ≡ now ++ second) → whole ≡ first ++ second → OnOk r (new ≡ old ++ whole)
two_parts (Ok x) old now new first second whole e h w = rw w (h ∙ ap (λ t. t ++ second) e ∙ append_assoc old first second)
two_parts (Err x) old now new first second whole e h w = tt
