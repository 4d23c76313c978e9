-- For proofs alone: the flag letters, read one after the other.
use Rattle.std.specs.Prelude.{ℕ, List, [], ◌∷◌, Bool, false, ◌||◌, nat_eq, drop, if◌then◌else◌}
use Rattle.airfields.specs.declared.structure.Flags.{Flags}

-- the next letter is this one
abbrev pub begins_with : ℕ → List ℕ → Bool
begins_with letter [] = false
begins_with letter (first ∷ others) = nat_eq first letter

-- the letters after it, where it is next
abbrev pub letters_after : ℕ → List ℕ → List ℕ
letters_after letter letters = if begins_with letter letters then drop 1 letters else letters

-- any flag is set
abbrev pub has_letter : Flags → Bool
has_letter f = f.shielded || f.device || f.other_rule || f.increases || f.controlled || f.temporary
