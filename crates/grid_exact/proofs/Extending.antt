-- Texts that grow, step by step.
use Rattle.std.proofs.Common.{◌≡◌, ℕ, List, [], ◌++◌, append_assoc, sym, ◌∙◌, ap, refl}
use Rattle.std.proofs.lemmas.List.{append-nil}
use Rattle.grid_exact.specs.Texts.{Extends}

pub Extends-same : (old new : List ℕ) → new ≡ old → Extends old new
Extends-same old new e = record { part = []; grown = e ∙ sym (append-nil old) }

pub Extends-more : (old new part : List ℕ) → new ≡ old ++ part → Extends old new
Extends-more old new part e = record { part = part; grown = e }

pub Extends-then : (old now new part : List ℕ) → now ≡ old ++ part → Extends now new → Extends old new
Extends-then old now new part e h = record { part = part ++ h.part; grown = h.grown ∙ ap (λ t. t ++ h.part) e ∙ append_assoc old part h.part }

pub ruleset extending = (Extends-same, Extends-then)
