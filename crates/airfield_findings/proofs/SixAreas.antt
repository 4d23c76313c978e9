-- What holds of each of six areas.
use Rattle.std.proofs.Common.{List, ◌∷◌}
use Rattle.std.specs.List.{All}
use Rattle.std.proofs.lemmas.List.Elements.{All-cons}
use Rattle.grid_exact.specs.declared.area.Area.{Area}

pub all_six : (P : Area → Type 0) (a b c d e f : Area) (rest : List Area) → P a → P b → P c → P d → P e → P f → All P rest → All P (a ∷ b ∷ c ∷ d ∷ e ∷ f ∷ rest)
all_six P a b c d e f rest pa pb pc pd pe pf more =
    let last : All P (d ∷ e ∷ f ∷ rest) = All-cons P d (e ∷ f ∷ rest) pd (All-cons P e (f ∷ rest) pe (All-cons P f rest pf more)) in
    All-cons P a (b ∷ c ∷ d ∷ e ∷ f ∷ rest) pa (All-cons P b (c ∷ d ∷ e ∷ f ∷ rest) pb (All-cons P c (d ∷ e ∷ f ∷ rest) pc last))
