-- The areas of runways, one runway more.
use Rattle.std.proofs.Common.{◌≡◌, ℕ, ◌+◌, ◌<◌, ◌++◌, ◌∷◌, [], List, refl, sym, ap, ◌∙◌, length, take, get_or}
use Rattle.std.proofs.lemmas.List.{append-nil, append_assoc, take_more}
use Rattle.grid_exact.specs.declared.area.Area.{Area}
use Rattle.airfields.specs.declared.runway.Runway.{Runway}
use Rattle.imaginary_surfaces.specs.Areas.{AreStripAreas}
use Rattle.airfield_findings.specs.Areas.{AreRunwayAreas}

runways_more : (hull : Area) (rs : List Runway) (r : Runway) (all one : List Area) → AreRunwayAreas hull rs all → AreStripAreas r hull one → AreRunwayAreas hull (rs ++ r ∷ []) (all ++ one)
runways_more hull [] r all one h k = (one, [], k, refl, ap (λ zs. zs ++ one) h ∙ sym (append-nil one))
runways_more hull (q ∷ rs) r all one h k =
    (h.0, h.1 ++ one, h.2, runways_more hull rs r h.1 one h.3 k, ap (λ zs. zs ++ one) h.4 ∙ append_assoc h.0 h.1 one)

pub next_runway : (hull : Area) (runways : List Runway) (i : ℕ) (r : Runway) (all one : List Area) → i < length runways → r ≡ get_or runways i r → AreStripAreas r hull one → AreRunwayAreas hull (take i runways) all → AreRunwayAreas hull (take (i + 1) runways) (all ++ one)
next_runway hull runways i r all one l e k h =
    let t : take (i + 1) runways ≡ take i runways ++ r ∷ [] = take_more runways i r l ∙ ap (λ z. take i runways ++ z ∷ []) (sym e) in
    rw t (runways_more hull (take i runways) r all one h k)
