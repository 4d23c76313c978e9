-- The nearest runway of an airport that has one alone.
use Rattle.std.proofs.Common.{[], ◌∷◌, ◌≡◌, ◌∙◌, ℕ, List, Some, refl, sym, ap}
use Rattle.std.specs.List.{IsFirstAndRest}
use Rattle.airfields.specs.Airfields.{IsHeldAirport}
use Rattle.airfields.specs.declared.airfield.Airport.{Airport}
use Rattle.airfields.specs.declared.runway.Runway.{Runway}
use Rattle.grid_exact.specs.declared.point.Point.{Point}
use Rattle.runway_notice.specs.Nearest.{nearest}
use Rattle.runway_notice.specs.Notices.{slope_by}
use Rattle.runway_notice.specs.Slopes.{sub_of}
use Rattle.runway_notice.specs.declared.slope.Slope.{Slope}
use Rattle.runway_notice.specs.declared.slope.Sub.{Sub}
use Rattle.runway_notice.proofs.NearestFacts.{best_first, best_nearest}

alone_nearest : (a : Airport) (x : Point) (r : Runway) → IsHeldAirport a → a.runways ≡ (r ∷ []) → nearest a.runways x ≡ Some r
alone_nearest a x r held e =
    let f : IsFirstAndRest a.runways r [] = (e, rw e refl) in
    best_nearest x a.runways r [] f held.proper 0 r refl held.rises (best_first x a.runways r [] f held.proper)

pub lone_nearest : (a : Airport) (x : Point) (r s : Runway) → IsHeldAirport a → r ≡ s → a.runways ≡ (s ∷ []) → nearest a.runways x ≡ Some r
lone_nearest a x r s held h e = alone_nearest a x s held e ∙ ap Some (sym h)

-- the slope that is handed out
abbrev slope_of : Sub → List ℕ → ℕ → Slope
slope_of sub name excess = record { sub = sub; runway = name; excess = excess }

pub lone_slope : (a : Airport) (r s t : Runway) (sub : Sub) (e : ℕ) → r ≡ s → t ≡ s → sub ≡ sub_of (r ∷ []) → a.runways ≡ (s ∷ []) → Some (slope_of sub r.name e) ≡ Some (slope_by a t e)
lone_slope a r s t sub e h k b alone =
    ap (λ (u : Sub). Some (slope_of u r.name e)) (b ∙ (ap (λ (q : Runway). sub_of (q ∷ [])) h ∙ sym (ap sub_of alone)))
    ∙ ap (λ (q : Runway). Some (slope_of (sub_of a.runways) q.name e)) (h ∙ sym k)
