-- The notice by the slope from the nearest runway, as the function has it.
use Rattle.std.proofs.Common.{◌≡◌, ℕ, ℤ, Option, Some, None, false, refl, subst}
use Rattle.std.specs.Option.{option_and_then, option_map}
use Rattle.grid_exact.specs.Excess.{IsExcess}
use Rattle.grid_exact.specs.Level.{IsLevel}
use Rattle.grid_exact.specs.declared.point.Point.{Point}
use Rattle.airfields.specs.Airfields.{IsHeldAirport}
use Rattle.airfields.specs.Categories.{is_described}
use Rattle.airfields.specs.Runways.{IsProper}
use Rattle.airfields.specs.declared.airfield.Airport.{Airport}
use Rattle.airfields.specs.declared.runway.Runway.{Runway}
use Rattle.runway_notice.specs.Nearest.{IsNearest, nearest}
use Rattle.runway_notice.specs.Notices.{IsNoticeSlope, notice_slope, slope_by}
use Rattle.runway_notice.specs.Surfaces.{is_in_range, slope_excess, slope_surface}
use Rattle.runway_notice.proofs.NearestFacts.{kept, nearest_is, nearest_none, nearest_only}
use Rattle.runway_notice.proofs.SlopeFacts.{slope_excess_is}

-- ---- what the function says, by the nearest runway
pub without_runways : (a : Airport) (x : Point) (top : ℤ) → nearest a.runways x ≡ None → notice_slope a x top ≡ None
unfolding notice_slope
without_runways a x top e = rw e refl

pub from_nearest : (a : Airport) (x : Point) (top : ℤ) (r : Runway) (e : Option ℕ) → nearest a.runways x ≡ Some r → slope_excess a r x top ≡ e → notice_slope a x top ≡ option_map (slope_by a r) e
unfolding notice_slope
from_nearest a x top r e h k = rw (h, k) refl

-- no runway has a slope over the point
pub all_none : (a : Airport) (x : Point) (top : ℤ) → ((r : Runway) → nearest a.runways x ≡ Some r → slope_excess a r x top ≡ None) → notice_slope a x top ≡ None
all_none a x top h = by_nearest (nearest a.runways x) refl
  where
    by_nearest : (o : Option Runway) → nearest a.runways x ≡ o → notice_slope a x top ≡ None
    by_nearest None e = without_runways a x top e
    by_nearest (Some r) e = from_nearest a x top r None e (h r e)

undescribed_excess : (a : Airport) (r : Runway) (x : Point) (top : ℤ) → is_described a.category ≡ false → slope_excess a r x top ≡ None
unfolding slope_excess is_in_range
undescribed_excess a r x top e = rw e refl

pub undescribed : (a : Airport) (x : Point) (top : ℤ) → is_described a.category ≡ false → notice_slope a x top ≡ None
undescribed a x top e = all_none a x top (λ r q. undescribed_excess a r x top e)

-- ---- what the function says is so
pub notice_slope_is : (a : Airport) (x : Point) (top : ℤ) → IsHeldAirport a → IsLevel top → IsNoticeSlope a x top (notice_slope a x top)
unfolding notice_slope
notice_slope_is a x top held level = by_nearest (nearest a.runways x) refl
  where
    by_excess : (r : Runway) (e : Option ℕ) → IsNearest a.runways x r → IsExcess (slope_surface a r x) top e → IsNoticeSlope a x top (option_map (slope_by a r) e)
    by_excess r None n h = λ s m. subst (λ (t : Runway). IsExcess (slope_surface a t x) top None) (nearest_only a.runways x r s held.rises held.proper n m) h
    by_excess r (Some e) n h = record { nearest_one = r; is_nearest = n; exceeds = h; named = refl; by_sub = refl }

    by_nearest : (o : Option Runway) → nearest a.runways x ≡ o → IsNoticeSlope a x top (option_and_then (λ r. option_map (slope_by a r) (slope_excess a r x top)) o)
    by_nearest None e = λ r n. absurd (nearest_none a.runways x r e n)
    by_nearest (Some r) e =
        let n = nearest_is a.runways x r e in
        by_excess r (slope_excess a r x top) n (slope_excess_is a r x top (kept IsProper a.runways r held.proper n.one_of) level)
