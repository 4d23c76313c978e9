-- The plots of airports.
use Rattle.std.proofs.Common.{◌≡◌, ◌≢◌, ◌⊎◌, inl, inr, ◌<◌, pos, List, [], ◌∷◌, ◌++◌, length, Option, Some, None, is_some, Bool, true, false, true≢false, ◌∙◌, refl, sym, subst, arith, if◌then◌else◌}
use Rattle.std.specs.List.{All, Contains, flat_map, list_any}
use Rattle.std.specs.Option.{option_to_list, MatchOption}
use Rattle.std.proofs.lemmas.Int.{ints}
use Rattle.std.proofs.lemmas.Bool.{and_parts}
use Rattle.std.proofs.lemmas.List.Elements.{All-append, All-contains, All-cons, All-head, All-nil, All-same, All-weaker, Contains-append_cases, Contains-append_left, Contains-append_right}
use Rattle.grid_exact.specs.Area.{has_point}
use Rattle.grid_exact.specs.declared.area.Area.{Area}
use Rattle.grid_exact.specs.declared.point.Point.{Point}
use Rattle.grid_exact.proofs.AreaLemmas.{has_point-Has}
use Rattle.outline_boxes.specs.Boxes.{Encloses}
use Rattle.outline_boxes.proofs.More.{Encloses_through, Has_more}
use Rattle.airfields.specs.Airfields.{IsHeldAirport}
use Rattle.airfields.specs.declared.airfield.Airport.{Airport}
use Rattle.airfields.specs.declared.runway.Runway.{Runway}
use Rattle.airfields.specs.declared.airfield.Airfield.TheVariants.{Airport as AnAirport}
use Rattle.airfields.specs.Categories.{has_civil_surfaces}
use Rattle.horizontal_hull.specs.Arcs.{arcs_of_runway, dome_of}
use Rattle.horizontal_hull.specs.Areas.{HoldsDiscs}
use Rattle.horizontal_hull.specs.declared.sizes.TheConstants.{CONICAL_RUN}
use Rattle.height_rules.specs.NearAreas.{HasLimit, IsNearArea}
use Rattle.runway_notice.specs.NoticeAreas.{HasSlope, IsNoticeArea}
use Rattle.surface_tree.specs.Levels.{side_of}
use Rattle.surface_tree.specs.Visits.{close_area, close_side, near_area}
use Rattle.surface_tree.specs.declared.placed.Plot.{Plot}
use Rattle.airfield_findings.specs.Areas.{AreAirportAreas, AreSurfaceAreas, HaveSurfaces}
use Rattle.airfield_findings.specs.Around.{around_point}
use Rattle.airfield_findings.specs.Beside.{IsBeside}
use Rattle.airfield_findings.specs.Kept.{IsKept}
use Rattle.airfield_findings.specs.Plots.{AreParts, HasAreas, IsJoin, IsOver, IsPlotOf}
use Rattle.airfield_findings.proofs.BoxOrder.{encloses_same}
use Rattle.airfield_findings.proofs.Joins.{any_of, join_all, join_most, join_over, left, no_least, right}
use Rattle.airfield_findings.proofs.Largest.{IsShort, near_of_kept}
use Rattle.airfield_findings.proofs.NearAreas.{near_exact}
use Rattle.airfield_findings.proofs.NoticeAreas.{notice_about, notice_near}
use Rattle.airfield_findings.proofs.Once.{notice_once, surfaces_once}
use Rattle.airfield_findings.proofs.PlotFacts.{beside_far, beside_placed, large_level, near_limit, placed_about, small_level}
use Rattle.airfield_findings.proofs.StripsNear.{surfaces_near}
use Rattle.airfield_findings.proofs.SurfacesKept.{surfaces_kept}

-- the areas of an airport by its parts
abbrev all_of : (a : Airport) (near notice surfaces : Option Area) → AreParts a near notice surfaces → List Area
all_of a near notice surfaces p = option_to_list near ++ p.areas ++ option_to_list notice

-- and there they are
has_areas : (a : Airport) (near notice surfaces : Option Area) → AreParts a near notice surfaces → HasAreas (AnAirport a)
has_areas a near notice surfaces p =
    ∣ (all_of a near notice surfaces p, record { near = near; surfaces = p.areas; notice = notice; near_area = p.near_box; surface_areas = p.surface_areas; notice_area = p.notice_box; ordered = refl }) ∣₁

abbrev In : Area → Area → Type 0
In b t = Encloses b t

-- the box of the plot is the least about all areas
at_most : (a : Airport) (near notice surfaces rest : Option Area) (area b : Area) (p : AreParts a near notice surfaces) → IsJoin (option_to_list notice ++ option_to_list surfaces) rest → IsJoin (option_to_list near ++ option_to_list rest) (Some area)
    → All (In b) (all_of a near notice surfaces p) → Encloses b area
at_most a near notice surfaces rest area b p k j h =
    let front = left (In b) (option_to_list near ++ p.areas) (option_to_list notice) h in
    let n = left (In b) (option_to_list near) p.areas front in
    let s = join_most p.areas surfaces b p.surfaces_box (right (In b) (option_to_list near) p.areas front) in
    let o = right (In b) (option_to_list near ++ p.areas) (option_to_list notice) h in
    let r = join_most (option_to_list notice ++ option_to_list surfaces) rest b k (All-append (In b) (option_to_list notice) (option_to_list surfaces) o s) in
    j.1.least b (All-append (In b) (option_to_list near) (option_to_list rest) n r)

-- ---- all of them lie about the reference point

abbrev around_arp : Airport → Area
around_arp a = around_point a.arp.x a.arp.y (pos 1048576)

limit_in : (a : Airport) (o : Option Area) → MatchOption o (¬ HasLimit a) (IsNearArea a) → All (In (around_arp a)) (option_to_list o)
limit_in a None h = All-nil (In (around_arp a))
limit_in a (Some box) h =
    let e : Encloses (around_arp a) (around_point a.arp.x a.arp.y (pos 363958)) = record { west = omega (arith, ints); south = omega (arith, ints); east = omega (arith, ints); north = omega (arith, ints) } in
    All-cons (In (around_arp a)) box [] (subst (λ (t : Area). Encloses (around_arp a) t) (sym (near_exact a box h)) e) (All-nil (In (around_arp a)))

notice_in : (a : Airport) (o : Option Area) → IsHeldAirport a → MatchOption o (¬ HasSlope a) (IsNoticeArea a) → All (In (around_arp a)) (option_to_list o)
notice_in a None held h = All-nil (In (around_arp a))
notice_in a (Some box) held h = All-cons (In (around_arp a)) box [] (notice_near a box held h) (All-nil (In (around_arp a)))

surfaces_in : (a : Airport) (areas : List Area) → IsHeldAirport a → AreSurfaceAreas a areas → All (In (around_arp a)) areas
surfaces_in a areas held (inl h) = All-same (In (around_arp a)) areas [] h.1 (All-nil (In (around_arp a)))
surfaces_in a areas held (inr h) = surfaces_near a areas held h

all_in : (a : Airport) (near notice surfaces : Option Area) (p : AreParts a near notice surfaces) → IsHeldAirport a → All (In (around_arp a)) (all_of a near notice surfaces p)
all_in a near notice surfaces p held =
    let P = In (around_arp a) in
    All-append P (option_to_list near ++ p.areas) (option_to_list notice) (All-append P (option_to_list near) p.areas (limit_in a near p.near_box) (surfaces_in a p.areas held p.surface_areas)) (notice_in a notice held p.notice_box)

short_around : (a : Airport) (t : Area) → Encloses (around_arp a) t → IsShort t
short_around a t e = record { along = omega (arith, ints, e.west, e.east); up = omega (arith, ints, e.south, e.north) }

-- ---- with the limit of 77.17(a)(2)

-- its area is one of those of the airport
limit_near : (a : Airport) (areas : List Area) → AreAirportAreas a areas → HasLimit a → (x : Point) → near_area x (around_point a.arp.x a.arp.y (pos 363958)) ≡ true → list_any (λ t. near_area x t) areas ≡ true
limit_near a areas q limit x n = by_option q.near q.near_area q.ordered where
  by_option : (o : Option Area) → MatchOption o (¬ HasLimit a) (IsNearArea a) → areas ≡ option_to_list o ++ q.surfaces ++ option_to_list q.notice → list_any (λ t. near_area x t) areas ≡ true
  by_option None h e = absurd (h limit)
  by_option (Some box) h e =
      any_of (λ t. near_area x t) areas box (subst (λ (ys : List Area). Contains ys box) (sym e) (0, omega arith, refl))
      (subst (λ (t : Area). near_area x t ≡ true) (sym (near_exact a box h)) n)

pub large_plot : (a : Airport) (box : Area) (notice surfaces rest : Option Area) (area : Area) → IsHeldAirport a → AreParts a (Some box) notice surfaces → IsJoin (option_to_list notice ++ option_to_list surfaces) rest
    → IsJoin (box ∷ option_to_list rest) (Some area) → IsPlotOf (AnAirport a) (record { area = area; level = 7 })
large_plot a box notice surfaces rest area held p k j =
    let inner = around_point a.arp.x a.arp.y (pos 363958) in
    let e : box ≡ inner = near_exact a box p.near_box in
    let own : Encloses area inner = subst (λ (t : Area). Encloses area t) e (All-head (In area) box (option_to_list rest) j.1.holds) in
    let b : Encloses (around_arp a) area = at_most a (Some box) notice surfaces rest area (around_arp a) p k j (all_in a (Some box) notice surfaces p held) in
    let plot : Plot = record { area = area; level = 7 } in
    record {
      some_areas = has_areas a (Some box) notice surfaces p;
      placed = placed_about a.arp inner plot b own (omega (arith, ints)) (omega (arith, ints)) (large_level area a.arp.x a.arp.y own);
      level = refl;
      seen = λ areas q x c.
          let h = and_parts (close_side (side_of 7) area.x0 area.x1 x.x) (close_side (side_of 7) area.y0 area.y1 x.y) c in
          limit_near a areas q p.near_box.has_limit x (near_limit a.arp x area b h.0 h.1);
    }

-- ---- without it

-- an airport with a part has a runway
notice_runway : (a : Airport) (o : Option Area) (t : Area) → MatchOption o (¬ HasSlope a) (IsNoticeArea a) → Contains (option_to_list o) t → a.runways ≢ []
notice_runway a None t h c = absurd (omega (arith, c.1))
notice_runway a (Some box) t h c = h.has_slope.some_runway

no_arcs : (c : Bool) (rs : List Runway) → rs ≡ [] → (if c then flat_map arcs_of_runway rs else []) ≡ []
no_arcs true rs e = rw e refl
no_arcs false rs e = refl

no_discs : (a : Airport) (b : Area) → a.runways ≡ [] → HoldsDiscs (dome_of a).arcs CONICAL_RUN b
unfolding dome_of
no_discs a b e = rw (no_arcs (has_civil_surfaces a.category) a.runways e) (All-nil _)

none_kept : (b : Area) (a : Airport) (areas : List Area) → a.runways ≡ [] → (s : HaveSurfaces a areas) → Encloses b s.hull.conical
none_kept b a areas e s = s.hull_areas.conical_least.least b (no_discs a b e)

surfaces_runway : (a : Airport) (areas : List Area) (t : Area) → AreSurfaceAreas a areas → Contains areas t → a.runways ≢ []
surfaces_runway a areas t (inl h) c e = absurd (let l : 0 < length areas = omega (arith, c.1) in let z : length areas ≡ 0 = rw h.1 refl in omega (arith, l, z))
surfaces_runway a areas t (inr s) c e = no_least s.hull.conical (λ b. none_kept b a areas e s)

-- each area lies in one that is about the first end of a runway
abbrev about_end : Runway → Area
about_end r = around_point r.end1.at.x r.end1.at.y (pos 88000)

kept_left : (k : Area) (xs ys : List Area) → All (IsKept k xs) xs → All (IsKept k (xs ++ ys)) xs
kept_left k xs ys h = All-weaker (IsKept k xs) (IsKept k (xs ++ ys)) (λ t q. record { kept = q.kept; listed = Contains-append_left xs ys q.kept q.listed; has_area = q.has_area; has_near = q.has_near }) xs h

kept_surfaces : (a : Airport) (areas more : List Area) (r : Runway) → IsHeldAirport a → AreSurfaceAreas a areas → Contains a.runways r → All (IsKept (about_end r) (areas ++ more)) areas
kept_surfaces a areas more r held (inl h) c = All-same (IsKept (about_end r) (areas ++ more)) areas [] h.1 (All-nil (IsKept (about_end r) (areas ++ more)))
kept_surfaces a areas more r held (inr h) c = kept_left (about_end r) areas more (surfaces_kept a areas r held h c)

kept_notice : (a : Airport) (areas : List Area) (o : Option Area) (r : Runway) → MatchOption o (¬ HasSlope a) (IsNoticeArea a) → Contains a.runways r → All (IsKept (about_end r) (areas ++ option_to_list o)) (option_to_list o)
kept_notice a areas None r h c = All-nil (IsKept (about_end r) (areas ++ []))
kept_notice a areas (Some box) r h c =
    let P = IsKept (about_end r) (areas ++ box ∷ []) in
    All-cons P box [] (record { kept = box; listed = Contains-append_right areas (box ∷ []) box (0, omega arith, refl); has_area = encloses_same box; has_near = notice_about a box r h c }) (All-nil P)

module _ (a : Airport) (notice surfaces rest : Option Area) (area : Area) (held : IsHeldAirport a) (p : AreParts a None notice surfaces) (k : IsJoin (option_to_list notice ++ option_to_list surfaces) rest)
    (j : IsJoin (option_to_list rest) (Some area)) where
  abbrev list : List Area
  list = p.areas ++ option_to_list notice

  most : (b : Area) → All (In b) list → Encloses b area
  most b h = at_most a None notice surfaces rest area b p k j h

  inside : Encloses (around_arp a) area
  inside = most (around_arp a) (all_in a None notice surfaces p held)

  -- a box of them that encloses another one, through both joins
  over : (t q : Area) → Contains list t → Encloses t q → Encloses area q
  over t q c e = through (Contains-append_cases p.areas (option_to_list notice) t c) where
    last : (b : Area) → Contains (option_to_list notice ++ option_to_list surfaces) b → Encloses b q → Encloses area q
    last b m f = let r = join_over (option_to_list notice ++ option_to_list surfaces) rest b q k m f in Encloses_through area r.0 q (All-contains (In area) (option_to_list rest) r.0 j.1.holds r.1) r.2

    through : Contains p.areas t ⊎ Contains (option_to_list notice) t → Encloses area q
    through (inl m) = let r = join_over p.areas surfaces t q p.surfaces_box m e in last r.0 (Contains-append_right (option_to_list notice) (option_to_list surfaces) r.0 r.1) r.2
    through (inr m) = last t (Contains-append_left (option_to_list notice) (option_to_list surfaces) t m) e

  -- the same of the areas in any list of them
  limit_none : (areas : List Area) (q : AreAirportAreas a areas) → areas ≡ q.surfaces ++ option_to_list q.notice
  limit_none areas q = by_option q.near q.near_area q.ordered where
    by_option : (o : Option Area) → MatchOption o (¬ HasLimit a) (IsNearArea a) → areas ≡ option_to_list o ++ q.surfaces ++ option_to_list q.notice → areas ≡ q.surfaces ++ option_to_list q.notice
    by_option None h e = e
    by_option (Some box) h e = absurd (p.near_box h.has_limit)

  most_of : (areas : List Area) (q : AreAirportAreas a areas) (b : Area) → All (In b) (q.surfaces ++ option_to_list q.notice) → Encloses b area
  most_of areas q b h =
      most b (All-append (In b) p.areas (option_to_list notice)
      (surfaces_once a b p.areas q.surfaces p.surface_areas q.surface_areas (left (In b) q.surfaces (option_to_list q.notice) h))
      (notice_once a b notice q.notice p.notice_box q.notice_area (right (In b) q.surfaces (option_to_list q.notice) h)))

  seen_with : (r : Runway) → Contains a.runways r → (areas : List Area) → AreAirportAreas a areas → (x : Point) → close_area x (record { area = area; level = 5 }) ≡ true → list_any (λ t. near_area x t) areas ≡ true
  seen_with r c areas q x close =
      let near = about_end r in
      let all = q.surfaces ++ option_to_list q.notice in
      let h = and_parts (close_side (side_of 5) area.x0 area.x1 x.x) (close_side (side_of 5) area.y0 area.y1 x.y) close in
      let kept : All (IsKept near all) all = All-append (IsKept near all) q.surfaces (option_to_list q.notice) (kept_surfaces a q.surfaces (option_to_list q.notice) r held q.surface_areas c) (kept_notice a q.surfaces q.notice r q.notice_area c) in
      let about : All (In (around_arp a)) all = All-append (In (around_arp a)) q.surfaces (option_to_list q.notice) (surfaces_in a q.surfaces held q.surface_areas) (notice_in a q.notice held q.notice_area) in
      let shorts : All IsShort all = All-weaker (In (around_arp a)) IsShort (short_around a) all about in
      rw (limit_none areas q) (near_of_kept near area all area x (some_length all refl (most_of areas q)) (record { along = omega (arith, ints); up = omega (arith, ints) }) shorts kept (most_of areas q) h.0 h.1) where
        some_length : (xs : List Area) → xs ≡ q.surfaces ++ option_to_list q.notice → ((b : Area) → All (In b) (q.surfaces ++ option_to_list q.notice) → Encloses b area) → 0 < length xs
        some_length [] e m = absurd (no_least area (λ b. m b (All-same (In b) (q.surfaces ++ option_to_list q.notice) [] (sym e) (All-nil (In b)))))
        some_length (t ∷ ts) e m = omega arith

  small_with : (r : Runway) (t : Area) → Contains a.runways r → Contains list t → IsPlotOf (AnAirport a) (record { area = area; level = 5 })
  small_with r t c l =
      let near = about_end r in
      let kept : All (IsKept near list) list = All-append (IsKept near list) p.areas (option_to_list notice) (kept_surfaces a p.areas (option_to_list notice) r held p.surface_areas c) (kept_notice a p.areas notice r p.notice_box c) in
      let one = All-contains (IsKept near list) list t kept l in
      let own : Encloses area near = over one.kept near one.listed one.has_near in
      let plot : Plot = record { area = area; level = 5 } in
      record {
        some_areas = has_areas a None notice surfaces p;
        placed = placed_about a.arp near plot inside own (omega (arith, ints)) (omega (arith, ints)) (small_level area r.end1.at.x r.end1.at.y (pos 88000) (omega (arith, ints)) own);
        level = refl;
        seen = seen_with r c;
      }

  some_area : (xs : List Area) → xs ≡ list → (t : Area) × Contains list t
  some_area [] e = absurd (no_least area (λ b. most b (All-same (In b) list [] (sym e) (All-nil (In b)))))
  some_area (t ∷ ts) e = (t, subst (λ (ys : List Area). Contains ys t) e (0, omega arith, refl))

  some_runway : (t : Area) → Contains list t → a.runways ≢ []
  some_runway t c = either (Contains-append_cases p.areas (option_to_list notice) t c) where
    either : Contains p.areas t ⊎ Contains (option_to_list notice) t → a.runways ≢ []
    either (inl m) = surfaces_runway a p.areas t p.surface_areas m
    either (inr m) = notice_runway a notice t p.notice_box m

  first_of : (rs : List Runway) → a.runways ≡ rs → a.runways ≢ [] → (r : Runway) × Contains a.runways r
  first_of [] e n = absurd (n e)
  first_of (r ∷ rs) e n = (r, subst (λ (ys : List Runway). Contains ys r) (sym e) (0, omega arith, refl))

  pub small_plot : IsPlotOf (AnAirport a) (record { area = area; level = 5 })
  small_plot =
      let t = some_area list refl in
      let r = first_of a.runways refl (some_runway t.0 t.1) in
      small_with r.0 t.0 r.1 t.1

-- ---- as the code finds them

pub large_plot_of : (a : Airport) (near notice surfaces rest all : Option Area) (area : Area) → IsHeldAirport a → AreParts a near notice surfaces → IsJoin (option_to_list notice ++ option_to_list surfaces) rest
    → IsJoin (option_to_list near ++ option_to_list rest) all → all ≡ Some area → is_some near ≡ true → IsPlotOf (AnAirport a) (record { area = area; level = 7 })
large_plot_of a None notice surfaces rest all area held p k j e s = absurd (true≢false (sym s))
large_plot_of a (Some box) notice surfaces rest all area held p k j e s = large_plot a box notice surfaces rest area held p k (rw e at j)

pub small_plot_of : (a : Airport) (near notice surfaces rest all : Option Area) (area : Area) → IsHeldAirport a → AreParts a near notice surfaces → IsJoin (option_to_list notice ++ option_to_list surfaces) rest
    → IsJoin (option_to_list near ++ option_to_list rest) all → all ≡ Some area → is_some near ≡ false → IsPlotOf (AnAirport a) (record { area = area; level = 5 })
small_plot_of a None notice surfaces rest all area held p k j e s = small_plot a notice surfaces rest area held p k (rw e at j)
small_plot_of a (Some box) notice surfaces rest all area held p k j e s = absurd (true≢false s)

-- an airport without parts
pub beside_plot : (a : Airport) (near notice surfaces : Option Area) (plot : Plot) → AreParts a near notice surfaces → IsBeside a.arp plot → IsPlotOf (AnAirport a) plot
beside_plot a near notice surfaces plot p b = record {
  some_areas = has_areas a near notice surfaces p;
  placed = beside_placed a.arp plot b;
  level = rw b.level refl;
  seen = λ areas q x e. absurd (beside_far a.arp plot x b e);
}

-- a point outside of the box of all lies in no box
over_none : (o : Option Area) (box : Area) (x : Point) → All (In box) (option_to_list o) → has_point box x ≡ false → ¬ IsOver o x
over_none None box x h n k = k
over_none (Some b) box x h n k = true≢false (sym ((has_point-Has box x).1 (Has_more box b x (All-head (In box) b [] h) k)) ∙ n)

pub none_over : (near notice surfaces rest all : Option Area) (area : Area) → IsJoin (option_to_list notice ++ option_to_list surfaces) rest → IsJoin (option_to_list near ++ option_to_list rest) all → all ≡ Some area
    → (x : Point) → has_point area x ≡ false → (¬ IsOver near x) × (¬ IsOver notice x) × (¬ IsOver surfaces x)
none_over near notice surfaces rest all area k j e x n =
    let i : IsJoin (option_to_list near ++ option_to_list rest) (Some area) = rw e at j in
    let hn = left (In area) (option_to_list near) (option_to_list rest) i.1.holds in
    let hr = right (In area) (option_to_list near) (option_to_list rest) i.1.holds in
    let both = join_all (option_to_list notice ++ option_to_list surfaces) rest area k hr in (
      over_none near area x hn n,
      over_none notice area x (left (In area) (option_to_list notice) (option_to_list surfaces) both) n,
      over_none surfaces area x (right (In area) (option_to_list notice) (option_to_list surfaces) both) n,
    )
