-- The list station by station, and the surfaces near the stations so far.
use Rattle.std.proofs.Common.{◌≡◌, ◌∙◌, ℕ, zero, suc, ◌+◌, ◌<◌, ◌≤◌, ◌*◌, arith, List, [], ◌∷◌, ◌++◌, map, take, length, get_or, ap, sym, refl, subst}
use Rattle.std.proofs.lemmas.List.{length-map, length-take-le, map_more, take_all, take_more}
use Rattle.std.proofs.Math.Nat.{mul-le-mul_right}
use Rattle.airfields.specs.Sites.{Site}
use Rattle.airfields.specs.declared.airfield.Airfield.{Airfield}
use Rattle.finding_lists.specs.declared.finding.Finding.{Finding}
use Rattle.oe_findings.specs.List.{findings_of}
use Rattle.oe_findings.specs.Nearness.{AreNear}
use Rattle.oe_stations.specs.Merging.{with_finding, with_findings, with_lists}
use Rattle.oe_stations.specs.Ways.{AreNearWay, IsWayList}
use Rattle.oe_stations.specs.declared.way_list.WayFinding.{WayFinding}
use Rattle.oe_stations.proofs.Merged.{all_stations}

findings_push : (n : ℕ) (list : List WayFinding) (fs gs : List Finding) → with_findings n list (fs ++ gs) ≡ with_findings n (with_findings n list fs) gs
findings_push n list [] gs = refl
findings_push n list (f ∷ fs) gs = findings_push n (with_finding n list f) fs gs

-- one finding more of a station
pub next_finding : (n : ℕ) (list : List WayFinding) (fs : List Finding) (i : ℕ) (f : Finding) → i < length fs → f ≡ get_or fs i f →
    with_findings n list (take (i + 1) fs) ≡ with_finding n (with_findings n list (take i fs)) f
next_finding n list fs i f l e =
    ap (with_findings n list) (take_more fs i f l ∙ ap (λ (g : Finding). take i fs ++ g ∷ []) (sym e)) ∙ findings_push n list (take i fs) (f ∷ [])

lists_push : (n : ℕ) (list : List WayFinding) (ls : List (List Finding)) (fs : List Finding) → with_lists n list (ls ++ fs ∷ []) ≡ with_findings (n + length ls) (with_lists n list ls) fs
lists_push n list [] fs = let e : n ≡ n + 0 = omega arith in ap (λ (m : ℕ). with_findings m list fs) e
lists_push n list (l ∷ ls) fs =
    let e : n + 1 + length ls ≡ n + length (l ∷ ls) = omega arith in
    lists_push (n + 1) (with_findings n list l) ls fs ∙ ap (λ (m : ℕ). with_findings m (with_lists (n + 1) (with_findings n list l) ls) fs) e

abbrev pub so_far : List Airfield → List Site → ℕ → List WayFinding
so_far airfields way i = with_lists 1 [] (map (findings_of airfields) (take i way))

-- one station more
pub next_station : (airfields : List Airfield) (way : List Site) (i : ℕ) (s : Site) → i < length way → s ≡ get_or way i s →
    so_far airfields way (i + 1) ≡ with_findings (i + 1) (so_far airfields way i) (findings_of airfields s)
next_station airfields way i s l e =
    let f = findings_of airfields in
    let ls = map f (take i way) in
    let m : length ls ≡ i = length-map (take i way) f ∙ length-take-le i way (omega (arith, l)) in
    let q : 1 + length ls ≡ i + 1 = omega (arith, m) in
    ap (with_lists 1 []) (map_more f way i s l ∙ ap (λ (x : Site). ls ++ f x ∷ []) (sym e)) ∙ lists_push 1 [] ls (f s) ∙ ap (λ (k : ℕ). with_findings k (with_lists 1 [] ls) (f s)) q

pub joined : (airfields : List Airfield) (way : List Site) (i station : ℕ) (list new : List WayFinding) (slice found : List Finding) (s : Site) → i < length way → s ≡ get_or way i s → station ≡ i →
    list ≡ so_far airfields way i → slice ≡ found → found ≡ findings_of airfields s → new ≡ with_findings (station + 1) list slice → new ≡ so_far airfields way (i + 1)
joined airfields way i station list new slice found s l e number listed same is put =
    put ∙ ap (λ (k : ℕ). with_findings (k + 1) list slice) number ∙ ap (λ (w : List WayFinding). with_findings (i + 1) w slice) listed
    ∙ ap (λ (fs : List Finding). with_findings (i + 1) (so_far airfields way i) fs) (same ∙ is) ∙ sym (next_station airfields way i s l e)

-- after the last station
pub finished : (airfields : List Airfield) (way stations : List Site) (i : ℕ) (list : List WayFinding) → stations ≡ way → length stations ≤ i → list ≡ so_far airfields stations i → IsWayList airfields way list
finished airfields way stations i list same l e =
    let t : take i stations ≡ way = take_all i stations l ∙ same in
    let q : list ≡ with_lists 1 [] (map (findings_of airfields) way) = e ∙ ap (λ (x : List Site). with_lists 1 [] (map (findings_of airfields) x)) t in
    subst (IsWayList airfields way) (sym q) (all_stations (map (findings_of airfields) way))

-- ---- the surfaces near the stations
near_parts : (airfields : List Airfield) (way : List Site) (s : Site) (n : ℕ) → AreNearWay airfields (way ++ s ∷ []) n → (before : ℕ) × (here : ℕ) × AreNearWay airfields way before × AreNear airfields s.at here × (n ≡ before + here)
near_parts airfields [] s n h = (0, h.0, refl, h.2, let e : h.1 ≡ 0 = h.3 in let q : n ≡ h.0 + h.1 = h.4 in omega (arith, e, q))
near_parts airfields (x ∷ way) s n h =
    let p = near_parts airfields way s h.1 h.3 in
    (h.0 + p.0, p.1, (h.0, p.0, h.2, p.2, refl), p.3, let e : h.1 ≡ p.0 + p.1 = p.4 in let q : n ≡ h.0 + h.1 = h.4 in omega (arith, e, q))

-- the steps of one station more stay within the limit
pub next_near : (airfields : List Airfield) (way : List Site) (i each start before after : ℕ) (s : Site) → i < length way → s ≡ get_or way i s →
    ((n : ℕ) → AreNearWay airfields (take i way) n → before ≤ start + (i * each + n)) → ((n : ℕ) → AreNear airfields s.at n → after ≤ before + each + n) →
    (n : ℕ) → AreNearWay airfields (take (i + 1) way) n → after ≤ start + ((i + 1) * each + n)
next_near airfields way i each start before after s l e old here n h =
    let t : take (i + 1) way ≡ take i way ++ s ∷ [] = take_more way i s l ∙ ap (λ (x : Site). take i way ++ x ∷ []) (sym e) in
    let p = near_parts airfields (take i way) s n (subst (λ (w : List Site). AreNearWay airfields w n) t h) in
    let a : before ≤ start + (i * each + p.0) = old p.0 p.2 in
    let b : after ≤ before + each + p.1 = here p.1 p.3 in
    let q : n ≡ p.0 + p.1 = p.4 in
    omega (arith, a, b, q)

prefix_near : (airfields : List Airfield) (way : List Site) (i n : ℕ) → AreNearWay airfields way n → (m : ℕ) × AreNearWay airfields (take i way) m × (m ≤ n)
prefix_near airfields way zero n h = (0, refl, omega arith)
prefix_near airfields [] (suc i) n h = (0, refl, omega arith)
prefix_near airfields (s ∷ way) (suc i) n h =
    let p = prefix_near airfields way i h.1 h.3 in
    (h.0 + p.0, (h.0, p.0, h.2, p.1, refl), let l : p.0 ≤ h.1 = p.2 in let q : n ≡ h.0 + h.1 = h.4 in omega (arith, l, q))

-- within the limit of the whole way
pub within_way : (airfields : List Airfield) (way stations : List Site) (i each start after : ℕ) → stations ≡ way → i ≤ length stations →
    ((n : ℕ) → AreNearWay airfields (take i stations) n → after ≤ start + (i * each + n)) → (n : ℕ) → AreNearWay airfields way n → after ≤ start + (length way * each + n)
within_way airfields way stations i each start after same l near n h =
    let p = prefix_near airfields stations i n (subst (λ (w : List Site). AreNearWay airfields w n) (sym same) h) in
    let a : after ≤ start + (i * each + p.0) = near p.0 p.1 in
    let m : p.0 ≤ n = p.2 in
    let e : length stations ≡ length way = ap length same in
    omega (arith, a, m, mul-le-mul_right each l, ap (λ (k : ℕ). k * each) e)
