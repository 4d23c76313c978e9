-- The findings of two runs of airfields as one list.
use Rattle.std.proofs.Common.{arith, ℕ, ℤ, zero, suc, ◌≡◌, ◌<◌, ◌+◌, ◌^◌, ◌-◌, ◌||◌, min, List, [], ◌∷◌, ◌++◌, take, length, get_or, Option, Some, None, Bool, true, false, not, cond, if◌then◌else◌, refl, sym, ◌∙◌, ap, append_assoc}
use Rattle.std.specs.List.{All, filter, flat_map, insert, list_any}
use Rattle.std.specs.Option.{option_map, option_to_list}
use Rattle.std.specs.Ordering.{is_le}
use Rattle.std.proofs.lemmas.Cmp.{nat_list_cmp_total, tied_itself}
use Rattle.std.proofs.lemmas.List.{append-nil, length-append, take_more}
use Rattle.std.proofs.lemmas.List.Elements.{All-nil, All-cons, All-head, All-tail, All-append, All-filter, All-weaker}
use Rattle.std.specs.declared.cmp.Ordering.TheVariants.{Less}
use Rattle.grid_exact.specs.declared.cap.Cap.{Cap}
use Rattle.grid_exact.specs.declared.point.Point.{Point}
use Rattle.ordered_list.specs.Ordered.{Rises}
use Rattle.ordered_list.proofs.Orders.{above}
use Rattle.airfields.specs.Airfields.{id_of}
use Rattle.airfields.specs.Categories.{has_civil_surfaces}
use Rattle.airfields.specs.Names.{name_cmp}
use Rattle.airfields.specs.Sites.{Site}
use Rattle.airfields.specs.declared.airfield.Airport.{Airport}
use Rattle.airfields.specs.declared.airfield.Heliport.{Heliport}
use Rattle.airfields.specs.declared.airfield.Airfield.{Airfield}
use Rattle.airfields.specs.declared.airfield.Airfield.TheVariants.{Airport as AnAirport, Heliport as AHeliport}
use Rattle.airfields.specs.declared.runway.Runway.{Runway}
use Rattle.height_rules.specs.Heights.{notice_top, standards_top}
use Rattle.height_rules.specs.NearAirport.{near_excess}
use Rattle.horizontal_hull.specs.Arcs.{dome_of}
use Rattle.horizontal_hull.specs.Within.{horizontal_excess, conical_excess, cap_of}
use Rattle.imaginary_surfaces.specs.Strips.{primary_excess, approach_excess, primary_transition_excess, approach_transition_excess}
use Rattle.runway_lines.specs.declared.end.End.TheVariants as ends
use Rattle.heliport_surfaces.specs.Pads.{pad_primary_excess, pad_approach_excess, pad_transition_excess, pad_notice_excess}
use Rattle.heliport_surfaces.specs.declared.parts.PadEnd.TheVariants as pad_ends
use Rattle.heliport_surfaces.specs.declared.parts.Beside.TheVariants as sides
use Rattle.runway_notice.specs.Notices.{notice_slope}
use Rattle.runway_notice.specs.declared.slope.Slope.{Slope}
use Rattle.airfield_findings.specs.Entries.{entries, field_key, runway_key, of_runway, of_runways, of_surfaces, of_pad, of_airfield, rule_b3, slope_finding, slope_entries}
use Rattle.finding_lists.specs.Orders.{is_up_to, stays_before, put_in_order, merged_list}
use Rattle.finding_lists.specs.Verdicts.{is_notice, asks_notice, is_obstruction, tally_of}
use Rattle.finding_lists.specs.declared.finding.Finding.{Finding}
use Rattle.finding_lists.specs.declared.finding.Rule.{Rule}
use Rattle.finding_lists.specs.declared.finding.Rule.TheVariants as rules
use Rattle.finding_lists.specs.declared.finding.SurfaceKey.{SurfaceKey}
use Rattle.finding_lists.specs.declared.verdict.Verdict.{Verdict}
use Rattle.finding_lists.proofs.Merges.{merged_append, put_between}

-- ---- entries of one airfield after another

-- the entry is of the airfield k; it stays before an entry of that airfield; it does not
abbrev IsOf : List ℕ → Finding → Type 0
IsOf k e = e.key.field ≡ Some k

abbrev Stays : List ℕ → Finding → Type 0
Stays k e = is_up_to e.key.field (Some k) ≡ true

abbrev Yields : List ℕ → Finding → Type 0
Yields k e = is_up_to e.key.field (Some k) ≡ false

own_stays : (k : List ℕ) (e : Finding) → IsOf k e → Stays k e
own_stays k e m = ap (λ (o : Option (List ℕ)). is_up_to o (Some k)) m ∙ ap is_le (tied_itself nat_list_cmp_total k)

lesser_stays : (j k : List ℕ) (e : Finding) → name_cmp j k ≡ Less → IsOf j e → Stays k e
lesser_stays j k e h m = ap (λ (o : Option (List ℕ)). is_up_to o (Some k)) m ∙ ap is_le h

greater_yields : (j k : List ℕ) (e : Finding) → name_cmp k j ≡ Less → IsOf j e → Yields k e
greater_yields j k e h m = ap (λ (o : Option (List ℕ)). is_up_to o (Some k)) m ∙ ap is_le (above name_cmp nat_list_cmp_total k j h)

none_stays : (k : List ℕ) (e : Finding) → e.key.field ≡ None → Stays k e
none_stays k e m = ap (λ (o : Option (List ℕ)). is_up_to o (Some k)) m

-- all entries of an airfield, between those that stay before them and those that do not
put_run : (k : List ℕ) (front run back : List Finding) → All (Stays k) front → All (IsOf k) run → All (Yields k) back → merged_list (front ++ back) run ≡ front ++ run ++ back
put_run k front [] back p q r = ap (λ zs. zs ++ back) (sym (append-nil front))
put_run k front (x ∷ run) back p q r =
    let own : IsOf k x = All-head (IsOf k) x run q in
    let here = λ (y : Finding). ap (is_up_to y.key.field) own in
    let before = All-weaker (Stays k) (λ y. stays_before y x ≡ true) (λ y s. here y ∙ s) front p in
    let after = All-weaker (Yields k) (λ y. stays_before y x ≡ false) (λ y s. here y ∙ s) back r in
    let more = All-append (Stays k) front (x ∷ []) p (All-cons (Stays k) x [] (own_stays k x own) (All-nil (Stays k))) in
    ap (λ zs. merged_list zs run) (put_between x front back before after ∙ sym (append_assoc front (x ∷ []) back))
    ∙ put_run k (front ++ x ∷ []) run back more (All-tail (IsOf k) x run q) r
    ∙ ap (λ zs. zs ++ back) (append_assoc front (x ∷ []) run)

pub all_flat : {A : Type 0} (f : A → List Finding) (P : Finding → Type 0) (xs : List A) → All (λ x. All P (f x)) xs → All P (flat_map f xs)
all_flat f P [] h = All-nil P
all_flat f P (x ∷ xs) h = All-append P (f x) (flat_map f xs) (All-head (λ y. All P (f y)) x xs h) (all_flat f P xs (All-tail (λ y. All P (f y)) x xs h))

module _ {A : Type 0} (f : A → List Finding) (name : A → List ℕ) (p : A → Bool) where
  -- the airfield x is of the first run or of the second
  runs_step : (front : List Finding) (x : A) (first second xs : List A) (b : Bool) → merged_list (front ++ flat_map f first) (f x) ≡ front ++ f x ++ flat_map f first
      → merged_list (front ++ f x ++ flat_map f first) (flat_map f second) ≡ front ++ f x ++ flat_map f xs
      → merged_list (front ++ flat_map f (cond (not b) (x ∷ first) first)) (flat_map f (cond b (x ∷ second) second)) ≡ front ++ flat_map f (x ∷ xs)
  runs_step front x first second xs true put rest =
      merged_append (front ++ flat_map f first) (f x) (flat_map f second) ∙ ap (λ zs. merged_list zs (flat_map f second)) put ∙ rest ∙ append_assoc front (f x) (flat_map f xs)
  runs_step front x first second xs false put rest =
      ap (λ zs. merged_list zs (flat_map f second)) (sym (append_assoc front (f x) (flat_map f first))) ∙ rest ∙ append_assoc front (f x) (flat_map f xs)

  -- behind entries that stay before those of each airfield
  runs_behind : (front : List Finding) (xs : List A) → Rises name_cmp name xs → ((x : A) → All (λ e. e.key.field ≡ Some (name x)) (f x)) → All (λ x. All (Stays (name x)) front) xs
      → merged_list (front ++ flat_map f (filter (λ x. not (p x)) xs)) (flat_map f (filter p xs)) ≡ front ++ flat_map f xs
  runs_behind front [] rises of stay = refl
  runs_behind front (x ∷ xs) rises of stay =
      let k = name x in
      let first = filter (λ y. not (p y)) xs in
      let second = filter p xs in
      let yield : All (λ y. All (Yields k) (f y)) xs = λ j d l. All-weaker (IsOf (name (get_or xs j d))) (Yields k) (λ e m. greater_yields (name (get_or xs j d)) k e (rises.0 j d l) m) (f (get_or xs j d)) (of (get_or xs j d)) in
      let back : All (Yields k) (flat_map f first) = all_flat f (Yields k) first (All-filter (λ y. not (p y)) (λ y. All (Yields k) (f y)) xs yield) in
      let next : All (λ y. All (Stays (name y)) (front ++ f x)) xs = λ j d l.
      All-append (Stays (name (get_or xs j d))) front (f x) (All-tail (λ y. All (Stays (name y)) front) x xs stay j d l)
      (All-weaker (IsOf k) (Stays (name (get_or xs j d))) (λ e m. lesser_stays k (name (get_or xs j d)) e (rises.0 j d l) m) (f x) (of x)) in
      runs_step front x first second xs (p x) (put_run k front (f x) (flat_map f first) (All-head (λ y. All (Stays (name y)) front) x xs stay) (of x) back)
      (runs_behind (front ++ f x) xs rises.1 of next)

-- the entries of the airfields that pass the test, put among those of the others, make the entries of all airfields in order of name
pub merged_runs : {A : Type 0} (f : A → List Finding) (name : A → List ℕ) (p : A → Bool) (first : List Finding) (xs : List A) → Rises name_cmp name xs → ((x : A) → All (λ e. e.key.field ≡ Some (name x)) (f x)) → All (λ e. e.key.field ≡ None) first
    → merged_list (first ++ flat_map f (filter (λ x. not (p x)) xs)) (flat_map f (filter p xs)) ≡ first ++ flat_map f xs
merged_runs f name p first xs rises of none =
    runs_behind f name p first xs rises of (λ j d l. All-weaker (λ e. e.key.field ≡ None) (Stays (name (get_or xs j d))) (λ e m. none_stays (name (get_or xs j d)) e m) first none)

-- ---- the entries of an airfield are under its name

named_entries : (rule : Rule) (key : SurfaceKey) (id : List ℕ) (x : Option ℕ) → key.field ≡ Some id → All (IsOf id) (entries rule key x)
named_entries rule key id None h = All-nil (IsOf id)
named_entries rule key id (Some e) h = All-cons (IsOf id) (record { rule = rule; key = key; excess = e }) [] h (All-nil (IsOf id))

named_six : (id : List ℕ) (a b d e f g : List Finding) → All (IsOf id) a → All (IsOf id) b → All (IsOf id) d → All (IsOf id) e → All (IsOf id) f → All (IsOf id) g → All (IsOf id) (a ++ b ++ d ++ e ++ f ++ g)
named_six id a b d e f g h1 h2 h3 h4 h5 h6 =
    let P = IsOf id in
    All-append P (a ++ b ++ d ++ e ++ f) g (All-append P (a ++ b ++ d ++ e) f (All-append P (a ++ b ++ d) e (All-append P (a ++ b) d (All-append P a b h1 h2) h3) h4) h5) h6

named_runway : (id : List ℕ) (at : Point) (top : ℤ) (cap : Cap) (r : Runway) → All (IsOf id) (of_runway id at top cap r)
named_runway id at top cap r =
    let k0 = runway_key id r.name 0 in
    let k1 = runway_key id r.name 1 in
    let k2 = runway_key id r.name 2 in
    let x1 = primary_excess r at top in
    let x2 = approach_excess r ends.One at top in
    let x3 = approach_excess r ends.Two at top in
    let x4 = primary_transition_excess r at cap top in
    let x5 = approach_transition_excess r ends.One at cap top in
    let x6 = approach_transition_excess r ends.Two at cap top in
    named_six id (entries rules.Primary k0 x1) (entries rules.Approach k1 x2) (entries rules.Approach k2 x3) (entries rules.Transition k0 x4) (entries rules.Transition k1 x5) (entries rules.Transition k2 x6)
    (named_entries rules.Primary k0 id x1 refl) (named_entries rules.Approach k1 id x2 refl) (named_entries rules.Approach k2 id x3 refl)
    (named_entries rules.Transition k0 id x4 refl) (named_entries rules.Transition k1 id x5 refl) (named_entries rules.Transition k2 id x6 refl)

-- a list that is given, or none
named_if : (id : List ℕ) (b : Bool) (xs : List Finding) → All (IsOf id) xs → All (IsOf id) (if b then xs else [])
named_if id true xs h = h
named_if id false xs h = All-nil (IsOf id)

named_runways : (at : Point) (top : ℤ) (a : Airport) → All (IsOf a.id) (of_runways at top a)
named_runways at top a =
    let cap = cap_of (dome_of a) at in
    let entries_of = of_runway a.id at top cap in
    named_if a.id (has_civil_surfaces a.category) (flat_map entries_of a.runways) (all_flat entries_of (IsOf a.id) a.runways (λ j d l. named_runway a.id at top cap (get_or a.runways j d)))

named_surfaces : (at : Point) (top : ℤ) (a : Airport) → All (IsOf a.id) (of_surfaces at top a)
named_surfaces at top a =
    let P = IsOf a.id in
    let k = field_key a.id 0 in
    let x1 = horizontal_excess (dome_of a) at top in
    let x2 = conical_excess (dome_of a) at top in
    All-append P (entries rules.Horizontal k x1 ++ entries rules.Conical k x2) (of_runways at top a)
    (All-append P (entries rules.Horizontal k x1) (entries rules.Conical k x2) (named_entries rules.Horizontal k a.id x1 refl) (named_entries rules.Conical k a.id x2 refl))
    (named_runways at top a)

named_pad : (at : Point) (top : ℤ) (h : Heliport) → All (IsOf h.id) (of_pad at top h)
named_pad at top h =
    let k0 = field_key h.id 0 in
    let k1 = field_key h.id 1 in
    let k2 = field_key h.id 2 in
    let x1 = pad_primary_excess h at top in
    let x2 = pad_approach_excess h pad_ends.One at top in
    let x3 = pad_approach_excess h pad_ends.Two at top in
    let x4 = pad_transition_excess h sides.Primary at top in
    let x5 = pad_transition_excess h sides.ApproachOne at top in
    let x6 = pad_transition_excess h sides.ApproachTwo at top in
    named_six h.id (entries rules.PadPrimary k0 x1) (entries rules.PadApproach k1 x2) (entries rules.PadApproach k2 x3) (entries rules.PadTransition k0 x4) (entries rules.PadTransition k1 x5) (entries rules.PadTransition k2 x6)
    (named_entries rules.PadPrimary k0 h.id x1 refl) (named_entries rules.PadApproach k1 h.id x2 refl) (named_entries rules.PadApproach k2 h.id x3 refl)
    (named_entries rules.PadTransition k0 h.id x4 refl) (named_entries rules.PadTransition k1 h.id x5 refl) (named_entries rules.PadTransition k2 h.id x6 refl)

pub named_standards : (site : Site) (f : Airfield) → All (λ e. e.key.field ≡ Some (id_of f)) (of_airfield site f)
named_standards site (AnAirport a) =
    let top = standards_top site in
    let k = field_key a.id 0 in
    All-append (IsOf a.id) (entries rules.Near k (near_excess a site)) (of_surfaces site.at top a) (named_entries rules.Near k a.id (near_excess a site) refl) (named_surfaces site.at top a)
named_standards site (AHeliport h) = named_pad site.at (standards_top site) h

named_slope : (site : Site) (id : List ℕ) (o : Option Slope) → All (IsOf id) (option_to_list (option_map (slope_finding site id) o))
named_slope site id None = All-nil (IsOf id)
named_slope site id (Some s) = All-cons (IsOf id) (slope_finding site id s) [] refl (All-nil (IsOf id))

pub named_slopes : (site : Site) (f : Airfield) → All (λ e. e.key.field ≡ Some (id_of f)) (slope_entries site f)
named_slopes site (AnAirport a) = named_slope site a.id (notice_slope a site.at (notice_top site))
named_slopes site (AHeliport h) = named_entries (rule_b3 site) (field_key h.id 0) h.id (pad_notice_excess h site.at (notice_top site)) refl
