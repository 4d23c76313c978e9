-- The findings of one structure are in the order of a way's list.
use Rattle.std.proofs.Common.{◌≡◌, ◌∙◌, ℕ, ℤ, ◌<◌, ◌≤◌, Bool, true, false, Option, Some, None, List, [], ◌∷◌, ◌++◌, append-nil, append_assoc, arith, ap, get_or, refl, subst, sym, if◌then◌else◌}
use Rattle.std.specs.Cmp.{nat_cmp_is}
use Rattle.std.specs.List.{All, flat_map}
use Rattle.std.specs.Option.{option_cmp, option_map, option_to_list}
use Rattle.std.specs.Ordering.{nat_cmp, ordering_then}
use Rattle.std.specs.declared.cmp.Ordering.{Ordering}
use Rattle.std.specs.declared.cmp.Ordering.TheVariants.{Less, Equal, Greater}
use Rattle.std.proofs.lemmas.Cmp.{nat_cmp_total, nat_list_cmp_total, tied_itself}
use Rattle.std.proofs.lemmas.List.Elements.{All-append, All-cons, All-head, All-nil, All-tail, All-weaker}
use Rattle.grid_exact.specs.declared.cap.Cap.{Cap}
use Rattle.grid_exact.specs.declared.point.Point.{Point}
use Rattle.ordered_list.specs.Ordered.{Rises}
use Rattle.airfields.specs.Airfields.{IsHeld, id_of}
use Rattle.airfields.specs.Categories.{has_civil_surfaces}
use Rattle.airfields.specs.Names.{name_cmp}
use Rattle.airfields.specs.Runways.{name_of}
use Rattle.airfields.specs.Sites.{Site, is_traverse_way}
use Rattle.airfields.specs.declared.airfield.Airfield.{Airfield}
use Rattle.airfields.specs.declared.airfield.Airfield.TheVariants.{Airport as AnAirport, Heliport as AHeliport}
use Rattle.airfields.specs.declared.runway.Runway.{Runway}
use Rattle.airport_register.specs.Registers.{IsRegister}
use Rattle.finding_lists.specs.declared.finding.Finding.{Finding}
use Rattle.finding_lists.specs.declared.finding.Rule.{Rule}
use Rattle.finding_lists.specs.declared.finding.Rule.TheVariants as rules
use Rattle.finding_lists.specs.declared.finding.SurfaceKey.{SurfaceKey}
use Rattle.height_rules.specs.Heights.{standards_top}
use Rattle.height_rules.specs.NearAirport.{near_excess}
use Rattle.horizontal_hull.specs.Arcs.{dome_of}
use Rattle.horizontal_hull.specs.Within.{cap_of, conical_excess, horizontal_excess}
use Rattle.heliport_surfaces.specs.Pads.{pad_approach_excess, pad_primary_excess, pad_transition_excess}
use Rattle.heliport_surfaces.specs.declared.parts.Beside.TheVariants as sides
use Rattle.heliport_surfaces.specs.declared.parts.PadEnd.TheVariants as pad_ends
use Rattle.runway_notice.specs.declared.slope.Slope.{Slope}
use Rattle.runway_notice.specs.declared.slope.Sub.{Sub}
use Rattle.runway_notice.specs.declared.slope.Sub.TheVariants.{B1, B2}
use Rattle.airfield_findings.specs.Entries.{entries, field_key, no_key, of_airfield, of_pad, of_runway, of_runways, rule_b, rule_b3, runway_key, slope_entries, slope_finding}
use Rattle.airfield_findings.proofs.Merges.{all_flat}
use Rattle.oe_findings.specs.List.{findings_of, notices_of, rule_a}
use Rattle.oe_stations.specs.Order.{part_of, place_of, rank_of}
use Rattle.oe_stations.specs.declared.place.Place.{Place}
use Rattle.oe_stations.specs.contracts.place.PlaceOrd.TheImpl as places
use Rattle.oe_stations.proofs.Places.{place_by, total}

abbrev cmp : Place → Place → Ordering
cmp = places.ghosts.cmp

-- ---- lists in rising order, one after the other

-- a finding comes before another
abbrev IsBefore : Finding → Finding → Type 0
IsBefore f g = cmp (place_of f) (place_of g) ≡ Less

abbrev pub AreInOrder : List Finding → Type 0
AreInOrder = Rises cmp place_of

joined : (P Q : Finding → Type 0) → ((f g : Finding) → P f → Q g → IsBefore f g) → (xs ys : List Finding) → All P xs → All Q ys → AreInOrder xs → AreInOrder ys → AreInOrder (xs ++ ys)
joined P Q less [] ys p q rx ry = ry
joined P Q less (x ∷ xs) ys p q rx ry = (
  All-append (IsBefore x) xs ys rx.0 (All-weaker Q (IsBefore x) (λ g h. less x g (All-head P x xs p) h) ys q),
  joined P Q less xs ys (All-tail P x xs p) q rx.1 ry,
)

-- the lists of things in order of their names
all_joined : {A : Type 0} (name : A → List ℕ) (f : A → List Finding) (P : A → Finding → Type 0) → ((x y : A) (g h : Finding) → name_cmp (name x) (name y) ≡ Less → P x g → P y h → IsBefore g h) →
    (xs : List A) → Rises name_cmp name xs → All (λ x. All (P x) (f x)) xs → All (λ x. AreInOrder (f x)) xs → AreInOrder (flat_map f xs)
all_joined name f P less [] rises each own = tt
all_joined name f P less (x ∷ xs) rises each own =
    let rest = All-tail (λ y. All (P y) (f y)) x xs each in
    let After : Finding → Type 0 = λ h. (g : Finding) → P x g → IsBefore g h in
    let after : All (λ y. All After (f y)) xs = λ j d l. All-weaker (P (get_or xs j d)) After (λ h q g p. less x (get_or xs j d) g h (rises.0 j d l) p q) (f (get_or xs j d)) (rest j d l) in
    joined (P x) After (λ g h p q. q g p) (f x) (flat_map f xs) (All-head (λ y. All (P y) (f y)) x xs each) (all_flat f After xs after) (All-head (λ y. AreInOrder (f y)) x xs own)
    (all_joined name f P less xs rises.1 rest (All-tail (λ y. AreInOrder (f y)) x xs own))

-- a list in order, all of whose findings have P and come before a place
record EndsBefore (P : Finding → Type 0) (list : List Finding) (place : Place) : Type 0 where
  in_order : AreInOrder list
  all : All P list
  ends : All (λ f. cmp (place_of f) place ≡ Less) list

none_yet : (P : Finding → Type 0) (place : Place) → EndsBefore P [] place
none_yet P place = record { in_order = tt; all = All-nil P; ends = All-nil (λ f. cmp (place_of f) place ≡ Less) }

-- one entry more
and_entry : (P : Finding → Type 0) (list : List Finding) (rule : Rule) (key : SurfaceKey) (excess : Option ℕ) (next : Place) → ((n : ℕ) → P (record { rule = rule; key = key; excess = n }))
    → cmp (place_by rule key) next ≡ Less → EndsBefore P list (place_by rule key) → EndsBefore P (list ++ entries rule key excess) next
and_entry P list rule key None next p l h = record {
  in_order = subst AreInOrder (sym (append-nil list)) h.in_order;
  all = subst (All P) (sym (append-nil list)) h.all;
  ends = subst (All (λ f. cmp (place_of f) next ≡ Less)) (sym (append-nil list)) (All-weaker _ _ (λ f b. total.trans (place_of f) (place_by rule key) next b l) list h.ends);
}
and_entry P list rule key (Some n) next p l h =
    let one : Finding = record { rule = rule; key = key; excess = n } in
    let Before : Place → Finding → Type 0 = λ q f. cmp (place_of f) q ≡ Less in
    record {
      in_order = joined (Before (place_by rule key)) (λ g. place_of g ≡ place_by rule key) (λ f g a b. subst (λ (q : Place). cmp (place_of f) q ≡ Less) (sym b) a) list (one ∷ []) h.ends (All-cons (λ g. place_of g ≡ place_by rule key) one [] refl (All-nil (λ g. place_of g ≡ place_by rule key))) h.in_order (All-nil (λ g. cmp (place_of one) (place_of g) ≡ Less), tt);
      all = All-append P list (one ∷ []) h.all (All-cons P one [] (p n) (All-nil P));
      ends = All-append (Before next) list (one ∷ []) (All-weaker (Before (place_by rule key)) (Before next) (λ f b. total.trans (place_of f) (place_by rule key) next b l) list h.ends) (All-cons (Before next) one [] l (All-nil (Before next)));
    }

-- ---- what decides
then_less : (o p : Ordering) → o ≡ Less → ordering_then o p ≡ Less
then_less Less p e = refl
then_less Equal p e = absurd (cc e)
then_less Greater p e = absurd (cc e)

then_next : (o p : Ordering) → o ≡ Equal → p ≡ Less → ordering_then o p ≡ Less
then_next Less p e h = absurd (cc e)
then_next Equal p e h = h
then_next Greater p e h = absurd (cc e)

less_of : (m n : ℕ) → m < n → nat_cmp m n ≡ Less
less_of m n l = sym (nat_cmp_is m n Less l)

same_number : (m n k : ℕ) → m ≡ k → n ≡ k → nat_cmp m n ≡ Equal
same_number m n k p q = (λ i. nat_cmp (p i) (q i)) ∙ tied_itself nat_cmp_total k

same_name : (o p : Option (List ℕ)) (k : List ℕ) → o ≡ Some k → p ≡ Some k → option_cmp name_cmp o p ≡ Equal
same_name o p k a b = (λ i. option_cmp name_cmp (a i) (b i)) ∙ tied_itself nat_list_cmp_total k

less_name : (o p : Option (List ℕ)) (j k : List ℕ) → o ≡ Some j → p ≡ Some k → name_cmp j k ≡ Less → option_cmp name_cmp o p ≡ Less
less_name o p j k a b l = (λ i. option_cmp name_cmp (a i) (b i)) ∙ l

none_first : (o p : Option (List ℕ)) (k : List ℕ) → o ≡ None → p ≡ Some k → option_cmp name_cmp o p ≡ Less
none_first o p k a b = λ i. option_cmp name_cmp (a i) (b i)

-- a finding of this part of the list, and of this airfield
abbrev IsOf : ℕ → List ℕ → Finding → Type 0
IsOf part id f = (part_of f.rule ≡ part) × (f.key.field ≡ Some id)

by_airfield : (part : ℕ) (a b : Airfield) (f g : Finding) → name_cmp (id_of a) (id_of b) ≡ Less → IsOf part (id_of a) f → IsOf part (id_of b) g → IsBefore f g
by_airfield part a b f g l p q =
    then_next _ _ (same_number (part_of f.rule) (part_of g.rule) part p.0 q.0) (then_less _ _ (less_name f.key.field g.key.field (id_of a) (id_of b) p.1 q.1 l))

-- ---- the entries of a runway
abbrev OnRunway : List ℕ → List ℕ → Finding → Type 0
OnRunway id name f = IsOf 1 id f × (f.key.runway ≡ Some name)

by_runway : (id : List ℕ) (r s : Runway) (f g : Finding) → name_cmp (name_of r) (name_of s) ≡ Less → OnRunway id (name_of r) f → OnRunway id (name_of s) g → IsBefore f g
by_runway id r s f g l p q =
    then_next _ _ (same_number (part_of f.rule) (part_of g.rule) 1 p.0.0 q.0.0)
    (then_next _ _ (same_name f.key.field g.key.field id p.0.1 q.0.1) (then_less _ _ (less_name f.key.runway g.key.runway (name_of r) (name_of s) p.1 q.1 l)))

same_runway : (id name : List ℕ) (r s : Rule) (a b : ℕ) → part_of r ≡ 1 → part_of s ≡ 1 → ordering_then (nat_cmp (rank_of r) (rank_of s)) (nat_cmp a b) ≡ Less → cmp (place_by r (runway_key id name a)) (place_by s (runway_key id name b)) ≡ Less
same_runway id name r s a b p q h =
    then_next _ _ (same_number (part_of r) (part_of s) 1 p q) (then_next _ _ (tied_itself nat_list_cmp_total id) (then_next _ _ (tied_itself nat_list_cmp_total name) h))

runway_entries : (id name : List ℕ) (x1 x2 x3 x4 x5 x6 : Option ℕ) → EndsBefore (OnRunway id name)
    (entries rules.Primary (runway_key id name 0) x1 ++ entries rules.Approach (runway_key id name 1) x2 ++ entries rules.Approach (runway_key id name 2) x3
    ++ entries rules.Transition (runway_key id name 0) x4 ++ entries rules.Transition (runway_key id name 1) x5 ++ entries rules.Transition (runway_key id name 2) x6)
    (place_by rules.Transition (runway_key id name 3))
runway_entries id name x1 x2 x3 x4 x5 x6 =
    let P = OnRunway id name in
    let k0 = runway_key id name 0 in
    let k1 = runway_key id name 1 in
    let k2 = runway_key id name 2 in
    let a1 = and_entry P [] rules.Primary k0 x1 (place_by rules.Approach k1) (λ n. ((refl, refl), refl)) (same_runway id name rules.Primary rules.Approach 0 1 refl refl refl) (none_yet P (place_by rules.Primary k0)) in
    let a2 = and_entry P _ rules.Approach k1 x2 (place_by rules.Approach k2) (λ n. ((refl, refl), refl)) (same_runway id name rules.Approach rules.Approach 1 2 refl refl refl) a1 in
    let a3 = and_entry P _ rules.Approach k2 x3 (place_by rules.Transition k0) (λ n. ((refl, refl), refl)) (same_runway id name rules.Approach rules.Transition 2 0 refl refl refl) a2 in
    let a4 = and_entry P _ rules.Transition k0 x4 (place_by rules.Transition k1) (λ n. ((refl, refl), refl)) (same_runway id name rules.Transition rules.Transition 0 1 refl refl refl) a3 in
    let a5 = and_entry P _ rules.Transition k1 x5 (place_by rules.Transition k2) (λ n. ((refl, refl), refl)) (same_runway id name rules.Transition rules.Transition 1 2 refl refl refl) a4 in
    and_entry P _ rules.Transition k2 x6 (place_by rules.Transition (runway_key id name 3)) (λ n. ((refl, refl), refl)) (same_runway id name rules.Transition rules.Transition 2 3 refl refl refl) a5

-- ---- the entries of an airfield that have no runway
abbrev OnField : List ℕ → Finding → Type 0
OnField id f = IsOf 1 id f × (f.key.runway ≡ None)

same_field : (id : List ℕ) (r s : Rule) (a b : ℕ) → part_of r ≡ 1 → part_of s ≡ 1 → ordering_then (nat_cmp (rank_of r) (rank_of s)) (nat_cmp a b) ≡ Less → cmp (place_by r (field_key id a)) (place_by s (field_key id b)) ≡ Less
same_field id r s a b p q h = then_next _ _ (same_number (part_of r) (part_of s) 1 p q) (then_next _ _ (tied_itself nat_list_cmp_total id) (then_next _ _ refl h))

pad_entries : (id : List ℕ) (x1 x2 x3 x4 x5 x6 : Option ℕ) → EndsBefore (OnField id)
    (entries rules.PadPrimary (field_key id 0) x1 ++ entries rules.PadApproach (field_key id 1) x2 ++ entries rules.PadApproach (field_key id 2) x3
    ++ entries rules.PadTransition (field_key id 0) x4 ++ entries rules.PadTransition (field_key id 1) x5 ++ entries rules.PadTransition (field_key id 2) x6)
    (place_by rules.PadTransition (field_key id 3))
pad_entries id x1 x2 x3 x4 x5 x6 =
    let P = OnField id in
    let k0 = field_key id 0 in
    let k1 = field_key id 1 in
    let k2 = field_key id 2 in
    let a1 = and_entry P [] rules.PadPrimary k0 x1 (place_by rules.PadApproach k1) (λ n. ((refl, refl), refl)) (same_field id rules.PadPrimary rules.PadApproach 0 1 refl refl refl) (none_yet P (place_by rules.PadPrimary k0)) in
    let a2 = and_entry P _ rules.PadApproach k1 x2 (place_by rules.PadApproach k2) (λ n. ((refl, refl), refl)) (same_field id rules.PadApproach rules.PadApproach 1 2 refl refl refl) a1 in
    let a3 = and_entry P _ rules.PadApproach k2 x3 (place_by rules.PadTransition k0) (λ n. ((refl, refl), refl)) (same_field id rules.PadApproach rules.PadTransition 2 0 refl refl refl) a2 in
    let a4 = and_entry P _ rules.PadTransition k0 x4 (place_by rules.PadTransition k1) (λ n. ((refl, refl), refl)) (same_field id rules.PadTransition rules.PadTransition 0 1 refl refl refl) a3 in
    let a5 = and_entry P _ rules.PadTransition k1 x5 (place_by rules.PadTransition k2) (λ n. ((refl, refl), refl)) (same_field id rules.PadTransition rules.PadTransition 1 2 refl refl refl) a4 in
    and_entry P _ rules.PadTransition k2 x6 (place_by rules.PadTransition (field_key id 3)) (λ n. ((refl, refl), refl)) (same_field id rules.PadTransition rules.PadTransition 2 3 refl refl refl) a5

three_entries : (id : List ℕ) (x1 x2 x3 : Option ℕ) → EndsBefore (OnField id) (entries rules.Near (field_key id 0) x1 ++ entries rules.Horizontal (field_key id 0) x2 ++ entries rules.Conical (field_key id 0) x3) (place_by rules.Primary (field_key id 0))
three_entries id x1 x2 x3 =
    let P = OnField id in
    let k = field_key id 0 in
    let a1 = and_entry P [] rules.Near k x1 (place_by rules.Horizontal k) (λ n. ((refl, refl), refl)) (same_field id rules.Near rules.Horizontal 0 0 refl refl refl) (none_yet P (place_by rules.Near k)) in
    let a2 = and_entry P _ rules.Horizontal k x2 (place_by rules.Conical k) (λ n. ((refl, refl), refl)) (same_field id rules.Horizontal rules.Conical 0 0 refl refl refl) a1 in
    and_entry P _ rules.Conical k x3 (place_by rules.Primary k) (λ n. ((refl, refl), refl)) (same_field id rules.Conical rules.Primary 0 0 refl refl refl) a2

-- ---- the standards of an airfield
abbrev HasRunway : List ℕ → Finding → Type 0
HasRunway id f = IsOf 1 id f × ((name : List ℕ) × (f.key.runway ≡ Some name))

field_first : (id : List ℕ) (f g : Finding) → OnField id f → HasRunway id g → IsBefore f g
field_first id f g p q =
    then_next _ _ (same_number (part_of f.rule) (part_of g.rule) 1 p.0.0 q.0.0)
    (then_next _ _ (same_name f.key.field g.key.field id p.0.1 q.0.1) (then_less _ _ (none_first f.key.runway g.key.runway q.1.0 p.1 q.1.1)))

-- a list that is given, or none
in_order_if : (P : Finding → Type 0) (b : Bool) (xs : List Finding) → All P xs × AreInOrder xs → All P (if b then xs else []) × AreInOrder (if b then xs else [])
in_order_if P true xs h = h
in_order_if P false xs h = (All-nil P, tt)

in_order_of : (P : Finding → Type 0) (list : List Finding) (place : Place) → EndsBefore P list place → All P list × AreInOrder list
in_order_of P list place e = (e.all, e.in_order)

runway_in_order : (id : List ℕ) (at : Point) (top : ℤ) (cap : Cap) (r : Runway) → All (OnRunway id (name_of r)) (of_runway id at top cap r) × AreInOrder (of_runway id at top cap r)
runway_in_order id at top cap r = in_order_of (OnRunway id r.name) _ _ (runway_entries id r.name _ _ _ _ _ _)

runways_in_order : (id : List ℕ) (at : Point) (top : ℤ) (cap : Cap) (rs : List Runway) → Rises name_cmp name_of rs → All (HasRunway id) (flat_map (of_runway id at top cap) rs) × AreInOrder (flat_map (of_runway id at top cap) rs)
runways_in_order id at top cap rs rises =
    let f = of_runway id at top cap in (
      all_flat f (HasRunway id) rs (λ j d l. All-weaker (OnRunway id (name_of (get_or rs j d))) (HasRunway id) (λ g p. (p.0, (name_of (get_or rs j d), p.1))) (f (get_or rs j d)) (runway_in_order id at top cap (get_or rs j d)).0),
      all_joined name_of f (λ r. OnRunway id (name_of r)) (by_runway id) rs rises (λ j d l. (runway_in_order id at top cap (get_or rs j d)).0) (λ j d l. (runway_in_order id at top cap (get_or rs j d)).1),
    )

airport_entries : (id : List ℕ) (x1 x2 x3 : Option ℕ) (surfaces : List Finding) → All (HasRunway id) surfaces × AreInOrder surfaces →
    All (IsOf 1 id) (entries rules.Near (field_key id 0) x1 ++ (entries rules.Horizontal (field_key id 0) x2 ++ entries rules.Conical (field_key id 0) x3 ++ surfaces))
    × AreInOrder (entries rules.Near (field_key id 0) x1 ++ (entries rules.Horizontal (field_key id 0) x2 ++ entries rules.Conical (field_key id 0) x3 ++ surfaces))
airport_entries id x1 x2 x3 surfaces h =
    let near = entries rules.Near (field_key id 0) x1 in
    let horizontal = entries rules.Horizontal (field_key id 0) x2 in
    let conical = entries rules.Conical (field_key id 0) x3 in
    let three = three_entries id x1 x2 x3 in
    let same : (near ++ horizontal ++ conical) ++ surfaces ≡ near ++ (horizontal ++ conical ++ surfaces) = ap (λ zs. zs ++ surfaces) (append_assoc near horizontal conical) ∙ append_assoc near (horizontal ++ conical) surfaces in (
      subst (All (IsOf 1 id)) same (All-append (IsOf 1 id) (near ++ horizontal ++ conical) surfaces (All-weaker (OnField id) (IsOf 1 id) (λ f p. p.0) (near ++ horizontal ++ conical) three.all) (All-weaker (HasRunway id) (IsOf 1 id) (λ f p. p.0) surfaces h.0)),
      subst AreInOrder same (joined (OnField id) (HasRunway id) (field_first id) (near ++ horizontal ++ conical) surfaces three.all h.0 three.in_order h.1),
    )

standards_of : (site : Site) (f : Airfield) → IsHeld f → All (IsOf 1 (id_of f)) (of_airfield site f) × AreInOrder (of_airfield site f)
standards_of site (AnAirport a) held =
    let top = standards_top site in
    let dome = dome_of a in
    airport_entries a.id (near_excess a site) (horizontal_excess dome site.at top) (conical_excess dome site.at top) (of_runways site.at top a)
    (in_order_if (HasRunway a.id) (has_civil_surfaces a.category) (flat_map (of_runway a.id site.at top (cap_of dome site.at)) a.runways) (runways_in_order a.id site.at top (cap_of dome site.at) a.runways held.rises))
standards_of site (AHeliport h) held =
    let at = site.at in
    let top = standards_top site in
    let pad = pad_entries h.id (pad_primary_excess h at top) (pad_approach_excess h pad_ends.One at top) (pad_approach_excess h pad_ends.Two at top) (pad_transition_excess h sides.Primary at top)
    (pad_transition_excess h sides.ApproachOne at top) (pad_transition_excess h sides.ApproachTwo at top) in
    (All-weaker (OnField h.id) (IsOf 1 h.id) (λ f p. p.0) (of_pad at top h) pad.all, pad.in_order)

-- ---- notice rules
part_if : (b : Bool) (r s : Rule) (n : ℕ) → part_of r ≡ n → part_of s ≡ n → part_of (if b then r else s) ≡ n
part_if true r s n p q = p
part_if false r s n p q = q

slope_part : (site : Site) (sub : Sub) → part_of (rule_b site sub) ≡ 3
slope_part site B1 = part_if (is_traverse_way site.kind) rules.WayB1 rules.NoticeB1 3 refl refl
slope_part site B2 = part_if (is_traverse_way site.kind) rules.WayB2 rules.NoticeB2 3 refl refl

one_entry : (P : Finding → Type 0) (rule : Rule) (key : SurfaceKey) (x : Option ℕ) → ((n : ℕ) → P (record { rule = rule; key = key; excess = n })) → All P (entries rule key x) × AreInOrder (entries rule key x)
one_entry P rule key None p = (All-nil P, tt)
one_entry P rule key (Some n) p =
    let one : Finding = record { rule = rule; key = key; excess = n } in (All-cons P one [] (p n) (All-nil P), (All-nil (IsBefore one), tt))

one_slope : (site : Site) (id : List ℕ) (o : Option Slope) → All (IsOf 3 id) (option_to_list (option_map (slope_finding site id) o)) × AreInOrder (option_to_list (option_map (slope_finding site id) o))
one_slope site id None = (All-nil (IsOf 3 id), tt)
one_slope site id (Some s) =
    let one = slope_finding site id s in (All-cons (IsOf 3 id) one [] (slope_part site s.sub, refl) (All-nil (IsOf 3 id)), (All-nil (IsBefore one), tt))

slopes_of : (site : Site) (f : Airfield) → All (IsOf 3 (id_of f)) (slope_entries site f) × AreInOrder (slope_entries site f)
slopes_of site (AnAirport a) = one_slope site a.id _
slopes_of site (AHeliport h) = one_entry (IsOf 3 h.id) (rule_b3 site) (field_key h.id 0) _ (λ n. (part_if (is_traverse_way site.kind) rules.WayB3 rules.NoticeB3 3 refl refl, refl))

-- its part of the list is this one, one before it, this one or a later one
abbrev Is : ℕ → Finding → Type 0
Is n f = part_of f.rule ≡ n

abbrev Below : ℕ → Finding → Type 0
Below n f = part_of f.rule < n

abbrev From : ℕ → Finding → Type 0
From n f = n ≤ part_of f.rule

construction : (b : Bool) (o : Option (List ℕ)) → All (From 4) (if b then option_to_list (option_map (λ id. record { rule = rules.NoticeD; key = field_key id 0; excess = 0 }) o) else [])
    × AreInOrder (if b then option_to_list (option_map (λ id. record { rule = rules.NoticeD; key = field_key id 0; excess = 0 }) o) else [])
construction false o = (All-nil (From 4), tt)
construction true None = (All-nil (From 4), tt)
construction true (Some id) =
    let one : Finding = record { rule = rules.NoticeD; key = field_key id 0; excess = 0 } in (All-cons (From 4) one [] (omega arith) (All-nil (From 4)), (All-nil (IsBefore one), tt))

-- ---- the whole list
parts_joined : (k : ℕ) (xs ys : List Finding) → All (Below k) xs → All (From k) ys → AreInOrder xs → AreInOrder ys → AreInOrder (xs ++ ys)
parts_joined k = joined (Below k) (From k) (λ f g p q. then_less _ _ (less_of (part_of f.rule) (part_of g.rule) (omega (arith, p, q))))

of_all : (part : ℕ) (f : Airfield → List Finding) (airfields : List Airfield) → Rises name_cmp id_of airfields → All (λ a. All (IsOf part (id_of a)) (f a) × AreInOrder (f a)) airfields
    → All (Is part) (flat_map f airfields) × AreInOrder (flat_map f airfields)
of_all part f airfields rises each = (
  all_flat f (Is part) airfields (λ j d l. All-weaker (IsOf part (id_of (get_or airfields j d))) (Is part) (λ g p. p.0) (f (get_or airfields j d)) (each j d l).0),
  all_joined id_of f (λ a. IsOf part (id_of a)) (by_airfield part) airfields rises (λ j d l. (each j d l).0) (λ j d l. (each j d l).1),
)

three_notices : (a b c : List Finding) → All (Is 2) a × AreInOrder a → All (Is 3) b × AreInOrder b → All (From 4) c × AreInOrder c → All (From 2) (a ++ b ++ c) × AreInOrder (a ++ b ++ c)
three_notices a b c p q r =
    let both = parts_joined 3 a b (All-weaker (Is 2) (Below 3) (λ f e. omega (arith, e)) a p.0) (All-weaker (Is 3) (From 3) (λ f e. omega (arith, e)) b q.0) p.1 q.1 in
    let below = All-append (Below 4) a b (All-weaker (Is 2) (Below 4) (λ f e. omega (arith, e)) a p.0) (All-weaker (Is 3) (Below 4) (λ f e. omega (arith, e)) b q.0) in
    let from = All-append (From 2) a b (All-weaker (Is 2) (From 2) (λ f e. omega (arith, e)) a p.0) (All-weaker (Is 3) (From 2) (λ f e. omega (arith, e)) b q.0) in
    (All-append (From 2) (a ++ b) c from (All-weaker (From 4) (From 2) (λ f e. omega (arith, e)) c r.0), parts_joined 4 (a ++ b) c below r.0 both r.1)

three_parts : (a b c : List Finding) → All (Below 1) a × AreInOrder a → All (Is 1) b × AreInOrder b → All (From 2) c × AreInOrder c → AreInOrder (a ++ b ++ c)
three_parts a b c p q r =
    let both = parts_joined 1 a b p.0 (All-weaker (Is 1) (From 1) (λ f e. omega (arith, e)) b q.0) p.1 q.1 in
    let below = All-append (Below 2) a b (All-weaker (Below 1) (Below 2) (λ f e. omega (arith, e)) a p.0) (All-weaker (Is 1) (Below 2) (λ f e. omega (arith, e)) b q.0) in
    parts_joined 2 (a ++ b) c below r.0 both r.1

notices_in_order : (airfields : List Airfield) (site : Site) → Rises name_cmp id_of airfields → All (From 2) (notices_of airfields site) × AreInOrder (notices_of airfields site)
notices_in_order airfields site rises =
    three_notices _ _ _ (one_entry (Is 2) (rule_a site) no_key _ (λ n. part_if (is_traverse_way site.kind) rules.WayA rules.NoticeA 2 refl refl)) (of_all 3 (slope_entries site) airfields rises (λ j d l. slopes_of site (get_or airfields j d)))
    (construction _ site.on)

-- the findings of a structure are in this order
pub findings_in_order : (airfields : List Airfield) (site : Site) → IsRegister airfields → AreInOrder (findings_of airfields site)
findings_in_order airfields site register =
    three_parts _ _ _ (one_entry (Below 1) rules.H499 no_key _ (λ n. omega arith))
    (of_all 1 (of_airfield site) airfields register.rises (All-weaker IsHeld (λ a. All (IsOf 1 (id_of a)) (of_airfield site a) × AreInOrder (of_airfield site a)) (standards_of site) airfields register.held))
    (in_order_if (From 2) _ (notices_of airfields site) (notices_in_order airfields site register.rises))
