-- The entries of a list of findings that are about one airfield are those that this airfield gives to it.
use Rattle.std.proofs.Common.{◌≡◌, ◌≢◌, ℕ, ℤ, Bool, true, false, ◌&&◌, List, [], ◌∷◌, ◌++◌, Option, Some, None, refl, sym, ap, ◌∙◌, get_or, if◌then◌else◌, nat_eq, cond, append-nil, append_assoc, subst}
use Rattle.std.proofs.lemmas.Bool.{and_parts}
use Rattle.std.proofs.lemmas.Cmp.{nat_list_cmp_total}
use Rattle.std.proofs.lemmas.List.Folds.{list_all-append}
use Rattle.std.proofs.lemmas.List.Elements.{filter-append}
use Rattle.std.specs.List.{filter, flat_map, list_all}
use Rattle.std.specs.Option.{option_map, option_map_or, option_to_list}
use Rattle.std.specs.Ordering.{is_eq, ordering_reverse}
use Rattle.std.specs.Cmp.Lexicographic.{pointwise, bytes_decides}
use Rattle.std.specs.declared.cmp.Ordering.{Ordering}
use Rattle.std.specs.declared.cmp.Ordering.TheVariants.{Less, Equal, Greater}
use Rattle.ordered_list.specs.Ordered.{Rises}
use Rattle.ordered_list.proofs.Rising.{missing, Rises-put, Rises-removed}
use Rattle.ordered_list.proofs.Orders.{alike}
use Rattle.airfields.specs.Names.{name_cmp}
use Rattle.airfields.specs.Airfields.{id_of}
use Rattle.airfields.specs.Categories.{has_civil_surfaces}
use Rattle.airfields.specs.Sites.{Site}
use Rattle.airfields.specs.declared.airfield.Airfield.{Airfield}
use Rattle.airfields.specs.declared.airfield.Airfield.TheVariants.{Airport as AnAirport, Heliport as AHeliport}
use Rattle.airfields.specs.declared.airfield.Airport.{Airport}
use Rattle.airfields.specs.declared.airfield.Heliport.{Heliport}
use Rattle.airfields.specs.declared.runway.Runway.{Runway}
use Rattle.airport_register.specs.Amendments.{airfield_at, list_with_replaced}
use Rattle.airport_register.proofs.Rules.{same_name}
use Rattle.grid_exact.specs.declared.point.Point.{Point}
use Rattle.grid_exact.specs.declared.cap.Cap.{Cap}
use Rattle.height_rules.specs.AboveGround.{notice_excess, height_excess}
use Rattle.height_rules.specs.Heights.{notice_top, standards_top}
use Rattle.height_rules.specs.NearAirport.{near_excess}
use Rattle.horizontal_hull.specs.Arcs.{dome_of}
use Rattle.horizontal_hull.specs.Within.{horizontal_excess, conical_excess, cap_of}
use Rattle.imaginary_surfaces.specs.Strips.{primary_excess, approach_excess, primary_transition_excess, approach_transition_excess}
use Rattle.runway_lines.specs.declared.end.End.TheVariants as ends
use Rattle.heliport_surfaces.specs.Pads.{pad_primary_excess, pad_approach_excess, pad_transition_excess, pad_notice_excess}
use Rattle.heliport_surfaces.specs.declared.parts.PadEnd.TheVariants as pad_ends
use Rattle.heliport_surfaces.specs.declared.parts.Beside.TheVariants as sides
use Rattle.runway_notice.specs.Notices.{notice_slope}
use Rattle.runway_notice.specs.declared.slope.Slope.{Slope}
use Rattle.airfield_findings.specs.Entries.{entries, no_key, field_key, runway_key, of_runway, of_surfaces, of_pad, of_airfield, rule_b3, slope_finding, slope_entries}
use Rattle.finding_lists.specs.declared.finding.Finding.{Finding}
use Rattle.finding_lists.specs.declared.finding.SurfaceKey.{SurfaceKey}
use Rattle.finding_lists.specs.declared.finding.Rule.{Rule}
use Rattle.finding_lists.specs.declared.finding.Rule.TheVariants as rules
use Rattle.oe_findings.specs.List.{rule_a, on_airfield, notices_of, notices_if_due, findings_of}
use Rattle.review_marks.specs.Books.{differs}
use Rattle.review_marks.specs.Turns.{Leads, Shows}
use Rattle.review_marks.specs.declared.share.Share.{Share}
use Rattle.review_marks.specs.Shares.{AirfieldChange, about, entries_by, findings_of_field, is_about, is_described_field, is_due, names, on_entries, share_of}
use Rattle.review_marks.proofs.Unconcerned.{same_lists, not_differing}

-- ---- names

same_text : (id : List ℕ) → pointwise nat_eq id id ≡ true
same_text id = (bytes_decides id id).1 refl

by_reverse : (o : Ordering) → o ≡ ordering_reverse o → o ≡ Equal
by_reverse Less e = absurd (cc (e))
by_reverse Equal e = refl
by_reverse Greater e = absurd (cc (e))

not_itself : (k id : List ℕ) → name_cmp k id ≢ Equal → k ≢ id
not_itself k id h e = h (ap (name_cmp k) (sym e) ∙ by_reverse (name_cmp k k) (nat_list_cmp_total.antisymm k k))

other_text : (k id : List ℕ) → k ≢ id → pointwise nat_eq k id ≡ false
other_text k id h = by_test (pointwise nat_eq k id) refl
  where
    by_test : (b : Bool) → pointwise nat_eq k id ≡ b → pointwise nat_eq k id ≡ false
    by_test true e = absurd (h ((bytes_decides k id).0 e))
    by_test false e = e

-- ---- lists whose entries are all about one airfield

-- they are about none of another name
abbrev AreAbout : List ℕ → List Finding → Type 0
AreAbout id xs = list_all (is_about id) xs ≡ true

and_true : (a b : Bool) → a ≡ true → b ≡ true → (a && b) ≡ true
and_true a b e f = rw (e, f) refl

about_both : (id : List ℕ) (xs ys : List Finding) → AreAbout id xs → AreAbout id ys → AreAbout id (xs ++ ys)
about_both id xs ys h k = list_all-append (is_about id) xs ys ∙ and_true _ _ h k

about_if : (id : List ℕ) (b : Bool) (xs : List Finding) → AreAbout id xs → AreAbout id (if b then xs else [])
about_if id true xs h = h
about_if id false xs h = refl

about_each : {X : Type 0} (id : List ℕ) (f : X → List Finding) (xs : List X) → ((x : X) → AreAbout id (f x)) → AreAbout id (flat_map f xs)
about_each id f [] h = refl
about_each id f (x ∷ xs) h = about_both id (f x) (flat_map f xs) (h x) (about_each id f xs h)

about_entry : (id : List ℕ) (rule : Rule) (key : SurfaceKey) (excess : Option ℕ) → key.field ≡ Some id → AreAbout id (entries rule key excess)
about_entry id rule key None e = refl
about_entry id rule key (Some x) e = and_true _ _ (ap (λ o. option_map_or (pointwise nat_eq id) o false) e ∙ same_text id) refl

-- ---- what they come to

kept_by : (p : Finding → Bool) (x : Finding) (xs : List Finding) (b : Bool) → p x ≡ b → filter p (x ∷ xs) ≡ cond b (x ∷ filter p xs) (filter p xs)
kept_by p x xs true e = rw e refl
kept_by p x xs false e = rw e refl

own : (id : List ℕ) (xs : List Finding) → AreAbout id xs → about id xs ≡ xs
own id [] h = refl
own id (x ∷ xs) h =
    let t = and_parts (is_about id x) (list_all (is_about id) xs) h in
    kept_by (is_about id) x xs true t.0 ∙ ap (λ ys. x ∷ ys) (own id xs t.1)

not_about : (k id : List ℕ) → k ≢ id → (x : Finding) (o : Option (List ℕ)) → x.key.field ≡ o → is_about id x ≡ true → is_about k x ≡ false
not_about k id h x None e t = ap (λ q. option_map_or (pointwise nat_eq k) q false) e
not_about k id h x (Some j) e t =
    let is : id ≡ j = (bytes_decides id j).0 (sym (ap (λ q. option_map_or (pointwise nat_eq id) q false) e) ∙ t) in
    ap (λ q. option_map_or (pointwise nat_eq k) q false) e ∙ ap (pointwise nat_eq k) (sym is) ∙ other_text k id h

none_of : (k id : List ℕ) → k ≢ id → (xs : List Finding) → AreAbout id xs → about k xs ≡ []
none_of k id h [] a = refl
none_of k id h (x ∷ xs) a =
    let t = and_parts (is_about id x) (list_all (is_about id) xs) a in
    kept_by (is_about k) x xs false (not_about k id h x x.key.field refl t.0) ∙ none_of k id h xs t.1

-- ---- the entries of an airfield are about it

about_runway : (id : List ℕ) (at : Point) (top : ℤ) (cap : Cap) (r : Runway) → AreAbout id (of_runway id at top cap r)
about_runway id at top cap r =
    about_both id _ _ (about_both id _ _ (about_both id _ _ (about_both id _ _ (about_both id _ _
    (about_entry id rules.Primary (runway_key id r.name 0) (primary_excess r at top) refl)
    (about_entry id rules.Approach (runway_key id r.name 1) (approach_excess r ends.One at top) refl))
    (about_entry id rules.Approach (runway_key id r.name 2) (approach_excess r ends.Two at top) refl))
    (about_entry id rules.Transition (runway_key id r.name 0) (primary_transition_excess r at cap top) refl))
    (about_entry id rules.Transition (runway_key id r.name 1) (approach_transition_excess r ends.One at cap top) refl))
    (about_entry id rules.Transition (runway_key id r.name 2) (approach_transition_excess r ends.Two at cap top) refl)

about_surfaces : (at : Point) (top : ℤ) (a : Airport) → AreAbout a.id (of_surfaces at top a)
about_surfaces at top a =
    about_both a.id _ _ (about_both a.id _ _
    (about_entry a.id rules.Horizontal (field_key a.id 0) (horizontal_excess (dome_of a) at top) refl)
    (about_entry a.id rules.Conical (field_key a.id 0) (conical_excess (dome_of a) at top) refl))
    (about_if a.id (has_civil_surfaces a.category) (flat_map (of_runway a.id at top (cap_of (dome_of a) at)) a.runways)
    (about_each a.id (of_runway a.id at top (cap_of (dome_of a) at)) a.runways (about_runway a.id at top (cap_of (dome_of a) at))))

about_pad : (at : Point) (top : ℤ) (h : Heliport) → AreAbout h.id (of_pad at top h)
about_pad at top h =
    about_both h.id _ _ (about_both h.id _ _ (about_both h.id _ _ (about_both h.id _ _ (about_both h.id _ _
    (about_entry h.id rules.PadPrimary (field_key h.id 0) (pad_primary_excess h at top) refl)
    (about_entry h.id rules.PadApproach (field_key h.id 1) (pad_approach_excess h pad_ends.One at top) refl))
    (about_entry h.id rules.PadApproach (field_key h.id 2) (pad_approach_excess h pad_ends.Two at top) refl))
    (about_entry h.id rules.PadTransition (field_key h.id 0) (pad_transition_excess h sides.Primary at top) refl))
    (about_entry h.id rules.PadTransition (field_key h.id 1) (pad_transition_excess h sides.ApproachOne at top) refl))
    (about_entry h.id rules.PadTransition (field_key h.id 2) (pad_transition_excess h sides.ApproachTwo at top) refl)

about_standards : (site : Site) (a : Airfield) → AreAbout (id_of a) (of_airfield site a)
about_standards site (AnAirport a) = about_both a.id _ _ (about_entry a.id rules.Near (field_key a.id 0) (near_excess a site) refl) (about_surfaces site.at (standards_top site) a)
about_standards site (AHeliport h) = about_pad site.at (standards_top site) h

about_one : (site : Site) (id : List ℕ) (o : Option Slope) → AreAbout id (option_to_list (option_map (slope_finding site id) o))
about_one site id None = refl
about_one site id (Some s) = and_true _ _ (same_text id) refl

about_slopes : (site : Site) (a : Airfield) → AreAbout (id_of a) (slope_entries site a)
about_slopes site (AnAirport a) = about_one site a.id (notice_slope a site.at (notice_top site))
about_slopes site (AHeliport h) = about_entry h.id (rule_b3 site) (field_key h.id 0) (pad_notice_excess h site.at (notice_top site)) refl

-- ---- of all airfields

module _ (f : Airfield → List Finding) (h : (a : Airfield) → AreAbout (id_of a) (f a)) where
  at_step : (id : List ℕ) (y : Airfield) (ys : List Airfield) (o : Ordering) → name_cmp id (id_of y) ≡ o → Rises name_cmp id_of (y ∷ ys)
      → about id (flat_map f ys) ≡ findings_of_field f (airfield_at ys id) → about id (f y) ++ about id (flat_map f ys) ≡ findings_of_field f (cond (is_eq o) (Some y) (airfield_at ys id))
  at_step id y ys Less e r rest = ap (λ zs. zs ++ about id (flat_map f ys)) (none_of id (id_of y) (not_itself id (id_of y) (λ q. cc (q, e))) (f y) (h y)) ∙ rest
  at_step id y ys Equal e r rest =
      let is : id ≡ id_of y = same_name id (id_of y) e in
      let later : airfield_at ys id ≡ None = missing name_cmp nat_list_cmp_total id_of id ys (λ j d l t. (let a : name_cmp id (id_of (get_or ys j d)) ≡ name_cmp (id_of y) (id_of (get_or ys j d)) = alike name_cmp nat_list_cmp_total id (id_of y) (id_of (get_or ys j d)) e in let b : name_cmp (id_of y) (id_of (get_or ys j d)) ≡ Less = r.0 j d l in cc)) in
      ap (λ zs. about id (f y) ++ zs) (rest ∙ ap (findings_of_field f) later) ∙ append-nil (about id (f y)) ∙ ap (λ k. about k (f y)) is ∙ own (id_of y) (f y) (h y)
  at_step id y ys Greater e r rest = ap (λ zs. zs ++ about id (flat_map f ys)) (none_of id (id_of y) (not_itself id (id_of y) (λ q. cc (q, e))) (f y) (h y)) ∙ rest

  pub about_all : (id : List ℕ) (xs : List Airfield) → Rises name_cmp id_of xs → about id (flat_map f xs) ≡ findings_of_field f (airfield_at xs id)
  about_all id [] r = refl
  about_all id (y ∷ ys) r = filter-append (is_about id) (f y) (flat_map f ys) ∙ at_step id y ys (name_cmp id (id_of y)) refl r (about_all id ys r.1)

-- ---- of the whole list

keyless : (id : List ℕ) (rule : Rule) (excess : Option ℕ) → about id (entries rule no_key excess) ≡ []
keyless id rule None = refl
keyless id rule (Some x) = refl

abbrev construction : List ℕ → Finding
construction id = record { rule = rules.NoticeD; key = field_key id 0; excess = 0 }

on_same : (id k : List ℕ) (d : Bool) → id ≡ k → about id (if d then construction k ∷ [] else []) ≡ on_entries id d
on_same id k true e = kept_by (is_about id) (construction k) [] true ((bytes_decides id k).1 e) ∙ ap (λ j. construction j ∷ []) (sym e)
on_same id k false e = refl

on_other : (id k : List ℕ) (d : Bool) → pointwise nat_eq id k ≡ false → about id (if d then construction k ∷ [] else []) ≡ []
on_other id k true e = kept_by (is_about id) (construction k) [] false e
on_other id k false e = refl

on_named : (id k : List ℕ) (xs : List Airfield) (b : Bool) → pointwise nat_eq id k ≡ b
    → about id (if is_described_field (airfield_at xs k) then construction k ∷ [] else []) ≡ on_entries id (b && is_described_field (airfield_at xs id))
on_named id k xs true e =
    let is : id ≡ k = (bytes_decides id k).0 e in
    on_same id k (is_described_field (airfield_at xs k)) is ∙ ap (λ j. on_entries id (is_described_field (airfield_at xs j))) (sym is)
on_named id k xs false e = on_other id k (is_described_field (airfield_at xs k)) e

about_on : (id : List ℕ) (xs : List Airfield) (site : Site) (o : Option (List ℕ)) → site.on ≡ o → about id (on_airfield xs site) ≡ on_entries id (names id site && is_described_field (airfield_at xs id))
about_on id xs site None e = rw (e) refl
about_on id xs site (Some k) e = rw (e) (on_named id k xs (pointwise nat_eq id k) refl)

about_notices : (id : List ℕ) (xs : List Airfield) (site : Site) (b : Bool) → Rises name_cmp id_of xs
    → about id (if b then notices_of xs site else []) ≡ (if b then findings_of_field (slope_entries site) (airfield_at xs id) else []) ++ on_entries id (b && (names id site && is_described_field (airfield_at xs id)))
about_notices id xs site false r = refl
about_notices id xs site true r =
    let first = entries (rule_a site) no_key (notice_excess site) in
    let slopes = flat_map (slope_entries site) xs in
    filter-append (is_about id) (first ++ slopes) (on_airfield xs site)
    ∙ ap (λ zs. zs ++ about id (on_airfield xs site)) (filter-append (is_about id) first slopes ∙ ap (λ zs. zs ++ about id slopes) (keyless id (rule_a site) (notice_excess site)) ∙ about_all (slope_entries site) (about_slopes site) id xs r)
    ∙ ap (λ zs. findings_of_field (slope_entries site) (airfield_at xs id) ++ zs) (about_on id xs site site.on refl)

pub about_list : (id : List ℕ) (xs : List Airfield) (site : Site) → Rises name_cmp id_of xs → about id (findings_of xs site) ≡ entries_by id site (share_of id (airfield_at xs id) site)
about_list id xs site r =
    let first = entries rules.H499 no_key (height_excess site) in
    let standards = flat_map (of_airfield site) xs in
    let notices = notices_if_due xs site in
    filter-append (is_about id) (first ++ standards) notices
    ∙ ap (λ zs. zs ++ about id notices) (filter-append (is_about id) first standards ∙ ap (λ zs. zs ++ about id standards) (keyless id rules.H499 (height_excess site)) ∙ about_all (of_airfield site) (about_standards site) id xs r)
    ∙ ap (λ zs. findings_of_field (of_airfield site) (airfield_at xs id) ++ zs) (about_notices id xs site (is_due site) r)
    ∙ sym (append_assoc (findings_of_field (of_airfield site) (airfield_at xs id)) (if is_due site then findings_of_field (slope_entries site) (airfield_at xs id) else []) (on_entries id (is_due site && (names id site && is_described_field (airfield_at xs id)))))

-- a stored list with other entries about an airfield than this gives is another list than the one over the airfields
pub other_entries : (id : List ℕ) (o : Option Airfield) (xs : List Airfield) (site : Site) (stored : List Finding) → Rises name_cmp id_of xs → o ≡ airfield_at xs id
    → differs (about id stored) (entries_by id site (share_of id o site)) ≡ true → differs stored (findings_of xs site) ≡ true
other_entries id o xs site stored r there h = by_test (differs stored (findings_of xs site)) refl
  where
    by_test : (b : Bool) → differs stored (findings_of xs site) ≡ b → differs stored (findings_of xs site) ≡ true
    by_test true e = e
    by_test false e =
        let same = ap (about id) (not_differing stored (findings_of xs site) e) ∙ about_list id xs site r ∙ ap (λ q. entries_by id site (share_of id q site)) (sym there) in
        absurd (cc (h, same_lists (about id stored) (entries_by id site (share_of id o site)) same))

-- a case is marked at once where what its list has about the airfield tells it
pub marked_at_once : (xs : List Airfield) (c : AirfieldChange) (site : Site) (stored : List Finding) (share : Share) (b : Bool) → Shows xs c → share ≡ share_of c.id c.is_now site
    → b ≡ differs (about c.id stored) (entries_by c.id site share) → b ≡ true → true ≡ differs stored (findings_of xs site)
marked_at_once xs c site stored share b s is told marked =
    sym (other_entries c.id c.is_now xs site stored s.rises s.is_there (sym (ap (λ h. differs (about c.id stored) (entries_by c.id site h)) is) ∙ sym told ∙ marked))

-- the airfields after a change are those that it leads to
rises_replaced : (id : List ℕ) (o : Option Airfield) (xs : List Airfield) → Rises name_cmp id_of xs → Rises name_cmp id_of (list_with_replaced id o xs)
rises_replaced id None xs r = Rises-removed name_cmp nat_list_cmp_total id_of id xs r
rises_replaced id (Some v) xs r = Rises-put name_cmp nat_list_cmp_total id_of v xs r

pub shown : (before after : List Airfield) (c : AirfieldChange) → Leads before after c → Shows after c
shown before after c l = record { rises = subst (Rises name_cmp id_of) (sym l.put) (rises_replaced c.id c.is_now before l.rises); is_there = l.is_there }
