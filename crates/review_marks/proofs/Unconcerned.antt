-- Where a change of an airfield does not concern a structure, the structure's list of findings is as before.
use Rattle.std.proofs.Common.{◌≡◌, ◌≢◌, ℕ, Bool, true, false, not, ◌&&◌, ◌||◌, cond, List, [], ◌∷◌, ◌++◌, Option, Some, None, refl, sym, ap, ◌∙◌, get_or, if◌then◌else◌, nat_eq}
use Rattle.std.proofs.lemmas.Cmp.{nat_list_cmp_total}
use Rattle.std.specs.List.{flat_map}
use Rattle.std.specs.Option.{option_map, option_to_list}
use Rattle.std.specs.Prelude.{IsTrue, ◌↔◌}
use Rattle.std.specs.Ordering.{is_eq}
use Rattle.std.specs.Cmp.Lexicographic.{pointwise}
use Rattle.std.specs.Bool.{Decides}
use Rattle.std.specs.declared.cmp.Ordering.{Ordering}
use Rattle.std.specs.declared.cmp.Ordering.TheVariants.{Less, Equal, Greater}
use Rattle.std.specs.Cmp.Lexicographic.{bytes_decides}
use Rattle.std.proofs.lemmas.Slice.Eq.{slice_eq-Decides}
use Rattle.ordered_list.specs.Ordered.{Rises, put_by, removed_by, by_order}
use Rattle.ordered_list.proofs.Rising.{missing, missing_below, found_key}
use Rattle.ordered_list.proofs.Finding.{found_by-put_other, found_by-removed_other}
use Rattle.ordered_list.proofs.Orders.{alike}
use Rattle.airfields.specs.Names.{name_cmp}
use Rattle.airfields.specs.Airfields.{id_of}
use Rattle.airfields.specs.Sites.{Site}
use Rattle.airfields.specs.declared.airfield.Airfield.{Airfield}
use Rattle.airport_register.specs.Amendments.{airfield_at, list_with_replaced}
use Rattle.airport_register.proofs.Rules.{same_name}
use Rattle.height_rules.specs.AboveGround.{notice_excess, height_excess}
use Rattle.notice_slopes.specs.OnAirfields.{is_on_described}
use Rattle.airfield_findings.specs.Entries.{entries, no_key, field_key, of_airfield, slope_entries}
use Rattle.finding_lists.specs.declared.finding.Finding.{Finding}
use Rattle.finding_lists.specs.declared.finding.Rule.TheVariants as rules
use Rattle.finding_lists.specs.contracts.finding.FindingPartialEq.TheImpl.{eq-value as finding_eq}
use Rattle.finding_lists.proofs.SameFindings.{same_finding}
use Rattle.oe_findings.specs.List.{rule_a, on_airfield, notices_of, notices_if_due, findings_of}
use Rattle.review_marks.specs.Books.{differs}
use Rattle.review_marks.specs.Shares.{AirfieldChange, concerns, differ_shares, findings_of_field, is_described_field, is_due, differ_bools, names, share_of}
use Rattle.review_marks.specs.Turns.{Leads}
use Rattle.review_marks.specs.declared.share.Share.{Share}

-- ---- entries of all airfields

module _ (f : Airfield → List Finding) where
  put_step : (v y : Airfield) (ys : List Airfield) (o : Ordering) → name_cmp (id_of v) (id_of y) ≡ o → Rises name_cmp id_of (y ∷ ys)
      → findings_of_field f (cond (is_eq o) (Some y) (airfield_at ys (id_of v))) ≡ f v → (findings_of_field f (airfield_at ys (id_of v)) ≡ f v → flat_map f ys ≡ flat_map f (put_by name_cmp id_of v ys))
      → f y ++ flat_map f ys ≡ flat_map f (by_order o (v ∷ y ∷ ys) (v ∷ ys) (y ∷ put_by name_cmp id_of v ys))
  put_step v y ys Less e r same rest =
      let none : airfield_at (y ∷ ys) (id_of v) ≡ None = missing_below name_cmp nat_list_cmp_total id_of (id_of v) y ys e r in
      let later : airfield_at ys (id_of v) ≡ None = missing name_cmp nat_list_cmp_total id_of (id_of v) ys (λ j d l t. (let a : name_cmp (id_of v) (id_of (get_or ys j d)) ≡ Less = nat_list_cmp_total.trans (id_of v) (id_of y) (id_of (get_or ys j d)) e (r.0 j d l) in cc)) in
      let nothing : f v ≡ [] = sym same ∙ ap (findings_of_field f) later in
      ap (λ zs. zs ++ (f y ++ flat_map f ys)) (sym nothing)
  put_step v y ys Equal e r same rest = ap (λ zs. zs ++ flat_map f ys) same
  put_step v y ys Greater e r same rest = ap (λ zs. f y ++ zs) (rest same)

  put_given : (v : Airfield) (xs : List Airfield) → Rises name_cmp id_of xs → findings_of_field f (airfield_at xs (id_of v)) ≡ f v → flat_map f xs ≡ flat_map f (put_by name_cmp id_of v xs)
  put_given v [] r same = ap (λ zs. zs ++ []) same
  put_given v (y ∷ ys) r same = put_step v y ys (name_cmp (id_of v) (id_of y)) refl r same (put_given v ys r.1)

  removed_step : (k : List ℕ) (y : Airfield) (ys : List Airfield) (o : Ordering) → name_cmp k (id_of y) ≡ o → Rises name_cmp id_of (y ∷ ys)
      → findings_of_field f (cond (is_eq o) (Some y) (airfield_at ys k)) ≡ [] → (findings_of_field f (airfield_at ys k) ≡ [] → flat_map f ys ≡ flat_map f (removed_by name_cmp id_of k ys))
      → f y ++ flat_map f ys ≡ flat_map f (cond (is_eq o) (removed_by name_cmp id_of k ys) (y ∷ removed_by name_cmp id_of k ys))
  removed_step k y ys Less e r nothing rest = ap (λ zs. f y ++ zs) (rest nothing)
  removed_step k y ys Equal e r nothing rest =
      let later : airfield_at ys k ≡ None = missing name_cmp nat_list_cmp_total id_of k ys (λ j d l t. (let a : name_cmp k (id_of (get_or ys j d)) ≡ name_cmp (id_of y) (id_of (get_or ys j d)) = alike name_cmp nat_list_cmp_total k (id_of y) (id_of (get_or ys j d)) e in let b : name_cmp (id_of y) (id_of (get_or ys j d)) ≡ Less = r.0 j d l in cc)) in
      ap (λ zs. zs ++ flat_map f ys) nothing ∙ rest (ap (findings_of_field f) later)
  removed_step k y ys Greater e r nothing rest = ap (λ zs. f y ++ zs) (rest nothing)

  removed_given : (k : List ℕ) (xs : List Airfield) → Rises name_cmp id_of xs → findings_of_field f (airfield_at xs k) ≡ [] → flat_map f xs ≡ flat_map f (removed_by name_cmp id_of k xs)
  removed_given k [] r nothing = refl
  removed_given k (y ∷ ys) r nothing = removed_step k y ys (name_cmp k (id_of y)) refl r nothing (removed_given k ys r.1)

  -- the airfield of a name gives the same as another one that takes its place
  pub replaced_given : (id : List ℕ) (o : Option Airfield) (xs : List Airfield) → Rises name_cmp id_of xs → ((v : Airfield) → o ≡ Some v → id_of v ≡ id)
      → findings_of_field f (airfield_at xs id) ≡ findings_of_field f o → flat_map f xs ≡ flat_map f (list_with_replaced id o xs)
  replaced_given id None xs r named same = removed_given id xs r same
  replaced_given id (Some v) xs r named same = put_given v xs r (ap (λ k. findings_of_field f (airfield_at xs k)) (named v refl) ∙ same)

-- ---- construction on an airfield

elsewhere : (id : List ℕ) (o : Option Airfield) (xs : List Airfield) (k : List ℕ) → ((v : Airfield) → o ≡ Some v → id_of v ≡ id) → k ≢ id → airfield_at (list_with_replaced id o xs) k ≡ airfield_at xs k
elsewhere id None xs k named h = found_by-removed_other name_cmp nat_list_cmp_total id_of k id xs (λ e. h (same_name k id e))
elsewhere id (Some v) xs k named h = found_by-put_other name_cmp nat_list_cmp_total id_of k v xs (λ e. h (same_name k (id_of v) e ∙ named v refl))

-- ---- equal shares

not_false : (b : Bool) → not b ≡ false → b ≡ true
not_false true h = refl
not_false false h = absurd (cc (h))

or_parts : (a b : Bool) → (a || b) ≡ false → (a ≡ false) × (b ≡ false)
or_parts true b h = absurd (cc (h))
or_parts false b h = (refl, h)

same_bool : (a b : Bool) → differ_bools a b ≡ false → a ≡ b
same_bool true true h = refl
same_bool true false h = absurd (cc (h))
same_bool false true h = absurd (cc (h))
same_bool false false h = refl

-- a test that says whether two lists are one says whether they differ
pub differing_from : (a b : List Finding) (r : Bool) → (IsTrue r ↔ a ≡ b) → not r ≡ differs a b
differing_from a b r h = same r (pointwise finding_eq.it a b) h (slice_eq-Decides {E = finding_eq.it} same_finding a b (pointwise finding_eq.it a b) refl)
  where
    same : (r q : Bool) → (IsTrue r ↔ a ≡ b) → Decides q (a ≡ b) → not r ≡ not q
    same true true h d = refl
    same true false h d = absurd (cc (d.1 (h.0 refl)))
    same false true h d = absurd (cc (h.1 (d.0 refl)))
    same false false h d = refl

pub same_lists : (a b : List Finding) → a ≡ b → differs a b ≡ false
same_lists a b e = ap not ((slice_eq-Decides {E = finding_eq.it} same_finding a b (pointwise finding_eq.it a b) refl).1 e)

pub not_differing : (a b : List Finding) → differs a b ≡ false → a ≡ b
not_differing a b h = (slice_eq-Decides {E = finding_eq.it} same_finding a b (pointwise finding_eq.it a b) refl).0 (not_false _ h)

pub record AreSame (a b : Share) : Type 0 where
  pub standards : a.standards ≡ b.standards
  pub slope : a.slope ≡ b.slope
  pub is_on : a.is_on ≡ b.is_on

pub same_shares : (a b : Share) → differ_shares a b ≡ false → AreSame a b
same_shares a b h =
    let p = or_parts (differs a.standards b.standards || differs a.slope b.slope) (differ_bools a.is_on b.is_on) h in
    let q = or_parts (differs a.standards b.standards) (differs a.slope b.slope) p.0 in
    record { standards = not_differing a.standards b.standards q.0; slope = not_differing a.slope b.slope q.1; is_on = same_bool a.is_on b.is_on p.1 }

-- ---- the list

named_by : (before after : List Airfield) (c : AirfieldChange) → Leads before after c → (v : Airfield) → c.is_now ≡ Some v → id_of v ≡ c.id
named_by before after c l v e = sym (same_name c.id (id_of v) (found_key name_cmp nat_list_cmp_total id_of c.id v after (sym l.is_there ∙ e)))

on_by : (k id : List ℕ) (before after : List Airfield) (c : AirfieldChange) → Leads before after c → c.id ≡ id → (b : Bool) → pointwise nat_eq id k ≡ b
    → (b && is_described_field c.was) ≡ (b && is_described_field c.is_now) → is_described_field (airfield_at before k) ≡ is_described_field (airfield_at after k)
on_by k id before after c l named true e same =
    let is : id ≡ k = (bytes_decides id k).0 e in
    let at : c.id ≡ k = named ∙ is in
    ap (λ j. is_described_field (airfield_at before j)) (sym at) ∙ ap is_described_field (sym l.was_there) ∙ same ∙ ap is_described_field l.is_there ∙ ap (λ j. is_described_field (airfield_at after j)) at
on_by k id before after c l named false e same =
    let other : k ≢ c.id = λ q. (let t : pointwise nat_eq id k ≡ true = (bytes_decides id k).1 (sym named ∙ sym q) in cc (t, e)) in
    ap is_described_field (sym (elsewhere c.id c.is_now before k (named_by before after c l) other)) ∙ ap (λ xs. is_described_field (airfield_at xs k)) (sym l.put)

on_described : (before after : List Airfield) (c : AirfieldChange) (site : Site) (on : Option (List ℕ)) → Leads before after c → site.on ≡ on
    → (names c.id site && is_described_field c.was) ≡ (names c.id site && is_described_field c.is_now) → is_on_described before site ≡ is_on_described after site
on_described before after c site None l e same = rw e refl
on_described before after c site (Some k) l e same =
    let h : (pointwise nat_eq c.id k && is_described_field c.was) ≡ (pointwise nat_eq c.id k && is_described_field c.is_now) = rw e at same in
    rw e (on_by k c.id before after c l refl (pointwise nat_eq c.id k) refl h)

notices_by : (before after : List Airfield) (c : AirfieldChange) (site : Site) (due : Bool) → Leads before after c
    → (if due then findings_of_field (slope_entries site) c.was else []) ≡ (if due then findings_of_field (slope_entries site) c.is_now else [])
    → is_on_described before site ≡ is_on_described after site
    → (if due then notices_of before site else []) ≡ (if due then notices_of after site else [])
notices_by before after c site false l slope on = refl
notices_by before after c site true l slope on =
    let first = entries (rule_a site) no_key (notice_excess site) in
    let found : List Finding = option_to_list (option_map (λ id. record { rule = rules.NoticeD; key = field_key id 0; excess = 0 }) site.on) in
    let slopes : flat_map (slope_entries site) before ≡ flat_map (slope_entries site) after =
    replaced_given (slope_entries site) c.id c.is_now before l.rises (named_by before after c l) (ap (findings_of_field (slope_entries site)) (sym l.was_there) ∙ slope) ∙ ap (flat_map (slope_entries site)) (sym l.put) in
    ap (λ zs. first ++ zs ++ on_airfield before site) slopes ∙ ap (λ (b : Bool). first ++ flat_map (slope_entries site) after ++ (if b then found else [])) on

pub unconcerned : (before after : List Airfield) (c : AirfieldChange) (site : Site) → Leads before after c → concerns c site ≡ false → findings_of before site ≡ findings_of after site
unconcerned before after c site l h =
    let s = same_shares (share_of c.id c.was site) (share_of c.id c.is_now site) h in
    let first = entries rules.H499 no_key (height_excess site) in
    let standards : flat_map (of_airfield site) before ≡ flat_map (of_airfield site) after =
    replaced_given (of_airfield site) c.id c.is_now before l.rises (named_by before after c l) (ap (findings_of_field (of_airfield site)) (sym l.was_there) ∙ s.standards) ∙ ap (flat_map (of_airfield site)) (sym l.put) in
    let notices = notices_by before after c site (is_due site) l s.slope (on_described before after c site site.on l refl s.is_on) in
    ap (λ zs. first ++ zs ++ notices_if_due before site) standards ∙ ap (λ zs. first ++ flat_map (of_airfield site) after ++ zs) notices
