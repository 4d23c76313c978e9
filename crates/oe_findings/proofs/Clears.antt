-- Whether there is any entry: one of no surface, or one of an airfield over the point.
use Rattle.std.proofs.Common.{◌≡◌, ◌↔◌, ℕ, ◌-◌, ◌^◌, Bool, true, false, ◌&&◌, ◌||◌, true≢false, List, [], ◌∷◌, ◌++◌, Option, Some, None, map, not, min, length, nat_lt, arith, refl, sym, ap, ◌∙◌, inl, inr, if◌then◌else◌}
use Rattle.std.specs.Prelude.{IsTrue, is_some, is_none, option_and_then}
use Rattle.std.specs.List.{filter, flat_map, list_any}
use Rattle.std.specs.List.Sorted.{IsPermutation}
use Rattle.std.specs.Option.{option_map, option_map_or, option_to_list}
use Rattle.std.proofs.lemmas.Bool.{cases_Bool}
use Rattle.std.proofs.lemmas.List.Folds.{list_any-append}
use Rattle.std.proofs.lemmas.List.Sorted.{list_any-IsPermutation}
use Rattle.grid_exact.specs.Area.{has_point}
use Rattle.grid_exact.specs.declared.point.Point.{Point}
use Rattle.airfields.specs.Airfields.{category_of}
use Rattle.airfields.specs.Categories.{is_described}
use Rattle.airfields.specs.Sites.{Site}
use Rattle.airfields.specs.declared.airfield.Airfield.{Airfield}
use Rattle.airport_register.specs.Amendments.{airfield_at}
use Rattle.height_rules.specs.AboveGround.{notice_excess, height_excess}
use Rattle.notice_slopes.specs.Exemptions.{exemption_of}
use Rattle.notice_slopes.specs.OnAirfields.{is_on_described}
use Rattle.airfield_findings.specs.Entries.{entries, no_key, field_key, of_airfield, slope_entries}
use Rattle.airfield_findings.specs.Prepared.{airfield_of}
use Rattle.airfield_findings.specs.Reaches.{HasLevels}
use Rattle.airfield_findings.specs.declared.prepared.Prepared.{Prepared}
use Rattle.finding_lists.specs.declared.finding.Finding.{Finding}
use Rattle.finding_lists.specs.declared.finding.SurfaceKey.{SurfaceKey}
use Rattle.finding_lists.specs.declared.finding.Rule.{Rule}
use Rattle.finding_lists.specs.declared.finding.Rule.TheVariants as rules
use Rattle.oe_findings.specs.List.{rule_a, on_airfield, notices_of, notices_if_due, findings_of}
use Rattle.oe_findings.specs.Screenings.{gives_entry, has_entry, has_lone_entry}
use Rattle.oe_findings.proofs.Sights.{no_slopes, no_standards}

-- ---- one list
two_parts : (xs ys : List Finding) → has_entry (xs ++ ys) ≡ (has_entry xs || has_entry ys)
two_parts [] ys = refl
two_parts (x ∷ xs) ys = refl

entry_if : (b : Bool) (xs : List Finding) → has_entry (if b then xs else []) ≡ (b && has_entry xs)
entry_if true xs = refl
entry_if false xs = refl

entry_by : (rule : Rule) (key : SurfaceKey) (x : Option ℕ) → has_entry (entries rule key x) ≡ is_some x
entry_by rule key None = refl
entry_by rule key (Some n) = refl

one_if : (b : Bool) (x : Finding) → has_entry (if b then x ∷ [] else []) ≡ b
one_if true x = refl
one_if false x = refl

on_of : (airfields : List Airfield) (o : Option (List ℕ)) →
    has_entry (if option_map_or (λ f. is_described (category_of f)) (option_and_then (airfield_at airfields) o) false then option_to_list (option_map (λ id. record { rule = rules.NoticeD; key = field_key id 0; excess = 0 }) o) else []) ≡
    option_map_or (λ f. is_described (category_of f)) (option_and_then (airfield_at airfields) o) false
on_of airfields None = refl
on_of airfields (Some id) = one_if (option_map_or (λ f. is_described (category_of f)) (airfield_at airfields id) false) (record { rule = rules.NoticeD; key = field_key id 0; excess = 0 })

-- a verdict counts an entry where there is one
pub counted : (list : List Finding) → nat_lt 0 (min (length list) (2 ^ 32 - 1)) ≡ has_entry list
counted [] = refl
counted (f ∷ fs) = grind (arith)

-- ---- all airfields
next_one : (d a s l t : Bool) → (((d && a) || s) || ((d && l) || t)) ≡ ((d && (a || l)) || (s || t))
next_one true true s l t = refl
next_one true false true true t = refl
next_one true false true false t = refl
next_one true false false l t = refl
next_one false a s l t = refl

by_airfields : (site : Site) (due : Bool) (fs : List Airfield) → list_any (gives_entry site due) fs ≡ ((due && has_entry (flat_map (slope_entries site) fs)) || has_entry (flat_map (of_airfield site) fs))
by_airfields site true [] = refl
by_airfields site false [] = refl
by_airfields site due (f ∷ fs) =
    let slopes = flat_map (slope_entries site) fs in
    let standards = flat_map (of_airfield site) fs in
    ap (λ (b : Bool). gives_entry site due f || b) (by_airfields site due fs)
    ∙ next_one due (has_entry (slope_entries site f)) (has_entry (of_airfield site f)) (has_entry slopes) (has_entry standards)
    ∙ ap (λ (b : Bool). (due && b) || (has_entry (of_airfield site f) || has_entry standards)) (sym (two_parts (slope_entries site f) slopes))
    ∙ ap (λ (b : Bool). (due && has_entry (slope_entries site f ++ slopes)) || b) (sym (two_parts (of_airfield site f) standards))

in_order : (h s d n l o : Bool) → ((h || s) || (d && ((n || l) || o))) ≡ ((h || (d && (n || o))) || ((d && l) || s))
in_order true s d n l o = refl
in_order false true true true l o = refl
in_order false true true false true true = refl
in_order false true true false true false = refl
in_order false true true false false true = refl
in_order false true true false false false = refl
in_order false true false n l o = refl
in_order false false true true l o = refl
in_order false false true false true true = refl
in_order false false true false true false = refl
in_order false false true false false true = refl
in_order false false true false false false = refl
in_order false false false n l o = refl

-- the list has an entry where there is one of no surface, or an airfield gives one
whole : (airfields : List Airfield) (site : Site) (due : Bool) → due ≡ is_none (exemption_of site) →
    has_entry (findings_of airfields site) ≡ (has_lone_entry airfields site due || list_any (gives_entry site due) airfields)
whole airfields site due e =
    let first = entries rules.H499 no_key (height_excess site) in
    let standards = flat_map (of_airfield site) airfields in
    let notice = entries (rule_a site) no_key (notice_excess site) in
    let slopes = flat_map (slope_entries site) airfields in
    let notices : has_entry (notices_of airfields site) ≡ ((is_some (notice_excess site) || has_entry slopes) || is_on_described airfields site) =
    two_parts (notice ++ slopes) (on_airfield airfields site) ∙ ap (λ (b : Bool). b || has_entry (on_airfield airfields site)) (two_parts notice slopes ∙ ap (λ (b : Bool). b || has_entry slopes) (entry_by (rule_a site) no_key (notice_excess site)))
    ∙ ap (λ (b : Bool). (is_some (notice_excess site) || has_entry slopes) || b) (on_of airfields site.on) in
    let if_due : has_entry (notices_if_due airfields site) ≡ (due && ((is_some (notice_excess site) || has_entry slopes) || is_on_described airfields site)) =
    entry_if (is_none (exemption_of site)) (notices_of airfields site) ∙ ap (λ (b : Bool). b && has_entry (notices_of airfields site)) (sym e) ∙ ap (λ (b : Bool). due && b) notices in
    two_parts (first ++ standards) (notices_if_due airfields site) ∙ ap (λ (b : Bool). b || has_entry (notices_if_due airfields site)) (two_parts first standards ∙ ap (λ (b : Bool). b || has_entry standards) (entry_by rules.H499 no_key (height_excess site)))
    ∙ ap (λ (b : Bool). (is_some (height_excess site) || has_entry standards) || b) if_due
    ∙ in_order (is_some (height_excess site)) (has_entry standards) due (is_some (notice_excess site)) (has_entry slopes) (is_on_described airfields site)
    ∙ ap (λ (b : Bool). has_lone_entry airfields site due || b) (sym (by_airfields site due airfields))

no_entry : (list : List Finding) → has_entry list ≡ false → list ≡ []
no_entry [] h = refl
no_entry (f ∷ fs) h = absurd (true≢false h)

-- notice is due where nothing exempts
pub due_by : {A : Type 0} (o : Option A) (due : Bool) → is_some o ≡ not due → due ≡ is_none o
due_by None true h = refl
due_by None false h = absurd (true≢false (sym h))
due_by (Some x) true h = absurd (true≢false h)
due_by (Some x) false h = refl

-- with neither there is no finding, and else there is one
pub clear_is : (airfields : List Airfield) (site : Site) (due : Bool) (found : Bool) → due ≡ is_none (exemption_of site) → (has_lone_entry airfields site due || list_any (gives_entry site due) airfields) ≡ found
    → IsTrue (not found) ↔ findings_of airfields site ≡ []
clear_is airfields site due false e h = (λ t. no_entry (findings_of airfields site) (whole airfields site due e ∙ h), λ n. refl)
clear_is airfields site due true e h = (λ t. absurd (true≢false (sym t)), λ n. absurd (true≢false (sym h ∙ sym (whole airfields site due e) ∙ ap has_entry n)))

-- ---- the airfields over the point
none_given : (site : Site) (due : Bool) (f : Airfield) → of_airfield site f ≡ [] → slope_entries site f ≡ [] → gives_entry site due f ≡ false
none_given site true f a b = rw (a, b) refl
none_given site false f a b = rw a refl

over : (g : Airfield → Bool) (has : Prepared → Bool) (all : List Prepared) → ((p : Prepared) → has p ≡ false → g (airfield_of p) ≡ false) → list_any (λ p. g (airfield_of p)) (filter has all) ≡ list_any g (map airfield_of all)
over g has [] nothing = refl
over g has (p ∷ ps) nothing =
    elim (cases_Bool (has p)) [
      | inl y ↦ rw y (ap (λ (b : Bool). g (airfield_of p) || b) (over g has ps nothing))
      | inr n ↦ (let none = nothing p n in rw (n, none) (over g has ps nothing))
    ]

-- in whatever order they come, one of them gives an entry where any airfield does
pub given_all : (site : Site) (due : Bool) (all ys : List Prepared) (x : Point) → x ≡ site.at → HasLevels site → IsPermutation (filter (λ p. has_point p.plot.area x) all) ys
    → list_any (λ p. gives_entry site due (airfield_of p)) ys ≡ list_any (gives_entry site due) (map airfield_of all)
given_all site due all ys x at levels same =
    let has : Prepared → Bool = λ p. has_point p.plot.area x in
    sym (list_any-IsPermutation (λ p. gives_entry site due (airfield_of p)) (filter has all) ys same)
    ∙ over (gives_entry site due) has all (λ p n. none_given site due (airfield_of p) (no_standards site x at levels p n) (no_slopes site x at levels p n))

-- ---- one airfield more
or_false : (b : Bool) → (b || false) ≡ b
or_false true = refl
or_false false = refl

one_more : {X : Type 0} (g : X → Bool) (items : List X) (p : X) → list_any g (items ++ p ∷ []) ≡ (list_any g items || g p)
one_more g items p = list_any-append g items (p ∷ []) ∙ ap (λ (b : Bool). list_any g items || b) (or_false (g p))

-- none before it told
pub any_more : {X : Type 0} (g : X → Bool) (items : List X) (p : X) (was found : Bool) → was ≡ list_any g items → was ≡ false → found ≡ g p → found ≡ list_any g (items ++ p ∷ [])
any_more g items p was found e n f = f ∙ sym (one_more g items p ∙ ap (λ (b : Bool). b || g p) (sym e ∙ n))

-- one before it told
pub any_still : {X : Type 0} (g : X → Bool) (items : List X) (p : X) (was : Bool) → was ≡ list_any g items → was ≡ true → was ≡ list_any g (items ++ p ∷ [])
any_still g items p was e y = y ∙ sym (one_more g items p ∙ ap (λ (b : Bool). b || g p) (sym e ∙ y))
