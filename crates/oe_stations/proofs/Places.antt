-- Two findings have one place exactly where they are under one rule and of one surface.
use Rattle.std.proofs.Common.{◌≡◌, ◌↔◌, ◌∙◌, ℕ, List, Option, Some, None, cond, ap, sym, refl, subst}
use Rattle.std.specs.Prelude.{nat_eq}
use Rattle.std.specs.Cmp.{IsTotalOrder}
use Rattle.std.specs.Option.{option_cmp}
use Rattle.std.specs.Ordering.{nat_cmp, ordering_then}
use Rattle.std.specs.declared.cmp.Ordering.{Ordering}
use Rattle.std.specs.declared.cmp.Ordering.TheVariants.{Less, Equal, Greater}
use Rattle.std.proofs.lemmas.Cmp.{ranked, tied_itself}
use Rattle.std.proofs.lemmas.Map.Lookups.{exact_bytes}
use Rattle.finding_lists.specs.declared.finding.Finding.{Finding}
use Rattle.finding_lists.specs.declared.finding.Rule.{Rule}
use Rattle.finding_lists.specs.declared.finding.Rule.TheVariants as rules
use Rattle.finding_lists.specs.declared.finding.SurfaceKey.{SurfaceKey}
use Rattle.oe_stations.specs.Order.{part_of, place_of, rank_of}
use Rattle.oe_stations.specs.Ways.{AreOfOne}
use Rattle.oe_stations.specs.declared.place.Place.{Place}
use Rattle.oe_stations.specs.contracts.place.PlaceOrd.TheImpl as places
use Rattle.oe_stations.specs.contracts.place.PlaceOrd.TheImpl.Laws as laws

-- ---- each rule has its own number
abbrev rule_of : ℕ → Rule
rule_of n =
    cond (nat_eq n 0) rules.H499 (cond (nat_eq n 1) rules.Near (cond (nat_eq n 2) rules.Horizontal (cond (nat_eq n 3) rules.Conical (cond (nat_eq n 4) rules.Primary
    (cond (nat_eq n 5) rules.Approach (cond (nat_eq n 6) rules.Transition (cond (nat_eq n 7) rules.PadPrimary (cond (nat_eq n 8) rules.PadApproach
    (cond (nat_eq n 9) rules.PadTransition (cond (nat_eq n 10) rules.NoticeA (cond (nat_eq n 11) rules.NoticeB1 (cond (nat_eq n 12) rules.NoticeB2
    (cond (nat_eq n 13) rules.NoticeB3 (cond (nat_eq n 14) rules.NoticeD (cond (nat_eq n 15) rules.WayA (cond (nat_eq n 16) rules.WayB1 (cond (nat_eq n 17) rules.WayB2 rules.WayB3)))))))))))))))))

back : (r : Rule) → rule_of (rank_of r) ≡ r
back rules.H499 = refl
back rules.Near = refl
back rules.Horizontal = refl
back rules.Conical = refl
back rules.Primary = refl
back rules.Approach = refl
back rules.Transition = refl
back rules.PadPrimary = refl
back rules.PadApproach = refl
back rules.PadTransition = refl
back rules.NoticeA = refl
back rules.NoticeB1 = refl
back rules.NoticeB2 = refl
back rules.NoticeB3 = refl
back rules.NoticeD = refl
back rules.WayA = refl
back rules.WayB1 = refl
back rules.WayB2 = refl
back rules.WayB3 = refl

same_rule : (r s : Rule) → rank_of r ≡ rank_of s → r ≡ s
same_rule r s e = sym (back r) ∙ ap rule_of e ∙ back s

same_key : (a b : SurfaceKey) → a.field ≡ b.field → a.runway ≡ b.runway → a.part ≡ b.part → a ≡ b
same_key a b field runway part =
    ap (λ (x : Option (List ℕ)). record { field = x; runway = a.runway; part = a.part }) field
    ∙ ap (λ (x : Option (List ℕ)). record { field = b.field; runway = x; part = a.part }) runway
    ∙ ap (λ (x : ℕ). record { field = b.field; runway = b.runway; part = x }) part

-- ---- orders one after another
then_equal : (o p : Ordering) → ordering_then o p ≡ Equal → (o ≡ Equal) × (p ≡ Equal)
then_equal Less p h = absurd (cc)
then_equal Equal p h = (refl, h)
then_equal Greater p h = absurd (cc)

same_number : (a b : ℕ) → nat_cmp a b ≡ Equal → a ≡ b
same_number a b h = ranked a b Equal (sym h)

same_name : (o p : Option (List ℕ)) (cmp : List ℕ → List ℕ → Ordering) → ((x y : List ℕ) → cmp x y ≡ Equal → x ≡ y) → option_cmp cmp o p ≡ Equal → o ≡ p
same_name None None cmp exact h = refl
same_name None (Some y) cmp exact h = absurd (cc)
same_name (Some x) None cmp exact h = absurd (cc)
same_name (Some x) (Some y) cmp exact h = ap Some (exact x y h)

pub total : IsTotalOrder places.ghosts.cmp
total = laws.total-law

pub of_one : (f g : Finding) → places.ghosts.cmp (place_of f) (place_of g) ≡ Equal → AreOfOne f g
of_one f g h =
    let p = then_equal _ _ h in
    let field = then_equal _ _ p.1 in
    let runway = then_equal _ _ field.1 in
    let rank = then_equal _ _ runway.1 in (
      same_rule f.rule g.rule (same_number (rank_of f.rule) (rank_of g.rule) rank.0),
      same_key f.key g.key (same_name f.key.field g.key.field _ exact_bytes field.0) (same_name f.key.runway g.key.runway _ exact_bytes runway.0) (same_number f.key.part g.key.part rank.1),
    )

abbrev pub place_by : Rule → SurfaceKey → Place
place_by rule key = record { part = part_of rule; field = key.field; runway = key.runway; rank = rank_of rule; side = key.part }

pub one_place : (f g : Finding) → AreOfOne f g → place_of f ≡ place_of g
one_place f g h = ap (λ (r : Rule). place_by r f.key) h.0 ∙ ap (place_by g.rule) h.1

pub tied : (f g : Finding) → AreOfOne f g → places.ghosts.cmp (place_of f) (place_of g) ≡ Equal
tied f g h = subst (λ (p : Place). places.ghosts.cmp (place_of f) p ≡ Equal) (one_place f g h) (tied_itself total (place_of f))

pub one_place_law : (f g : Finding) → places.ghosts.cmp (place_of f) (place_of g) ≡ Equal ↔ AreOfOne f g
one_place_law f g = (of_one f g, tied f g)
