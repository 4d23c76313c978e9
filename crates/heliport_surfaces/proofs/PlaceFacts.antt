-- What covers a point, as the tests compute it, and excesses over heights that follow from one comparison with a root.
use Rattle.std.proofs.Common.{◌≡◌, ℕ, ℤ, pos, negsuc, neg_ℤ, ◌*◌, ◌-ℤ◌, ◌*ℤ◌, ◌≤◌, ◌^◌, ◌≤ℤ◌, ◌<ℤ◌, sym, subst, ◌∙◌, Option, Bool, true, unsigned_abs, arith, refl}
use Rattle.std.specs.Prelude.{IfSome, ⊤}
use Rattle.std.specs.Cmp.Derive.{both_true}
use Rattle.std.proofs.lemmas.Bool.{and_parts}
use Rattle.std.proofs.lemmas.Int.{ints}
use Rattle.grid_exact.specs.Excess.{IsExcess, flat_excess_of, flat_surface, is_at_least_root, is_at_most_root, root_surface}
use Rattle.grid_exact.specs.Level.{IsLevel}
use Rattle.grid_exact.specs.Root.{AtMostRoot}
use Rattle.grid_exact.specs.declared.level.TheConstants.{LEVEL_LIMIT}
use Rattle.grid_exact.proofs.ExcessLemmas.{flat_excess_of-is, root_excess-IsExcess, root_excess_of-is}
use Rattle.grid_exact.proofs.SlopeLemmas.{above_unreached, low_unreached}
use Rattle.grid_exact.proofs.TestFacts.{all_true, at_least_in, at_least_out, at_most_in, at_most_out, first_true, second_true, third_true}
use Rattle.heliport_surfaces.specs.Places.{Heights, IsCovered, IsCoveredBeside, Place, excess_over, is_covered, is_covered_beside, sloping_surface}
use Rattle.heliport_surfaces.specs.declared.rules.TheConstants.{TRANSITION_REACH}

pub covered_out : (p : Place) → IsCovered p → is_covered p ≡ true
unfolding is_covered
covered_out p h = both_true h.along (at_most_out p.out p.edge p.square h.not_outside)

pub covered_in : (p : Place) → is_covered p ≡ true → IsCovered p
unfolding is_covered
covered_in p h =
    let near = is_at_most_root p.out p.edge p.square in
    record { along = (and_parts p.is_along near h).0; not_outside = at_most_in p.out p.edge p.square (and_parts p.is_along near h).1 }

pub beside_out : (p : Place) → IsCoveredBeside p → is_covered_beside p ≡ true
unfolding is_covered_beside
beside_out p h =
    all_true p.is_along (is_at_least_root p.out p.edge p.square) (is_at_most_root p.aside TRANSITION_REACH p.square)
    h.along (at_least_out p.out p.edge p.square h.not_inside) (at_most_out p.aside TRANSITION_REACH p.square h.not_far)

pub beside_in : (p : Place) → is_covered_beside p ≡ true → IsCoveredBeside p
unfolding is_covered_beside
beside_in p h =
    let off = is_at_least_root p.out p.edge p.square in
    let near = is_at_most_root p.aside TRANSITION_REACH p.square in
    record {
      along = first_true p.is_along off near h;
      not_inside = at_least_in p.out p.edge p.square (second_true p.is_along off near h);
      not_far = at_most_in p.aside TRANSITION_REACH p.square (third_true p.is_along off near h);
    }

-- heights none of which is below the least level
pub record IsRising (h : Heights) : Type 0 where
  pub positive : pos 0 <ℤ h.a
  pub rises : pos 0 <ℤ h.k
  pub foot : unsigned_abs h.c ≤ unsigned_abs h.k * 2 ^ 25

low_level : (h : Heights) (z : ℤ) → IsRising h → AtMostRoot h.a (h.k *ℤ z -ℤ h.c) h.n → neg_ℤ LEVEL_LIMIT ≤ℤ z
low_level h z s r =
    omega (arith, ints, above_unreached h.a h.k h.c h.n (negsuc (2 ^ 25)) z s.rises (low_unreached h.a h.k h.c h.n s.positive s.rises s.foot) r)

-- what the function of tests computes is the excess
pub excess_over-IsExcess : (C : Type 0) (covers : Bool) (h : Heights) (top : ℤ) → IsLevel top → (C → covers ≡ true) → (covers ≡ true → C) → (C → IsRising h) →
    IsExcess (sloping_surface C h) top (excess_over covers h top)
excess_over-IsExcess C covers h top l out in_ s =
    root_excess-IsExcess C covers h.a h.k h.c h.n top l out in_ (λ p _ z r. low_level h z (s p) r)

-- a test of a place that answered true
tested : (is : Place → Bool) (p q : Place) (b : Bool) → p ≡ q → b ≡ is p → b ≡ true → is q ≡ true
tested is p q b e t h = let P : Place → Type 0 = λ r. is r ≡ true in subst P e (sym t ∙ h)

-- over a point that the surface covers, by a test b of its place, it computes what a slope of these heights answers
pub slope_excess : (is : Place → Bool) (p q : Place) (b : Bool) (h g : Heights) (top : ℤ) (r : Option ℕ) → p ≡ q → b ≡ is p → b ≡ true → h ≡ g → IfSome r (λ e. e ≤ 2 ^ 26) →
    IsExcess (root_surface ⊤ h.a h.k h.c h.n) top r → r ≡ excess_over (is q) g top
slope_excess is p q b h g top r ep eb t eh size k =
    let P : Heights → Type 0 = λ s. r ≡ excess_over true s top in
    rw (tested is p q b ep eb t) (subst P eh (sym (root_excess_of-is ⊤ true h.a h.k h.c h.n top r (λ _. refl) (λ _. tt) size k)))

-- and what is over one height
pub height_excess : (is : Place → Bool) (p q : Place) (b : Bool) (height top : ℤ) (r : Option ℕ) → p ≡ q → b ≡ is p → b ≡ true → IfSome r (λ e. e ≤ 2 ^ 26) →
    IsExcess (flat_surface ⊤ height) top r → r ≡ flat_excess_of (is q) height top
height_excess is p q b height top r ep eb t size k = rw (tested is p q b ep eb t) (sym (flat_excess_of-is ⊤ true height top r (λ _. refl) (λ _. tt) size k))

-- ---- the same parts
abbrev heights : ℤ → ℤ → ℤ → ℕ → Heights
heights a k c n = record { a = a; k = k; c = c; n = n }

pub same_heights : (a a' k k' c c' : ℤ) (n n' : ℕ) → a ≡ a' → k ≡ k' → c ≡ c' → n ≡ n' → heights a k c n ≡ heights a' k' c' n'
same_heights a a' k k' c c' n n' ea ek ec en = rw (ea, ek, ec, en)

abbrev place : Bool → ℤ → ℤ → ℤ → ℕ → Place
place b p e q n = record { is_along = b; out = p; edge = e; aside = q; square = n }

pub same_place : (b b' : Bool) (p p' e e' q q' : ℤ) (n n' : ℕ) → b ≡ b' → p ≡ p' → e ≡ e' → q ≡ q' → n ≡ n' → place b p e q n ≡ place b' p' e' q' n'
same_place b b' p p' e e' q q' n n' eb ep ee eq en = rw (eb, ep, ee, eq, en)
