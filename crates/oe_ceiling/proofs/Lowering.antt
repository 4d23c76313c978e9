-- A lower top exceeds no more than a higher one: over a surface whose tops above it go on upward.
use Rattle.std.proofs.Common.{◌≡◌, ℕ, ℤ, pos, ◌*ℤ◌, ◌-ℤ◌, ◌≤ℤ◌, ◌<ℤ◌, arith, refl, inl, inr, ◌↔◌, Option, Some, None, Bool, true, List, [], ◌∷◌, ◌++◌}
use Rattle.std.specs.Prelude.{IsTrue, int_le, int_lt}
use Rattle.std.specs.List.{flat_map}
use Rattle.std.proofs.lemmas.Bool.{cases_Bool}
use Rattle.std.proofs.lemmas.Int.{ints}
use Rattle.grid_exact.specs.Excess.{Surface, excess_of, flat_excess_of, is_below_root, most_excess}
use Rattle.grid_exact.specs.Laws.{mul-le_left, mul-le_right, signed_square_le}
use Rattle.grid_exact.specs.Root.{signed_square, AboveRoot, BelowRoot}
use Rattle.grid_exact.proofs.ExcessLemmas.{Tests}
use Rattle.grid_exact.proofs.TestFacts.{below_in, below_out, lt_in, lt_out}
use Rattle.airfield_findings.specs.Entries.{entries}
use Rattle.finding_lists.specs.declared.finding.Rule.{Rule}
use Rattle.finding_lists.specs.declared.finding.SurfaceKey.{SurfaceKey}

-- each top above one that passes passes
abbrev pub Rises : (ℤ → Bool) → Type 0
Rises is_above = (y z : ℤ) → y ≤ℤ z → is_above y ≡ true → is_above z ≡ true

-- where the higher top exceeds nothing, the lower one does not
abbrev pub NoneBelow : (ℤ → Option ℕ) → Type 0
NoneBelow excess = (y z : ℤ) → y ≤ℤ z → excess z ≡ None → excess y ≡ None

pub none_below : (covers : Bool) (is_above is_at : ℤ → Bool) (n : ℕ) → Rises is_above → NoneBelow (excess_of covers is_above is_at n)
none_below covers is_above is_at n rises y z l h =
    elim (cases_Bool covers) [
      | inl c ↦ elim (cases_Bool (is_above y)) [
        | inl a ↦ (let b : is_above z ≡ true = rises y z l a in absurd (let k = rw (c, b) at h in cc))
        | inr a ↦ rw (c, a) refl
      ]
      | inr c ↦ rw c refl
    ]

-- the same by what the tests decide
pub tests_below : {s : Surface} {covers : Bool} {is_above is_at : ℤ → Bool} (n : ℕ) → Tests s covers is_above is_at → ((y z : ℤ) → y ≤ℤ z → s.Above y → s.Above z) →
    NoneBelow (excess_of covers is_above is_at n)
tests_below {covers = covers} {is_above = is_above} {is_at = is_at} n tests rises =
    none_below covers is_above is_at n (λ y z l h. tests.above_out z (rises y z l (tests.above_in y h)))

-- ---- one height
pub flat_rises : (height : ℤ) → Rises (λ z. int_lt height z)
flat_rises height y z l h = lt_out height z (let k : height <ℤ y = lt_in height y h in omega (arith, ints, l, k))

pub flat_below : {covers : Bool} (C : Type 0) (height : ℤ) → (IsTrue covers ↔ C) → NoneBelow (flat_excess_of covers height)
flat_below {covers = covers} C height test = none_below covers (λ z. int_lt height z) (λ z. int_le height z) most_excess (flat_rises height)

-- ---- heights that follow from one comparison with a root
pub BelowRoot_more : (a b b' : ℤ) (n : ℕ) → b ≤ℤ b' → BelowRoot a b n → BelowRoot a b' n
BelowRoot_more a b b' n h k = record { below = omega (arith, ints, k.below, mul-le_right (signed_square b) (signed_square b') n (signed_square_le b b' h)) }

pub BelowRoot_less : (a a' b : ℤ) (n : ℕ) → a' ≤ℤ a → BelowRoot a b n → BelowRoot a' b n
BelowRoot_less a a' b n h k = record { below = omega (arith, ints, k.below, signed_square_le a' a h) }

pub AboveRoot_more : (a a' b : ℤ) (n : ℕ) → a ≤ℤ a' → AboveRoot a b n → AboveRoot a' b n
AboveRoot_more a a' b n h k = record { above = omega (arith, ints, k.above, signed_square_le a a' h) }

pub root_rises : (a k c : ℤ) (n : ℕ) → pos 0 <ℤ k → Rises (λ z. is_below_root a (k *ℤ z -ℤ c) n)
root_rises a k c n p y z l h =
    let m : (k *ℤ y) ≤ℤ (k *ℤ z) = mul-le_left k y z p l in
    let d : (k *ℤ y -ℤ c) ≤ℤ (k *ℤ z -ℤ c) = omega (arith, ints, m) in
    below_out a (k *ℤ z -ℤ c) n (BelowRoot_more a (k *ℤ y -ℤ c) (k *ℤ z -ℤ c) n d (below_in a (k *ℤ y -ℤ c) n h))

-- ---- entries, and lists of them
pub no_excess : (rule : Rule) (key : SurfaceKey) (x : Option ℕ) → entries rule key x ≡ [] → x ≡ None
no_excess rule key None h = refl
no_excess rule key (Some e) h = absurd (cc)

no_entry : (rule : Rule) (key : SurfaceKey) (x : Option ℕ) → x ≡ None → entries rule key x ≡ []
no_entry rule key x h = rw h refl

-- no entry of the lower one, where there is none of the higher one
pub entry_below : (rule : Rule) (key : SurfaceKey) (lower higher : Option ℕ) → (higher ≡ None → lower ≡ None) → entries rule key higher ≡ [] → entries rule key lower ≡ []
entry_below rule key lower higher f h = no_entry rule key lower (f (no_excess rule key higher h))

pub no_first : {A : Type 0} (xs ys : List A) → xs ++ ys ≡ [] → xs ≡ []
no_first [] ys h = refl
no_first (x ∷ xs) ys h = absurd (cc)

pub no_second : {A : Type 0} (xs ys : List A) → xs ++ ys ≡ [] → ys ≡ []
no_second [] ys h = h
no_second (x ∷ xs) ys h = absurd (cc)

pub both_below : {A : Type 0} (xs ys xs' ys' : List A) → (xs' ≡ [] → xs ≡ []) → (ys' ≡ [] → ys ≡ []) → xs' ++ ys' ≡ [] → xs ++ ys ≡ []
both_below xs ys xs' ys' f g h =
    let a : xs ≡ [] = f (no_first xs' ys' h) in
    let b : ys ≡ [] = g (no_second xs' ys' h) in
    rw (a, b) refl

pub all_below : {X A : Type 0} (f f' : X → List A) → ((x : X) → f' x ≡ [] → f x ≡ []) → (xs : List X) → flat_map f' xs ≡ [] → flat_map f xs ≡ []
all_below f f' below [] h = refl
all_below f f' below (x ∷ xs) h = both_below (f x) (flat_map f xs) (f' x) (flat_map f' xs) (below x) (all_below f f' below xs) h
