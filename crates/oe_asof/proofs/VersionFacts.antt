-- Versions in rising order of number.
use Rattle.std.proofs.Common.{◌≡◌, ℕ, ◌<◌, ◌≤◌, ◌-◌, suc, List, [], ◌∷◌, ◌++◌, length, Option, Some, None, arith, sym, ap, subst, nat_eq, false, slice_get, IfSome}
use Rattle.std.specs.List.{All}
use Rattle.std.specs.Option.{option_eq, option_map}
use Rattle.std.specs.Ordering.{nat_cmp}
use Rattle.std.specs.Cmp.{ranked, nat_cmp_is}
use Rattle.std.specs.declared.cmp.Ordering.TheVariants.{Less}
use Rattle.std.proofs.lemmas.Bool.Decides.{nat_tests}
use Rattle.std.proofs.lemmas.List.Elements.{All-nil, All-cons, All-head, All-tail, All-append}
use Rattle.oe_asof.specs.Versions.{Version, AreRising, latest, number_of}

lower : (a b : ℕ) → nat_cmp a b ≡ Less → a < b
lower a b h = ranked a b Less (sym h)

pub latest_more : (x y : Version) (ys : List Version) → latest (x ∷ y ∷ ys) ≡ latest (y ∷ ys)
latest_more x y ys = let e : length (x ∷ y ∷ ys) - 1 ≡ suc (length (y ∷ ys) - 1) = omega arith in ap (λ i. slice_get (x ∷ y ∷ ys) i) e

-- a number that is at least the last one and another is above it
pub apart : (o : Option Version) (n : ℕ) → IfSome o (λ v. v.number ≤ n) → option_eq nat_eq (option_map number_of o) (Some n) ≡ false → IfSome o (λ v. v.number < n)
apart None n h d = tt
apart (Some v) n h d = grind (arith, nat_tests, h, d)

-- then it is above all
all_below : (n : ℕ) (vs : List Version) → AreRising vs → IfSome (latest vs) (λ v. v.number < n) → All (λ v. v.number < n) vs
all_below n [] r h = All-nil (λ v. v.number < n)
all_below n (x ∷ []) r h = All-cons (λ v. v.number < n) x [] h (All-nil (λ v. v.number < n))
all_below n (x ∷ y ∷ ys) r h =
    let more = all_below n (y ∷ ys) r.1 (subst (λ o. IfSome o (λ v. v.number < n)) (latest_more x y ys) h) in
    let next : x.number < y.number = lower x.number y.number (All-head (λ v. nat_cmp x.number v.number ≡ Less) y ys r.0) in
    let top : y.number < n = All-head (λ v. v.number < n) y ys more in
    All-cons (λ v. v.number < n) x (y ∷ ys) (omega (arith, next, top)) more

rising_by : (vs : List Version) (v : Version) → AreRising vs → All (λ w. w.number < v.number) vs → AreRising (vs ++ v ∷ [])
rising_by [] v r h = (All-nil (λ w. nat_cmp v.number w.number ≡ Less), tt)
rising_by (x ∷ xs) v r h =
    let P : Version → Type 0 = λ w. nat_cmp x.number w.number ≡ Less in
    let below : x.number < v.number = All-head (λ w. w.number < v.number) x xs h in (
      All-append P xs (v ∷ []) r.0 (All-cons P v [] (sym (nat_cmp_is x.number v.number Less below)) (All-nil P)),
      rising_by xs v r.1 (All-tail (λ w. w.number < v.number) x xs h),
    )

-- and the versions go on rising with it
pub rising_on : (vs : List Version) (v : Version) → AreRising vs → IfSome (latest vs) (λ w. w.number ≤ v.number) → option_eq nat_eq (option_map number_of (latest vs)) (Some v.number) ≡ false
    → AreRising (vs ++ v ∷ [])
rising_on vs v r h d = rising_by vs v r (all_below v.number vs r (apart (latest vs) v.number h d))
