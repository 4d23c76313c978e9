-- Beginnings of lists, and what holds of every item.
use Rattle.std.proofs.Common.{◌≡◌, ℕ, zero, suc, ◌+◌, ◌≤◌, ◌<◌, List, [], ◌∷◌, ◌++◌, length, take, drop, replicate, refl, sym, ap, ◌∙◌, subst, arith, append_assoc, length-append, Some, None, slice_get, slice_set}
use Rattle.std.proofs.lemmas.Grind.{common_steps}
use mathlib.Core.List.{IsPrefix}
use Rattle.oe_session.specs.World.{Every}

-- ---- every item

pub every_map : {A : Type 0} (P Q : A → Type 0) → ((x : A) → P x → Q x) → (xs : List A) → Every P xs → Every Q xs
every_map P Q f [] h = tt
every_map P Q f (x ∷ xs) h = (f x h.0, every_map P Q f xs h.1)

pub every_set : {A : Type 0} (P : A → Type 0) (xs : List A) (k : ℕ) (x : A) → Every P xs → P x → Every P (slice_set xs k x)
every_set P [] k x h p = tt
every_set P (y ∷ ys) zero x h p = (p, h.1)
every_set P (y ∷ ys) (suc k) x h p = (h.0, every_set P ys k x h.1 p)

pub length_set : {A : Type 0} (xs : List A) (k : ℕ) (x : A) → length (slice_set xs k x) ≡ length xs
length_set [] k x = refl
length_set (y ∷ ys) zero x = refl
length_set (y ∷ ys) (suc k) x = ap suc (length_set ys k x)

pub length_same : {A : Type 0} (n : ℕ) (x : A) → length (replicate n x) ≡ n
length_same zero x = refl
length_same (suc n) x = ap suc (length_same n x)

pub every_at : {A : Type 0} (P : A → Type 0) (xs : List A) (k : ℕ) (x : A) → Every P xs → slice_get xs k ≡ Some x → P x
every_at P [] k x h is = absurd cc
every_at P (y ∷ ys) zero x h is = let e : y ≡ x = cc (is) in subst P e h.0
every_at P (y ∷ ys) (suc k) x h is = every_at P ys k x h.1 is

pub every_same : {A : Type 0} (P : A → Type 0) (n : ℕ) (x : A) → P x → Every P (replicate n x)
every_same P zero x p = tt
every_same P (suc n) x p = (p, every_same P n x p)

-- ---- beginnings

pub prefix_self : {A : Type 0} (xs : List A) → IsPrefix xs xs
prefix_self [] = ([], refl)
prefix_self (x ∷ xs) = (let r = prefix_self xs in r.0, ap (λ ys. x ∷ ys) (prefix_self xs).1)

pub prefix_trans : {A : Type 0} (xs ys zs : List A) → IsPrefix xs ys → IsPrefix ys zs → IsPrefix xs zs
prefix_trans xs ys zs p q = (p.0 ++ q.0, sym (append_assoc xs p.0 q.0) ∙ (ap (λ w. w ++ q.0) p.1 ∙ q.1))

pub prefix_more : {A : Type 0} (xs ys m : List A) → IsPrefix xs ys → IsPrefix xs (ys ++ m)
prefix_more xs ys m p = (p.0 ++ m, sym (append_assoc xs p.0 m) ∙ ap (λ zs. zs ++ m) p.1)

pub prefix_take : {A : Type 0} (xs : List A) (n : ℕ) → IsPrefix (take n xs) xs
prefix_take [] n = ([], grind (arith, common_steps))
prefix_take (x ∷ xs) zero = (x ∷ xs, refl)
prefix_take (x ∷ xs) (suc n) = (let r = prefix_take xs n in r.0, ap (λ ys. x ∷ ys) (prefix_take xs n).1)

pub prefix_taken : {A : Type 0} (xs ys : List A) (n : ℕ) → IsPrefix xs ys → length xs ≤ n → IsPrefix xs (take n ys)
prefix_taken [] ys n p le = (take n ys, refl)
prefix_taken (x ∷ xs) [] n p le = absurd (cc (p.1))
prefix_taken (x ∷ xs) (y ∷ ys) zero p le = absurd (omega arith)
prefix_taken (x ∷ xs) (y ∷ ys) (suc n) p le =
    let rest = prefix_taken xs ys n (p.0, cc (p.1)) (omega arith) in (rest.0, cc (p.1, rest.1))

-- a beginning is what is taken of its length, and of a longer list
pub taken_whole : {A : Type 0} (xs ys : List A) → IsPrefix xs ys → take (length xs) ys ≡ xs
taken_whole [] ys p = grind (arith, common_steps)
taken_whole (x ∷ xs) [] p = absurd (cc (p.1))
taken_whole (x ∷ xs) (y ∷ ys) p =
    let heads : y ≡ x = cc (p.1) in
    let rest = taken_whole xs ys (p.0, cc (p.1)) in cc (heads, rest)

pub take_more : {A : Type 0} (n : ℕ) (xs ys : List A) → n ≤ length xs → take n (xs ++ ys) ≡ take n xs
take_more zero xs ys le = grind (arith, common_steps)
take_more (suc n) [] ys le = absurd (omega arith)
take_more (suc n) (x ∷ xs) ys le = ap (λ zs. x ∷ zs) (take_more n xs ys (omega arith))

pub prefix_length : {A : Type 0} (xs ys : List A) → IsPrefix xs ys → length xs ≤ length ys
prefix_length xs ys p = omega (arith, sym (ap length p.1) ∙ length-append xs p.0)

pub drop_before : {A : Type 0} (xs ys : List A) → drop (length xs) (xs ++ ys) ≡ ys
drop_before [] ys = grind (arith, common_steps)
drop_before (x ∷ xs) ys = drop_before xs ys

-- ---- one more item

pub get_within : {A : Type 0} (xs : List A) (x : A) (k : ℕ) → k < length xs → slice_get (xs ++ x ∷ []) k ≡ slice_get xs k
get_within [] x k lt = absurd (omega arith)
get_within (y ∷ ys) x zero lt = refl
get_within (y ∷ ys) x (suc k) lt = get_within ys x k (omega arith)

pub get_last : {A : Type 0} (xs : List A) (x : A) → slice_get (xs ++ x ∷ []) (length xs) ≡ Some x
get_last [] x = refl
get_last (y ∷ ys) x = get_last ys x

pub get_past : {A : Type 0} (xs : List A) (x : A) (k : ℕ) → length xs < k → slice_get (xs ++ x ∷ []) k ≡ None
get_past [] x zero lt = absurd (omega arith)
get_past [] x (suc k) lt = refl
get_past (y ∷ ys) x zero lt = absurd (omega arith)
get_past (y ∷ ys) x (suc k) lt = get_past ys x k (omega arith)

pub length_more : {A : Type 0} (xs : List A) (x : A) → length (xs ++ x ∷ []) ≡ length xs + 1
length_more xs x = length-append xs (x ∷ []) ∙ grind (arith, common_steps)
