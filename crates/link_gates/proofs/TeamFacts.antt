-- What two halves of some shifts serve together.
use Rattle.std.proofs.Common.{◌≡◌, ◌∙◌, ◌+◌, ℕ, List, [], ◌∷◌, ◌++◌, Option, Some, None, sym, refl, ap, arith, map, take, drop, take-append-drop}
use Rattle.std.proofs.lemmas.List.{map-append}
use Rattle.std.specs.Prelude.{IfSome, option_map}
use Rattle.link_gates.specs.Teams.{together}

abbrev plus : Option ℕ → Option ℕ → Option ℕ
plus None b = None
plus (Some m) b = option_map (λ n. m + n) b

plus_zero : (b : Option ℕ) → b ≡ plus (Some 0) b
plus_zero None = refl
plus_zero (Some n) = ap (λ k. Some k) (omega arith)

plus_more : (m : ℕ) (a b : Option ℕ) → option_map (λ n. m + n) (plus a b) ≡ plus (option_map (λ n. m + n) a) b
plus_more m None b = refl
plus_more m (Some k) None = refl
plus_more m (Some k) (Some n) = ap (λ j. Some j) (omega arith)

together_append : (xs ys : List (Option ℕ)) → together (xs ++ ys) ≡ plus (together xs) (together ys)
together_append [] ys = plus_zero (together ys)
together_append (None ∷ xs) ys = refl
together_append (Some n ∷ xs) ys = ap (option_map (λ more. n + more)) (together_append xs ys) ∙ plus_more n (together xs) (together ys)

both : (a b : Option ℕ) (m n : ℕ) → IfSome a (λ k. m ≡ k) → IfSome b (λ k. n ≡ k) → IfSome (plus a b) (λ k. m + n ≡ k)
both None b m n p q = tt
both (Some k) None m n p q = tt
both (Some k) (Some j) m n p q = omega (arith, p, q)

pub together_halves : (xs ys : List (Option ℕ)) (m n : ℕ) → IfSome (together xs) (λ k. m ≡ k) → IfSome (together ys) (λ k. n ≡ k) → IfSome (together (xs ++ ys)) (λ k. m + n ≡ k)
together_halves xs ys m n p q = (rw (together_append xs ys) (both (together xs) (together ys) m n p q))

pub together_one : (x : Option ℕ) (n : ℕ) → IfSome x (λ k. n ≡ k) → IfSome (together (x ∷ [])) (λ k. n ≡ k)
together_one None n p = tt
together_one (Some k) n p = omega (arith, p)

-- what is served of a list, by what is served of its halves
pub together_split : {A : Type 0} (f : A → Option ℕ) (k : ℕ) (zs : List A) (m n served : ℕ) → served ≡ m + n
    → IfSome (together (map f (take k zs))) (λ j. m ≡ j) → IfSome (together (map f (drop k zs))) (λ j. n ≡ j) → IfSome (together (map f zs)) (λ j. served ≡ j)
together_split f k zs m n served s p q =
    let whole : map f (take k zs) ++ map f (drop k zs) ≡ map f zs = sym (map-append f (take k zs) (drop k zs)) ∙ ap (map f) (take-append-drop k zs) in
    (rw (s, ← whole) (together_halves (map f (take k zs)) (map f (drop k zs)) m n p q))
