-- The parts of a text, and texts made of parts.
use Rattle.std.proofs.Common.{arith, ℕ, ◌+◌, ◌<◌, ◌≤◌, ◌≡◌, ◌==◌, false, Option, Some, None, IfSome, IfNone, subst, List, [], ◌∷◌, ◌++◌, take, drop, length, get_or, All, refl, sym, ap, ◌∙◌, append-nil}
use Rattle.std.specs.List.{join_with_byte}
use Rattle.std.proofs.lemmas.Bool.Decides.{nat_tests}
use Rattle.std.proofs.lemmas.List.{take-append-drop, drop_more, take_all}
use Rattle.std.proofs.lemmas.List.Elements.{All-head, All-tail, All-more, All-same}
use Rattle.std.proofs.lemmas.List.Splits.{slice_split_at, slice_split_none, join_with_byte-slice_split}
use Rattle.wire_values.specs.Commas.{joined}
use Rattle.wire_values.specs.Wanted.{Wanted, Fits}
use Rattle.row_register.specs.Parts.{parts_of}

-- what holds of all items before a place, and of the one there
pub one_more : (P : ℕ → Type 0) (xs : List ℕ) (i : ℕ) → All P (take i xs) → i < length xs → P (get_or xs i 0) → All P (take (i + 1) xs)
one_more P xs i before lt h = All-more P xs i 0 lt before h

pub all_of : (P : ℕ → Type 0) (xs : List ℕ) (i : ℕ) → All P (take i xs) → length xs ≤ i → All P xs
all_of P xs i h le = All-same P xs (take i xs) (sym (take_all i xs le)) h

-- the first part of a text ends at its first separator
around : (c : ℕ) (text : List ℕ) (at : ℕ) → at < length text → get_or text at 0 ≡ c → text ≡ take at text ++ c ∷ drop (at + 1) text
around c text at lt e = sym (take-append-drop at text) ∙ ap (λ t. take at text ++ t) (drop_more text at 0 lt ∙ ap (λ b. b ∷ drop (at + 1) text) e)

pub first_part : (c : ℕ) (text : List ℕ) (at : ℕ) → at < length text → get_or text at 0 ≡ c → All (λ b. (b == c) ≡ false) (take at text)
    → parts_of c text ≡ take at text ∷ parts_of c (drop (at + 1) text)
first_part c text at lt e none =
    ap (parts_of c) (around c text at lt e) ∙ slice_split_at (λ b. b == c) (take at text) c (drop (at + 1) text) none (grind (arith, nat_tests))

pub only_part : (c : ℕ) (text : List ℕ) → All (λ b. (b == c) ≡ false) text → parts_of c text ≡ text ∷ []
only_part c text none = slice_split_none (λ b. b == c) text none

-- ---- rows: fields with commas between

-- a field that a comma cannot cut
abbrev pub IsUncut : List ℕ → Type 0
IsUncut field = All (λ b. (b == 44) ≡ false) field

pub joined_parts : (first : List ℕ) (more : List (List ℕ)) → All IsUncut (first ∷ more) → parts_of 44 (joined (first ∷ more)) ≡ first ∷ more
joined_parts first [] h = rw (append-nil first) (only_part 44 first (All-head IsUncut first [] h))
joined_parts first (f ∷ fs) h =
    slice_split_at (λ b. b == 44) first 44 (joined (f ∷ fs)) (All-head IsUncut first (f ∷ fs) h) refl
    ∙ ap (λ parts. first ∷ parts) (joined_parts f fs (All-tail IsUncut first (f ∷ fs) h))

joined_byte : (first : List ℕ) (more : List (List ℕ)) → join_with_byte 44 (first ∷ more) ≡ joined (first ∷ more)
joined_byte first [] = sym (append-nil first)
joined_byte first (f ∷ fs) = ap (λ t. first ++ (44 ∷ t)) (joined_byte f fs)

pub parts_joined : (text first : List ℕ) (more : List (List ℕ)) → parts_of 44 text ≡ first ∷ more → text ≡ joined (first ∷ more)
parts_joined text first more e = sym (join_with_byte-slice_split 44 text) ∙ ap (join_with_byte 44) e ∙ joined_byte first more

-- ---- two parts with a byte between

pub pair_parts : (c : ℕ) (first second : List ℕ) → All (λ b. (b == c) ≡ false) first → All (λ b. (b == c) ≡ false) second
    → parts_of c (first ++ c ∷ second) ≡ first ∷ second ∷ []
pair_parts c first second p q =
    slice_split_at (λ b. b == c) first c second p (grind (arith, nat_tests)) ∙ ap (λ parts. first ∷ parts) (only_part c second q)

pub parts_pair : (c : ℕ) (text first second : List ℕ) → parts_of c text ≡ first ∷ second ∷ [] → text ≡ first ++ c ∷ second
parts_pair c text first second e = sym (join_with_byte-slice_split c text) ∙ ap (join_with_byte c) e

-- ---- values of parts

pub where_none : {A P Q : Type 0} (r : Option A) → (P → Q) → IfNone r P → IfNone r Q
where_none None f h = f h
where_none (Some x) f h = tt

head_of : {x y : List ℕ} {xs ys : List (List ℕ)} → x ∷ xs ≡ y ∷ ys → x ≡ y
head_of e = cc

-- no good value is spelled by a part that does not fit
pub none_taken : {V A : Type 0} (r : Option A) (good : V → Type 0) (spelled : V → List ℕ) (w : Wanted) (text : List ℕ) (old new : List (List ℕ)) → old ≡ text ∷ new
    → ((v : V) → good v → (before : List ℕ) → Fits w before (spelled v)) → IfNone r ((before : List ℕ) → Fits w before text → ⊥)
    → IfNone r ((v : V) (rest : List (List ℕ)) → good v → old ≡ spelled v ∷ rest → ⊥)
none_taken r good spelled w text old new e fits h =
    where_none r (λ misfit v rest is same. misfit [] (subst (λ t. Fits w [] t) (head_of (sym same ∙ e)) (fits v is []))) h

pub if_none : {A P : Type 0} (r : Option A) → P → IfNone r P
if_none None h = h
if_none (Some x) h = tt

-- three clauses give a fourth
pub where_some3 : {A : Type 0} {P Q R S : A → Type 0} (r : Option A) → ((x : A) → P x → Q x → R x → S x) → IfSome r P → IfSome r Q → IfSome r R → IfSome r S
where_some3 None f p q s = tt
where_some3 (Some x) f p q s = f x p q s

-- what stands behind the first of some parts
pub behind : {x y : List ℕ} {whole xs ys : List (List ℕ)} → whole ≡ x ∷ xs → whole ≡ y ∷ ys → xs ≡ ys
behind e f = cc

pub where_some : {A : Type 0} {P Q : A → Type 0} (r : Option A) → ((x : A) → P x → Q x) → IfSome r P → IfSome r Q
where_some None f p = tt
where_some (Some x) f p = f x p
