-- What reading takes from the front.
use Rattle.std.proofs.Common.{◌≡◌, ◌⊎◌, inl, inr, ℕ, zero, suc, ◌<◌, ◌≤◌, Bool, true, false, cond, ltb, eqb, List, [], ◌∷◌, length, take, drop, Option, Some, None, refl, sym, ap, ◌∙◌, arith, length-drop}
use Rattle.std.specs.Str.{is_utf8, IsUtf8}
use Rattle.std.proofs.lemmas.Str.{is_utf8-from_IsUtf8, IsUtf8-from_is_utf8}
use Rattle.std.proofs.lemmas.Bool.{cases_Bool, eqb-true}
use Rattle.oe_keeper.specs.declared.change.RowChange.{RowChange}
use Rattle.oe_keeper.specs.declared.change.RowChange.TheVariants.{Put, Remove}
use Rattle.oe_journal.specs.Reading.{◌>>=◌, number_at, utf8_at, text_at, table_at, put_at, removal_at, change_at}

pub not_empty : (n : ℕ) (b : Bool) → b ≡ eqb n 0 → b ≡ false → 0 < n
not_empty zero b is shut = absurd (let e : b ≡ true = is in cc)
not_empty (suc n) b is shut = omega arith

pub is_empty : (n : ℕ) (b : Bool) → b ≡ eqb n 0 → b ≡ true → n ≡ 0
is_empty n b is yes_it_is = eqb-true n 0 (sym is ∙ yes_it_is)

pub utf8_some : (bytes text : List ℕ) → text ≡ bytes → IsUtf8 bytes → utf8_at bytes ≡ Some text
utf8_some bytes text is utf8 = rw (is_utf8-from_IsUtf8 bytes utf8) (ap (λ (l : List ℕ). Some l) (sym is))

pub utf8_none : (bytes : List ℕ) → (IsUtf8 bytes → ⊥) → utf8_at bytes ≡ None
utf8_none bytes shut = elim (cases_Bool (is_utf8 bytes)) [ inl good ↦ absurd (shut (IsUtf8-from_is_utf8 bytes good)) | inr bad ↦ rw bad refl ]

-- the value of a step that did not fail
pub bind_some : {A B : Type 0} (r : Option A) (f : A → Option B) (y : B) → (r >>= f) ≡ Some y → (x : A) × (r ≡ Some x) × (f x ≡ Some y)
bind_some (Some x) f y e = (x, refl, e)
bind_some None f y e = absurd cc

pub test_not : {A : Type 0} (b : Bool) (r : Option A) (y : A) → cond b None r ≡ Some y → (b ≡ false) × (r ≡ Some y)
test_not true r y e = absurd cc
test_not false r y e = (refl, e)

behind : {A : Type 0} (x y : A × List ℕ) → Some x ≡ Some y → x.1 ≡ y.1
behind x y e = let h : x ≡ y = cc in ap (λ p. p.1) h

number_takes : (bytes : List ℕ) (n : ℕ) (rest : List ℕ) → number_at bytes ≡ Some (n, rest) → length rest ≤ length bytes
number_takes bytes n rest e =
    let t = test_not (ltb (length bytes) 8) _ (n, rest) e in
    let r : drop 8 bytes ≡ rest = behind _ _ t.1 in
    let l = length-drop 8 bytes in
    let q = ap length r in
    omega arith

text_takes : (bytes text rest : List ℕ) → text_at bytes ≡ Some (text, rest) → length rest ≤ length bytes
unfolding text_at
text_takes bytes text rest e =
    let b = bind_some (number_at bytes) (λ n. cond (ltb (length n.1) n.0) None (utf8_at (take n.0 n.1) >>= λ t. Some (t, drop n.0 n.1))) (text, rest) e in
    let n = b.0 in
    let first = number_takes bytes n.0 n.1 b.1 in
    let t = test_not (ltb (length n.1) n.0) _ (text, rest) b.2 in
    let u = bind_some (utf8_at (take n.0 n.1)) (λ t. Some (t, drop n.0 n.1)) (text, rest) t.1 in
    let r : drop n.0 n.1 ≡ rest = behind _ _ u.2 in
    let l = length-drop n.0 n.1 in
    let q = ap length r in
    omega arith

put_takes : (at : ℕ) (bytes : List ℕ) (c : RowChange) (rest : List ℕ) → put_at at bytes ≡ Some (c, rest) → length rest ≤ length bytes
unfolding put_at
put_takes at bytes c rest e =
    let t = bind_some (table_at at) (λ table. text_at bytes >>= λ key. text_at key.1 >>= λ row. Some (Put table key.0 row.0, row.1)) (c, rest) e in
    let k = bind_some (text_at bytes) (λ key. text_at key.1 >>= λ row. Some (Put t.0 key.0 row.0, row.1)) (c, rest) t.2 in
    let r = bind_some (text_at k.0.1) (λ row. Some (Put t.0 k.0.0 row.0, row.1)) (c, rest) k.2 in
    let one = text_takes bytes k.0.0 k.0.1 k.1 in
    let two = text_takes k.0.1 r.0.0 r.0.1 r.1 in
    let same : r.0.1 ≡ rest = behind _ _ r.2 in
    let q = ap length same in
    omega arith

removal_takes : (at : ℕ) (bytes : List ℕ) (c : RowChange) (rest : List ℕ) → removal_at at bytes ≡ Some (c, rest) → length rest ≤ length bytes
unfolding removal_at
removal_takes at bytes c rest e =
    let t = bind_some (table_at at) (λ table. text_at bytes >>= λ key. Some (Remove table key.0, key.1)) (c, rest) e in
    let k = bind_some (text_at bytes) (λ key. Some (Remove t.0 key.0, key.1)) (c, rest) t.2 in
    let one = text_takes bytes k.0.0 k.0.1 k.1 in
    let same : k.0.1 ≡ rest = behind _ _ k.2 in
    let q = ap length same in
    omega arith

choice : {A : Type 0} (b d : Bool) (x y : Option A) (z : A) → cond b x (cond d y None) ≡ Some z → (x ≡ Some z) ⊎ (y ≡ Some z)
choice true d x y z e = inl e
choice false true x y z e = inr e
choice false false x y z e = absurd cc

-- a change takes at least two bytes
pub change_takes : (bytes : List ℕ) (c : RowChange) (rest : List ℕ) → change_at bytes ≡ Some (c, rest) → length rest < length bytes
unfolding change_at
change_takes [] c rest e = absurd cc
change_takes (a ∷ []) c rest e = absurd cc
change_takes (a ∷ b ∷ bytes) c rest e =
    elim (choice (eqb a 80) (eqb a 82) (put_at b bytes) (removal_at b bytes) (c, rest) e) [
      | inl put ↦ let h = put_takes b bytes c rest put in omega arith
      | inr removal ↦ let h = removal_takes b bytes c rest removal in omega arith
    ]
