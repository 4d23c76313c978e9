-- What was read is spelled so.
use Rattle.std.proofs.Common.{◌≡◌, ◌⊎◌, inl, inr, ℕ, zero, suc, ◌+◌, ◌<◌, ◌≤◌, ◌^◌, Bool, true, false, cond, ltb, eqb, List, [], ◌∷◌, ◌++◌, length, get_or, take, drop, Option, Some, None, Result, Ok, Err, refl, sym, ap, subst, ◌∙◌, arith, append_assoc, length-take, take-append-drop}
use Rattle.std.specs.Prelude.{IfOk, Vec}
use Rattle.std.specs.declared.alloc.Global.{Global}
use Rattle.std.specs.Int.{w64, from_be_bytes, to_be_bytes}
use Rattle.std.specs.Str.{is_utf8, IsUtf8}
use Rattle.std.proofs.lemmas.Bool.{cases_lt, ltb-false, eqb-true}
use Rattle.std.proofs.lemmas.List.{get_or-drop, get_or-take, get_or_past}
use Rattle.std.proofs.lemmas.Nat.{be_bytes_8}
use Rattle.std.proofs.lemmas.Str.{IsUtf8-from_is_utf8}
use Rattle.oe_keeper.specs.Kept.{place}
use Rattle.oe_keeper.specs.declared.change.Table.{Table}
use Rattle.oe_keeper.specs.declared.change.Table.TheVariants.{Airfield, Runway, Desk, Filing, Receipt}
use Rattle.oe_keeper.specs.declared.change.RowChange.{RowChange}
use Rattle.oe_keeper.specs.declared.change.RowChange.TheVariants.{Put, Remove}
use Rattle.oe_journal.specs.Spelling.{text, spelled_change, FitsText, Fits, Spells}
use Rattle.oe_journal.specs.declared.error.ReadError.{ReadError}
use Rattle.oe_journal.specs.declared.error.ReadError.TheVariants as errors
use Rattle.oe_journal.specs.Reading.{◌>>=◌, Gives, IfMalformed, number_at, utf8_at, text_at, table_at, put_at, removal_at, change_at, changes_within, changes_of}
use Rattle.oe_journal.proofs.Takes.{bind_some, test_not}
use Rattle.oe_journal.proofs.Again.{changes_again}

abbrev pub AreBytes : List ℕ → Type 0
AreBytes bytes = (i : ℕ) → get_or bytes i 0 < 256

drop_bytes : (n : ℕ) (bytes : List ℕ) → AreBytes bytes → AreBytes (drop n bytes)
drop_bytes n bytes fits i = rw get_or-drop (fits (n + i))

take_bytes : (n : ℕ) (bytes : List ℕ) → AreBytes bytes → AreBytes (take n bytes)
take_bytes n bytes fits i =
    elim (cases_lt i n) [
      | inl lt ↦ rw (get_or-take n bytes i 0 lt) (fits i)
      | inr le ↦ rw (get_or_past (take n bytes) i 0 (omega (arith, length-take n bytes))) (omega arith)
    ]

-- a reader took this spelling from the front
record Takes (bytes spelling rest : List ℕ) : Type 0 where
  pub parts : bytes ≡ spelling ++ rest
  pub rest_fits : AreBytes rest

some_is : {A : Type 0} (x y : A) → Some x ≡ Some y → x ≡ y
some_is x y e = cc

both : {A B : Type 0} (p q : A × B) → Some p ≡ Some q → (p.0 ≡ q.0) × (p.1 ≡ q.1)
both p q e = let h = some_is p q e in (ap (λ r. r.0) h, ap (λ r. r.1) h)

-- eight bytes are a number below 2^64, which has them as its spelling
below : (head : List ℕ) → AreBytes head → from_be_bytes w64 head < 2 ^ 64
below head fits = omega (arith, fits 0, fits 1, fits 2, fits 3, fits 4, fits 5, fits 6, fits 7)

-- a number was read, and has its spelling there
record TakesNumber (bytes rest : List ℕ) (n : ℕ) : Type 0 where
  pub takes : Takes bytes (to_be_bytes w64 n) rest
  pub bound : n < 2 ^ 64

number_is : (bytes : List ℕ) (n : ℕ) (rest : List ℕ) → AreBytes bytes → number_at bytes ≡ Some (n, rest) → TakesNumber bytes rest n
number_is bytes n rest fits e =
    let t = test_not (ltb (length bytes) 8) _ (n, rest) e in
    let long : 8 ≤ length bytes = ltb-false _ _ t.0 in
    let l = length-take 8 bytes in
    let eight : length (take 8 bytes) ≡ 8 = omega arith in
    let p = both _ _ t.1 in
    let front = take_bytes 8 bytes fits in
    let head : to_be_bytes w64 n ≡ take 8 bytes = be_bytes_8 (take 8 bytes) n eight front (sym p.0) in
    record {
      takes = record { parts = sym (take-append-drop 8 bytes) ∙ (λ i. sym head i ++ p.1 i); rest_fits = subst AreBytes p.1 (drop_bytes 8 bytes fits) };
      bound = subst (λ (k : ℕ). k < 2 ^ 64) p.0 (below (take 8 bytes) front);
    }

chosen : {A : Type 0} (b : Bool) (x y : A) → cond b (Some x) None ≡ Some y → (b ≡ true) × (x ≡ y)
chosen true x y e = (refl, cc)
chosen false x y e = absurd cc

utf8_is : (bytes t : List ℕ) → utf8_at bytes ≡ Some t → (bytes ≡ t) × IsUtf8 t
utf8_is bytes t e = let c = chosen (is_utf8 bytes) bytes t e in (c.1, subst IsUtf8 c.1 (IsUtf8-from_is_utf8 bytes c.0))

text_is : (bytes t rest : List ℕ) → AreBytes bytes → text_at bytes ≡ Some (t, rest) → Takes bytes (text t) rest × FitsText t
unfolding text_at
text_is bytes t rest fits e =
    let b = bind_some (number_at bytes) (λ n. cond (ltb (length n.1) n.0) None (utf8_at (take n.0 n.1) >>= λ t. Some (t, drop n.0 n.1))) (t, rest) e in
    let n = b.0 in
    let head = number_is bytes n.0 n.1 fits b.1 in
    let in_time = test_not (ltb (length n.1) n.0) _ (t, rest) b.2 in
    let room : n.0 ≤ length n.1 = ltb-false _ _ in_time.0 in
    let u = bind_some (utf8_at (take n.0 n.1)) (λ t. Some (t, drop n.0 n.1)) (t, rest) in_time.1 in
    let p = both _ _ u.2 in
    let good = utf8_is (take n.0 n.1) u.0 u.1 in
    let front : take n.0 n.1 ≡ t = good.0 ∙ p.0 in
    let l = length-take n.0 n.1 in
    let q = ap length front in
    let size : n.0 ≡ length t = omega arith in
    let after : n.1 ≡ t ++ rest = sym (take-append-drop n.0 n.1) ∙ (λ i. front i ++ p.1 i) in (
      record {
        parts = head.takes.parts ∙ ap (λ (l : List ℕ). to_be_bytes w64 n.0 ++ l) after ∙ sym (append_assoc (to_be_bytes w64 n.0) t rest) ∙ ap (λ (k : ℕ). (to_be_bytes w64 k ++ t) ++ rest) size;
        rest_fits = subst AreBytes p.1 (drop_bytes n.0 n.1 head.takes.rest_fits);
      },
      (subst (λ (k : ℕ). k < 2 ^ 64) size head.bound, subst IsUtf8 p.0 good.1),
    )

table_is : (at : ℕ) (t : Table) → table_at at ≡ Some t → at ≡ place t
table_is zero t e = let h : Airfield ≡ t = cc in ap place h
table_is (suc zero) t e = let h : Runway ≡ t = cc in ap place h
table_is (suc (suc zero)) t e = let h : Desk ≡ t = cc in ap place h
table_is (suc (suc (suc zero))) t e = let h : Filing ≡ t = cc in ap place h
table_is (suc (suc (suc (suc zero)))) t e = let h : Receipt ≡ t = cc in ap place h
table_is (suc (suc (suc (suc (suc n))))) t e = absurd cc

-- a change was read from bytes, and has its spelling there
record TakesChange (bytes rest : List ℕ) (c : RowChange) : Type 0 where
  pub takes : Takes bytes (spelled_change c) rest
  pub fits : Fits c

put_is : (at : ℕ) (bytes : List ℕ) (c : RowChange) (rest : List ℕ) → AreBytes bytes → put_at at bytes ≡ Some (c, rest) → TakesChange (80 ∷ at ∷ bytes) rest c
unfolding put_at
put_is at bytes c rest fits e =
    let t = bind_some (table_at at) (λ table. text_at bytes >>= λ key. text_at key.1 >>= λ row. Some (Put table key.0 row.0, row.1)) (c, rest) e in
    let k = bind_some (text_at bytes) (λ key. text_at key.1 >>= λ row. Some (Put t.0 key.0 row.0, row.1)) (c, rest) t.2 in
    let r = bind_some (text_at k.0.1) (λ row. Some (Put t.0 k.0.0 row.0, row.1)) (c, rest) k.2 in
    let one = text_is bytes k.0.0 k.0.1 fits k.1 in
    let two = text_is k.0.1 r.0.0 r.0.1 one.0.rest_fits r.1 in
    let p = both _ _ r.2 in
    let joined : bytes ≡ (text k.0.0 ++ text r.0.0) ++ r.0.1 = one.0.parts ∙ ap (λ (l : List ℕ). text k.0.0 ++ l) two.0.parts ∙ sym (append_assoc (text k.0.0) (text r.0.0) r.0.1) in
    subst (λ (x : RowChange). TakesChange (80 ∷ at ∷ bytes) rest x) p.0 (subst (λ (x : List ℕ). TakesChange (80 ∷ at ∷ bytes) x (Put t.0 k.0.0 r.0.0)) p.1 (record {
      takes = record { parts = (λ i. 80 ∷ table_is at t.0 t.1 i ∷ joined i); rest_fits = two.0.rest_fits };
      fits = (one.1, two.1);
    }))

removal_is : (at : ℕ) (bytes : List ℕ) (c : RowChange) (rest : List ℕ) → AreBytes bytes → removal_at at bytes ≡ Some (c, rest) → TakesChange (82 ∷ at ∷ bytes) rest c
unfolding removal_at
removal_is at bytes c rest fits e =
    let t = bind_some (table_at at) (λ table. text_at bytes >>= λ key. Some (Remove table key.0, key.1)) (c, rest) e in
    let k = bind_some (text_at bytes) (λ key. Some (Remove t.0 key.0, key.1)) (c, rest) t.2 in
    let one = text_is bytes k.0.0 k.0.1 fits k.1 in
    let p = both _ _ k.2 in
    subst (λ (x : RowChange). TakesChange (82 ∷ at ∷ bytes) rest x) p.0 (subst (λ (x : List ℕ). TakesChange (82 ∷ at ∷ bytes) x (Remove t.0 k.0.0)) p.1 (record {
      takes = record { parts = (λ i. 82 ∷ table_is at t.0 t.1 i ∷ one.0.parts i); rest_fits = one.0.rest_fits };
      fits = one.1;
    }))

choice : {A : Type 0} (b d : Bool) (x y : Option A) (z : A) → cond b x (cond d y None) ≡ Some z → ((b ≡ true) × (x ≡ Some z)) ⊎ ((d ≡ true) × (y ≡ Some z))
choice true d x y z e = inl (refl, e)
choice false true x y z e = inr (refl, e)
choice false false x y z e = absurd cc

change_is : (bytes : List ℕ) (c : RowChange) (rest : List ℕ) → AreBytes bytes → change_at bytes ≡ Some (c, rest) → TakesChange bytes rest c
unfolding change_at
change_is [] c rest fits e = absurd cc
change_is (a ∷ []) c rest fits e = absurd cc
change_is (a ∷ b ∷ bytes) c rest fits e =
    let behind : AreBytes bytes = drop_bytes 2 (a ∷ b ∷ bytes) fits in
    elim (choice (eqb a 80) (eqb a 82) (put_at b bytes) (removal_at b bytes) (c, rest) e) [
      | inl put ↦ subst (λ (x : ℕ). TakesChange (x ∷ b ∷ bytes) rest c) (sym (eqb-true a 80 put.0)) (put_is b bytes c rest behind put.1)
      | inr removal ↦ subst (λ (x : ℕ). TakesChange (x ∷ b ∷ bytes) rest c) (sym (eqb-true a 82 removal.0)) (removal_is b bytes c rest behind removal.1)
    ]

changes_are : (n : ℕ) (bytes : List ℕ) (cs : List RowChange) → AreBytes bytes → changes_within n bytes ≡ Some cs → Spells bytes cs
unfolding changes_within
changes_are n [] cs fits e = subst (λ (x : List RowChange). Spells [] x) (some_is [] cs e) (record { is = refl; fits = tt })
changes_are zero (b ∷ bytes) cs fits e = absurd cc
changes_are (suc n) (b ∷ bytes) cs fits e =
    let first = bind_some (change_at (b ∷ bytes)) (λ first. changes_within n first.1 >>= λ others. Some (first.0 ∷ others)) cs e in
    let others = bind_some (changes_within n first.0.1) (λ others. Some (first.0.0 ∷ others)) cs first.2 in
    let one = change_is (b ∷ bytes) first.0.0 first.0.1 fits first.1 in
    let rest = changes_are n first.0.1 others.0 one.takes.rest_fits others.1 in
    subst (λ (x : List RowChange). Spells (b ∷ bytes) x) (some_is (first.0.0 ∷ others.0) cs others.2) (record {
      is = one.takes.parts ∙ ap (λ (l : List ℕ). spelled_change first.0.0 ++ l) rest.is;
      fits = (one.fits, rest.fits);
    })

-- what a reader returned
pub ok_is_spelled : (bytes : List ℕ) (r : Result (Vec RowChange Global) ReadError) → AreBytes bytes → Gives (λ v. v.items) r (changes_of bytes) → IfOk r (λ v. Spells bytes v.items)
ok_is_spelled bytes (Ok v) fits gives = changes_are (length bytes) bytes v.items fits gives
ok_is_spelled bytes (Err e) fits gives = tt

pub malformed_is_not : (bytes : List ℕ) (r : Result (Vec RowChange Global) ReadError) → Gives (λ v. v.items) r (changes_of bytes) → IfMalformed r ((changes : List RowChange) → Spells bytes changes → ⊥)
malformed_is_not bytes (Ok v) gives = tt
malformed_is_not bytes (Err errors.Memory) gives = tt
malformed_is_not bytes (Err errors.Malformed) gives = λ changes spells. let again = sym gives ∙ ap changes_of spells.is ∙ changes_again changes spells.fits in absurd cc
