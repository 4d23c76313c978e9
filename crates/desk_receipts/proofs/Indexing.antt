-- The places of entries, after one more.
use Rattle.std.proofs.Common.{◌≡◌, refl, sym, ap, ◌∙◌, subst, arith, ℕ, zero, suc, ◌+◌, ◌<◌, nat_eq, Bool, true, false, ◌&&◌, cond, List, [], ◌∷◌, ◌++◌, length, Option, Some, None, IfSome, slice_get, take}
use Rattle.std.proofs.lemmas.Grind.{common_steps}
use Rattle.std.proofs.lemmas.Bool.{and_parts}
use Rattle.std.proofs.lemmas.List.{length-take-le}
use Rattle.airfield_findings.proofs.ListFacts.{at_place, not_past, taken_more}
use Rattle.std.specs.Cmp.Lexicographic.{pointwise}
use Rattle.std.specs.BTreeMap.{BTreeMap, get, is_at, Updates}
use Rattle.std.specs.Map.{lookup}
use Rattle.determination_dates.specs.Computed.{with_some}
use Rattle.desk_machine.specs.declared.entry.Entry.{Entry}
use Rattle.desk_machine.specs.States.{entry_of}
use Rattle.desk_receipts.specs.Receipts.{IsIndex}
use Rattle.desk_receipts.specs.declared.receipt_key.ReceiptKey.{ReceiptKey}
use Rattle.desk_receipts.specs.contracts.receipt_key.ReceiptKeyOrd.TheImpl as keys
use Rattle.desk_receipts.specs.contracts.receipt_key.ReceiptKeyOrd.TheImpl.Laws as laws

abbrev is_of : Entry → ReceiptKey → Bool
is_of e q = pointwise nat_eq e.change.caller q.caller && pointwise nat_eq e.change.key q.key

abbrev key_of : Entry → ReceiptKey
key_of e = record { key = e.change.key; caller = e.change.caller }

same_number : (x y : ℕ) → nat_eq x y ≡ true → x ≡ y
same_number x y h = grind (arith, common_steps, h)

same_word : (a b : List ℕ) → pointwise nat_eq a b ≡ true → a ≡ b
same_word [] [] h = refl
same_word [] (y ∷ ys) h = absurd (cc (h))
same_word (x ∷ xs) [] h = absurd (cc (h))
same_word (x ∷ xs) (y ∷ ys) h =
    let p = and_parts (nat_eq x y) (pointwise nat_eq xs ys) h in
    let one = same_number x y p.0 in
    let rest = same_word xs ys p.1 in
    λ i. one i ∷ rest i

both_ways : (a b : Bool) → (a && b) ≡ (b && a)
both_ways true true = refl
both_ways true false = refl
both_ways false true = refl
both_ways false false = refl

-- the map compares keys as the entries' callers and keys are compared, the keys first
tested : (e : Entry) (q : ReceiptKey) → is_at (keys.ghosts.cmp (key_of e)) q ≡ is_of e q
tested e q = sym (laws.matches_eq-law (key_of e) q) ∙ both_ways (pointwise nat_eq e.change.key q.key) (pointwise nat_eq e.change.caller q.caller)

abbrev more : Bool → Entry → Option Entry → Option Entry
more b e None = cond b (Some e) None
more b e (Some d) = Some d

more_by : (b c : Bool) (d e : Entry) (old next : Option Entry) → next ≡ more c e old → cond b (Some d) next ≡ more c e (cond b (Some d) old)
more_by true c d e old next h = refl
more_by false c d e old next h = h

found_more : (q : ReceiptKey) (es : List Entry) (e : Entry) → entry_of q.caller q.key (es ++ e ∷ []) ≡ more (is_of e q) e (entry_of q.caller q.key es)
found_more q [] e = refl
found_more q (d ∷ es) e = more_by (is_of d q) (is_of e q) d e _ _ (found_more q es e)

at_end : (es : List Entry) (e : Entry) → slice_get (es ++ e ∷ []) (length es) ≡ Some e
at_end [] e = refl
at_end (d ∷ es) e = at_end es e

before_end : (es : List Entry) (e : Entry) (i : ℕ) → i < length es → slice_get (es ++ e ∷ []) i ≡ slice_get es i
before_end [] e i h = absurd (omega (arith, h))
before_end (d ∷ es) e zero h = refl
before_end (d ∷ es) e (suc i) h = before_end es e i (omega (arith, h))

kept : (es : List Entry) (e : Entry) (p : Option ℕ) → IfSome p (λ i. i < length es) → with_some p (slice_get (es ++ e ∷ [])) ≡ with_some p (slice_get es)
kept es e None h = refl
kept es e (Some i) h = before_end es e i h

longer : (es : List Entry) (e : Entry) → length (es ++ e ∷ []) ≡ length es + 1
longer [] e = refl
longer (d ∷ es) e = omega (arith, longer es e)

bound : (es : List Entry) (e : Entry) (p : Option ℕ) → IfSome p (λ i. i < length es) → IfSome p (λ i. i < length (es ++ e ∷ []))
bound es e None h = tt
bound es e (Some i) h = omega (arith, h, longer es e)

no_more : (o : Option Entry) (e : Entry) → more false e o ≡ o
no_more None e = refl
no_more (Some d) e = refl

-- by whether the key is the new one
found_at : (es : List Entry) (e : Entry) (q : ReceiptKey) (p : Option ℕ) (b : Bool) → is_of e q ≡ b → entry_of e.change.caller e.change.key es ≡ None
    → entry_of q.caller q.key es ≡ with_some p (slice_get es) → IfSome p (λ i. i < length es)
    → more b e (entry_of q.caller q.key es) ≡ with_some (cond b (Some (length es)) p) (slice_get (es ++ e ∷ []))
found_at es e q p true is new old below =
    let w = and_parts (pointwise nat_eq e.change.caller q.caller) (pointwise nat_eq e.change.key q.key) is in
    let caller = same_word _ _ w.0 in
    let key = same_word _ _ w.1 in
    let none : entry_of q.caller q.key es ≡ None = subst (λ (c : List ℕ). entry_of c q.key es ≡ None) caller (subst (λ (k : List ℕ). entry_of e.change.caller k es ≡ None) key new) in
    ap (more true e) none ∙ sym (at_end es e)
found_at es e q p false is new old below = no_more (entry_of q.caller q.key es) e ∙ old ∙ sym (kept es e p below)

bound_at : (es : List Entry) (e : Entry) (p : Option ℕ) (b : Bool) → IfSome p (λ i. i < length es) → IfSome (cond b (Some (length es)) p) (λ i. i < length (es ++ e ∷ []))
bound_at es e p true h = omega (arith, longer es e)
bound_at es e p false h = bound es e p h

pub indexed_on : (m n : BTreeMap ReceiptKey ℕ) (es : List Entry) (e : Entry) → IsIndex m es → entry_of e.change.caller e.change.key es ≡ None
    → Updates keys.ghosts.cmp m n (key_of e) (Some (length es)) → IsIndex n (es ++ e ∷ [])
indexed_on m n es e index new updates =
    record {
      found = λ q.
          found_more q es e
          ∙ found_at es e q (get keys.ghosts.cmp m q) _ refl new (index.found q) (index.below q)
          ∙ ap (λ b. with_some (cond b (Some (length es)) (get keys.ghosts.cmp m q)) (slice_get (es ++ e ∷ []))) (sym (tested e q))
          ∙ ap (λ p. with_some p (slice_get (es ++ e ∷ []))) (sym (updates.0 q));
      below = λ q. subst (λ p. IfSome p (λ i. i < length (es ++ e ∷ []))) (sym (updates.0 q)) (bound_at es e (get keys.ghosts.cmp m q) _ (index.below q));
    }

-- ---- no entries

nothing : (q : ReceiptKey) (p : Option ℕ) → p ≡ None → entry_of q.caller q.key [] ≡ with_some p (slice_get [])
nothing q p e = rw e refl

pub indexed_none : (m : BTreeMap ReceiptKey ℕ) → m.entries ≡ [] → IsIndex m []
indexed_none m e = record { found = λ q. nothing q (get keys.ghosts.cmp m q) (none q); below = λ q. subst (λ p. IfSome p (λ i. i < 0)) (sym (none q)) tt }
  where
    none : (q : ReceiptKey) → get keys.ghosts.cmp m q ≡ None
    none q = ap (lookup (is_at (keys.ghosts.cmp q))) e

-- ---- a place is taken away again

no_place : (es : List Entry) (p : Option ℕ) → None ≡ with_some p (slice_get es) → IfSome p (λ i. i < length es) → p ≡ None
no_place es None e h = refl
no_place es (Some i) e h = absurd (there es i h e)
  where
    there : (es : List Entry) (i : ℕ) → i < length es → None ≡ slice_get es i → ⊥
    there [] i h e = omega (arith, h)
    there (d ∷ es) zero h e = cc (e)
    there (d ∷ es) (suc i) h e = there es i (omega (arith, h)) e

-- of one key, which the map held nothing under before
back_at : (b : Bool) (p old : Option ℕ) → (b ≡ true → old ≡ None) → p ≡ cond b None old → p ≡ old
back_at true p old none e = e ∙ sym (none refl)
back_at false p old none e = e

pub indexed_off : (m n k : BTreeMap ReceiptKey ℕ) (es : List Entry) (e : Entry) → IsIndex m es → entry_of e.change.caller e.change.key es ≡ None
    → Updates keys.ghosts.cmp m n (key_of e) (Some (length es)) → Updates keys.ghosts.cmp n k (key_of e) None → IsIndex k es
indexed_off m n k es e index new put taken = record { found = λ q. index.found q ∙ ap (λ p. with_some p (slice_get es)) (sym (same q)); below = λ q. subst (λ p. IfSome p (λ i. i < length es)) (sym (same q)) (index.below q) }
  where
    free : (q : ReceiptKey) → is_of e q ≡ true → get keys.ghosts.cmp m q ≡ None
    free q is =
        let w = and_parts (pointwise nat_eq e.change.caller q.caller) (pointwise nat_eq e.change.key q.key) is in
        let caller = same_word _ _ w.0 in
        let key = same_word _ _ w.1 in
        let none : entry_of q.caller q.key es ≡ None = subst (λ (c : List ℕ). entry_of c q.key es ≡ None) caller (subst (λ (k : List ℕ). entry_of e.change.caller k es ≡ None) key new) in
        no_place es _ (sym none ∙ index.found q) (index.below q)

    over : (b : Bool) (old : Option ℕ) → cond b None (cond b (Some (length es)) old) ≡ cond b None old
    over true old = refl
    over false old = refl

    same : (q : ReceiptKey) → get keys.ghosts.cmp k q ≡ get keys.ghosts.cmp m q
    same q =
        back_at (is_at (keys.ghosts.cmp (key_of e)) q) (get keys.ghosts.cmp k q) (get keys.ghosts.cmp m q) (λ is. free q (sym (tested e q) ∙ is))
        (taken.0 q ∙ ap (cond (is_at (keys.ghosts.cmp (key_of e)) q) None) (put.0 q) ∙ over (is_at (keys.ghosts.cmp (key_of e)) q) (get keys.ghosts.cmp m q))

-- ---- the entries of a list, one after another

taken_length : (es : List Entry) (i : ℕ) (e : Entry) → slice_get es i ≡ Some e → length (take i es) ≡ i
taken_length es i e at = length-take-le i es (omega (arith, (at_place es i e at).0))

-- one under a key that no entry before it has
pub indexed_next : (m n : BTreeMap ReceiptKey ℕ) (es : List Entry) (i : ℕ) (e : Entry) → slice_get es i ≡ Some e → IsIndex m (take i es) → get keys.ghosts.cmp m (key_of e) ≡ None
    → Updates keys.ghosts.cmp m n (key_of e) (Some i) → IsIndex n (take (i + 1) es)
indexed_next m n es i e at index none updates =
    let before = take i es in
    let new : entry_of e.change.caller e.change.key before ≡ None = index.found (key_of e) ∙ ap (λ p. with_some p (slice_get before)) none in
    let put : Updates keys.ghosts.cmp m n (key_of e) (Some (length before)) = subst (λ (k : ℕ). Updates keys.ghosts.cmp m n (key_of e) (Some k)) (sym (taken_length es i e at)) updates in
    subst (λ (l : List Entry). IsIndex n l) (sym (taken_more es i e at)) (indexed_on m n before e index new put)

first_stays : (b : Bool) (e : Entry) (o : Option Entry) → (b ≡ true → o ≡ None → ⊥) → more b e o ≡ o
first_stays true e None h = absurd (h refl refl)
first_stays false e None h = refl
first_stays b e (Some d) h = refl

-- and one under a key that an entry before it has, which is found still
pub indexed_again : (m : BTreeMap ReceiptKey ℕ) (es : List Entry) (i j : ℕ) (e : Entry) → slice_get es i ≡ Some e → IsIndex m (take i es) → get keys.ghosts.cmp m (key_of e) ≡ Some j → IsIndex m (take (i + 1) es)
indexed_again m es i j e at index is = subst (λ (l : List Entry). IsIndex m l) (sym (taken_more es i e at)) (record { found = found; below = λ q. bound before e (get keys.ghosts.cmp m q) (index.below q) })
  where
    before : List Entry
    before = take i es

    short : j < length before
    short = subst (λ (p : Option ℕ). IfSome p (λ k. k < length before)) is (index.below (key_of e))

    there : entry_of e.change.caller e.change.key before ≡ None → ⊥
    there none = not_past before j short (sym (index.found (key_of e) ∙ ap (λ p. with_some p (slice_get before)) is) ∙ none)

    of_key : (q : ReceiptKey) → is_of e q ≡ true → entry_of q.caller q.key before ≡ None → ⊥
    of_key q same none =
        let w = and_parts (pointwise nat_eq e.change.caller q.caller) (pointwise nat_eq e.change.key q.key) same in
        let caller = same_word _ _ w.0 in
        let key = same_word _ _ w.1 in
        there (subst (λ (c : List ℕ). entry_of c e.change.key before ≡ None) (sym caller) (subst (λ (k : List ℕ). entry_of q.caller k before ≡ None) (sym key) none))

    found : (q : ReceiptKey) → entry_of q.caller q.key (before ++ e ∷ []) ≡ with_some (get keys.ghosts.cmp m q) (slice_get (before ++ e ∷ []))
    found q =
        found_more q before e ∙ first_stays (is_of e q) e (entry_of q.caller q.key before) (of_key q) ∙ index.found q
        ∙ sym (kept before e (get keys.ghosts.cmp m q) (index.below q))
