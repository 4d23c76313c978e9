-- Entries that are found by their callers and keys.
use Rattle.std.proofs.Common.{◌≡◌, ◌≢◌, refl, sym, ap, ◌∙◌, ℕ, zero, suc, List, [], ◌∷◌, ◌++◌, All, Option, Some, None, Bool, true, false, cond, ◌&&◌, nat_eq}
use Rattle.std.proofs.Common.{slice_get}
use Rattle.std.specs.Cmp.Lexicographic.{pointwise, same_text}
use Rattle.std.proofs.lemmas.Bool.{and_parts}
use Rattle.std.proofs.lemmas.List.Elements.{All-weaker}
use Rattle.std.proofs.lemmas.Option.{same_Some}
use Rattle.std.proofs.lemmas.Slice.Eq.{bytes_eq-Decides}
use Rattle.desk_machine.specs.States.{entry_of}
use Rattle.desk_machine.specs.declared.entry.Entry.{Entry}
use Rattle.desk_tables.proofs.Places.{all_with, filled}

abbrev is_of : Entry → List ℕ → List ℕ → Bool
is_of e caller key = pointwise nat_eq e.change.caller caller && pointwise nat_eq e.change.key key

-- the entry of the caller and key of another
abbrev pub entry_like : Entry → List Entry → Option Entry
entry_like e es = entry_of e.change.caller e.change.key es

named_so : (e : Entry) (caller key : List ℕ) → is_of e caller key ≡ true → (e.change.caller ≡ caller) × (e.change.key ≡ key)
named_so e caller key h =
    let parts = and_parts (pointwise nat_eq e.change.caller caller) (pointwise nat_eq e.change.key key) h in
    (same_text e.change.caller caller (sym parts.0), same_text e.change.key key (sym parts.1))

itself : (xs : List ℕ) → pointwise nat_eq xs xs ≡ true
itself xs = (bytes_eq-Decides xs xs).1 refl

its_own : (e : Entry) → is_of e e.change.caller e.change.key ≡ true
its_own e = ap (λ b. b && pointwise nat_eq e.change.key e.change.key) (itself e.change.caller) ∙ itself e.change.key

-- ---- where an entry that is found stands

pub record StandsAt (caller key : List ℕ) (es : List Entry) (e : Entry) : Type 0 where
  pub place : ℕ
  pub at : slice_get es place ≡ Some e
  pub caller_is : e.change.caller ≡ caller
  pub key_is : e.change.key ≡ key

stands_by : (caller key : List ℕ) (d : Entry) (es : List Entry) (e : Entry) (b : Bool) → is_of d caller key ≡ b
    → cond b (Some d) (entry_of caller key es) ≡ Some e
    → (entry_of caller key es ≡ Some e → StandsAt caller key es e) → StandsAt caller key (d ∷ es) e
stands_by caller key d es e true h found rest =
    let same : d ≡ e = same_Some d e found in
    let names = named_so d caller key h in
    record {
      place = 0;
      at = found;
      caller_is = ap (λ (x : Entry). x.change.caller) (sym same) ∙ names.0;
      key_is = ap (λ (x : Entry). x.change.key) (sym same) ∙ names.1;
    }
stands_by caller key d es e false h found rest =
    let s = rest found in record { place = suc s.place; at = s.at; caller_is = s.caller_is; key_is = s.key_is }

pub stands_at : (caller key : List ℕ) (es : List Entry) (e : Entry) → entry_of caller key es ≡ Some e → StandsAt caller key es e
stands_at caller key [] e found = absurd (cc (found))
stands_at caller key (d ∷ es) e found = stands_by caller key d es e (is_of d caller key) refl found (stands_at caller key es e)

found_by_test : (b : Bool) (d : Entry) (o : Option Entry) → b ≡ true → cond b (Some d) o ≡ None → ⊥
found_by_test true d o h none = absurd (cc (none))
found_by_test false d o h none = absurd (cc (h))

found_by_rest : (b : Bool) (d : Entry) (o : Option Entry) → (o ≡ None → ⊥) → cond b (Some d) o ≡ None → ⊥
found_by_rest true d o h none = absurd (cc (none))
found_by_rest false d o h none = h none

-- an entry of a filled place is found, or one before it
pub filled_found : (e : Entry) (os : List (Option Entry)) (i : ℕ) → slice_get os i ≡ Some (Some e) → entry_like e (filled os) ≢ None
filled_found e [] i at none = absurd (cc (at))
filled_found e (None ∷ os) zero at none = absurd (cc (at))
filled_found e (None ∷ os) (suc i) at none = filled_found e os i at none
filled_found e (Some d ∷ os) zero at none =
    let same : e ≡ d = sym (same_Some d e (same_Some (Some d) (Some e) at)) in
    found_by_test (is_of d e.change.caller e.change.key) d (entry_like e (filled os))
    (ap (λ (x : Entry). is_of d x.change.caller x.change.key) same ∙ its_own d) none
filled_found e (Some d ∷ os) (suc i) at none = found_by_rest (is_of d e.change.caller e.change.key) d (entry_like e (filled os)) (filled_found e os i at) none

-- ---- one more entry among those that are there, of another caller or key

module _ (e : Entry) (ys : List Entry) where
  found_still : (caller key : List ℕ) (xs : List Entry) → is_of e caller key ≡ false → entry_of caller key (xs ++ e ∷ ys) ≡ entry_of caller key (xs ++ ys)
  found_still caller key [] h = ap (λ b. cond b (Some e) (entry_of caller key ys)) h
  found_still caller key (x ∷ xs) h = ap (cond (is_of x caller key) (Some x)) (found_still caller key xs h)

  passed : (b : Bool) (x : Entry) (old new : Option Entry) → cond b (Some x) old ≡ None → (old ≡ None → new ≡ Some e) → cond b (Some x) new ≡ Some e
  passed true x old new none rest = absurd (cc (none))
  passed false x old new none rest = rest none

  found_now : (xs : List Entry) → entry_like e (xs ++ ys) ≡ None → entry_like e (xs ++ e ∷ ys) ≡ Some e
  found_now [] none = ap (λ b. cond b (Some e) (entry_like e ys)) (its_own e)
  found_now (x ∷ xs) none = passed (is_of x e.change.caller e.change.key) x _ _ none (found_now xs)

  own_still : (xs : List Entry) (d : Entry) (b : Bool) → is_of e d.change.caller d.change.key ≡ b → entry_like e (xs ++ ys) ≡ None
      → entry_like d (xs ++ ys) ≡ Some d → entry_like d (xs ++ e ∷ ys) ≡ Some d
  own_still xs d true h none own =
      let names = named_so e d.change.caller d.change.key h in
      let same : entry_like e (xs ++ ys) ≡ entry_like d (xs ++ ys) = (λ i. entry_of (names.0 i) (names.1 i) (xs ++ ys)) in
      absurd (cc (same, none, own))
  own_still xs d false h none own = found_still d.change.caller d.change.key xs h ∙ own

  pub own_with : (xs : List Entry) → entry_like e (xs ++ ys) ≡ None → All (λ d. entry_like d (xs ++ ys) ≡ Some d) (xs ++ ys)
      → All (λ d. entry_like d (xs ++ e ∷ ys) ≡ Some d) (xs ++ e ∷ ys)
  own_with xs none own =
      all_with (λ d. entry_like d (xs ++ e ∷ ys) ≡ Some d) xs ys e
      (All-weaker (λ d. entry_like d (xs ++ ys) ≡ Some d) (λ d. entry_like d (xs ++ e ∷ ys) ≡ Some d)
      (λ d own. own_still xs d (is_of e d.change.caller d.change.key) refl none own) (xs ++ ys) own)
      (found_now xs none)
