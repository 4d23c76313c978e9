-- The entries, with one more behind them.
use Rattle.std.specs.Cmp.Lexicographic.{pointwise}
use Rattle.std.proofs.Common.{◌≡◌, refl, sym, subst, arith, ℕ, zero, suc, ◌+◌, ◌^◌, ◌<◌, nat_eq, ◌&&◌, Bool, true, false, cond, List, [], ◌∷◌, ◌++◌, All, length, slice_get, Option, Some, None, IfSome}
use Rattle.std.proofs.lemmas.Option.{none-some, IfSome_then}
use Rattle.std.proofs.lemmas.List.{length-append}
use Rattle.std.proofs.lemmas.List.Elements.{All-append, All-cons, All-nil, All-weaker}
use Rattle.std.proofs.lemmas.Slice.Eq.{bytes_eq-Decides}
use Rattle.desk_machine.specs.States.{State, entry_of}
use Rattle.desk_machine.specs.declared.entry.Entry.{Entry}
use Rattle.desk_tables.specs.Reachable.{IsDesk, IsEntryOf, IsOwn}

-- ---- place by place

each_more : (P : ℕ → Entry → Type 0) (es : List Entry) (e : Entry) → ((i : ℕ) → IfSome (slice_get es i) (P i)) → P (length es) e → (i : ℕ)
    → IfSome (slice_get (es ++ e ∷ []) i) (P i)
each_more P [] e h last zero = last
each_more P [] e h last (suc i) = tt
each_more P (d ∷ es) e h last zero = h zero
each_more P (d ∷ es) e h last (suc i) = each_more (λ j. P (suc j)) es e (λ j. h (suc j)) last i

one_more : (entries place : ℕ) (e : Entry) → IsEntryOf entries place e → IsEntryOf (entries + 1) place e
one_more entries place e h = record { number = h.number; recorded = h.recorded; led = h.led; list = omega (arith, h.list) }

-- ---- under their keys

still_by : (b : Bool) (x d : Entry) (old next : Option Entry) → (old ≡ Some d → next ≡ Some d) → cond b (Some x) old ≡ Some d → cond b (Some x) next ≡ Some d
still_by true x d old next on is = is
still_by false x d old next on is = on is

-- an entry that is found is found still
still_found : (caller key : List ℕ) (es : List Entry) (e d : Entry) → entry_of caller key es ≡ Some d → entry_of caller key (es ++ e ∷ []) ≡ Some d
still_found caller key [] e d is = absurd (none-some d is)
still_found caller key (x ∷ es) e d is =
    still_by (pointwise nat_eq x.change.caller caller && pointwise nat_eq x.change.key key) x d (entry_of caller key es) (entry_of caller key (es ++ e ∷ []))
    (still_found caller key es e d) is

itself : (word : List ℕ) → pointwise nat_eq word word ≡ true
itself word = (bytes_eq-Decides word word).1 refl

new_by : (b : Bool) (x e : Entry) (old next : Option Entry) → (old ≡ None → next ≡ Some e) → cond b (Some x) old ≡ None → cond b (Some x) next ≡ Some e
new_by true x e old next on is = absurd (none-some x (sym is))
new_by false x e old next on is = on is

-- and so is the new one, where none was there under its key
new_found : (es : List Entry) (e : Entry) → entry_of e.change.caller e.change.key es ≡ None → entry_of e.change.caller e.change.key (es ++ e ∷ []) ≡ Some e
new_found [] e is = rw (itself e.change.caller, itself e.change.key) refl
new_found (x ∷ es) e is =
    new_by (pointwise nat_eq x.change.caller e.change.caller && pointwise nat_eq x.change.key e.change.key) x e
    (entry_of e.change.caller e.change.key es) (entry_of e.change.caller e.change.key (es ++ e ∷ [])) (new_found es e) is

-- ---- all of them

pub record AreEntries (es : List Entry) : Type 0 where
  pub entries : (i : ℕ) → IfSome (slice_get es i) (IsEntryOf (length es) i)
  pub own : All (IsOwn es) es
  pub counted : length es < 2 ^ 64

pub longer : (es : List Entry) (e : Entry) → length (es ++ e ∷ []) ≡ length es + 1
longer es e = length-append es (e ∷ [])

pub entries_more : (s : State) (e : Entry) → IsDesk s → IsEntryOf (length s.entries) (length s.entries) e
    → entry_of e.change.caller e.change.key s.entries ≡ None
    → length s.entries + 1 < 2 ^ 64 → AreEntries (s.entries ++ e ∷ [])
entries_more s e h new free few =
    let es = s.entries in
    let n = length es in
    let long = longer es e in
    let more : (i : ℕ) → IfSome (slice_get (es ++ e ∷ []) i) (IsEntryOf (n + 1) i) =
    each_more (IsEntryOf (n + 1)) es e (λ i. IfSome_then (slice_get es i) (h.entries i) (one_more n i)) (one_more n n e new) in
    record {
      entries = subst (λ (m : ℕ). (i : ℕ) → IfSome (slice_get (es ++ e ∷ []) i) (IsEntryOf m i)) (sym long) more;
      own = All-append (IsOwn (es ++ e ∷ [])) es (e ∷ [])
          (All-weaker (IsOwn es) (IsOwn (es ++ e ∷ [])) (λ d is. still_found d.change.caller d.change.key es e d is) es h.own)
          (All-cons (IsOwn (es ++ e ∷ [])) e [] (new_found es e free) (All-nil (IsOwn (es ++ e ∷ []))));
      counted = omega (arith, long, few);
    }
