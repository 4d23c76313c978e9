-- A reply's published entry is in the note.
use Rattle.std.proofs.Common.{◌≡◌, refl, sym, ap, ◌∙◌, subst, arith, ℕ, zero, suc, ◌+◌, ◌-◌, ◌≤◌, ◌<◌, nat_le, nat_eq, Bool, true, false, ◌&&◌, cond, List, [], ◌∷◌, ◌++◌, length, Option, Some, None, IfSome, slice_get, Result, Ok, Err}
use Rattle.std.specs.Cmp.Lexicographic.{pointwise}
use Rattle.std.proofs.lemmas.Bool.Decides.{nat_tests}
use mathlib.Core.List.{IsPrefix}
use Rattle.wire_requests.specs.Changes.{Asked}
use Rattle.case_requests.specs.contracts.act.ActPartialEq.TheImpl as act
use Rattle.case_records.specs.declared.refusal.Refusal.{Refusal}
use Rattle.case_records.specs.declared.refusal.Refusal.TheVariants as refusals
use Rattle.case_records.specs.declared.outcome.Outcome.{Outcome}
use Rattle.case_records.specs.declared.case.KeptList.{KeptList}
use Rattle.case_acts.specs.declared.effect.Effect.{Effect}
use Rattle.desk_machine.specs.declared.entry.Entry.{Entry}
use Rattle.desk_machine.specs.States.{State, entry_of, last_number}
use Rattle.desk_machine.specs.Evaluations.{Given, basis_of}
use Rattle.desk_machine.specs.Machine.{Answer as Decided, Kept, No, Done, decide, decide_by, decide_new, answer_of_repeat, ruling_on_act, state_after}
use Rattle.desk_machine.proofs.Replaying.{same_entries}
use Rattle.oe_session.proofs.Lists.{get_last}
use Rattle.filing_desk.specs.Answers.{answer_of}
use Rattle.filing_desk.specs.declared.answer.Answer.{Answer}
use Rattle.filing_desk.specs.declared.answer.Answer.TheVariants as answers
use Rattle.filing_desk.specs.Clerks.{Clerking, Advances}
use Rattle.desk_tables.specs.Reachable.{IsDesk, IsEntryOf}
use Rattle.publishing_clerk.specs.Rulings.{HasOwn, reply_of, entry_decided}

-- ---- places

-- what stands in a list stands in its beginning, where that is long enough
get_before : (xs ys : List Entry) (k : ℕ) (x : Entry) → IsPrefix xs ys → k < length xs → slice_get ys k ≡ Some x → slice_get xs k ≡ Some x
get_before [] ys k x p lt is = absurd (omega arith)
get_before (a ∷ xs) [] k x p lt is = absurd (cc (p.1))
get_before (a ∷ xs) (b ∷ ys) zero x p lt is = cc (p.1, is)
get_before (a ∷ xs) (b ∷ ys) (suc k) x p lt is = get_before xs ys k x (p.0, cc (p.1)) (omega arith) is

get_behind : (xs ys : List Entry) (k n : ℕ) (x : Entry) → k ≡ length xs + n → slice_get (xs ++ ys) k ≡ Some x → slice_get ys n ≡ Some x
get_behind [] ys k n x at is = (let same : k ≡ n = omega (arith, at) in ap (slice_get ys) (sym same) ∙ is)
get_behind (a ∷ xs) ys zero n x at is = absurd (omega (arith, at))
get_behind (a ∷ xs) ys (suc k) n x at is = get_behind xs ys k n x (omega (arith, at)) is

-- the entry at a place, where there is one
record At (es : List Entry) (e : Entry) : Type 0 where
  place : ℕ
  there : slice_get es place ≡ Some e

found_by : (b : Bool) (caller key : List ℕ) (d e : Entry) (es : List Entry) → cond b (Some d) (entry_of caller key es) ≡ Some e → (entry_of caller key es ≡ Some e → At es e) → At (d ∷ es) e
found_by true caller key d e es is more = record { place = 0; there = is }
found_by false caller key d e es is more = let m = more is in record { place = suc m.place; there = m.there }

found : (caller key : List ℕ) (es : List Entry) (e : Entry) → entry_of caller key es ≡ Some e → At es e
found caller key [] e is = absurd (cc (is))
found caller key (d ∷ es) e is = found_by (pointwise nat_eq d.change.caller caller && pointwise nat_eq d.change.key key) caller key d e es is (found caller key es e)

-- ---- the entry of a decision

kept_is : (b : Bool) (d e : Entry) → cond b (Kept d) (No (refusals.KeyReused d.number)) ≡ Kept e → Some d ≡ Some e
kept_is true d e is = let same : d ≡ e = cc (is) in ap Some same
kept_is false d e is = absurd (cc (is))

not_kept : (s : State) (q : Asked) (r : Result Effect Refusal) (e : Entry) → decide_new s q r ≡ Kept e → ⊥
not_kept s q (Err why) e is = cc (is)
not_kept s q (Ok f) e is = cc (is)

known : (s : State) (q : Asked) (basis : Option KeptList) (e : Entry) (v : Option Entry) → decide_by v s q basis ≡ Kept e → v ≡ Some e
known s q basis e (Some d) is = kept_is (act.ghosts.eq d.change.act q.act) d e is
known s q basis e None is = absurd (not_kept s q (ruling_on_act s basis q.act) e is)

-- it stands among the entries after the decision
stands : (s : State) (p : ℕ) (q : Asked) (given : Option Given) (d : Decided) (e : Entry) → decide s p q given ≡ d → entry_decided d ≡ Some e → At (state_after s d).entries e
stands s p q given (Kept k) e is some = found q.caller q.key s.entries e (known s q (basis_of s p given q.act) k (entry_of q.caller q.key s.entries) is ∙ some)
stands s p q given (No why) e is some = absurd (cc (some))
stands s p q given (Done k step) e is some =
    let same : k ≡ e = cc (some) in
    record {
      place = length s.entries;
      there = ap (λ (es : List Entry). slice_get (es ++ k ∷ []) (length s.entries)) (same_entries step s) ∙ get_last s.entries k ∙ ap Some same;
    }

accepted_entry : (d : Decided) (number : ℕ) (outcome : Outcome) → answer_of d ≡ answers.Accepted number outcome → (e : Entry) × (entry_decided d ≡ Some e) × (e.number ≡ number)
accepted_entry (Kept e) number outcome is = (e, refl, cc (is))
accepted_entry (No why) number outcome is = absurd (cc (is))
accepted_entry (Done e step) number outcome is = (e, refl, cc (is))

-- ---- the note

numbered : (s : State) (e : Entry) (at : At s.entries e) → IsDesk s → e.number ≡ at.place + 1
numbered s e at desk =
    let P : Option Entry → Type 0 = λ v. IfSome v (IsEntryOf (length s.entries) at.place) in
    let is : IsEntryOf (length s.entries) at.place e = subst P at.there (desk.entries at.place) in is.number

in_note : (opening t : State) (base : ℕ) (accepted note : List Entry) (e : Entry) → At t.entries e → IsDesk t → base ≡ last_number opening → t.entries ≡ opening.entries ++ accepted → IsPrefix note accepted
    → e.number ≤ base + length note → base < e.number → slice_get note (e.number - base - 1) ≡ Some e
in_note opening t base accepted note e at desk is entries begins few many =
    let number : e.number ≡ at.place + 1 = numbered t e at desk in
    let there : slice_get (opening.entries ++ accepted) at.place ≡ Some e = ap (λ (es : List Entry). slice_get es at.place) (sym entries) ∙ at.there in
    let behind : slice_get accepted (e.number - base - 1) ≡ Some e = get_behind opening.entries accepted at.place (e.number - base - 1) e (omega (arith, number, is, many)) there in
    get_before note accepted (e.number - base - 1) e begins (omega (arith, few, many)) behind

-- a reply that says that its entry is published has it in the note
pub own : {K : Type 0} (opening : State) (base p : ℕ) (q : Asked) (given : Option Given) (k l : Clerking K) (answer : Answer) (note : List Entry) → IsDesk l.state → base ≡ last_number opening
    → l.state.entries ≡ opening.entries ++ l.accepted → IsPrefix note l.accepted → Advances (decide k.state p q given) k l answer
    → HasOwn base note (decide k.state p q given) (reply_of (base + length note) answer)
own opening base p q given k l (answers.Refused why) note desk is entries begins h = tt
own opening base p q given k l (answers.Accepted number outcome) note desk is entries begins h = λ (shown : nat_le number (base + length note) ≡ true) (many : base < number).
    let d = decide k.state p q given in
    let told = accepted_entry d number outcome h.0 in
    let e : Entry = told.0 in
    let same : e.number ≡ number = told.2 in
    let at : At l.state.entries e = subst (λ (u : State). At u.entries e) (sym h.1) (stands k.state p q given d e refl told.1) in
    let few : e.number ≤ base + length note = grind (arith, nat_tests, shown, same) in
    let there : slice_get note (e.number - base - 1) ≡ Some e = in_note opening l.state base l.accepted note e at desk is entries begins few (omega (arith, many, same)) in
    ap (λ (n : ℕ). slice_get note (n - base - 1)) (sym same) ∙ there ∙ sym told.1
