-- A desk that rows can tell is one again after whatever is decided of a request that has a record.
use Rattle.std.proofs.Common.{◌≡◌, refl, sym, ap, subst, arith, ℕ, ◌+◌, ◌^◌, ◌<◌, ◌≤◌, Bool, true, false, cond, List, [], ◌∷◌, ◌++◌, Option, Some, None, Result, Ok, Err}
use Rattle.std.proofs.lemmas.Option.{same_Some}
use Rattle.std.proofs.lemmas.List.Elements.{All-nil}
use Rattle.airfields.specs.Airfields.{IsHeld}
use Rattle.airfields.specs.declared.airfield.Airfield.{Airfield}
use Rattle.airport_register.specs.Registers.{IsRegister}
use Rattle.case_records.specs.declared.refusal.Refusal.{Refusal}
use Rattle.case_records.specs.declared.refusal.Refusal.TheVariants as refusals
use Rattle.case_requests.specs.contracts.act.ActPartialEq.TheImpl as act
use Rattle.case_acts.specs.declared.effect.Effect.{Effect}
use Rattle.wire_requests.specs.Changes.{Asked}
use Rattle.wire_requests.specs.Limits.{IsChangeRecord}
use Rattle.desk_tables.specs.Names.{IsNamed}
use Rattle.desk_machine.specs.declared.entry.Entry.{Entry}
use Rattle.desk_machine.specs.States.{State, empty, state_after_step, with_entry, entry_of, last_number}
use Rattle.desk_machine.specs.Evaluations.{Given, basis_of}
use Rattle.desk_machine.specs.Machine.{Kept, No, ruling_of_act, register_rule, register_effect, ruling_on_act, entry, decide_new, decide_by, decide, state_after}
use Rattle.desk_machine.proofs.Going.{came}
use Rattle.desk_machine.proofs.Replaying.{same_entries}
use Rattle.desk_tables.specs.Reachable.{IsDesk, IsCaseOf, IsOwn, IsTold}
use Rattle.desk_tables.proofs.ClosedDays.{none_closed}
use Rattle.desk_tables.proofs.NewEntries.{entries_more, longer}
use Rattle.desk_tables.proofs.SteppedDesks.{RegisterGoesOn, HoldsPlain, holds_after, desk_after}
use Rattle.desk_tables.proofs.Acted.{FindingsAreTold, acted_plain}

-- ---- an empty desk

no_airfields : IsRegister []
no_airfields = record { number = omega arith; rises = tt; held = All-nil IsHeld }

pub desk_starts : IsDesk empty
desk_starts = record {
  register = no_airfields;
  named = All-nil IsNamed;
  day = tt;
  has_day = λ none. refl;
  closed = none_closed;
  most = omega arith;
  cases = All-nil (IsCaseOf 0);
  entries = λ i. tt;
  own = All-nil (IsOwn []);
  counted = omega arith;
}

-- ---- a new entry

-- the effect that the rules of the register leave is that of the act
record IsAllowed (register : List Airfield) (r : Result Effect Refusal) (e : Effect) : Type 0 where
  acts : r ≡ Ok e
  rule : register_rule register e.step ≡ None

allowed : (register : List Airfield) (r : Result Effect Refusal) (e : Effect) → register_effect register r ≡ Ok e → IsAllowed register r e
allowed register (Err why) e is = absurd (cc (is))
allowed register (Ok x) e is =
    let c = came (register_rule register x.step) (Some x) e is in
    let same = same_Some x e c.some in
    record { acts = ap Ok same; rule = subst (λ (y : Effect). register_rule register y.step ≡ None) same c.none }

entered : (s : State) (p : ℕ) (q : Asked) (given : Option Given) (e : Effect) → RegisterGoesOn → FindingsAreTold → IsDesk s → p ≤ last_number s → IsTold given → IsChangeRecord q → last_number s + 1 < 2 ^ 64
    → entry_of q.caller q.key s.entries ≡ None
    → IsAllowed s.register (ruling_of_act s (basis_of s p given q.act) q.act) e → IsDesk (with_entry (entry s q e.outcome) (state_after_step e.step s))
entered s p q given e law told h upto fits asked few free a =
    let plain = acted_plain s p given q.caller q.key q.act e told h upto fits asked a.acts in
    let d = entry s q e.outcome in
    let es = s.entries ++ d ∷ [] in
    desk_after (state_after_step e.step s) d es (ap (λ (xs : List Entry). xs ++ d ∷ []) (sym (same_entries e.step s)))
    (subst (λ (n : ℕ). HoldsPlain n (state_after_step e.step s)) (sym (longer s.entries d)) (holds_after s e.step law h plain.step a.rule))
    (entries_more s d h (record { number = refl; recorded = asked; led = plain.led; list = plain.list }) free few)

-- ---- each answer

repeated_on : (s : State) (b : Bool) (e : Entry) → IsDesk s → IsDesk (state_after s (cond b (Kept e) (No (refusals.KeyReused e.number))))
repeated_on s true e h = h
repeated_on s false e h = h

new_on : (s : State) (p : ℕ) (q : Asked) (given : Option Given) (r : Result Effect Refusal) → RegisterGoesOn → FindingsAreTold → IsDesk s → p ≤ last_number s → IsTold given → IsChangeRecord q → last_number s + 1 < 2 ^ 64
    → entry_of q.caller q.key s.entries ≡ None
    → ruling_on_act s (basis_of s p given q.act) q.act ≡ r → IsDesk (state_after s (decide_new s q r))
new_on s p q given (Err why) law told h upto fits asked few free is = h
new_on s p q given (Ok e) law told h upto fits asked few free is =
    entered s p q given e law told h upto fits asked few free (allowed s.register (ruling_of_act s (basis_of s p given q.act) q.act) e is)

decided_on : (s : State) (p : ℕ) (q : Asked) (given : Option Given) (v : Option Entry) → RegisterGoesOn → FindingsAreTold → IsDesk s → p ≤ last_number s → IsTold given → IsChangeRecord q → last_number s + 1 < 2 ^ 64
    → entry_of q.caller q.key s.entries ≡ v
    → IsDesk (state_after s (decide_by v s q (basis_of s p given q.act)))
decided_on s p q given (Some e) law told h upto fits asked few there = repeated_on s (act.ghosts.eq e.change.act q.act) e h
decided_on s p q given None law told h upto fits asked few there = new_on s p q given (ruling_on_act s (basis_of s p given q.act) q.act) law told h upto fits asked few there refl

pub desk_goes_on : RegisterGoesOn → FindingsAreTold → (s : State) (p : ℕ) (q : Asked) (given : Option Given) → IsDesk s → IsChangeRecord q → p ≤ last_number s → IsTold given
    → last_number s + 1 < 2 ^ 64 → IsDesk (state_after s (decide s p q given))
desk_goes_on law told s p q given h asked upto fits few = decided_on s p q given (entry_of q.caller q.key s.entries) law told h upto fits asked few refl
