-- What a decision does with the keeper.
use Rattle.std.proofs.Common.{◌≡◌, ◌≢◌, refl, sym, subst, arith, ℕ, suc, false, nat_eq, List, [], ◌∷◌, length, Option, None, Some, Result, Ok, Err}
use Rattle.std.proofs.lemmas.Grind.{common_steps}
use Rattle.determination_dates.specs.Closed.{is_none_of}
use Rattle.oe_keeper.specs.Kept.{Kept, rows_after_changes}
use Rattle.oe_keeper.specs.declared.change.RowChange.{RowChange}
use Rattle.case_records.specs.declared.refusal.Refusal.{Refusal}
use Rattle.case_records.specs.declared.refusal.Refusal.TheVariants as refusals
use Rattle.case_records.specs.declared.outcome.Outcome.{Outcome}
use Rattle.case_acts.specs.declared.effect.Step.{Step}
use Rattle.case_acts.specs.declared.effect.Effect.{Effect}
use Rattle.case_acts.specs.Rulings.{by_first}
use Rattle.wire_requests.specs.Changes.{Asked}
use Rattle.desk_machine.specs.States.{State, state_after_step, with_entry}
use Rattle.desk_machine.specs.declared.entry.Entry.{Entry}
use Rattle.desk_machine.specs.Machine.{Answer as Decided, decide_new, register_rule, register_effect}
use Rattle.desk_tables.specs.Rows.{AreRows}
use Rattle.desk_tables.specs.Changes.{changes, Fits}
use Rattle.desk_tables.proofs.Keeping.{rows_kept}
use Rattle.desk_receipts.specs.Handed.{Told, Carry}
use Rattle.desk_receipts.proofs.Unasked.{as_before}
use Rattle.filing_desk.specs.Answers.{IfRefused, MakesEntry}
use Rattle.filing_desk.specs.Served.{Serves, TakesStep}
use Rattle.filing_desk.specs.declared.answer.Answer.{Answer}
use Rattle.filing_desk.specs.declared.answer.Answer.TheVariants as answers

abbrev ok : {T : Type 0} → T → Result T Refusal
ok x = Ok x

module _ {K : Type 0} (Tells : K → Kept → Type 0) (IsLoaded : K → Type 0) (IsSteady : K → Type 0) (faults : K → ℕ) where
  pub unserved : (k : K) (s : State) (d : Decided) (why : Refusal) → ∥ IsLoaded k ∥₁ → why ≢ refusals.KeeperFault → Serves Tells IsLoaded IsSteady faults d k k s s (answers.Refused why)
  unserved k s d why loaded other = record { told = λ h. h; loaded = loaded; cause = record { later = as_before IsSteady faults k; unasked = λ n. refl; failed = λ e. absurd (other e) } }

  pub unasked_for : (k : K) (s : State) (d : Decided) (answer : Answer) → ∥ IsLoaded k ∥₁ → IfRefused answer (λ why. why ≢ refusals.KeeperFault) → Serves Tells IsLoaded IsSteady faults d k k s s answer
  unasked_for k s d (answers.Accepted number outcome) loaded other = record { told = λ h. h; loaded = loaded; cause = record { later = as_before IsSteady faults k; unasked = λ n. refl; failed = tt } }
  unasked_for k s d (answers.Refused why) loaded other = unserved k s d why loaded other

some_number : (n : ℕ) → nat_eq (suc n) 0 ≡ false
some_number n = grind (arith, common_steps)

pub none_of : {A : Type 0} (xs : List A) → nat_eq (length xs) 0 ≡ is_none_of xs
none_of [] = refl
none_of (x ∷ xs) = some_number (length xs)

-- ---- a keeper that tells nothing

module _ {K : Type 0} (Tells : K → Kept → Type 0) (k : K) where
  pub told_by_none : (s : State) → ((rows : Kept) → Tells k rows → ⊥) → Told Tells k s
  unfolding Told
  told_by_none s none rows is = absurd (none rows is)

  -- ---- an accepted request

  pub carried : (s t : State) (e : Entry) (step : Step) (list : List RowChange) → ((rows : Kept) → Tells k rows → list ≡ changes s e step) → t ≡ with_entry e (state_after_step step s) → Fits s e step
      → Carry Tells k s list t
  unfolding Carry
  carried s t e step list made is fits rows told are =
      subst (λ (u : State). AreRows u (rows_after_changes rows list)) (sym is)
      (subst (λ (l : List RowChange). AreRows (with_entry e (state_after_step step s)) (rows_after_changes rows l)) (sym (made rows told)) (rows_kept s e step rows fits are))

-- ---- a new request, by what the rules of the register say of its step

-- where they allow it, it makes an entry
ruled_in : (s : State) (q : Asked) (e : Effect) → register_rule s.register e.step ≡ None → MakesEntry (decide_new s q (register_effect s.register (Ok e)))
ruled_in s q e is = subst (λ (o : Option Refusal). MakesEntry (decide_new s q (by_first o (Some e)))) (sym is) tt

module _ {K : Type 0} (Tells : K → Kept → Type 0) (IsLoaded : K → Type 0) (IsSteady : K → Type 0) (faults : K → ℕ) (old new : K) (s t : State) (list : List RowChange) (q : Asked) (e : Effect) where
  abbrev decided : Decided
  decided = decide_new s q (register_effect s.register (Ok e))

  -- the keeper was asked only where an entry is made
  asked_for : ((register_rule s.register e.step ≡ None → ⊥) → new ≡ old) → (MakesEntry decided → ⊥) → new ≡ old
  asked_for unasked none = unasked (λ is. none (ruled_in s q e is))

  pub served : {T : Type 0} (entry : Entry) (x : T) (number : ℕ) (outcome : Outcome) → Carry Tells old s list t → TakesStep Tells IsLoaded IsSteady faults old new list entry e.step s t (ok {T = T} x)
      → Serves Tells IsLoaded IsSteady faults decided old new s t (answers.Accepted number outcome)
  served entry x number outcome carry h =
      record { told = h.handed.done s t carry; loaded = h.handed.loaded; cause = record { later = h.handed.later; unasked = asked_for h.unasked; failed = tt } }

  pub not_served : {T : Type 0} (entry : Entry) (why : Refusal) → TakesStep {T = T} Tells IsLoaded IsSteady faults old new list entry e.step s t (Err why)
      → Serves Tells IsLoaded IsSteady faults decided old new s t (answers.Refused why)
  not_served entry why h = record {
    told = λ told. subst (λ (u : State). Told Tells new u) (sym h.same) (h.handed.undone s told);
    loaded = h.handed.loaded;
    cause = record { later = h.handed.later; unasked = asked_for h.unasked; failed = λ is. (ruled_in s q e (h.allowed is), h.handed.cause is) };
  }
