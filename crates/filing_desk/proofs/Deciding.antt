-- What was done is what is decided.
use Rattle.std.proofs.Common.{◌≡◌, ◌≢◌, refl, sym, ap, ◌∙◌, subst, arith, ℕ, ◌+◌, ◌^◌, ◌<◌, ◌≤◌, true, false, cond, List, [], ◌∷◌, ◌++◌, drop, length, Option, Some, None, Result, Ok, Err}
use Rattle.std.proofs.Math.Logic.{∥∥₁_map}
use Rattle.std.proofs.Math.Seq.{drop-length}
use Rattle.std.proofs.lemmas.List.{drop-append-le, length-append}
use Rattle.wire_requests.specs.Changes.{Asked}
use Rattle.wire_requests.specs.Limits.{IsChangeRecord}
use Rattle.case_requests.specs.contracts.act.ActPartialEq.TheImpl as act
use Rattle.case_records.specs.declared.refusal.Refusal.{Refusal}
use Rattle.case_records.specs.declared.refusal.Refusal.TheVariants as refusals
use Rattle.case_acts.specs.declared.effect.Effect.{Effect}
use Rattle.desk_machine.specs.declared.entry.Entry.{Entry}
use Rattle.desk_machine.specs.States.{State, entry_of, last_number}
use Rattle.desk_machine.specs.Evaluations.{Given, basis_of}
use Rattle.desk_machine.specs.Machine.{Answer as Decided, Kept, No, Done, ruling_of_act, register_effect, decide, decide_new, decide_by, answer_of_repeat, state_after, entries_of_answer, replay}
use Rattle.desk_machine.proofs.Replaying.{replayed_always, same_entries, append_nothing}
use Rattle.filing_desk.specs.declared.answer.Answer.{Answer}
use Rattle.filing_desk.specs.declared.answer.Answer.TheVariants as answers
use Rattle.desk_tables.specs.Reachable.{IsDesk, IsTold}
use Rattle.filing_desk.specs.Answers.{Answers}
use Rattle.filing_desk.specs.Clerks.{Clerking, IsReplay, HasOpening, Advances}

-- another request under a key, and the same one again
pub reused : (s : State) (e : Entry) (q : Asked) → act.ghosts.eq e.change.act q.act ≡ false → Answers (answer_of_repeat e q) s s (answers.Refused (refusals.KeyReused e.number))
reused s e q other = (λ _ _. ap (λ b. cond b (Kept e) (No (refusals.KeyReused e.number))) other, refl)

pub told_again : (s : State) (e : Entry) (q : Asked) → act.ghosts.eq e.change.act q.act ≡ true → Answers (answer_of_repeat e q) s s (answers.Accepted e.number e.outcome)
told_again s e q same = subst (λ d. Answers d s s (answers.Accepted e.number e.outcome)) (sym (ap (λ b. cond b (Kept e) (No (refusals.KeyReused e.number))) same)) (refl, refl)

-- a request whose key stands for an entry
pub known_as : (s : State) (p : ℕ) (q : Asked) (given : Option Given) (e : Entry) (r : Answer) → entry_of q.caller q.key s.entries ≡ Some e → Answers (answer_of_repeat e q) s s r
    → Answers (decide s p q given) s s r
known_as s p q given e r there h =
    let d : decide s p q given ≡ answer_of_repeat e q = ap (λ v. decide_by v s q (basis_of s p given q.act)) there in
    subst (λ x. Answers x s s r) (sym d) h

pub new_as : (s : State) (p : ℕ) (q : Asked) (given : Option Given) (x : Result Effect Refusal) → entry_of q.caller q.key s.entries ≡ None → ruling_of_act s (basis_of s p given q.act) q.act ≡ x
    → decide s p q given ≡ decide_new s q (register_effect s.register x)
new_as s p q given x new is = ap (λ v. decide_by v s q (basis_of s p given q.act)) new ∙ ap (λ y. decide_new s q (register_effect s.register y)) is

-- a new one that is refused
pub refused_as : (s : State) (p : ℕ) (q : Asked) (given : Option Given) (why : Refusal) → entry_of q.caller q.key s.entries ≡ None
    → (why ≢ refusals.NoMemory → ruling_of_act s (basis_of s p given q.act) q.act ≡ Err why) → Answers (decide s p q given) s s (answers.Refused why)
refused_as s p q given why new is = (λ other kept. new_as s p q given (Err why) new (is other), refl)

-- and one that is accepted where the rules of the register allow that
pub accepted_as : (s t : State) (p : ℕ) (q : Asked) (given : Option Given) (e : Effect) (r : Answer) → entry_of q.caller q.key s.entries ≡ None → ruling_of_act s (basis_of s p given q.act) q.act ≡ Ok e
    → Answers (decide_new s q (register_effect s.register (Ok e))) s t r → Answers (decide s p q given) s t r
accepted_as s t p q given e r new is h = subst (λ x. Answers x s t r) (sym (new_as s p q given (Ok e) new is)) h

-- ---- the clerk goes on

entries_after : (s : State) (d : Decided) → (state_after s d).entries ≡ s.entries ++ entries_of_answer d
entries_after s (Kept e) = sym (append_nothing s.entries)
entries_after s (No why) = sym (append_nothing s.entries)
entries_after s (Done e step) = ap (λ (es : List Entry). es ++ e ∷ []) (same_entries step s)

-- the clerk of a state, which has gone on from its entry of a number
abbrev pub seen : {K : Type 0} → State → ℕ → K → Clerking K
seen s base keeper = record { state = s; accepted = drop base s.entries; keeper = keeper }

pub went_on : {K : Type 0} (opening : State) (p : ℕ) (q : Asked) (given : Option Given) (k l : Clerking K) (r : Answer) → IsReplay opening k → Advances (decide k.state p q given) k l r → IsReplay opening l
went_on opening p q given k l (answers.Accepted number outcome) is h = h.1 ∙ replayed_always opening k.state k.accepted p q given is ∙ ap (replay opening) (sym h.2)
went_on opening p q given k l (answers.Refused why) is h = h.1 ∙ is ∙ ap (replay opening) (sym h.2)

pub advances : {K : Type 0} (s t : State) (base : ℕ) (m n : K) (d : Decided) (r : Answer) → base ≤ last_number s → Answers d s t r → Advances d (seen s base m) (seen t base n) r
advances s t base m n d (answers.Accepted number outcome) within h =
    (h.0, h.1, ap (λ (u : State). drop base u.entries) h.1 ∙ ap (drop base) (entries_after s d) ∙ drop-append-le base s.entries (entries_of_answer d) within)
advances s t base m n d (answers.Refused why) within h = (h.0, h.1, ap (λ (u : State). drop base u.entries) h.1)

pub within_on : (s t : State) (base : ℕ) (d : Decided) (r : Answer) → base ≤ last_number s → Answers d s t r → base ≤ last_number t
within_on s t base d (answers.Accepted number outcome) within h =
    let more : last_number t ≡ length s.entries + length (entries_of_answer d) = ap last_number h.1 ∙ ap length (entries_after s d) ∙ length-append s.entries (entries_of_answer d) in
    omega (arith, more, within)
within_on s t base d (answers.Refused why) within h = let same : last_number t ≡ last_number s = ap last_number h.1 in omega (arith, same, within)

-- the desk is storable again
abbrev GoesOn : Type 0
GoesOn = (s : State) (p : ℕ) (q : Asked) (given : Option Given) → IsDesk s → IsChangeRecord q → p ≤ last_number s → IsTold given → last_number s + 1 < 2 ^ 64 → IsDesk (state_after s (decide s p q given))

desk_after : GoesOn → (s : State) (p : ℕ) (q : Asked) (given : Option Given) (d : Decided) → decide s p q given ≡ d → IsChangeRecord q → p ≤ last_number s → IsTold given → IsDesk s → last_number (state_after s d) < 2 ^ 64 → IsDesk (state_after s d)
desk_after law s p q given (Kept e) is asked upto told desk few = desk
desk_after law s p q given (No why) is asked upto told desk few = desk
desk_after law s p q given (Done e step) is asked upto told desk few =
    let more : last_number (state_after s (Done e step)) ≡ last_number s + 1 = ap length (entries_after s (Done e step)) ∙ length-append s.entries (e ∷ []) in
    subst (λ (d : Decided). IsDesk (state_after s d)) is (law s p q given desk asked upto told (omega (arith, more, few)))

pub desk_on : GoesOn → (s t : State) (p : ℕ) (q : Asked) (given : Option Given) (r : Answer) → IsChangeRecord q → p ≤ last_number s → IsTold given → IsDesk s → Answers (decide s p q given) s t r → last_number t < 2 ^ 64 → IsDesk t
desk_on law s t p q given (answers.Accepted number outcome) asked upto told desk h few =
    subst IsDesk (sym h.1) (desk_after law s p q given (decide s p q given) refl asked upto told desk (subst (λ (u : State). last_number u < 2 ^ 64) h.1 few))
desk_on law s t p q given (answers.Refused why) asked upto told desk h few = subst IsDesk (sym h.1) desk

-- the state at the opening stays
pub opening_on : {K : Type 0} (s t : State) (base : ℕ) (m n : K) (p : ℕ) (q : Asked) (given : Option Given) (r : Answer) → base ≤ last_number s → HasOpening base (seen s base m) → Answers (decide s p q given) s t r → HasOpening base (seen t base n)
opening_on s t base m n p q given r within has h = ∥∥₁_map has (λ o. (o.0, o.1, went_on o.0 p q given (seen s base m) (seen t base n) r o.2 (advances s t base m n (decide s p q given) r within h)))

-- where nothing was accepted yet, it is the state itself
none_accepted : (s : State) (base : ℕ) → base ≡ last_number s → drop base s.entries ≡ []
none_accepted s base e = ap (λ (n : ℕ). drop n s.entries) e ∙ drop-length s.entries

pub opened_now : {K : Type 0} (s : State) (base : ℕ) (keeper : K) → base ≡ last_number s → (base ≤ last_number s) × HasOpening base (seen s base keeper) × ((seen s base keeper).accepted ≡ [])
opened_now s base keeper e = let none = none_accepted s base e in (omega (arith, e), ∣ (s, sym e, sym (ap (replay s) none)) ∣₁, none)
