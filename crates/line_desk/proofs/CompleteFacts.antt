-- What is asked is answered.
use Rattle.std.proofs.Common.{◌≡◌, ◌≢◌, ◌⊎◌, inl, inr, ℕ, List, [], ◌∷◌, refl, sym, ap, subst, ◌∙◌, append-nil, ◌++◌, true}
use Rattle.oe_keeper.specs.Kept as rows
use Rattle.wire_requests.specs.Changes.{Asked}
use Rattle.wire_requests.specs.Requests.{IsMalformed, IsRecord, Empty}
use Rattle.wire_requests.specs.declared.request.Request.{Request}
use Rattle.wire_requests.specs.declared.request.Request.TheVariants as requests
use Rattle.wire_replies.specs.Replies.{reply_text}
use Rattle.wire_replies.specs.declared.reply.Reply.TheVariants as replies
use Rattle.case_records.specs.declared.refusal.Refusal.{Refusal}
use Rattle.case_records.specs.declared.refusal.Refusal.TheVariants as refusals
use Rattle.desk_machine.specs.declared.entry.Entry.{Entry}
use Rattle.desk_machine.specs.States.{State}
use Rattle.desk_machine.specs.Machine.{Answer as Decided, Done, Kept, No, entries_of_answer, state_after}
use Rattle.filing_desk.specs.Answers.{answer_of, decision}
use Rattle.filing_desk.specs.Clerks.{Advances, Clerking}
use Rattle.filing_desk.specs.Served.{HasCause}
use Rattle.filing_desk.specs.declared.answer.Answer.{Answer}
use Rattle.filing_desk.specs.declared.answer.Answer.TheVariants as answers
use Rattle.line_desk.specs.Desk.{Blank, IsReply, NotKept, Plain, Refused, Served, Serving, Step, StepOver, Told, Wanting, after_request, change_reply}
use Rattle.line_desk.specs.Complete.{AsDecided, HasReply, IsAnswered, IsTextOf, IsUnkept, KeeperFailed, OutOfMemory}
use Rattle.line_desk.proofs.ChangeFacts.{Ways, ways}

-- ---- changes

module _ {K : Type 0} (IsSteady : K → Type 0) (faults : K → ℕ) (d : Decided) (k l : Clerking K) where
  refused : (why : Refusal) → Ways why → Advances d k l (answers.Refused why) → HasCause IsSteady faults d k.keeper l.keeper (answers.Refused why)
      → IsAnswered IsSteady faults d k l (answers.Refused why)
  refused why (inl e) h cause = OutOfMemory (ap answers.Refused e) h.1 h.2
  refused why (inr (inl e)) h cause = let failed = cause.failed e in KeeperFailed (ap answers.Refused e) failed.0 failed.1 h.1 h.2
  refused why (inr (inr (other, kept))) h cause =
      let no : d ≡ No why = h.0 other kept in
      AsDecided (sym (ap answer_of no)) (h.1 ∙ ap (state_after k.state) (sym no)) (h.2 ∙ sym (append-nil k.accepted) ∙ ap (λ x. k.accepted ++ entries_of_answer x) (sym no))

  pub answered : (answer : Answer) → Advances d k l answer → HasCause IsSteady faults d k.keeper l.keeper answer → IsAnswered IsSteady faults d k l answer
  answered (answers.Accepted number outcome) h cause = AsDecided (sym h.0) h.1 h.2
  answered (answers.Refused why) h cause = refused why (ways why) h cause

  pub steady : (answer : Answer) → IsSteady k.keeper → IsAnswered IsSteady faults d k l answer → (answer ≡ answer_of d) ⊎ (answer ≡ answers.Refused refusals.NoMemory)
  steady answer never (AsDecided is state accepted) = inl is
  steady answer never (OutOfMemory is state accepted) = inr is
  steady answer never (KeeperFailed is makes failed state accepted) = absurd (failed.unsteady never)

-- the answer that tells a new entry
entry_told : (d : Decided) (e : Entry) → entries_of_answer d ≡ e ∷ [] → answer_of d ≡ answers.Accepted e.number e.outcome
entry_told (Kept f) e h = absurd (cc)
entry_told (No why) e h = absurd (cc)
entry_told (Done f step) e h = let same : f ≡ e = (cc) in ap (λ (x : Entry). answers.Accepted x.number x.outcome) same

-- ---- lines

-- by the law that a line is the record of one request, or malformed at one field
module _ (same : (line : List ℕ) (a b : Request) → IsRecord line a → IsRecord line b → a ≡ b) (once : (line : List ℕ) (a b : ℕ) → IsMalformed line a → IsMalformed line b → a ≡ b)
    (apart : (line : List ℕ) (r : Request) (field : ℕ) → IsRecord line r → IsMalformed line field → ⊥) where
  pub told : (s t : State) (line text : List ℕ) (r : Request) → IsRecord line r → Plain s line text t → HasReply s r text t
  told s t line text r is (Blank empty none stays) = absurd (apart line r 1 is (Empty empty refl))
  told s t line text r is (Told q reply q_is reply_is text_is after) =
      let one : q ≡ r = same line q r q_is is in
      inl (reply, subst (λ (x : Request). IsReply s x reply) one reply_is, text_is, after ∙ ap (after_request s) one)
  told s t line text r is (Refused some field malformed text_is stays) = absurd (apart line r field is malformed)
  told s t line text r is (Wanting some text_is stays) = inr (text_is, stays)

  -- a change that breaks no rule
  pub accepted : (s t : State) (line text : List ℕ) (change : Asked) (e : Entry) → IsRecord line (requests.Change change) → entries_of_answer (decision s change) ≡ e ∷ []
      → Plain s line text t → IsTextOf (replies.Accepted e.number true e.outcome) text
  accepted s t line text change e is makes plain =
      elim (told s t line text (requests.Change change) is plain) as (λ _. IsTextOf (replies.Accepted e.number true e.outcome) text) [
        | inl p ↦ inl (p.2 ∙ ap reply_text (p.1 ∙ ap change_reply (entry_told (decision s change) e makes)))
        | inr p ↦ inr p.0
      ]

  pub malformed : (s t : State) (line text : List ℕ) (field : ℕ) → line ≢ [] → IsMalformed line field → Plain s line text t → IsTextOf (replies.Refused (refusals.Malformed field)) text
  malformed s t line text field some is (Blank empty none stays) = absurd (some empty)
  malformed s t line text field some is (Told q reply q_is reply_is text_is after) = absurd (apart line q field q_is is)
  malformed s t line text field some is (Refused there first first_is text_is stays) = inl (text_is ∙ ap (λ n. reply_text (replies.Refused (refusals.Malformed n))) (once line first field first_is is))
  malformed s t line text field some is (Wanting there text_is stays) = inr text_is

  step_kept : {K : Type 0} (IsSteady : K → Type 0) (faults : K → ℕ) (s t : Serving K) (line text : List ℕ) (r : Request) → IsRecord line r → Step IsSteady faults s line text t
      → HasReply s.state r text t.state ⊎ IsUnkept IsSteady faults s r text t
  step_kept IsSteady faults s t line text r is (Served plain later) = inl (told s.state t.state line text r is plain)
  step_kept IsSteady faults s t line text r is (NotKept change change_is makes text_is stays later failed) =
      inr (change, same line r (requests.Change change) is change_is, makes, failed, text_is, stays)

  pub kept : {K : Type 0} (IsSteady : K → Type 0) (faults : K → ℕ) (Tells : K → rows.Kept → Type 0) (s t : Serving K) (line text : List ℕ) (r : Request) → IsRecord line r
      → StepOver Tells IsSteady faults s line text t → HasReply s.state r text t.state ⊎ IsUnkept IsSteady faults s r text t
  kept IsSteady faults Tells s t line text r is over = step_kept IsSteady faults s t line text r is over.step
