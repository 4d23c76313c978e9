-- What is asked is answered: each change by the clerk, and each line of a session.
use Rattle.std.specs.Prelude.{◌≡◌, ◌⊎◌, ℕ, List, ◌++◌}
use Rattle.wire_requests.specs.Changes.{Asked}
use Rattle.wire_requests.specs.declared.request.Request.{Request}
use Rattle.wire_requests.specs.declared.request.Request.TheVariants as requests
use Rattle.wire_replies.specs.Replies.{reply_text}
use Rattle.wire_replies.specs.declared.reply.Reply.{Reply}
use Rattle.case_records.specs.declared.refusal.Refusal.TheVariants as refusals
use Rattle.desk_machine.specs.States.{State}
use Rattle.desk_machine.specs.Machine.{Answer as Decided, state_after, entries_of_answer}
use Rattle.desk_queries.specs.Queries.{no_memory}
use Rattle.filing_desk.specs.Answers.{answer_of, decision, MakesEntry}
use Rattle.filing_desk.specs.Clerks.{Clerking}
use Rattle.desk_receipts.specs.Keepers.{HasFailed}
use Rattle.filing_desk.specs.declared.answer.Answer.{Answer}
use Rattle.filing_desk.specs.declared.answer.Answer.TheVariants as answers
use Rattle.line_desk.specs.Desk.{IsReply, Serving, after_request, not_kept}

-- a change was answered as it is decided, and clerk k became l; or memory ran out, or it was to make an entry and the keeper failed, and
-- nothing changed
pub data IsAnswered {K : Type 0} (IsSteady : K → Type 0) (faults : K → ℕ) (d : Decided) (k l : Clerking K) (answer : Answer) : Type 0 where
  AsDecided : answer ≡ answer_of d → l.state ≡ state_after k.state d → l.accepted ≡ k.accepted ++ entries_of_answer d → IsAnswered IsSteady faults d k l answer
  OutOfMemory : answer ≡ answers.Refused refusals.NoMemory → l.state ≡ k.state → l.accepted ≡ k.accepted → IsAnswered IsSteady faults d k l answer
  KeeperFailed : answer ≡ answers.Refused refusals.KeeperFault → MakesEntry d → HasFailed IsSteady faults k.keeper l.keeper → l.state ≡ k.state → l.accepted ≡ k.accepted
      → IsAnswered IsSteady faults d k l answer

-- this text tells a reply, or that memory was wanting
abbrev pub IsTextOf : Reply → List ℕ → Type 0
IsTextOf reply text = (text ≡ reply_text reply) ⊎ (text ≡ reply_text no_memory)

-- a request has its reply, which takes the desk to its state; or memory was wanting, and nothing changed
abbrev pub HasReply : State → Request → List ℕ → State → Type 0
HasReply before r text after =
    ((reply : Reply) × IsReply before r reply × (text ≡ reply_text reply) × (after ≡ after_request before r))
    ⊎ ((text ≡ reply_text no_memory) × (after ≡ before))

-- a change that makes an entry was refused because the keeper failed, and nothing changed
abbrev pub IsUnkept : {K : Type 0} → (K → Type 0) → (K → ℕ) → Serving K → Request → List ℕ → Serving K → Type 0
IsUnkept IsSteady faults before r text after =
    (change : Asked) × (r ≡ requests.Change change) × MakesEntry (decision before.state change) × HasFailed IsSteady faults before.keeper after.keeper
    × (text ≡ reply_text not_kept) × (after.state ≡ before.state)
