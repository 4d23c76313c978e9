-- The desk's answers, line by line.
use Rattle.std.specs.Prelude.{ℕ, ◌≡◌, ◌≢◌, List, [], ◌++◌, true}
use Rattle.oe_keeper.specs.Kept.{Kept}
use Rattle.wire_requests.specs.Changes.{Asked}
use Rattle.wire_requests.specs.Requests.{IsRecord, IsMalformed}
use Rattle.wire_replies.specs.Replies.{reply_text}
use Rattle.wire_requests.specs.declared.request.Request.{Request}
use Rattle.wire_requests.specs.declared.request.Request.TheVariants as requests
use Rattle.case_records.specs.declared.refusal.Refusal.TheVariants as refusals
use Rattle.desk_machine.specs.States.{State}
use Rattle.desk_machine.specs.Machine.{state_after}
use Rattle.desk_queries.specs.Queries.{IsQueryReply, no_memory}
use Rattle.filing_desk.specs.Answers.{answer_of, decision, MakesEntry}
use Rattle.filing_desk.specs.Clerks.{Clerking}
use Rattle.desk_receipts.specs.Handed.{Told as ToldRows}
use Rattle.desk_receipts.specs.Keepers.{IsLater, HasFailed}
use Rattle.filing_desk.specs.declared.answer.Answer.{Answer}
use Rattle.filing_desk.specs.declared.answer.Answer.TheVariants as answers
use Rattle.wire_replies.specs.declared.reply.Reply.{Reply}
use Rattle.wire_replies.specs.declared.reply.Reply.TheVariants as replies

-- the reply to a change; each session sees every accepted one, so all are published
abbrev pub change_reply : Answer → Reply
change_reply (answers.Accepted entry outcome) = replies.Accepted entry true outcome
change_reply (answers.Refused why) = replies.Refused why

-- the reply to a request, and the state after it
abbrev pub IsReply : State → Request → Reply → Type 0
IsReply s (requests.Query query) reply = IsQueryReply s query reply
IsReply s (requests.Change change) reply = reply ≡ change_reply (answer_of (decision s change))

abbrev pub after_request : State → Request → State
after_request s (requests.Query query) = s
after_request s (requests.Change change) = state_after s (decision s change)

-- the refusal for a failed keeper, which changes nothing
abbrev pub not_kept : Reply
not_kept = replies.Refused refusals.KeeperFault

-- the desk's whole state, and its keeper
pub record Serving (K : Type 0) : Type 0 where
  pub state : State
  pub keeper : K

-- those of a clerk
abbrev pub serving : {K : Type 0} → Clerking K → Serving K
serving k = record { state = k.state; keeper = k.keeper }

-- a reply was appended: the reply to the request, which leads to its state; or lack of memory, which changes nothing; or a fault of the
-- keeper, which changes nothing either, and comes only where the change makes an entry and the keeper failed
pub data Tells {K : Type 0} (IsSteady : K → Type 0) (faults : K → ℕ) (before : Serving K) (r : Request) (old new : List ℕ) (after : Serving K) : Type 0 where
  Decided : (reply : Reply) → IsReply before.state r reply → new ≡ old ++ reply_text reply → after.state ≡ after_request before.state r
      → IsLater IsSteady faults before.keeper after.keeper → Tells IsSteady faults before r old new after
  NoRoom : new ≡ old ++ reply_text no_memory → after.state ≡ before.state
      → IsLater IsSteady faults before.keeper after.keeper → Tells IsSteady faults before r old new after
  NotKept : (change : Asked) → r ≡ requests.Change change → MakesEntry (decision before.state change) → new ≡ old ++ reply_text not_kept → after.state ≡ before.state
      → IsLater IsSteady faults before.keeper after.keeper → HasFailed IsSteady faults before.keeper after.keeper → Tells IsSteady faults before r old new after

-- the state is the one after a reply to a request, whatever became of the reply's text
abbrev pub IsAfter : {K : Type 0} → (K → Type 0) → (K → ℕ) → Serving K → Request → Serving K → Type 0
IsAfter IsSteady faults before r after = (text : List ℕ) × Tells IsSteady faults before r [] text after

-- a line, the text of its reply, and the states before and after, where no keeper fails
pub data Plain (before : State) (line text : List ℕ) (after : State) : Type 0 where
  -- an empty line has no reply
  Blank : line ≡ [] → text ≡ [] → after ≡ before → Plain before line text after
  -- a record has its one reply
  Told : (r : Request) (reply : Reply) → IsRecord line r → IsReply before r reply → text ≡ reply_text reply → after ≡ after_request before r → Plain before line text after
  -- any other line is refused at its first wrong field
  Refused : line ≢ [] → (field : ℕ) → IsMalformed line field → text ≡ reply_text (replies.Refused (refusals.Malformed field)) → after ≡ before → Plain before line text after
  -- memory may be wanting for any of them
  Wanting : line ≢ [] → text ≡ reply_text no_memory → after ≡ before → Plain before line text after

-- as above over a keeper: a change is refused for a fault only where it makes an entry and the keeper failed, which one that never fails
-- does not, and it changes nothing
pub data Step {K : Type 0} (IsSteady : K → Type 0) (faults : K → ℕ) (before : Serving K) (line text : List ℕ) (after : Serving K) : Type 0 where
  Served : Plain before.state line text after.state → IsLater IsSteady faults before.keeper after.keeper → Step IsSteady faults before line text after
  NotKept : (change : Asked) → IsRecord line (requests.Change change) → MakesEntry (decision before.state change) → text ≡ reply_text not_kept → after.state ≡ before.state
      → IsLater IsSteady faults before.keeper after.keeper → HasFailed IsSteady faults before.keeper after.keeper → Step IsSteady faults before line text after

-- the keeper's rows after the line, where known, are those of the desk: what was accepted is stored before its reply is written
pub record StepOver {K : Type 0} (TellsRows : K → Kept → Type 0) (IsSteady : K → Type 0) (faults : K → ℕ) (before : Serving K) (line text : List ℕ) (after : Serving K) : Type 0 where
  pub step : Step IsSteady faults before line text after
  pub told : ToldRows TellsRows after.keeper after.state

-- the text of the reply to a line was appended
pub record Answers {K : Type 0} (IsSteady : K → Type 0) (faults : K → ℕ) (before : Serving K) (line old new : List ℕ) (after : Serving K) : Type 0 where
  pub reply : List ℕ
  pub step : Step IsSteady faults before line reply after
  pub appended : new ≡ old ++ reply
