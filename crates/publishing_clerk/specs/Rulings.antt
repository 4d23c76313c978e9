-- Rulings: requests with their replies and notes.
use Rattle.std.specs.Prelude.{◌≡◌, ℕ, ◌+◌, ◌-◌, ◌≤◌, ◌<◌, nat_le, true, List, length, Option, Some, None, slice_get}
use mathlib.Core.List.{IsPrefix}
use Rattle.wire_requests.specs.Changes.{Asked}
use Rattle.wire_replies.specs.declared.reply.Reply.{Reply}
use Rattle.wire_replies.specs.declared.reply.Reply.TheVariants as replies
use Rattle.desk_machine.specs.declared.entry.Entry.{Entry}
use Rattle.desk_machine.specs.States.{State}
use Rattle.desk_machine.specs.Evaluations.{Given}
use Rattle.desk_machine.specs.Machine.{Answer as Decided, Kept, No, Done, decide}
use Rattle.filing_desk.specs.declared.answer.Answer.{Answer}
use Rattle.filing_desk.specs.declared.answer.Answer.TheVariants as answers
use Rattle.filing_desk.specs.Clerks.{Clerking, Advances}
use Rattle.filing_desk.specs.Served.{HasCause}
use Rattle.publishing_clerk.specs.Publishing.{GoesOn}

-- a request with its reply and a note: the number of the last entry published before, the list that was given, and the clerk before and after
pub record Ruled (K : Type 0) : Type 0 where
  pub request : Asked
  pub p : ℕ
  pub given : Option Given
  pub before : Clerking K
  pub after : Clerking K
  pub reply : Reply
  pub note : List Entry

-- what the machine decides of the request
abbrev pub decided : {K : Type 0} → Ruled K → Decided
decided r = decide r.before.state r.p r.request r.given

-- the reply that tells an answer, where `last` is the number of the last published entry
abbrev pub reply_of : ℕ → Answer → Reply
reply_of last (answers.Accepted number outcome) = replies.Accepted number (nat_le number last) outcome
reply_of last (answers.Refused why) = replies.Refused why

-- the entry of a decision
abbrev pub entry_decided : Decided → Option Entry
entry_decided (Kept e) = Some e
entry_decided (No why) = None
entry_decided (Done e step) = Some e

-- where a reply says that its entry is published, the entry was there at the opening, or it is in the note, at its place
abbrev pub HasOwn : ℕ → List Entry → Decided → Reply → Type 0
HasOwn base note d (replies.Accepted number published outcome) = published ≡ true → base < number → slice_get note (number - base - 1) ≡ entry_decided d
HasOwn base note d _ = Unit {0}

-- the clerk before went on from the opening; the reply tells an answer by which the clerk went from before to after, as
-- the machine decides or for want of memory or a fault of the keeper; the note begins the accepted entries, with all that were published
-- before; and it has the entry that the reply says is published
pub record IsRuled {K : Type 0} (IsSteady : K → Type 0) (faults : K → ℕ) (base : ℕ) (opening : State) (r : Ruled K) : Type 0 where
  pub goes : GoesOn opening r.before
  pub answer : Answer
  pub reply : r.reply ≡ reply_of (base + length r.note) answer
  pub advances : Advances (decided r) r.before r.after answer
  pub cause : HasCause IsSteady faults (decided r) r.before.keeper r.after.keeper answer
  pub note : IsPrefix r.note r.after.accepted
  pub upto : r.p ≤ base + length r.note
  pub own : HasOwn base r.note (decided r) r.reply
