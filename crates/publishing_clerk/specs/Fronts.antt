-- What a session is told by its clerk.
use Rattle.std.specs.Prelude.{◌≡◌, ℕ, ◌+◌, List, length, Option, Some, None, option_map}
use mathlib.Core.List.{IsPrefix}
use Rattle.oe_keeper.specs.Keeping.{Rose}
use Rattle.airfields.specs.Sites.{Site}
use Rattle.wire_requests.specs.declared.request.Query.{Query}
use Rattle.wire_replies.specs.declared.reply.Reply.{Reply}
use Rattle.wire_replies.specs.declared.reply.Reply.TheVariants as replies
use Rattle.case_records.specs.declared.refusal.Refusal.TheVariants as refusals
use Rattle.desk_machine.specs.declared.entry.Entry.{Entry}
use Rattle.desk_machine.specs.States.{State, case_at}
use Rattle.desk_machine.specs.Evaluations.{site_of}
use Rattle.desk_queries.specs.Queries.{IsAnswer}
use Rattle.filing_desk.specs.Clerks.{Clerking}
use Rattle.publishing_clerk.specs.Publishing.{GoesOn, Publishing}
use Rattle.publishing_clerk.specs.Rulings.{Ruled}

-- a query with its reply and a note, and the clerk that was asked
pub record Replied (K : Type 0) : Type 0 where
  pub query : Query
  pub clerk : Clerking K
  pub reply : Reply
  pub note : List Entry

-- the clerk went on from the opening, the reply is that of its state or a refusal because memory was wanting, and the
-- note begins the accepted entries
pub record IsReplied {K : Type 0} (opening : State) (r : Replied K) : Type 0 where
  pub goes : GoesOn opening r.clerk
  pub reply : IsAnswer r.clerk.state r.query r.reply
  pub note : IsPrefix r.note r.clerk.accepted

-- the number of a case with its structure and a note, and the clerk that was asked
pub record FilingOf (K : Type 0) : Type 0 where
  pub number : ℕ
  pub clerk : Clerking K
  pub filing : Option Site
  pub note : List Entry

-- the clerk went on from the opening, the structure is that of its case of this number, where it has one, and the note begins the accepted
-- entries
pub record IsFilingOf {K : Type 0} (opening : State) (f : FilingOf K) : Type 0 where
  pub goes : GoesOn opening f.clerk
  pub filing : f.filing ≡ option_map site_of (case_at f.clerk.state.cases f.number)
  pub note : IsPrefix f.note f.clerk.accepted

-- ---- where the clerk is told

-- the same clerk was asked, and nothing changed
abbrev pub WasAsked : {K : Type 0} → Option (Publishing K) → Replied K → Type 0
WasAsked None r = Unit {0}
WasAsked (Some c) r = (r.clerk ≡ c.clerk) × (r.note ≡ c.published)

-- the ruling is the clerk's own: it was asked before and is told after, with what was published before and after
abbrev pub HasRuled : {K : Type 0} → ℕ → Option (Publishing K) → Option (Publishing K) → Ruled K → Type 0
HasRuled base (Some c) (Some d) r = (r.before ≡ c.clerk) × (r.p ≡ base + length c.published) × (r.after ≡ d.clerk) × (r.note ≡ d.published)
HasRuled base None None r = Unit {0}
HasRuled base (Some c) None r = ⊥
HasRuled base None (Some d) r = ⊥

-- a fault of the keeper is told only where the count has risen, or stands at the end of its type
abbrev pub IsCounted : ℕ → ℕ → Reply → Type 0
IsCounted before now reply = reply ≡ replies.Refused refusals.KeeperFault → Rose before now
