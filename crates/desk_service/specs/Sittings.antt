-- What a session goes through with its seat and its front.
use Rattle.std.specs.Prelude.{◌≡◌, ◌≤◌, ℕ, ◌+◌, List, length, Option, IfSome, option_map}
use mathlib.Core.List.{IsPrefix}
use Rattle.oe_keeper.specs.Kept.{Kept}
use Rattle.airfields.specs.declared.airfield.Airfield.{Airfield}
use Rattle.finding_lists.specs.Verdicts.{verdict_of}
use Rattle.oe_findings.specs.List.{findings_of}
use Rattle.wire_requests.specs.Changes.{Asked}
use Rattle.wire_requests.specs.declared.request.Query.{Query}
use Rattle.wire_requests.specs.declared.request.Query.TheVariants as queries
use Rattle.wire_replies.specs.declared.reply.Reply.{Reply}
use Rattle.wire_replies.specs.declared.reply.Reply.TheVariants as replies
use Rattle.desk_machine.specs.declared.entry.Entry.{Entry}
use Rattle.desk_machine.specs.States.{State}
use Rattle.desk_machine.specs.Evaluations.{evaluated_site}
use Rattle.desk_machine.specs.Fronts.{register_after}
use Rattle.desk_receipts.specs.Handed.{Told as ToldRows}
use Rattle.publishing_clerk.specs.Evaluations.{Evaluating, IsEvaluation, given_in}
use Rattle.publishing_clerk.specs.Publishing.{GoesOn, Publishing}
use Rattle.publishing_clerk.specs.Rulings.{IsRuled, Ruled}
use Rattle.publishing_clerk.specs.Fronts.{HasRuled, IsCounted, IsReplied, Replied, WasAsked}

-- what a session sees: the clerk, where its front tells it; the entries of the version that its seat showed last; the longest such list that
-- the seat showed or was told of; and the number of the front's faults
pub record Sitting (K : Type 0) : Type 0 where
  pub clerk : Option (Publishing K)
  pub front : List Entry
  pub told : List Entry
  pub faults : ℕ

-- the clerk stays as it is; the seat may have looked, or may know of more
pub record Stays {K : Type 0} (s t : Sitting K) : Type 0 where
  pub front : IsPrefix s.front t.front
  pub told : IsPrefix s.told t.told
  pub clerk : t.clerk ≡ s.clerk
  pub faults : t.faults ≡ s.faults

-- the seat looked: what it shows has all that the seat had shown or was told of
pub record Looks {K : Type 0} (s t : Sitting K) : Type 0 where
  pub stays : Stays s t
  pub all : IsPrefix s.told t.front
  pub known : IsPrefix t.front t.told

-- the airfields of a version, where those at the opening are known
abbrev pub IsVersion : Option (List Airfield) → List Entry → List Airfield → Type 0
IsVersion first front airfields = IfSome first (λ register. airfields ≡ register_after register front)

-- the reply over a version to a screening, a verdict, or `sync`; each has the number of the version's last entry
abbrev pub IsShownReply : Option (List Airfield) → ℕ → List Entry → Query → Reply → Type 0
IsShownReply first base front (queries.Screen site) reply =
    (airfields : List Airfield) × IsVersion first front airfields × (reply ≡ replies.Found (base + length front) (findings_of airfields site))
IsShownReply first base front (queries.Verdict site) reply =
    (airfields : List Airfield) × IsVersion first front airfields × (reply ≡ replies.Verdict (base + length front) (verdict_of (findings_of airfields site)))
IsShownReply first base front queries.Sync reply = reply ≡ replies.Synced (base + length front)
IsShownReply first base front (queries.Case number) reply = ⊥
IsShownReply first base front queries.Review reply = ⊥
IsShownReply first base front (queries.Airfield id) reply = ⊥
IsShownReply first base front (queries.Report kind) reply = ⊥

-- at `sync` the seat shows all that is published
abbrev pub IsSynced : {K : Type 0} → Query → Sitting K → Sitting K → Type 0
IsSynced queries.Sync s t = IfSome s.clerk (λ c. IsPrefix c.published t.front)
IsSynced (queries.Screen site) s t = Unit {0}
IsSynced (queries.Verdict site) s t = Unit {0}
IsSynced (queries.Case number) s t = Unit {0}
IsSynced queries.Review s t = Unit {0}
IsSynced (queries.Airfield id) s t = Unit {0}
IsSynced (queries.Report kind) s t = Unit {0}

-- the queries that the clerk is asked; a seat answers all others by itself
abbrev pub IsAskedOfClerk : Query → Type 0
IsAskedOfClerk (queries.Screen site) = ⊥
IsAskedOfClerk (queries.Verdict site) = ⊥
IsAskedOfClerk queries.Sync = ⊥
IsAskedOfClerk (queries.Case number) = Unit {0}
IsAskedOfClerk queries.Review = Unit {0}
IsAskedOfClerk (queries.Airfield id) = Unit {0}
IsAskedOfClerk (queries.Report kind) = Unit {0}

-- the clerk was asked, and the seat was told what is published
pub record HasAsked {K : Type 0} (opening : State) (query : Query) (s : Sitting K) (reply : Reply) (t : Sitting K) : Type 0 where
  pub asked : Replied K
  pub query_is : asked.query ≡ query
  pub may : IsAskedOfClerk query
  pub replied : IsReplied opening asked
  pub own : WasAsked s.clerk asked
  pub reply_is : reply ≡ asked.reply
  pub note : IsPrefix asked.note t.told
  pub stays : Stays s t

-- what was evaluated for a change, if anything, is the list of its structure over the version that the seat shows, which has all that the seat
-- was told of; where the clerk is told, a determination or a revision of a case has the structure evaluated that it evaluates
pub record IsEvaluated {K : Type 0} (first : Option (List Airfield)) (change : Asked) (s : Sitting K) (evaluated : Option Evaluating) (t : Sitting K) : Type 0 where
  pub shown : IfSome evaluated (λ e. (e.front ≡ t.front) × IsPrefix s.told t.front × IsPrefix t.front t.told × IsEvaluation first e)
  pub wanted : IfSome s.clerk (λ c. option_map (λ e. e.filing) evaluated ≡ evaluated_site c.clerk.state change.act)

-- a change was decided by the clerk, and the seat was told what is published
pub record HasRuling {K : Type 0} (IsSteady : K → Type 0) (faults : K → ℕ) (base : ℕ) (opening : State) (change : Asked) (evaluated : Option Evaluating)
    (s : Sitting K) (reply : Reply) (t : Sitting K) : Type 0 where
  pub ruled : Ruled K
  pub request : ruled.request ≡ change
  pub given : ruled.given ≡ given_in base evaluated
  pub is : IsRuled IsSteady faults base opening ruled
  pub own : HasRuled base s.clerk t.clerk ruled
  pub reply_is : reply ≡ ruled.reply
  pub note : IsPrefix ruled.note t.told
  pub counted : IsCounted s.faults t.faults reply
  pub later : s.faults ≤ t.faults
  pub front : IsPrefix s.front t.front
  pub told : IsPrefix s.told t.told

-- the same, with what was evaluated for it
pub record HasChanged {K : Type 0} (IsSteady : K → Type 0) (faults : K → ℕ) (first : Option (List Airfield)) (base : ℕ) (opening : State) (change : Asked)
    (s : Sitting K) (reply : Reply) (t : Sitting K) : Type 0 where
  pub evaluated : Option Evaluating
  pub evaluates : IsEvaluated first change s evaluated t
  pub ruling : HasRuling IsSteady faults base opening change evaluated s reply t

-- a told clerk went on from the opening, what it published begins what it accepted, and its keeper's rows, where known, are those of its state
abbrev pub Stands : {K : Type 0} → (K → Kept → Type 0) → State → Sitting K → Type 0
Stands TellsRows opening s = IfSome s.clerk (λ c. GoesOn opening c.clerk × IsPrefix c.published c.clerk.accepted × ToldRows TellsRows c.clerk.keeper c.clerk.state)
