-- The replies of a session over a seat and a front, line by line.
use Rattle.std.specs.Prelude.{◌≡◌, ◌≢◌, ℕ, List, [], ◌++◌, Option}
use Rattle.oe_keeper.specs.Kept.{Kept}
use Rattle.airfields.specs.declared.airfield.Airfield.{Airfield}
use Rattle.wire_requests.specs.Changes.{Asked as AskedChange}
use Rattle.wire_requests.specs.Requests.{IsRecord, IsMalformed}
use Rattle.wire_requests.specs.declared.request.Query.{Query}
use Rattle.wire_requests.specs.declared.request.Request.{Request}
use Rattle.wire_requests.specs.declared.request.Request.TheVariants as requests
use Rattle.wire_replies.specs.Replies.{reply_text}
use Rattle.wire_replies.specs.declared.reply.Reply.{Reply}
use Rattle.wire_replies.specs.declared.reply.Reply.TheVariants as replies
use Rattle.case_records.specs.declared.refusal.Refusal.TheVariants as refusals
use Rattle.desk_machine.specs.States.{State}
use Rattle.desk_queries.specs.Queries.{no_memory}
use Rattle.desk_service.specs.Sittings.{HasAsked, HasChanged, IsShownReply, IsSynced, Looks, Sitting, Stands, Stays}

-- the reply to a request, and what the session sees before and after it
pub data Answers {K : Type 0} (IsSteady : K → Type 0) (faults : K → ℕ) (first : Option (List Airfield)) (base : ℕ) (opening : State)
    (s : Sitting K) (r : Request) (reply : Reply) (t : Sitting K) : Type 0 where
  -- a query was answered over the version that the seat shows
  Shown : (query : Query) → r ≡ requests.Query query → IsShownReply first base t.front query reply → Looks s t → IsSynced query s t
      → Answers IsSteady faults first base opening s r reply t
  -- a query was answered by the clerk
  Asked : (query : Query) → r ≡ requests.Query query → HasAsked opening query s reply t → Answers IsSteady faults first base opening s r reply t
  -- a change was decided by the clerk
  Changed : (change : AskedChange) → r ≡ requests.Change change → HasChanged IsSteady faults first base opening change s reply t
      → Answers IsSteady faults first base opening s r reply t
  -- memory was wanting, and the clerk was not asked
  Wanting : reply ≡ no_memory → Stays s t → Answers IsSteady faults first base opening s r reply t

-- the text of the reply to a request was appended
pub record Tells {K : Type 0} (IsSteady : K → Type 0) (faults : K → ℕ) (first : Option (List Airfield)) (base : ℕ) (opening : State)
    (s : Sitting K) (r : Request) (old new : List ℕ) (t : Sitting K) : Type 0 where
  pub reply : Reply
  pub answers : Answers IsSteady faults first base opening s r reply t
  pub appended : new ≡ old ++ reply_text reply

-- what the session sees is what comes after a reply to a request, whatever became of the reply's text
abbrev pub IsAfter : {K : Type 0} → (K → Type 0) → (K → ℕ) → Option (List Airfield) → ℕ → State → Sitting K → Request → Sitting K → Type 0
IsAfter IsSteady faults first base opening s r t = (reply : Reply) × Answers IsSteady faults first base opening s r reply t

-- a line and the text of its reply
pub data Line {K : Type 0} (IsSteady : K → Type 0) (faults : K → ℕ) (first : Option (List Airfield)) (base : ℕ) (opening : State)
    (s : Sitting K) (line text : List ℕ) (t : Sitting K) : Type 0 where
  -- an empty line has no reply
  Blank : line ≡ [] → text ≡ [] → t ≡ s → Line IsSteady faults first base opening s line text t
  -- a record has its one reply
  Told : (r : Request) (reply : Reply) → IsRecord line r → Answers IsSteady faults first base opening s r reply t → text ≡ reply_text reply
      → Line IsSteady faults first base opening s line text t
  -- any other line is refused at its first wrong field
  Refused : line ≢ [] → (field : ℕ) → IsMalformed line field → text ≡ reply_text (replies.Refused (refusals.Malformed field)) → t ≡ s
      → Line IsSteady faults first base opening s line text t
  -- memory may be wanting to read it
  Unread : line ≢ [] → text ≡ reply_text no_memory → t ≡ s → Line IsSteady faults first base opening s line text t

-- the same, and after it a told clerk stands: what it accepted is stored before its reply is written
pub record LineOver {K : Type 0} (TellsRows : K → Kept → Type 0) (IsSteady : K → Type 0) (faults : K → ℕ) (first : Option (List Airfield)) (base : ℕ)
    (opening : State) (s : Sitting K) (line text : List ℕ) (t : Sitting K) : Type 0 where
  pub replies : Line IsSteady faults first base opening s line text t
  pub stands : Stands TellsRows opening t

-- the text of the reply to a line was appended
pub record Appends {K : Type 0} (IsSteady : K → Type 0) (faults : K → ℕ) (first : Option (List Airfield)) (base : ℕ) (opening : State)
    (s : Sitting K) (line old new : List ℕ) (t : Sitting K) : Type 0 where
  pub text : List ℕ
  pub replies : Line IsSteady faults first base opening s line text t
  pub appended : new ≡ old ++ text
