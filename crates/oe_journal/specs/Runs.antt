-- What a run of calls of a journal comes to: the rows that stand after each call, and those that a crash leaves at a moment of it.
use Rattle.std.specs.Prelude.{◌≡◌, ◌⊎◌, ℕ, ◌≤◌, Bool, true, false, List, [], ◌∷◌}
use Rattle.crash_disks.specs.Crash.{Rose, LeavesDuring}
use Rattle.oe_journal.specs.Frames.{rows_of}
use Rattle.oe_keeper.specs.Kept.{Kept, rows_after_changes}
use Rattle.oe_keeper.specs.declared.change.RowChange.{RowChange}
use Rattle.oe_journal.specs.declared.journal.JournalKeeper.{JournalKeeper}
use Rattle.oe_journal.specs.declared.runs.Call.{Call}
use Rattle.oe_journal.specs.declared.runs.Call.TheVariants.{Load, Apply}
use Rattle.oe_journal.specs.declared.runs.Answer.{Answer}
use Rattle.oe_journal.specs.declared.runs.Answer.TheVariants.{Loaded, Applied, Failed, NoMemory, Unasked}
use Rattle.oe_journal.specs.Journal.{IsTelling, acknowledged_by, MayStandIn}

-- The acknowledged rows, and the lists of the calls since the last acknowledged one that called the disk and were not acknowledged. It accepts
-- changes where the last load answered Ok, and may tell its rows where no call has failed since a load that answered Ok.
pub record Stand : Type 0 where
  pub rows : Kept
  pub lists : List (List RowChange)
  pub is_loaded : Bool
  pub is_told : Bool

-- after a load that answered Ok, and nothing since
abbrev pub just_loaded : Kept → Stand
just_loaded rows = record { rows = rows; lists = []; is_loaded = true; is_told = true }

-- with one list more that is not acknowledged
abbrev pub with_unacknowledged : Stand → List RowChange → Stand
with_unacknowledged stand changes = record { rows = stand.rows; lists = changes ∷ stand.lists; is_loaded = stand.is_loaded; is_told = false }

abbrev pub after_load : Stand → Answer → Stand
after_load stand (Loaded rows) = just_loaded rows
after_load stand Applied = stand
after_load stand Failed = record { rows = stand.rows; lists = stand.lists; is_loaded = false; is_told = false }
after_load stand NoMemory = record { rows = stand.rows; lists = stand.lists; is_loaded = false; is_told = stand.is_told }
after_load stand Unasked = stand

abbrev pub after_apply : Stand → List RowChange → Answer → Stand
after_apply stand changes (Loaded rows) = stand
after_apply stand changes Applied = record { rows = rows_after_changes stand.rows changes; lists = []; is_loaded = stand.is_loaded; is_told = stand.is_told }
after_apply stand changes Failed = with_unacknowledged stand changes
after_apply stand changes NoMemory = stand
after_apply stand changes Unasked = stand

abbrev pub after_one : Stand → Call → Answer → Stand
after_one stand Load answer = after_load stand answer
after_one stand (Apply list) answer = after_apply stand list.items answer

-- after as many of the calls as have an answer
abbrev pub after_all : Stand → List Call → List Answer → Stand
after_all stand [] answers = stand
after_all stand (call ∷ calls) [] = stand
after_all stand (call ∷ calls) (answer ∷ answers) = after_all (after_one stand call answer) calls answers

-- the rows with one of the lists
abbrev pub HasList : Kept → List (List RowChange) → Kept → Type 0
HasList base [] rows = ⊥
HasList base (changes ∷ lists) rows = (rows ≡ rows_after_changes base changes) ⊎ HasList base lists rows

-- the acknowledged rows, and then at most one list more, whole
abbrev pub IsOneOf : Stand → Kept → Type 0
IsOneOf stand rows = (rows ≡ stand.rows) ⊎ HasList stand.rows stand.lists rows

-- What stands while changes are made: they are not acknowledged yet. Those that memory is refused to, or that are not handed on, change nothing.
abbrev pub while_applied : Stand → List RowChange → Answer → Stand
while_applied stand changes (Loaded rows) = stand
while_applied stand changes Applied = with_unacknowledged stand changes
while_applied stand changes Failed = with_unacknowledged stand changes
while_applied stand changes NoMemory = stand
while_applied stand changes Unasked = stand

-- what stands while a call is made that is answered so
abbrev pub while_made : Stand → Call → Answer → Stand
while_made stand Load answer = stand
while_made stand (Apply list) answer = while_applied stand list.items answer

-- a load finds the acknowledged rows, and then at most one list more
abbrev pub FindsOne : Stand → Answer → Type 0
FindsOne stand (Loaded rows) = IsOneOf stand rows
FindsOne stand Applied = Unit {0}
FindsOne stand Failed = Unit {0}
FindsOne stand NoMemory = Unit {0}
FindsOne stand Unasked = Unit {0}

-- How a call may be answered. A load with rows, as failed, or as refused for memory. Changes as unasked where the last load did not answer Ok, and
-- as made, failed, or refused for memory where it did. Memory may be refused to each of them.
abbrev pub IsAsked : Stand → Call → Answer → Type 0
IsAsked stand Load (Loaded rows) = Unit {0}
IsAsked stand Load Applied = ⊥
IsAsked stand Load Failed = Unit {0}
IsAsked stand Load NoMemory = Unit {0}
IsAsked stand Load Unasked = ⊥
IsAsked stand (Apply list) (Loaded rows) = ⊥
IsAsked stand (Apply list) Applied = stand.is_loaded ≡ true
IsAsked stand (Apply list) Failed = stand.is_loaded ≡ true
IsAsked stand (Apply list) NoMemory = stand.is_loaded ≡ true
IsAsked stand (Apply list) Unasked = stand.is_loaded ≡ false

-- a count never falls, and has risen where the call failed
pub record HasCauseOf (before now : ℕ) (answer : Answer) : Type 0 where
  pub later : before ≤ now
  pub failed : answer ≡ Failed → Rose before now

-- The journal stands so: no other rows may come to stand in it, where it is loaded these are the acknowledged ones, and it tells none where it may not.
pub record StandsSo {D : Type 0} (IsTold : Type 0) (content : D → List ℕ) (MayLeave : D → List ℕ → Type 0) (k : JournalKeeper D) (stand : Stand) : Type 0 where
  pub acknowledges : stand.is_loaded ≡ true → acknowledged_by content k ≡ stand.rows
  pub may_stand : (rows : Kept) → MayStandIn MayLeave k rows → IsOneOf stand rows
  pub telling : (rows : Kept) → IsTelling IsTold content k rows → stand.is_told ≡ true

module _ {D : Type 0} (IsTold TellsPast : Type 0) (content : D → List ℕ) (MayLeave : D → List ℕ → Type 0) (moment : D → ℕ) (LeftSince : D → ℕ → List ℕ → Type 0) (faults : D → ℕ) where
  -- A call leads from the one journal, where this stands, to the other. A crash at a moment of it leaves the rows that were acknowledged before it, and
  -- then at most one list more. Changes that memory was refused to, or that were not handed on, left the journal and its disk as they were; a load that
  -- memory was refused to left what was told.
  pub record IsMade (old : JournalKeeper D) (stand : Stand) (call : Call) (answer : Answer) (new : JournalKeeper D) : Type 0 where
    pub asked : IsAsked stand call answer
    pub found : IsTold → FindsOne stand answer
    pub stands : IsTold → StandsSo IsTold content MayLeave new (after_one stand call answer)
    pub crash : IsTold → TellsPast → LeavesDuring moment LeftSince old.disk new.disk (λ c. IsOneOf (while_made stand call answer) (rows_of c))
    pub cause : HasCauseOf (faults old.disk) (faults new.disk) answer
    pub unasked : answer ≡ Unasked → new ≡ old
    pub refused : answer ≡ NoMemory → (call ≡ Load) ⊎ (new ≡ old)
    pub kept : answer ≡ NoMemory → (rows : Kept) → IsTelling IsTold content old rows → IsTelling IsTold content new rows

  -- These calls lead, with these answers, from the one journal to the other: each from the journal that the one before it left.
  abbrev pub AreMade : JournalKeeper D → Stand → List Call → List Answer → JournalKeeper D → Type 0
  AreMade from stand calls [] to = to ≡ from
  AreMade from stand [] (answer ∷ answers) to = ⊥
  AreMade from stand (call ∷ calls) (answer ∷ answers) to = (next : JournalKeeper D) × IsMade from stand call answer next × AreMade next (after_one stand call answer) calls answers to
