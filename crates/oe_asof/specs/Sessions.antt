-- A desk that answers lines which ask what a list was: its steps from line to line, and the bytes that a session has read and written.
use Rattle.std.specs.Prelude.{ℕ, List, ◌≡◌, true, false, Option}
use Rattle.airfields.specs.declared.airfield.Airfield.{Airfield}
use Rattle.oe_keeper.specs.Kept.{Kept}
use Rattle.desk_machine.specs.States.{State, last_number}
use Rattle.line_desk.specs.Desk.{Plain, Serving, StepOver}
use Rattle.oe_http.specs.Machine.{Step}
use Rattle.oe_http.specs.Session.{Answered, Begun, WritesWhole}
use Rattle.oe_http.specs.declared.session.Ended.{Ended}
use Rattle.oe_http.specs.declared.session.Ended.TheVariants as endings
use Rattle.oe_asof.specs.Lines.{asks}
use Rattle.oe_asof.specs.Replies.{IsToldOf}

-- ---- the steps

-- a session in a state S, and the opening: the number of its last entry, and its airfields
pub record Dating (S : Type 0) : Type 0 where
  pub serving : S
  pub base : ℕ
  pub opening : List Airfield

-- the session that opens in this state
abbrev pub opened_in : {S : Type 0} → (S → State) → S → Dating S
opened_in state s = record { serving = s; base = last_number (state s); opening = (state s).register }

-- a line, the text of its reply, and the session before and after, where `step` answers the lines that ask for no earlier list: the opening
-- stays, and a line that does ask changes nothing
pub data DatedStep {S : Type 0} (state : S → State) (step : Step S) (before : Dating S) (line text : List ℕ) (after : Dating S) : Type 0 where
  Told : asks line ≡ true → IsToldOf before.base before.opening (state before.serving) line text → after ≡ before → DatedStep state step before line text after
  Served : asks line ≡ false → step before.serving line text after.serving → after.base ≡ before.base → after.opening ≡ before.opening → DatedStep state step before line text after

-- over a keeper, each line that asks for no earlier list is answered as the desk does
abbrev pub in_serving : {K : Type 0} → Serving K → State
in_serving s = s.state

abbrev pub DatedOver : {K : Type 0} → (K → Kept → Type 0) → (K → Type 0) → (K → ℕ) → Step (Dating (Serving K))
DatedOver Tells IsSteady faults = DatedStep in_serving (StepOver Tells IsSteady faults)

abbrev pub opened_over : {K : Type 0} → Serving K → Dating (Serving K)
opened_over s = opened_in in_serving s

-- the same where no keeper fails
abbrev pub itself : State → State
itself s = s

abbrev pub DatedPlain : Step (Dating State)
DatedPlain = DatedStep itself Plain

abbrev pub opened_plain : State → Dating State
opened_plain s = opened_in itself s

-- ---- a whole session

-- a session from a state on
pub record SessionOf {S : Type 0} (step : Step S) (opened : S) (ended : Ended) (input left held_old held_new : Option (List ℕ)) : Type 0 where
  -- at the end of the input the output is its old content and the reply to each line, in order
  pub closed : ended ≡ endings.Closed → (after : S) × Answered step opened after input held_old held_new
  -- however it ends, it is its old content and a beginning of these replies
  pub begun : Begun step opened input held_old held_new
  -- at the end of the input nothing is left of it; where it stops before, each line that was read whole has its reply
  pub written : (after : S) × WritesWhole step opened after ended input left held_old held_new

-- the session of a desk over a keeper, which opens in this state of the desk
abbrev pub DatedSession : {K : Type 0} → (K → Kept → Type 0) → (K → Type 0) → (K → ℕ) → Serving K → Ended
    → Option (List ℕ) → Option (List ℕ) → Option (List ℕ) → Option (List ℕ) → Type 0
DatedSession Tells IsSteady faults s = SessionOf (DatedOver Tells IsSteady faults) (opened_over s)

-- and where no keeper fails
abbrev pub PlainDatedSession : State → Ended → Option (List ℕ) → Option (List ℕ) → Option (List ℕ) → Option (List ℕ) → Type 0
PlainDatedSession s = SessionOf DatedPlain (opened_plain s)
