-- The status of a run, and the bytes read and written by then.
use Rattle.std.specs.Prelude.{ℕ, List, [], ◌≡◌, ◌⊎◌, Option}
use Rattle.oe_http.specs.Causes.{Rose}
use Rattle.oe_http.specs.declared.lines.TheConstants.{INPUT_LIMIT}
use Rattle.oe_keeper.specs.Kept.{Key, Kept, place}
use Rattle.oe_http.specs.Machine.{Step}
use Rattle.oe_http.specs.Session.{Answered, AnsweredFront, AnsweredRead, Begun, ReadToEnd, TookAtLeast}
use Rattle.desk_tables.specs.Opening.{Opens, IsFirstBad}
use Rattle.desk_receipts.specs.Keepers.{IsLater}
use Rattle.desk_receipts.specs.Handed.{Told}
use Rattle.line_desk.specs.Desk.{Plain, Serving, StepOver}
use Rattle.desk_machine.specs.States.{State, last_number}
use Rattle.site_questions.specs.Charts.{chart}
use Rattle.site_questions.specs.Ceilings.{CeilingStep}
use Rattle.site_questions.specs.Ways.{Survey, WayStep, survey}
use Rattle.site_questions.specs.WaySessions.{WaysAnswered, WaysBegun}
use Rattle.oe_asof.specs.Sessions.{DatedOver, DatedPlain, opened_over, opened_plain}
use Rattle.command_words.specs.declared.commands.Service.{Service}
use Rattle.command_words.specs.declared.commands.Service.TheVariants as services
use Rattle.desk_service.specs.Services.{Serves}
use Rattle.desk_service.specs.declared.service.ServiceEnd.{ServiceEnd}
use Rattle.oe_commands.specs.Commands.{AskToOpen}
use Rattle.oe_commands.specs.Statuses.{served_status}
use Rattle.oe_commands.specs.declared.status.Status.{Status}
use Rattle.oe_commands.specs.declared.status.Status.TheVariants as statuses

-- the bytes that a desk has read and written since it was opened, by the status
pub record SessionRun {St : Type 0} (step : Step St) (opened : St) (status : Status) (input left held_old held_new : Option (List ℕ)) : Type 0 where
  -- at `Done` the output is its old content and the reply to each line of the input, in order
  pub done : status ≡ statuses.Done → (after : St) × Answered step opened after input held_old held_new
  -- under every status it is its old content and a beginning of these replies
  pub begun : Begun step opened input held_old held_new
  -- at the end of the input nothing is left of it
  pub read_to_end : status ≡ statuses.Done → ReadToEnd input left
  -- at a fault of the input, or at its limit, each line that was read whole has its reply
  pub whole : (status ≡ statuses.ReadFault) ⊎ (status ≡ statuses.InputLong) → (after : St) × AnsweredRead step opened after input left held_old held_new
  -- where memory ran out, no part of a reply was written
  pub memory : status ≡ statuses.NoMemory → AnsweredFront step opened input held_old held_new

-- the same of a run over ways, of which the last may end with the input
pub record WaysRun (opened : Survey) (status : Status) (input left held_old held_new : Option (List ℕ)) : Type 0 where
  -- at `Done` the output is its old content, the reply to each line of the input, in order, and the text of the way that they leave
  pub done : status ≡ statuses.Done → WaysAnswered opened input held_old held_new
  -- under every status it is its old content and a beginning of these texts
  pub begun : WaysBegun opened input held_old held_new
  pub read_to_end : status ≡ statuses.Done → ReadToEnd input left
  pub whole : (status ≡ statuses.ReadFault) ⊎ (status ≡ statuses.InputLong) → (after : Survey) × AnsweredRead WayStep opened after input left held_old held_new
  pub memory : status ≡ statuses.NoMemory → AnsweredFront WayStep opened input held_old held_new

-- what each service of a desk in this state reads and writes, where no keeper fails: the desk answers each line in the state of those
-- before, and may tell what a list was after an earlier entry; ceilings and ways are told over the airfields that it was opened with, and
-- carry the number of its last accepted change
abbrev pub PlainRun : Service → State → Status → Option (List ℕ) → Option (List ℕ) → Option (List ℕ) → Option (List ℕ) → Type 0
PlainRun services.Desk opened = SessionRun Plain opened
PlainRun services.Ceiling opened = SessionRun CeilingStep (chart opened.register (last_number opened))
PlainRun services.Stations opened = WaysRun (survey opened.register (last_number opened) [])
PlainRun services.AsOf opened = SessionRun DatedPlain (opened_plain opened)

-- the same over a keeper, which is asked after the opening only by the services that accept changes
abbrev pub RunOver : {K : Type 0} → (K → Kept → Type 0) → (K → Type 0) → (K → ℕ) → Service
    → Serving K → Status → Option (List ℕ) → Option (List ℕ) → Option (List ℕ) → Option (List ℕ) → Type 0
RunOver Tells IsSteady faults services.Desk opened = SessionRun (StepOver Tells IsSteady faults) opened
RunOver Tells IsSteady faults services.Ceiling opened = PlainRun services.Ceiling opened.state
RunOver Tells IsSteady faults services.Stations opened = PlainRun services.Stations opened.state
RunOver Tells IsSteady faults services.AsOf opened = SessionRun (DatedOver Tells IsSteady faults) (opened_over opened)

-- the statuses of a run after a session
abbrev pub IsSessionEnd : Status → Type 0
IsSessionEnd statuses.Done = Unit {0}
IsSessionEnd statuses.Usage = ⊥
IsSessionEnd statuses.ReadFault = Unit {0}
IsSessionEnd statuses.WriteFault = Unit {0}
IsSessionEnd statuses.KeeperFault = ⊥
IsSessionEnd (statuses.BadRow table key) = ⊥
IsSessionEnd statuses.NoMemory = Unit {0}
IsSessionEnd statuses.InputLong = Unit {0}
IsSessionEnd statuses.GateFault = ⊥

-- a desk was opened in the state of the rows that a load of the keeper may find at the path, and served from there on
pub record Served {K : Type 0} (Tells : K → Kept → Type 0) (Finds : K → Option (List ℕ) → Kept → Type 0) (IsSteady : K → Type 0) (faults : K → ℕ)
    (service : Service) (keeper : K) (path : Option (List ℕ)) (status : Status) (input left held_old held_new : Option (List ℕ)) : Type 0 where
  pub opened : Serving K
  pub rows : Kept
  pub found : Finds keeper path rows
  pub opens : Opens rows opened.state
  -- its keeper is that one, later, whose rows, where known, are those of the desk
  pub later : IsLater IsSteady faults keeper opened.keeper
  pub told : Told Tells opened.keeper opened.state
  pub session : RunOver Tells IsSteady faults service opened status input left held_old held_new
  -- over a keeper that never fails no line is refused for a fault of it
  pub steady : IsSteady keeper → PlainRun service opened.state status input left held_old held_new
  pub ended : IsSessionEnd status

-- a desk was opened in the state of the rows that a load of the keeper may find at the path, and a service of links ended and told so; that
-- it was the service of this desk is by reading
pub record ServedLinks {K : Type 0} {Link : Type 0} (Tells : K → Kept → Type 0) (Finds : K → Option (List ℕ) → Kept → Type 0) (IsSteady : K → Type 0) (faults : K → ℕ)
    (workers turns : ℕ) (lists : Option (List (List Link))) (keeper : K) (path : Option (List ℕ)) (status : Status) (held_old held_new : Option (List ℕ)) : Type 0 where
  pub opened : Serving K
  pub rows : Kept
  pub found : Finds keeper path rows
  pub opens : Opens rows opened.state
  -- its keeper is that one, later, whose rows, where known, are those of the desk
  pub later : IsLater IsSteady faults keeper opened.keeper
  pub told : Told Tells opened.keeper opened.state
  -- how the service ended, and what was written
  pub end : ServiceEnd
  pub ended : status ≡ served_status end
  pub serves : Serves workers turns lists end held_old held_new

-- why no desk was opened: the keeper can fail; or a row is the first bad one of those that a load may find; or memory ran out
abbrev pub IsUnopened : {K : Type 0} → (K → Option (List ℕ) → Kept → Type 0) → (K → Type 0) → K → Option (List ℕ) → Status → Type 0
IsUnopened {K} Finds IsSteady keeper path statuses.Done = ⊥
IsUnopened {K} Finds IsSteady keeper path statuses.Usage = ⊥
IsUnopened {K} Finds IsSteady keeper path statuses.ReadFault = ⊥
IsUnopened {K} Finds IsSteady keeper path statuses.WriteFault = ⊥
IsUnopened {K} Finds IsSteady keeper path statuses.KeeperFault = IsSteady keeper → ⊥
IsUnopened {K} Finds IsSteady keeper path (statuses.BadRow table key) = (rows : Kept) × Finds keeper path rows × IsFirstBad rows (place table, key)
IsUnopened {K} Finds IsSteady keeper path statuses.NoMemory = Unit {0}
IsUnopened {K} Finds IsSteady keeper path statuses.InputLong = ⊥
IsUnopened {K} Finds IsSteady keeper path statuses.GateFault = ⊥

-- the statuses at which no stream was touched
abbrev pub IsUntouched : Status → Type 0
IsUntouched statuses.Done = ⊥
IsUntouched statuses.Usage = Unit {0}
IsUntouched statuses.ReadFault = ⊥
IsUntouched statuses.WriteFault = ⊥
IsUntouched statuses.KeeperFault = Unit {0}
IsUntouched (statuses.BadRow table key) = Unit {0}
IsUntouched statuses.NoMemory = ⊥
IsUntouched statuses.InputLong = ⊥
IsUntouched statuses.GateFault = ⊥

-- why a run ended so: a fault of a stream is reported only where its count rose, and a long input only at its limit
pub record RunCauses (status : Status) (input left : Option (List ℕ)) (read_old read_new write_old write_new : ℕ) : Type 0 where
  pub read : status ≡ statuses.ReadFault → Rose read_old read_new
  pub write : status ≡ statuses.WriteFault → Rose write_old write_new
  pub long : status ≡ statuses.InputLong → TookAtLeast INPUT_LIMIT input left

-- of the rows that a load of the keeper may find, where these words ask for a desk, none is bad or missing
abbrev pub HasGoodRows : {K : Type 0} → (K → Option (List ℕ) → Kept → Type 0) → K → List (List ℕ) → Type 0
HasGoodRows Finds keeper words = (path : Option (List ℕ)) (rows : Kept) (k : Key) → AskToOpen words path → Finds keeper path rows → IsFirstBad rows k → ⊥

-- the statuses of a command where nothing outside of the program failed: done, or memory ran out, or the input was taken up to its limit
abbrev pub IsComplete : Status → Type 0
IsComplete statuses.Done = Unit {0}
IsComplete statuses.Usage = ⊥
IsComplete statuses.ReadFault = ⊥
IsComplete statuses.WriteFault = ⊥
IsComplete statuses.KeeperFault = ⊥
IsComplete (statuses.BadRow table key) = ⊥
IsComplete statuses.NoMemory = Unit {0}
IsComplete statuses.InputLong = Unit {0}
IsComplete statuses.GateFault = ⊥
