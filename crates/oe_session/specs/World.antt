-- The world of many sessions over one desk: its events, in any order, and what holds after them.
use Rattle.std.specs.Prelude.{◌≡◌, ℕ, ◌+◌, ◌-◌, ◌≤◌, ◌&&◌, nat_le, cond, List, [], ◌∷◌, length, take, drop, replicate, Option, Some, None, IfSome, slice_get, slice_set}
use Rattle.std.specs.Option.{option_map}
use mathlib.Core.List.{IsPrefix}
use Rattle.airfields.specs.Sites.{Site}
use Rattle.oe_findings.specs.List.{findings_of}
use Rattle.determination_dates.specs.Computed.{with_some}
use Rattle.wire_requests.specs.Changes.{Asked}
use Rattle.case_records.specs.declared.case.KeptList.{KeptList}
use Rattle.case_records.specs.declared.outcome.Outcome.{Outcome}
use Rattle.case_records.specs.declared.outcome.Outcome.TheVariants as outcomes
use Rattle.desk_machine.specs.declared.entry.Entry.{Entry}
use Rattle.desk_machine.specs.States.{State, last_number}
use Rattle.desk_machine.specs.Evaluations.{Given, evaluated_site}
use Rattle.desk_machine.specs.Machine.{decide, state_after, replay}
use Rattle.desk_machine.specs.Fronts.{register_after, front_number}

-- ---- the world

-- what comes to a session: a front that it has from then on, or one that it is told
pub data Moment : Type 0 where
  Had : List Entry → Moment
  Told : List Entry → Moment

abbrev pub entries_in : Moment → List Entry
entries_in (Had front) = front
entries_in (Told front) = front

-- the front of a session to which this came, the latest first; empty before it has looked
abbrev pub front_of : List Moment → List Entry
front_of [] = []
front_of (Had front ∷ past) = front
front_of (Told front ∷ past) = front_of past

-- every front that it has had, the latest first
abbrev pub fronts_of : List Moment → List (List Entry)
fronts_of [] = [] ∷ []
fronts_of (Had front ∷ past) = front ∷ fronts_of past
fronts_of (Told front ∷ past) = fronts_of past

-- the desk, the published entries, and what came to each session, the latest first
pub record World : Type 0 where
  pub state : State
  pub published : List Entry
  pub sessions : List (List Moment)

-- nothing is published, and nothing has come to any of this many sessions
abbrev pub opening_world : State → ℕ → World
opening_world opening count = record { state = opening; published = []; sessions = replicate count [] }

-- the entries that were accepted since the opening
abbrev pub accepted_entries : State → World → List Entry
accepted_entries opening w = drop (last_number opening) w.state.entries

-- ---- the events

-- a session looks at what is published; a session asks for a change, with nothing, or with a structure and the place of a front among those
-- that it has had, over which the list of the structure is given; the desk publishes the accepted entries up to one; a session is told what
-- is published
pub data Event : Type 0 where
  Look : (who : ℕ) → Event
  Change : (who : ℕ) (q : Asked) (given : Option (ℕ × Site)) → Event
  Publish : (upto : ℕ) → Event
  Tell : (who : ℕ) → Event

-- the list of a structure over the airfields of a front, with the front's number
abbrev pub list_over : State → Site → List Entry → Given
list_over opening site front = record { filing = site; last = front_number opening front; list = findings_of (register_after opening.register front) site }

abbrev pub list_at : State → List Moment → ℕ × Site → Option Given
list_at opening past g = option_map (list_over opening g.1) (slice_get (fronts_of past) g.0)

abbrev pub list_from : State → Option (List Moment) → Option (ℕ × Site) → Option Given
list_from opening session given = with_some session (λ past. with_some given (list_at opening past))

-- the sessions after this came to one of them
abbrev pub noted_in : Moment → List (List Moment) → ℕ → Option (List Moment) → List (List Moment)
noted_in m all who None = all
noted_in m all who (Some past) = slice_set all who (m ∷ past)

abbrev pub sessions_noting : Moment → List (List Moment) → ℕ → List (List Moment)
sessions_noting m all who = noted_in m all who (slice_get all who)

-- the world after an event; a look or a note of a session that is not there changes nothing, and a change by it, or over a front that is not
-- there, is one without a list
abbrev pub world_after : State → World → Event → World
world_after opening w (Look who) = record w { sessions = sessions_noting (Had w.published) w.sessions who }
world_after opening w (Change who q given) =
    record w { state = state_after w.state (decide w.state (front_number opening w.published) q (list_from opening (slice_get w.sessions who) given)) }
world_after opening w (Publish upto) =
    record w { published = cond (nat_le (length w.published) upto && nat_le upto (length (accepted_entries opening w))) (take upto (accepted_entries opening w)) w.published }
world_after opening w (Tell who) = record w { sessions = sessions_noting (Told w.published) w.sessions who }

-- the world after these events, in order
abbrev pub world_after_all : State → List Event → World → World
world_after_all opening [] w = w
world_after_all opening (e ∷ es) w = world_after_all opening es (world_after opening w e)

-- ---- what holds

abbrev pub Every : {A : Type 0} → (A → Type 0) → List A → Type 0
Every P [] = Unit {0}
Every P (x ∷ xs) = P x × Every P xs

abbrev pub Begins : List Entry → Moment → Type 0
Begins front m = IsPrefix (entries_in m) front

-- each front extends all that the session had and was told before
abbrev pub AreInOrder : List Moment → Type 0
AreInOrder [] = Unit {0}
AreInOrder (Had front ∷ past) = Every (Begins front) past × AreInOrder past
AreInOrder (Told front ∷ past) = AreInOrder past

-- the list that a determination was issued or revised on
abbrev pub recorded_list : Outcome → Option KeptList
recorded_list (outcomes.Plain plain) = None
recorded_list (outcomes.Filed number in_time fcc explained) = None
recorded_list (outcomes.FormCame number late) = None
recorded_list (outcomes.Determined number decision last issued deadline effective expiry list) = Some (record { last = last; list = list })
recorded_list (outcomes.Revised number decision last issued deadline effective expiry list) = Some (record { last = last; list = list })
recorded_list (outcomes.Petitioned number) = None
recorded_list (outcomes.Disposed number affirmed effective expiry) = None
recorded_list (outcomes.Extended number expiry last_day) = None
recorded_list (outcomes.Fcc number expiry) = None
recorded_list (outcomes.Abandoned number) = None

-- the list is that of the structure over the airfields at the opening after the first of these entries, up to the one of the list's number,
-- which comes before this place
pub record IsOver (opening : State) (entries : List Entry) (place : ℕ) (evaluated : Option Site) (kept : KeptList) : Type 0 where
  pub site : Site
  pub is_its : evaluated ≡ Some site
  pub since : last_number opening ≤ kept.last
  pub before : kept.last ≤ last_number opening + place
  pub list : kept.list ≡ findings_of (register_after opening.register (take (kept.last - last_number opening) entries)) site

-- the entry at a place: where it is a determination or a revision, its list is so of the structure that its request evaluates
abbrev pub IsJudged : State → List Entry → ℕ → Entry → Type 0
IsJudged opening entries place e =
    IfSome (recorded_list e.outcome) (IsOver opening entries place (evaluated_site (replay opening (take place entries)) e.change.act))

abbrev pub AreJudged : State → List Entry → Type 0
AreJudged opening entries = (place : ℕ) → IfSome (slice_get entries place) (IsJudged opening entries place)

-- there are as many sessions as at the opening; each session's front begins the published entries, and its fronts are in order; the published entries begin the accepted ones; the desk is
-- the replay of these from the opening; and each determination and each revision among them has its list
pub record IsOrderly (opening : State) (count : ℕ) (w : World) : Type 0 where
  pub counted : length w.sessions ≡ count
  pub fronts : Every (λ past. IsPrefix (front_of past) w.published) w.sessions
  pub order : Every AreInOrder w.sessions
  pub published : IsPrefix w.published (accepted_entries opening w)
  pub replayed : w.state ≡ replay opening (accepted_entries opening w)
  pub judged : AreJudged opening (accepted_entries opening w)
