-- The findings of ways that are given station by station: the reply to each line.
use Rattle.std.specs.Prelude.{ℕ, List, [], ◌∷◌, ◌++◌, ◌≡◌, ◌≢◌, length, codes}
use Rattle.std.specs.Fmt.{decimal}
use Rattle.std.specs.List.{flat_map}
use Rattle.airfields.specs.Sites.{Site}
use Rattle.airfields.specs.declared.airfield.Airfield.{Airfield}
use Rattle.oe_stations.specs.Joining.{CanJoin, IsRefused}
use Rattle.oe_stations.specs.Ways.{IsWayList}
use Rattle.oe_stations.specs.declared.way.WayRefusal.{WayRefusal}
use Rattle.oe_stations.specs.declared.way.WayRefusal.TheVariants as joining
use Rattle.oe_stations.specs.declared.way_list.WayFinding.{WayFinding}
use Rattle.wire_requests.specs.Requests.{IsMalformed}
use Rattle.wire_requests.specs.declared.request.Query.TheVariants as queries
use Rattle.wire_requests.specs.declared.request.Request.{Request}
use Rattle.wire_requests.specs.declared.request.Request.TheVariants as requests
use Rattle.wire_replies.specs.Entries.{entry_text}
use Rattle.site_questions.specs.Charts.{Chart, chart, IsScreen, IsOtherForm, malformed, no_memory}
use Rattle.site_questions.specs.declared.screens.TheConstants.{FORM_FIELD}

-- what the questions are asked over, and the stations of the way since the last one ended
pub record Survey : Type 0 where
  pub chart : Chart
  pub way : List Site

abbrev pub survey : List Airfield → ℕ → List Site → Survey
survey airfields last way = record { chart = chart airfields last; way = way }

-- the same with another way
abbrev pub with_way : Survey → List Site → Survey
with_way s way = record { chart = s.chart; way = way }

-- the line that ends a way
abbrev pub way_end : List ℕ
way_end = codes "-"

-- an entry, and the first station that has its excess
abbrev pub station_text : WayFinding → List ℕ
station_text w = codes "," ++ (entry_text w.finding ++ codes " " ++ decimal w.station)

-- the number of the last accepted change, that of the stations, and that of the findings
abbrev pub counts_text : ℕ → ℕ → ℕ → List ℕ
counts_text last stations findings = codes "stations," ++ decimal last ++ codes "," ++ decimal stations ++ codes "," ++ decimal findings

-- these, and the findings
abbrev pub way_text : ℕ → ℕ → List WayFinding → List ℕ
way_text last stations list = counts_text last stations (length list) ++ flat_map station_text list ++ codes "\n"

-- why a structure is not the next station
abbrev pub joining_text : WayRefusal → List ℕ
joining_text joining.WayFull = codes "no,35,WayFull\n"
joining_text joining.WayMixed = codes "no,36,WayMixed\n"
joining_text joining.NotAWay = codes "no,38,NotAWay\n"
joining_text joining.NoMemory = no_memory

-- a way without stations has no end
abbrev pub way_empty : List ℕ
way_empty = codes "no,37,WayEmpty\n"

-- a line, the text of its reply, and the way before and after
pub data WayStep (before : Survey) (line text : List ℕ) (after : Survey) : Type 0 where
  -- an empty line has no reply
  Blank : line ≡ [] → text ≡ [] → after ≡ before → WayStep before line text after
  -- a structure that may be the next station becomes it, without a reply
  Joined : (site : Site) → IsScreen line site → CanJoin before.way site → text ≡ [] → after ≡ with_way before (before.way ++ site ∷ []) → WayStep before line text after
  -- any other is refused by the first rule that it breaks
  NotJoined : (site : Site) (why : WayRefusal) → IsScreen line site → IsRefused before.way site why → text ≡ joining_text why → after ≡ before → WayStep before line text after
  -- at its end a way is told, and the next begins
  Ended : (list : List WayFinding) → line ≡ way_end → before.way ≢ [] → IsWayList before.chart.airfields before.way list
      → text ≡ way_text before.chart.last (length before.way) list → after ≡ with_way before [] → WayStep before line text after
  -- unless memory is wanting; the next begins then too
  Untold : line ≡ way_end → before.way ≢ [] → text ≡ no_memory → after ≡ with_way before [] → WayStep before line text after
  -- a way without stations has no end
  NoStation : line ≡ way_end → before.way ≡ [] → text ≡ way_empty → after ≡ before → WayStep before line text after
  -- a record of another form is refused at the field of the form
  OtherForm : IsOtherForm line → text ≡ malformed FORM_FIELD → after ≡ before → WayStep before line text after
  -- any other line is refused at its first wrong field
  Refused : line ≢ [] → line ≢ way_end → (field : ℕ) → IsMalformed line field → text ≡ malformed field → after ≡ before → WayStep before line text after
  -- memory may be wanting to read it
  Wanting : line ≢ [] → line ≢ way_end → text ≡ no_memory → after ≡ before → WayStep before line text after

-- ---- for proofs alone

-- the findings of a way were appended, or that memory is wanting
pub data IsWayReply (chart : Chart) (way : List Site) (old new : List ℕ) : Type 0 where
  Found : (list : List WayFinding) → IsWayList chart.airfields way list → new ≡ old ++ way_text chart.last (length way) list → IsWayReply chart way old new
  NoRoom : new ≡ old ++ no_memory → IsWayReply chart way old new

-- a structure became the next station, or why it did not was appended
pub data IsStationReply (before : List Site) (site : Site) (old new : List ℕ) (after : List Site) : Type 0 where
  Joins : CanJoin before site → new ≡ old → after ≡ before ++ site ∷ [] → IsStationReply before site old new after
  Fails : (why : WayRefusal) → IsRefused before site why → new ≡ old ++ joining_text why → after ≡ before → IsStationReply before site old new after

-- the reply to a record was appended
pub data IsJoinReply (before : List Site) (r : Request) (old new : List ℕ) (after : List Site) : Type 0 where
  Screened : (site : Site) → r ≡ requests.Query (queries.Screen site) → IsStationReply before site old new after → IsJoinReply before r old new after
  Other : ((site : Site) → r ≢ requests.Query (queries.Screen site)) → new ≡ old ++ malformed FORM_FIELD → after ≡ before → IsJoinReply before r old new after

-- the text of the reply to a line was appended
pub record WayAnswers (before : Survey) (line old new : List ℕ) (after : Survey) : Type 0 where
  pub reply : List ℕ
  pub step : WayStep before line reply after
  pub appended : new ≡ old ++ reply
