-- What the questions are asked over, and the refusals that they have in common.
use Rattle.std.specs.Prelude.{ℕ, List, ◌≢◌}
use Rattle.airfields.specs.Sites.{Site}
use Rattle.airfields.specs.declared.airfield.Airfield.{Airfield}
use Rattle.case_records.specs.declared.refusal.Refusal.TheVariants as refusals
use Rattle.wire_requests.specs.Requests.{IsRecord}
use Rattle.wire_requests.specs.declared.request.ReadRefusal.{ReadRefusal}
use Rattle.wire_requests.specs.declared.request.ReadRefusal.TheVariants as reading
use Rattle.wire_requests.specs.declared.request.Query.TheVariants as queries
use Rattle.wire_requests.specs.declared.request.Request.{Request}
use Rattle.wire_requests.specs.declared.request.Request.TheVariants as requests
use Rattle.wire_replies.specs.Replies.{refused_text}

-- the airfields, and the number of the last accepted change
pub record Chart : Type 0 where
  pub airfields : List Airfield
  pub last : ℕ

abbrev pub chart : List Airfield → ℕ → Chart
chart airfields last = record { airfields = airfields; last = last }

-- the line is a `screen` record of this structure
abbrev pub IsScreen : List ℕ → Site → Type 0
IsScreen line site = IsRecord line (requests.Query (queries.Screen site))

-- the line is a good record of another form
pub record IsOtherForm (line : List ℕ) : Type 0 where
  pub request : Request
  pub record_of : IsRecord line request
  pub other : (site : Site) → request ≢ requests.Query (queries.Screen site)

-- the refusal of a line at one of its fields, counted from 1
abbrev pub malformed : ℕ → List ℕ
malformed field = refused_text (refusals.Malformed field)

-- the refusal for lack of memory
abbrev pub no_memory : List ℕ
no_memory = refused_text refusals.NoMemory

-- ---- for proofs alone

-- the text of a line's refusal
abbrev pub refusal_text : ReadRefusal → List ℕ
refusal_text (reading.Malformed field) = malformed field
refusal_text reading.NoMemory = no_memory
