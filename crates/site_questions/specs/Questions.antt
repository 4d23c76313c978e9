-- The bytes that a session of questions has read and written, by how it ended.
use Rattle.std.specs.Prelude.{ℕ, List, [], ◌≡◌, Option}
use Rattle.airfields.specs.declared.airfield.Airfield.{Airfield}
use Rattle.oe_http.specs.Session.{Answered, Begun, WritesWhole}
use Rattle.oe_http.specs.declared.session.Ended.{Ended}
use Rattle.oe_http.specs.declared.session.Ended.TheVariants as endings
use Rattle.site_questions.specs.Charts.{Chart, chart}
use Rattle.site_questions.specs.Ceilings.{CeilingStep}
use Rattle.site_questions.specs.Ways.{Survey, WayStep, survey}
use Rattle.site_questions.specs.WaySessions.{WaysAnswered, WaysBegun}
use Rattle.site_questions.specs.declared.kinds.Question.{Question}
use Rattle.site_questions.specs.declared.kinds.Question.TheVariants as asked

-- a session of ceilings
pub record CeilingSession (opened : Chart) (ended : Ended) (input left held_old held_new : Option (List ℕ)) : Type 0 where
  -- at the end of the input the output is its old content and the reply to each line, in order
  pub closed : ended ≡ endings.Closed → (after : Chart) × Answered CeilingStep opened after input held_old held_new
  -- however it ends, it is its old content and a beginning of these replies
  pub begun : Begun CeilingStep opened input held_old held_new
  -- at the end of the input nothing is left of it; where it stops before, each line that was read whole has its reply
  pub written : (after : Chart) × WritesWhole CeilingStep opened after ended input left held_old held_new

-- the same of a session of ways, of which the last may end with the input and is told then too
pub record WaySession (opened : Survey) (ended : Ended) (input left held_old held_new : Option (List ℕ)) : Type 0 where
  pub closed : ended ≡ endings.Closed → WaysAnswered opened input held_old held_new
  pub begun : WaysBegun opened input held_old held_new
  pub written : (after : Survey) × WritesWhole WayStep opened after ended input left held_old held_new

-- the session of a question over these airfields, with the number of the last accepted change
abbrev pub QuestionSession : Question → List Airfield → ℕ → Ended → Option (List ℕ) → Option (List ℕ) → Option (List ℕ) → Option (List ℕ) → Type 0
QuestionSession asked.Ceilings airfields last = CeilingSession (chart airfields last)
QuestionSession asked.Ways airfields last = WaySession (survey airfields last [])
