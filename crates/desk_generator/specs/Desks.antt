-- The desk that the generator makes.
use Rattle.std.specs.Prelude.{ℕ, zero, suc, ◌+◌, ◌%◌, ◌==◌, min, length, Bool, true, false, Option, Some, None, if◌then◌else◌}
use Rattle.airfields.specs.Sites.{Site}
use Rattle.finding_lists.specs.Verdicts.{is_obstruction}
use Rattle.oe_findings.specs.List.{findings_of}
use Rattle.case_requests.specs.declared.act.Act.{Act}
use Rattle.case_requests.specs.declared.act.Act.TheVariants as acts
use Rattle.case_requests.specs.declared.act.Impact.{Impact}
use Rattle.case_requests.specs.declared.act.Impact.TheVariants.{NotSubstantial}
use Rattle.desk_machine.specs.States.{State, empty}
use Rattle.desk_machine.specs.Machine.{state_after}
use Rattle.filing_desk.specs.Answers.{decision}
use Rattle.desk_generator.specs.declared.drawing.DrawnAirport.{DrawnAirport}
use Rattle.desk_generator.specs.declared.generator.TheConstants.{MOST_AIRPORTS}
use Rattle.desk_generator.specs.Draws.{state_of_draw}
use Rattle.desk_generator.specs.Drawings.{airport, structure}
use Rattle.desk_generator.specs.Requests.{request, opening_day, put_airport, put_runway, put_visual, notice}

-- the generator's progress: the number of the source, the count of requests made, and the state of the desk
pub record Course : Type 0 where
  pub source : ℕ
  pub asked : ℕ
  pub state : State

-- a request is made, and decided by the desk's own rules
unfoldable pub ask : Act → Course → Course
ask act c = record { source = c.source; asked = c.asked + 1; state = state_after c.state (decision c.state (request (c.asked + 1) act)) }

-- this many draws are made
abbrev pub draw : ℕ → Course → Course
draw k c = record { source = state_of_draw k c.source; asked = c.asked; state = c.state }

-- a step is done for this many numbers, from the first one on
abbrev pub each : (ℕ → Course → Course) → ℕ → ℕ → Course → Course
each step zero i c = c
each step (suc n) i c = each step n (i + 1) (step i c)

-- ---- the steps

-- an airport is drawn, and put into the register with its runway
abbrev pub course_after_airport : DrawnAirport → Course → Course
course_after_airport a c = ask (put_runway a) (ask (put_airport a) c)

unfoldable pub register : ℕ → Course → Course
register i c = course_after_airport (airport i c.source) (draw 7 c)

-- where a standard is exceeded, the finding is no substantial adverse effect; else there is no finding
unfoldable pub finding : State → Site → Option Impact
finding s site = if is_obstruction (findings_of s.register site) then Some NotSubstantial else None

-- the case of this number is determined
abbrev pub determine : ℕ → Site → Course → Course
determine i site c = ask (acts.Determine i (finding c.state site)) c

-- a structure is drawn, its notice filed, and its case determined at once
unfoldable pub file : ℕ → Course → Course
file i c = determine i (structure c.source) (ask (notice (structure c.source)) (draw 4 c))

-- an airport is drawn again; one with an odd number gets its runway again with visual approaches
abbrev pub course_after_revision : Bool → DrawnAirport → Course → Course
course_after_revision odd a c = if odd then ask (put_visual a) c else c

unfoldable pub revise : ℕ → Course → Course
revise i c = course_after_revision (i % 2 == 1) (airport i c.source) (draw 7 c)

-- ---- the whole run

-- the number of airports for this number of cases
abbrev pub airports_for : ℕ → ℕ
airports_for count = min count MOST_AIRPORTS

-- the empty desk at the start
abbrev pub opening : ℕ → Course
opening seed = record { source = seed; asked = 0; state = empty }

-- the day, the airports and the cases
abbrev pub course_after_filing : ℕ → ℕ → Course
course_after_filing seed count = each file count 1 (each register (airports_for count) 1 (ask (acts.Day opening_day) (opening seed)))

-- the draws begin anew, which gives the same airports again
abbrev pub course_begun_again : ℕ → Course → Course
course_begun_again seed c = record { source = seed; asked = c.asked; state = c.state }

abbrev pub generated_course : ℕ → ℕ → Course
generated_course seed count = each revise (airports_for count) 1 (course_begun_again seed (course_after_filing seed count))

-- the state of the generated desk
abbrev pub generated_state : ℕ → ℕ → State
generated_state seed count = (generated_course seed count).state
