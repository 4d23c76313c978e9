-- The desk as a state machine: the answer to a request, the state after it, and the replay of accepted requests.
use Rattle.std.specs.Prelude.{ℕ, ◌+◌, List, [], ◌∷◌, length, nat_le, int_lt, cond, Option, Some, None, Result, Ok, Err}
use Rattle.std.specs.Option.{option_map}
use Rattle.jiff_core.specs.declared.civil.date.Date.{Date}
use Rattle.jiff_core.specs.Date.{epoch_day}
use Rattle.airfields.specs.Sites.{Site}
use Rattle.airfields.specs.declared.airfield.Airfield.{Airfield}
use Rattle.airport_register.specs.Amendments.{first_broken}
use Rattle.determination_dates.specs.Computed.{with_some}
use Rattle.wire_values.specs.declared.plain.Plain.TheVariants as plains
use Rattle.wire_requests.specs.Changes.{Asked}
use Rattle.wire_requests.specs.Spellings.{plain_of}
use Rattle.case_requests.specs.contracts.act.ActPartialEq.TheImpl as act
use Rattle.case_requests.specs.declared.act.Act.{Act}
use Rattle.case_requests.specs.declared.act.Act.TheVariants as acts
use Rattle.case_requests.specs.declared.act.Impact.{Impact}
use Rattle.case_records.specs.declared.outcome.Outcome.{Outcome}
use Rattle.case_records.specs.declared.outcome.Outcome.TheVariants as outcomes
use Rattle.case_records.specs.declared.refusal.Refusal.{Refusal}
use Rattle.case_records.specs.declared.refusal.Refusal.TheVariants as refusals
use Rattle.case_records.specs.declared.case.KeptList.{KeptList}
use Rattle.case_records.specs.declared.case.KeptCase.{KeptCase}
use Rattle.case_records.specs.Refusals.{refused_amendment}
use Rattle.case_acts.specs.declared.effect.Effect.{Effect}
use Rattle.case_acts.specs.declared.effect.Step.{Step}
use Rattle.case_acts.specs.declared.effect.Step.TheVariants as steps
use Rattle.case_acts.specs.Rules.{refusal_if}
use Rattle.case_acts.specs.Effects.{effect, filing_effect}
use Rattle.case_acts.specs.Rulings.{by_first, ruling, form_ruling, determination_ruling, petition_ruling, disposal_ruling, extension_ruling, revision_ruling, fcc_ruling, abandon_ruling}
use Rattle.desk_machine.specs.declared.entry.Entry.{Entry}
use Rattle.desk_machine.specs.declared.entry.TheConstants.{MOST_CASES}
use Rattle.desk_machine.specs.States.{State, state_after_step, with_entry, entry_of, case_at, last_number}
use Rattle.desk_machine.specs.Evaluations.{Given, basis_of, evaluated_site}

-- ---- the ruling of an act

-- notices and acts on a case need the desk to have a day; case numbers run from 1 to the count of cases
abbrev pub on_day : Option Date → (Date → Result Effect Refusal) → Result Effect Refusal
on_day None act = Err refusals.NoDay
on_day (Some today) act = act today

abbrev pub on_kept : Option KeptCase → (KeptCase → Result Effect Refusal) → Result Effect Refusal
on_kept None act = Err refusals.UnknownCase
on_kept (Some c) act = act c

abbrev pub on_case : State → ℕ → (Date → KeptCase → Result Effect Refusal) → Result Effect Refusal
on_case s number act = on_day s.day (λ today. on_kept (case_at s.cases number) (act today))

-- an act that evaluates a structure needs a list
abbrev pub on_list : Option KeptList → (KeptList → Result Effect Refusal) → Result Effect Refusal
on_list None act = Err refusals.UnknownCase
on_list (Some kept) act = act kept

-- the desk's day never moves back
abbrev pub day_rules : Option Date → Date → List Refusal
day_rules None day = []
day_rules (Some kept) day = refusal_if (int_lt (epoch_day day) (epoch_day kept)) (refusals.DayBack kept day)

-- the limit on the number of cases
abbrev pub file_rules : List KeptCase → List Refusal
file_rules cases = refusal_if (nat_le MOST_CASES (length cases)) refusals.CasesFull

-- the ruling of an act on its list, without the rules of the register
abbrev pub ruling_of_act : State → Option KeptList → Act → Result Effect Refusal
ruling_of_act s basis (acts.Amend a) = Ok (effect (outcomes.Plain (plain_of a)) (steps.Amended a))
ruling_of_act s basis (acts.Day d) = ruling (day_rules s.day d) (Some (effect (outcomes.Plain plains.Day) (steps.DaySet d)))
ruling_of_act s basis (acts.Closed d) = Ok (effect (outcomes.Plain plains.Closed) (steps.DayClosed d))
ruling_of_act s basis (acts.File n) = on_day s.day (λ today. ruling (file_rules s.cases) (filing_effect (length s.cases + 1) today n))
ruling_of_act s basis (acts.Form number) = on_case s number (form_ruling number)
ruling_of_act s basis (acts.Determine number finding) = on_case s number (λ today c. on_list basis (λ kept. determination_ruling number finding s.closed kept today c))
ruling_of_act s basis (acts.Petition number party) = on_case s number (petition_ruling number)
ruling_of_act s basis (acts.Dispose number affirm) = on_case s number (disposal_ruling number affirm)
ruling_of_act s basis (acts.Extend number months started filed warranted) =
    on_case s number (extension_ruling number (record { months = months; started = started; filed = filed; warranted = warranted }))
ruling_of_act s basis (acts.Revise number started terrain height finding) =
    on_case s number
    (λ today c. on_list basis (λ kept. revision_ruling number (record { started = started; terrain = terrain; height = height; finding = finding }) s.closed kept today c))
ruling_of_act s basis (acts.Fcc number completion) = on_case s number (fcc_ruling number completion)
ruling_of_act s basis (acts.Abandon number) = on_case s number (abandon_ruling number)

-- the rule of the register that a step breaks
abbrev pub register_rule : List Airfield → Step → Option Refusal
register_rule register (steps.Amended a) = option_map refused_amendment (first_broken register a)
register_rule register (steps.DaySet d) = None
register_rule register (steps.DayClosed d) = None
register_rule register (steps.CaseFiled c) = None
register_rule register (steps.FormPut number day) = None
register_rule register (steps.LifePut number life) = None
register_rule register (steps.Issued number site life list) = None

abbrev pub register_effect : List Airfield → Result Effect Refusal → Result Effect Refusal
register_effect register (Err why) = Err why
register_effect register (Ok e) = by_first (register_rule register e.step) (Some e)

abbrev pub ruling_on_act : State → Option KeptList → Act → Result Effect Refusal
ruling_on_act s basis a = register_effect s.register (ruling_of_act s basis a)

-- ---- the answer to a request

pub data Answer : Type 0 where
  -- the outcome of an existing entry
  Kept : Entry → Answer
  -- a refusal
  No : Refusal → Answer
  -- a new entry, and its step
  Done : Entry → Step → Answer

-- the entry that a request makes
abbrev pub entry : State → Asked → Outcome → Entry
entry s q outcome = record { number = last_number s + 1; change = q; outcome = outcome }

abbrev pub decide_new : State → Asked → Result Effect Refusal → Answer
decide_new s q (Err why) = No why
decide_new s q (Ok e) = Done (entry s q e.outcome) e.step

-- a caller's key identifies one act
abbrev pub answer_of_repeat : Entry → Asked → Answer
answer_of_repeat e q = cond (act.ghosts.eq e.change.act q.act) (Kept e) (No (refusals.KeyReused e.number))

abbrev pub decide_by : Option Entry → State → Asked → Option KeptList → Answer
decide_by (Some e) s q basis = answer_of_repeat e q
decide_by None s q basis = decide_new s q (ruling_on_act s basis q.act)

-- the answer to a request, where p is the number of the last published entry, and a list may be given
abbrev pub decide : State → ℕ → Asked → Option Given → Answer
decide s p q given = decide_by (entry_of q.caller q.key s.entries) s q (basis_of s p given q.act)

-- the state after an answer
abbrev pub state_after : State → Answer → State
state_after s (Kept e) = s
state_after s (No why) = s
state_after s (Done e step) = with_entry e (state_after_step step s)

-- the entry that an answer makes
abbrev pub entries_of_answer : Answer → List Entry
entries_of_answer (Kept e) = []
entries_of_answer (No why) = []
entries_of_answer (Done e step) = e ∷ []

-- ---- replay

-- the version of the register that the outcome records
abbrev pub version_of : Outcome → ℕ
version_of (outcomes.Plain plain) = 0
version_of (outcomes.Filed number in_time fcc explained) = 0
version_of (outcomes.FormCame number late) = 0
version_of (outcomes.Determined number decision last issued deadline effective expiry list) = last
version_of (outcomes.Revised number decision last issued deadline effective expiry list) = last
version_of (outcomes.Petitioned number) = 0
version_of (outcomes.Disposed number affirmed effective expiry) = 0
version_of (outcomes.Extended number expiry last_day) = 0
version_of (outcomes.Fcc number expiry) = 0
version_of (outcomes.Abandoned number) = 0

-- the list that it records, as one given for this structure
abbrev pub list_given : Outcome → Site → Option Given
list_given (outcomes.Plain plain) site = None
list_given (outcomes.Filed number in_time fcc explained) site = None
list_given (outcomes.FormCame number late) site = None
list_given (outcomes.Determined number decision last issued deadline effective expiry list) site = Some (record { filing = site; last = last; list = list })
list_given (outcomes.Revised number decision last issued deadline effective expiry list) site = Some (record { filing = site; last = last; list = list })
list_given (outcomes.Petitioned number) site = None
list_given (outcomes.Disposed number affirmed effective expiry) site = None
list_given (outcomes.Extended number expiry last_day) site = None
list_given (outcomes.Fcc number expiry) site = None
list_given (outcomes.Abandoned number) site = None

abbrev pub given_of : State → Entry → Option Given
given_of s e = with_some (evaluated_site s e.change.act) (list_given e.outcome)

-- the request of an entry, decided again with what its outcome records
abbrev pub decide_again : State → Entry → Answer
decide_again s e = decide s (version_of e.outcome) e.change (given_of s e)

-- the requests of entries, decided again in order
abbrev pub replay : State → List Entry → State
replay s [] = s
replay s (e ∷ es) = replay (state_after s (decide_again s e)) es
