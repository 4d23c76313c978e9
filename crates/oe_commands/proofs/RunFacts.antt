-- What the end of a session says of the status.
use Rattle.std.proofs.Common.{ℕ, List, [], Option, refl, subst, sym, ap, ◌≡◌, ◌≢◌, ◌∙◌, ◌⊎◌, inl, inr}
use Rattle.oe_http.specs.Session.{Answered, Begun, HasCauses, IsOfLines, WritesWhole}
use Rattle.oe_http.specs.declared.session.Ended.{Ended}
use Rattle.oe_http.specs.declared.session.Ended.TheVariants as endings
use Rattle.oe_commands.specs.declared.status.Status.{Status}
use Rattle.oe_commands.specs.declared.status.Status.TheVariants as statuses
use Rattle.oe_commands.specs.Statuses.{status_of}
use Rattle.command_words.specs.declared.commands.Service.{Service}
use Rattle.command_words.specs.declared.commands.Service.TheVariants as services
use Rattle.oe_http.specs.Machine.{Step}
use Rattle.oe_keeper.specs.Kept.{Kept}
use Rattle.oe_keeper.specs.declared.change.Table.{Table}
use Rattle.line_desk.specs.Desk.{Plain, Serving, StepOver}
use Rattle.line_desk.proofs.PlainFacts.{plain, steady_on}
use Rattle.line_desk.proofs.SeenFacts.{answered, front, read, begun}
use Rattle.oe_asof.specs.Sessions.{DatedOver, DatedPlain, DatedSession, opened_over, opened_plain}
use Rattle.oe_asof.proofs.SteadyFacts.{IsSteadyIn, plain_step, steady_after, unkept}
use Rattle.oe_commands.specs.Generating.{IsGenerateEnd}
use Rattle.oe_http.specs.Causes.{Rose}
use Rattle.desk_machine.specs.States.{last_number}
use Rattle.site_questions.specs.Charts.{chart}
use Rattle.site_questions.specs.Ceilings.{CeilingStep}
use Rattle.site_questions.specs.Ways.{Survey, WayStep, survey}
use Rattle.site_questions.specs.WaySessions.{WaysAnswered, WaysBegun}
use Rattle.site_questions.specs.Questions.{CeilingSession, WaySession}
use Rattle.oe_commands.specs.Runs.{IsSessionEnd, IsUntouched, PlainRun, RunCauses, RunOver, SessionRun, WaysRun}

-- the end of the session that a status tells of
abbrev pub ending : Status → Ended
ending statuses.Done = endings.Closed
ending statuses.Usage = endings.Closed
ending statuses.ReadFault = endings.ReadFault
ending statuses.WriteFault = endings.WriteFault
ending statuses.KeeperFault = endings.Closed
ending (statuses.BadRow table key) = endings.Closed
ending statuses.NoMemory = endings.NoMemory
ending statuses.InputLong = endings.Long
ending statuses.GateFault = endings.Closed

ending_of_status : (e : Ended) → IsOfLines e → ending (status_of e) ≡ e
ending_of_status endings.Closed l = refl
ending_of_status endings.Truncated l = absurd l
ending_of_status (endings.Refused number) l = absurd l
ending_of_status endings.ReadFault l = refl
ending_of_status endings.WriteFault l = refl
ending_of_status endings.Long l = refl
ending_of_status endings.NoMemory l = refl

pub told_by : (e : Ended) (s : Status) → IsOfLines e → status_of e ≡ s → e ≡ ending s
told_by e s l h = sym (ending_of_status e l) ∙ ap ending h

fault_or_long : (e : Ended) → IsOfLines e → (status_of e ≡ statuses.ReadFault) ⊎ (status_of e ≡ statuses.InputLong) → (e ≡ endings.ReadFault) ⊎ (e ≡ endings.Long)
fault_or_long e l (inl h) = inl (told_by e statuses.ReadFault l h)
fault_or_long e l (inr h) = inr (told_by e statuses.InputLong l h)

pub session_run : {St : Type 0} (step : Step St) (opened : St) (e : Ended) (x y h k : Option (List ℕ)) → IsOfLines e → (e ≡ endings.Closed → (after : St) × Answered step opened after x h k)
    → Begun step opened x h k → ((after : St) × WritesWhole step opened after e x y h k) → SessionRun step opened (status_of e) x y h k
session_run step opened e x y h k l closed b (after, w) = record {
  done = λ s. closed (told_by e statuses.Done l s);
  begun = b;
  read_to_end = λ s. w.read_to_end (told_by e statuses.Done l s);
  whole = λ s. (after, w.whole (fault_or_long e l s));
  memory = λ s. w.memory (told_by e statuses.NoMemory l s);
}

pub ways_run : (opened : Survey) (e : Ended) (x y h k : Option (List ℕ)) → IsOfLines e → (e ≡ endings.Closed → WaysAnswered opened x h k) → WaysBegun opened x h k
    → ((after : Survey) × WritesWhole WayStep opened after e x y h k) → WaysRun opened (status_of e) x y h k
ways_run opened e x y h k l closed b (after, w) = record {
  done = λ s. closed (told_by e statuses.Done l s);
  begun = b;
  read_to_end = λ s. w.read_to_end (told_by e statuses.Done l s);
  whole = λ s. (after, w.whole (fault_or_long e l s));
  memory = λ s. w.memory (told_by e statuses.NoMemory l s);
}

-- a run whose steps are seen as others is a run of those
pub seen_run : {S T : Type 0} (step : Step S) (outer : Step T) (seen : S → T) (Holds : S → Type 0)
    → ((s t : S) (line text : List ℕ) → Holds s → step s line text t → outer (seen s) line text (seen t))
    → ((s t : S) (line text : List ℕ) → Holds s → step s line text t → Holds t)
    → (s : S) (status : Status) (x y h k : Option (List ℕ)) → Holds s → SessionRun step s status x y h k → SessionRun outer (seen s) status x y h k
seen_run step outer seen Holds is_seen holds_on s status x y h k holds r = record {
  done = λ e. (seen (r.done e).0, answered step outer seen Holds is_seen holds_on s (r.done e).0 x h k holds (r.done e).1);
  begun = begun step outer seen Holds is_seen holds_on s x h k holds r.begun;
  read_to_end = r.read_to_end;
  whole = λ e. (seen (r.whole e).0, read step outer seen Holds is_seen holds_on s (r.whole e).0 x y h k holds (r.whole e).1);
  memory = λ e. front step outer seen Holds is_seen holds_on s x h k holds (r.memory e);
}

-- what each service has read and written once its session has ended so
module _ {K : Type 0} (Tells : K → Kept → Type 0) (IsSteady : K → Type 0) (faults : K → ℕ) (s : Serving K) (e : Ended) (x y h k : Option (List ℕ)) where
  abbrev pub HasRun : Service → Status → Type 0
  HasRun service status = RunOver Tells IsSteady faults service s status x y h k × (IsSteady s.keeper → PlainRun service s.state status x y h k)

  ended_so : (service at : Service) (status : Status) → service ≡ at → status ≡ status_of e → HasRun at (status_of e) → HasRun service status
  ended_so service at status served is run = subst (λ v. HasRun v status) (sym served) (subst (λ t. HasRun at t) (sym is) run)

  pub desk_run : (service : Service) (status : Status) → service ≡ services.Desk → status ≡ status_of e → IsOfLines e
      → (e ≡ endings.Closed → (after : Serving K) × Answered (StepOver Tells IsSteady faults) s after x h k) → Begun (StepOver Tells IsSteady faults) s x h k
      → ((after : Serving K) × WritesWhole (StepOver Tells IsSteady faults) s after e x y h k) → HasRun service status
  desk_run service status served is l closed b w =
      let run : SessionRun (StepOver Tells IsSteady faults) s (status_of e) x y h k = session_run (StepOver Tells IsSteady faults) s e x y h k l closed b w in
      let plain_run : IsSteady s.keeper → SessionRun Plain s.state (status_of e) x y h k =
      (λ steady. seen_run (StepOver Tells IsSteady faults) Plain (λ (v : Serving K). v.state) (λ (v : Serving K). IsSteady v.keeper) (plain Tells IsSteady faults) (steady_on Tells IsSteady faults) s (status_of e) x y h k steady run) in
      ended_so service services.Desk status served is (run, plain_run)

  pub dated_run : (service : Service) (status : Status) → service ≡ services.AsOf → status ≡ status_of e → IsOfLines e → DatedSession Tells IsSteady faults s e x y h k → HasRun service status
  dated_run service status served is l told =
      let run : SessionRun (DatedOver Tells IsSteady faults) (opened_over s) (status_of e) x y h k = session_run (DatedOver Tells IsSteady faults) (opened_over s) e x y h k l told.closed told.begun told.written in
      let plain_run : IsSteady s.keeper → SessionRun DatedPlain (opened_plain s.state) (status_of e) x y h k =
      (λ steady. seen_run (DatedOver Tells IsSteady faults) DatedPlain unkept (IsSteadyIn Tells IsSteady faults) (plain_step Tells IsSteady faults) (steady_after Tells IsSteady faults) (opened_over s) (status_of e) x y h k steady run) in
      ended_so service services.AsOf status served is (run, plain_run)

  pub ceiling_run : (service : Service) (status : Status) → service ≡ services.Ceiling → status ≡ status_of e → IsOfLines e → CeilingSession (chart s.state.register (last_number s.state)) e x y h k
      → HasRun service status
  ceiling_run service status served is l told =
      let run : PlainRun services.Ceiling s.state (status_of e) x y h k = session_run CeilingStep (chart s.state.register (last_number s.state)) e x y h k l told.closed told.begun told.written in
      ended_so service services.Ceiling status served is (run, λ steady. run)

  pub stations_run : (service : Service) (status : Status) → service ≡ services.Stations → status ≡ status_of e → IsOfLines e → WaySession (survey s.state.register (last_number s.state) []) e x y h k
      → HasRun service status
  stations_run service status served is l told =
      let run : PlainRun services.Stations s.state (status_of e) x y h k = ways_run (survey s.state.register (last_number s.state) []) e x y h k l told.closed told.begun told.written in
      ended_so service services.Stations status served is (run, λ steady. run)

pub session_end : (e : Ended) → IsOfLines e → IsSessionEnd (status_of e)
session_end endings.Closed l = tt
session_end endings.Truncated l = tt
session_end (endings.Refused number) l = tt
session_end endings.ReadFault l = tt
session_end endings.WriteFault l = tt
session_end endings.Long l = tt
session_end endings.NoMemory l = tt

pub run_causes : (e : Ended) (x y : Option (List ℕ)) (r0 r1 w0 w1 : ℕ) → IsOfLines e → HasCauses e x y r0 r1 w0 w1 → RunCauses (status_of e) x y r0 r1 w0 w1
run_causes e x y r0 r1 w0 w1 l h = record {
  read = λ s. h.read (told_by e statuses.ReadFault l s);
  write = λ s. h.write (told_by e statuses.WriteFault l s);
  long = λ s. h.long (told_by e statuses.InputLong l s);
}

-- how a session ends a run it does not end otherwise
pub no_usage : (s : Status) → IsSessionEnd s → s ≢ statuses.Usage
no_usage statuses.Done e h = cc
no_usage statuses.Usage e h = absurd e
no_usage statuses.ReadFault e h = cc
no_usage statuses.WriteFault e h = cc
no_usage statuses.KeeperFault e h = absurd e
no_usage (statuses.BadRow table key) e h = absurd e
no_usage statuses.NoMemory e h = cc
no_usage statuses.InputLong e h = cc
no_usage statuses.GateFault e h = absurd e

pub no_fault : (s : Status) → IsSessionEnd s → s ≢ statuses.KeeperFault
no_fault statuses.Done e h = cc
no_fault statuses.Usage e h = absurd e
no_fault statuses.ReadFault e h = cc
no_fault statuses.WriteFault e h = cc
no_fault statuses.KeeperFault e h = absurd e
no_fault (statuses.BadRow table key) e h = absurd e
no_fault statuses.NoMemory e h = cc
no_fault statuses.InputLong e h = cc
no_fault statuses.GateFault e h = absurd e

pub no_gate : (s : Status) → IsSessionEnd s → s ≢ statuses.GateFault
no_gate statuses.Done e h = cc
no_gate statuses.Usage e h = absurd e
no_gate statuses.ReadFault e h = cc
no_gate statuses.WriteFault e h = cc
no_gate statuses.KeeperFault e h = absurd e
no_gate (statuses.BadRow table key) e h = absurd e
no_gate statuses.NoMemory e h = cc
no_gate statuses.InputLong e h = cc
no_gate statuses.GateFault e h = absurd e

pub no_bad_row : (s : Status) → IsSessionEnd s → (t : Table) (k : List ℕ) → s ≢ statuses.BadRow t k
no_bad_row statuses.Done e t k h = cc
no_bad_row statuses.Usage e t k h = absurd e
no_bad_row statuses.ReadFault e t k h = cc
no_bad_row statuses.WriteFault e t k h = cc
no_bad_row statuses.KeeperFault e t k h = absurd e
no_bad_row (statuses.BadRow table key) e t k h = absurd e
no_bad_row statuses.NoMemory e t k h = cc
no_bad_row statuses.InputLong e t k h = cc
no_bad_row statuses.GateFault e t k h = absurd e

pub touched : (s : Status) → IsSessionEnd s → IsUntouched s → ⊥
touched statuses.Done e u = u
touched statuses.Usage e u = e
touched statuses.ReadFault e u = u
touched statuses.WriteFault e u = u
touched statuses.KeeperFault e u = e
touched (statuses.BadRow table key) e u = e
touched statuses.NoMemory e u = u
touched statuses.InputLong e u = u
touched statuses.GateFault e u = u

-- a run that makes a desk by draws reads nothing
pub generate_causes : (s : Status) (x y : Option (List ℕ)) (r0 r1 w0 w1 : ℕ) → IsGenerateEnd s → (s ≡ statuses.WriteFault → Rose w0 w1) → RunCauses s x y r0 r1 w0 w1
generate_causes s x y r0 r1 w0 w1 (inl d) cause = record { read = λ e. cc; write = cause; long = λ e. cc }
generate_causes s x y r0 r1 w0 w1 (inr (inl f)) cause = record { read = λ e. cc; write = cause; long = λ e. cc }
generate_causes s x y r0 r1 w0 w1 (inr (inr m)) cause = record { read = λ e. cc; write = cause; long = λ e. cc }
