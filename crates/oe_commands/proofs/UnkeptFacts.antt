-- A run over a keeper of nothing.
use Rattle.std.proofs.Common.{ℕ, List, [], ◌∷◌, length, Option, Some, None, Bool, cond, ◌==◌, ◌≡◌, ◌⊎◌, inl, inr, refl, sym, ap, ◌∙◌, subst, slice_get}
use Rattle.std.specs.List.{filter}
use Rattle.std.specs.FinMap as maps
use Rattle.std.specs.Str.Lines.{lines}
use Rattle.oe_keeper.specs.Kept.{Key, Kept, key_cmp, place}
use Rattle.oe_keeper.specs.declared.change.Table.{Table}
use Rattle.oe_keeper.specs.declared.change.Table.TheVariants as tables
use Rattle.oe_http.specs.Machine.{Step, Starts}
use Rattle.oe_http.specs.Session.{AnsweredFront, Begun}
use Rattle.desk_machine.specs.States.{State, empty, last_number}
use Rattle.desk_tables.specs.Opening.{Opens, IsFirstBad, count_of, is_in, renewed, with_format, with_today, with_wanting}
use Rattle.desk_tables.proofs.RowsRead.{none_renewed}
use Rattle.oe_keeper.specs.contracts.no_keeper.NoKeeperKeeper.TheImpl as unkept
use Rattle.oe_keeper.specs.declared.no_keeper.NoKeeper.{NoKeeper}
use Rattle.line_desk.specs.Desk.{Plain}
use Rattle.oe_asof.specs.Sessions.{DatedPlain, opened_plain}
use Rattle.oe_commands.specs.declared.status.Status.{Status}
use Rattle.oe_commands.specs.declared.status.Status.TheVariants as statuses
use Rattle.site_questions.specs.Charts.{chart}
use Rattle.site_questions.specs.Ceilings.{CeilingStep}
use Rattle.site_questions.specs.Ways.{Survey, WayStep, survey}
use Rattle.site_questions.specs.WaySessions.{WaysBegun}
use Rattle.command_words.specs.declared.commands.Service.{Service}
use Rattle.command_words.specs.declared.commands.Service.TheVariants as services
use Rattle.oe_commands.specs.Commands.{AskToOpen}
use Rattle.oe_commands.specs.Runs.{IsUnopened, PlainRun, Served, SessionRun}
use Rattle.oe_commands.proofs.GenerateFacts.{appends_nothing}

-- ---- no rows have no bad row

whole : (n : ℕ) (m other : Kept) → n ≡ 0 → cond (n == 0) m other ≡ m
whole n m other e = ap (λ k. cond (k == 0) m other) e

nil : {A : Type 0} (xs : List A) → length xs ≡ 0 → xs ≡ []
nil [] e = refl
nil (x ∷ xs) e = absurd (cc (e))

no_entries : (m : Kept) → maps.len m ≡ 0 → maps.entries m ≡ []
no_entries m e = nil (maps.entries m) (sym (maps.len-entries m) ∙ e)

none_bad : (m : Kept) (k : Key) → maps.len m ≡ 0 → IsFirstBad m k → ⊥
none_bad m k e bad =
    let format : with_format m ≡ m = whole (maps.len m) m _ e in
    let today : with_today m ≡ m = whole (count_of (is_in tables.Filing) m) m _ (ap (λ es. length (filter (is_in tables.Filing) es)) (no_entries m e)) in
    let none : maps.entries (with_wanting (renewed m)) ≡ [] =
    ap (λ (n : Kept). maps.entries (with_wanting n)) (none_renewed m e) ∙ ap maps.entries (ap with_today format ∙ today) ∙ no_entries m e in
    cc (sym (ap (λ es. slice_get es bad.place_of) none) ∙ bad.at.row)

-- ---- nothing was read and nothing written

starts_nothing : {St : Type 0} (step : Step St) (s : St) (more : List (List ℕ)) → Starts step s more []
starts_nothing step s [] = refl
starts_nothing step s (line ∷ more) = inl refl

begun_nothing : {St : Type 0} (step : Step St) (s : St) (x h : Option (List ℕ)) → Begun step s x h h
begun_nothing step s None h = tt
begun_nothing step s (Some input) h = ([], appends_nothing h, starts_nothing step s (lines input))

front_nothing : {St : Type 0} (step : Step St) (s : St) (x h : Option (List ℕ)) → AnsweredFront step s x h h
front_nothing step s None h = tt
front_nothing step s (Some input) h = ([], lines input, s, refl, record { text = []; appends = appends_nothing h; runs = (refl, refl) })

no_whole : {A : Type 0} → (statuses.NoMemory ≡ statuses.ReadFault) ⊎ (statuses.NoMemory ≡ statuses.InputLong) → A
no_whole (inl e) = absurd (cc (e))
no_whole (inr e) = absurd (cc (e))

nothing_run : {St : Type 0} (step : Step St) (s : St) (x h : Option (List ℕ)) → SessionRun step s statuses.NoMemory x x h h
nothing_run step s x h = record {
  done = λ e. absurd (cc (e));
  begun = begun_nothing step s x h;
  read_to_end = λ e. absurd (cc (e));
  whole = no_whole;
  memory = λ e. front_nothing step s x h;
}

ways_begun_nothing : (s : Survey) (x h : Option (List ℕ)) → WaysBegun s x h h
ways_begun_nothing s None h = tt
ways_begun_nothing s (Some input) h = ([], appends_nothing h, inl (starts_nothing WayStep s (lines input)))

nothing_told : (service : Service) (s : State) (x h : Option (List ℕ)) → PlainRun service s statuses.NoMemory x x h h
nothing_told services.Desk s x h = nothing_run Plain s x h
nothing_told services.Ceiling s x h = nothing_run CeilingStep (chart s.register (last_number s)) x h
nothing_told services.AsOf s x h = nothing_run DatedPlain (opened_plain s) x h
nothing_told services.Stations s x h = record {
  done = λ e. absurd (cc (e));
  begun = ways_begun_nothing (survey s.register (last_number s) []) x h;
  read_to_end = λ e. absurd (cc (e));
  whole = no_whole;
  memory = λ e. front_nothing WayStep (survey s.register (last_number s) []) x h;
}

-- by the law that no rows open as the desk that holds nothing
module _ (law : (s : State) → Opens maps.empty s → s ≡ empty) (service : Service) (keeper : NoKeeper) (path : Option (List ℕ)) where
  served : (status : Status) (x y h k : Option (List ℕ)) → Served unkept.ghosts.Tells unkept.ghosts.Finds unkept.ghosts.IsSteady unkept.ghosts.faults service keeper path status x y h k → PlainRun service empty status x y h k
  served status x y h k sv =
      subst (λ (s : State). PlainRun service s status x y h k) (law sv.opened.state (subst (λ m. Opens m sv.opened.state) sv.found sv.opens)) (sv.steady tt)

  unopened : (status : Status) (x h : Option (List ℕ)) → IsUnopened unkept.ghosts.Finds unkept.ghosts.IsSteady keeper path status → PlainRun service empty status x x h h
  unopened statuses.Done x h u = absurd u
  unopened statuses.Usage x h u = absurd u
  unopened statuses.ReadFault x h u = absurd u
  unopened statuses.WriteFault x h u = absurd u
  unopened statuses.KeeperFault x h u = absurd (u tt)
  unopened (statuses.BadRow table key) x h (rows, found, bad) = absurd (none_bad rows _ (ap maps.len found ∙ maps.len-empty key_cmp (List ℕ)) bad)
  unopened statuses.NoMemory x h u = nothing_told service empty x h
  unopened statuses.InputLong x h u = absurd u
  unopened statuses.GateFault x h u = absurd u

  pub unkept_run : (status : Status) (x y h k : Option (List ℕ)) {P Q : Type 0}
      → Served unkept.ghosts.Tells unkept.ghosts.Finds unkept.ghosts.IsSteady unkept.ghosts.faults service keeper path status x y h k ⊎ (IsUnopened unkept.ghosts.Finds unkept.ghosts.IsSteady keeper path status × P × Q)
      → (P → y ≡ x) → (Q → k ≡ h) → PlainRun service empty status x y h k
  unkept_run status x y h k (inl sv) read written = served status x y h k sv
  unkept_run status x y h k (inr (u, p, q)) read written = rw (read p, written q) (unopened status x h u)

pub unkept_no_bad : (words : List (List ℕ)) (keeper : NoKeeper) (t : Table) (k : List ℕ)
    → ((path : Option (List ℕ)) × AskToOpen words path × ((rows : Kept) × unkept.ghosts.Finds keeper path rows × IsFirstBad rows (place t, k))) → ⊥
unkept_no_bad words keeper t k (path, said, (rows, found, bad)) = none_bad rows (place t, k) (ap maps.len found ∙ maps.len-empty key_cmp (List ℕ)) bad

-- of no rows none is bad
pub unkept_good : (rows : Kept) (k : Key) → rows ≡ maps.empty → IsFirstBad rows k → ⊥
unkept_good rows k found bad = none_bad rows k (ap maps.len found ∙ maps.len-empty key_cmp (List ℕ)) bad
