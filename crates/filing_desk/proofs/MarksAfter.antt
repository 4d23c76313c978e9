-- The marks after each step.
use Rattle.std.proofs.Common.{◌≡◌, refl, sym, ap, ◌∙◌, arith, ℕ, zero, suc, ◌+◌, ◌-◌, ◌==◌, ◌<◌, ◌≤◌, nat_eq, nat_lt, Bool, true, false, not, cond, if◌then◌else◌, List, [], ◌∷◌, ◌++◌, length, Option, Some, None, IfSome, slice_get, slice_set, int_lt, ◌≤ℤ◌, ℤ}
use Rattle.std.proofs.lemmas.Grind.{common_steps}
use Rattle.std.specs.Option.{option_map, option_map_or}
use Rattle.jiff_core.specs.declared.civil.date.Date.{Date}
use Rattle.jiff_core.specs.Date.{epoch_day}
use Rattle.airfields.specs.Sites.{Site}
use Rattle.airfields.specs.declared.airfield.Airfield.{Airfield}
use Rattle.oe_findings.specs.List.{findings_of}
use Rattle.determination_dates.specs.declared.life.Life.{Life}
use Rattle.determination_dates.specs.declared.life.End.{End}
use Rattle.determination_dates.specs.declared.life.End.TheVariants as ends
use Rattle.determination_dates.specs.declared.life.Status.{Status}
use Rattle.determination_dates.specs.declared.life.Status.TheVariants as statuses
use Rattle.determination_dates.specs.declared.determination.Record.{Record}
use Rattle.determination_dates.specs.declared.determination.Decision.{Decision}
use Rattle.determination_dates.specs.declared.determination.Decision.TheVariants.{NoHazard, Hazard}
use Rattle.determination_dates.specs.Effects.{effective_date, expiry_day}
use Rattle.determination_dates.specs.Statuses.{status_of, by_end, by_record, by_effective, in_effect, is_past}
use Rattle.determination_dates.specs.Computed.{with_some}
use Rattle.case_records.specs.declared.case.KeptCase.{KeptCase}
use Rattle.case_records.specs.declared.case.KeptList.{KeptList}
use Rattle.case_acts.specs.Standing.{is_standing}
use Rattle.case_acts.specs.declared.effect.Step.TheVariants as steps
use Rattle.review_marks.specs.Books.{row_at, joined, row_marked_as, marked_cases, is_marked_in, is_marked_row, numbers_up_to, differs, rows_after_close, rows_after_put}
use Rattle.review_marks.specs.Shares.{AirfieldChange, concerns}
use Rattle.review_marks.specs.Turns.{Leads, row_after_change}
use Rattle.review_marks.specs.declared.row.Row.{Row}
use Rattle.review_marks.proofs.Unconcerned.{unconcerned}
use Rattle.review_marks.proofs.Turning.{apart, by_places, eq_suc, same_number, suc_zero, zero_suc}
use Rattle.desk_machine.specs.States.{State, case_at, cases_changed_at, issued_case, with_case, state_after_step}
use Rattle.desk_machine.proofs.CaseFacts.{case_changed, case_past}
use Rattle.desk_machine.specs.Marks.{Goes, is_marked, marks, stands_on, stands_in, comparison_row, watched_row}
use Rattle.filing_desk.specs.Desks.{with_register}
use Rattle.filing_desk.specs.Marked.{AreMarks, HasDay}

-- ---- the airfields are others

compared_as : (s : State) (airfields : List Airfield) (change : AirfieldChange) (c : KeptCase) (kept : KeptList) (b : Bool) → Leads s.register airfields change → concerns change c.submission.filing ≡ b
    → (if b then row_marked_as (differs kept.list (findings_of airfields c.submission.filing)) (comparison_row s c kept) else comparison_row s c kept) ≡ comparison_row (with_register airfields s) c kept
compared_as s airfields change c kept true l h = refl
compared_as s airfields change c kept false l h =
    ap (λ list. record { filing = c.submission.filing; stored = kept.list; marked = differs kept.list list }) (unconcerned s.register airfields change c.submission.filing l h)

watched_as : (s : State) (airfields : List Airfield) (change : AirfieldChange) (c : KeptCase) (b : Bool) (list : Option KeptList) → Leads s.register airfields change
    → option_map (row_after_change airfields change) (cond b (option_map (comparison_row s c) list) None) ≡ cond b (option_map (comparison_row (with_register airfields s) c) list) None
watched_as s airfields change c false list l = refl
watched_as s airfields change c true None l = refl
watched_as s airfields change c true (Some kept) l = ap Some (compared_as s airfields change c kept (concerns change c.submission.filing) l refl)

row_as : (s : State) (airfields : List Airfield) (change : AirfieldChange) (o : Option KeptCase) → Leads s.register airfields change → option_map (row_after_change airfields change) (with_some o (watched_row s)) ≡ with_some o (watched_row (with_register airfields s))
row_as s airfields change None l = refl
row_as s airfields change (Some c) l = watched_as s airfields change c (stands_on s.day c) c.list l

pub marks_amended : (s : State) (airfields : List Airfield) (change : AirfieldChange) (rows new : List (Option Row)) → Leads s.register airfields change → AreMarks s rows
    → ((n : ℕ) → row_at new n ≡ option_map (row_after_change airfields change) (row_at rows n)) → AreMarks (with_register airfields s) new
marks_amended s airfields change rows new l are turns n =
    turns n ∙ ap (option_map (row_after_change airfields change)) (are n) ∙ row_as s airfields change (case_at s.cases n) l

-- ---- a case is changed

-- where no case is watched otherwise than before
kept_by : (s : State) (f : KeptCase → KeptCase) (b : Bool) (o : Option KeptCase) → ((c : KeptCase) → watched_row s (f c) ≡ watched_row s c) → with_some (option_map (λ c. cond b (f c) c) o) (watched_row s) ≡ with_some o (watched_row s)
kept_by s f b None h = refl
kept_by s f true (Some c) h = h c
kept_by s f false (Some c) h = refl

pub marks_formed : (s : State) (k : ℕ) (f : KeptCase → KeptCase) (rows : List (Option Row)) → ((c : KeptCase) → watched_row s (f c) ≡ watched_row s c) → AreMarks s rows → AreMarks (record s { cases = with_case k f s.cases }) rows
marks_formed s k f rows same are n =
    are n ∙ sym (kept_by s f (nat_eq k n) (case_at s.cases n) same) ∙ ap (λ o. with_some o (watched_row s)) (sym (case_changed k f s.cases n))

-- ---- a case is opened

more_at : (cases : List KeptCase) (c : KeptCase) (i : ℕ) (P : Option KeptCase → Type 0) → P (slice_get cases i) → (slice_get cases i ≡ None → P (Some c)) → P (slice_get (cases ++ c ∷ []) i)
more_at [] c zero P here last = last refl
more_at [] c (suc i) P here last = here
more_at (d ∷ cases) c zero P here last = here
more_at (d ∷ cases) c (suc i) P here last = more_at cases c i P here last

pub unlisted : (s : State) (c : KeptCase) (list : Option KeptList) (b : Bool) → list ≡ None → cond b (option_map (comparison_row s c) list) None ≡ None
unlisted s c None true h = refl
unlisted s c (Some kept) true h = absurd (cc (h))
unlisted s c list false h = refl

opened_at : (s : State) (c : KeptCase) (n : ℕ) (x : Option Row) (d : Bool) → c.list ≡ None → x ≡ with_some (cond d None (slice_get s.cases (n - 1))) (watched_row s)
    → x ≡ with_some (cond d None (slice_get (s.cases ++ c ∷ []) (n - 1))) (watched_row s)
opened_at s c n x true h are = are
opened_at s c n x false h are =
    more_at s.cases c (n - 1) (λ o. x ≡ with_some o (watched_row s)) are
    (λ none. are ∙ ap (λ o. with_some o (watched_row s)) none ∙ sym (unlisted s c c.list (stands_on s.day c) h))

pub marks_opened : (s : State) (c : KeptCase) (rows : List (Option Row)) → c.list ≡ None → AreMarks s rows → AreMarks (record s { cases = s.cases ++ c ∷ [] }) rows
marks_opened s c rows h are n = opened_at s c n (row_at rows n) (n == 0) h (are n)

-- ---- a case has another life

get_none : (rows : List (Option Row)) (k j : ℕ) → k < length rows → slice_get (slice_set rows k None) j ≡ cond (nat_eq k j) (Some None) (slice_get rows j)
get_none [] k j h = absurd (omega (arith, h))
get_none (o ∷ rows) zero zero h = refl
get_none (o ∷ rows) zero (suc j) h = ap (λ (b : Bool). cond b (Some None) (slice_get rows j)) (sym (zero_suc j))
get_none (o ∷ rows) (suc k) zero h = ap (λ (b : Bool). cond b (Some None) (Some o)) (sym (suc_zero k))
get_none (o ∷ rows) (suc k) (suc j) h = get_none rows k j (omega (arith, h)) ∙ ap (λ (b : Bool). cond b (Some None) (slice_get rows j)) (sym (eq_suc k j))

get_some : (rows : List (Option Row)) (r : Row) (k j : ℕ) → k < length rows → slice_get (slice_set rows k (Some r)) j ≡ cond (nat_eq k j) (Some (Some r)) (slice_get rows j)
get_some [] r k j h = absurd (omega (arith, h))
get_some (o ∷ rows) r zero zero h = refl
get_some (o ∷ rows) r zero (suc j) h = ap (λ (b : Bool). cond b (Some (Some r)) (slice_get rows j)) (sym (zero_suc j))
get_some (o ∷ rows) r (suc k) zero h = ap (λ (b : Bool). cond b (Some (Some r)) (Some o)) (sym (suc_zero k))
get_some (o ∷ rows) r (suc k) (suc j) h = get_some rows r k j (omega (arith, h)) ∙ ap (λ (b : Bool). cond b (Some (Some r)) (slice_get rows j)) (sym (eq_suc k j))

past : (rows : List (Option Row)) (j : ℕ) → length rows ≤ j → slice_get rows j ≡ None
past [] j h = refl
past (o ∷ rows) zero h = absurd (omega (arith, h))
past (o ∷ rows) (suc j) h = past rows j (omega (arith, h))

past_by_number : (rows : List (Option Row)) (n : ℕ) (d : Bool) → (n == 0) ≡ d → nat_lt (length rows) n ≡ true → cond d None (joined (slice_get rows (n - 1))) ≡ None
past_by_number rows n true e h = refl
past_by_number rows n false e h = ap joined (past rows (n - 1) (grind (arith, common_steps, e, h)))

-- there is no row beyond the last
pub row_past : (rows : List (Option Row)) (n : ℕ) → nat_lt (length rows) n ≡ true → row_at rows n ≡ None
row_past rows n h = past_by_number rows n (n == 0) refl h

short : (i n : ℕ) → nat_lt i n ≡ true → i < n
short i n h = grind (arith, common_steps, h)

joined_cond : (b : Bool) (v : Option Row) (o : Option (Option Row)) → joined (cond b (Some v) o) ≡ cond b v (joined o)
joined_cond true v o = refl
joined_cond false v o = refl

cond_none : (b : Bool) (o : Option Row) → o ≡ None → o ≡ cond b None o
cond_none true o h = h
cond_none false o h = refl

none_past : (rows : List (Option Row)) (k j : ℕ) (b : Bool) → nat_lt k (length rows) ≡ false → nat_eq k j ≡ b → joined (slice_get rows j) ≡ cond b None (joined (slice_get rows j))
none_past rows k j true h e = ap joined (past rows j (grind (arith, common_steps, h, e)))
none_past rows k j false h e = refl

closed_place : (rows : List (Option Row)) (k j : ℕ) (b : Bool) → nat_lt k (length rows) ≡ b → joined (slice_get (cond b (slice_set rows k None) rows) j) ≡ cond (nat_eq k j) None (joined (slice_get rows j))
closed_place rows k j true h = ap joined (get_none rows k j (short k (length rows) h)) ∙ joined_cond (nat_eq k j) None (slice_get rows j)
closed_place rows k j false h = none_past rows k j (nat_eq k j) h refl

closed_by : (rows : List (Option Row)) (k n : ℕ) (b d : Bool) → (k == 0) ≡ b → (n == 0) ≡ d
    → cond d None (joined (slice_get (cond b rows (cond (nat_lt (k - 1) (length rows)) (slice_set rows (k - 1) None) rows)) (n - 1))) ≡ cond (nat_eq k n) None (cond d None (joined (slice_get rows (n - 1))))
closed_by rows k n b true h e = cond_none (nat_eq k n) None refl
closed_by rows k n true false h e = ap (λ (x : Bool). cond x None (joined (slice_get rows (n - 1)))) (sym (apart k n h e))
closed_by rows k n false false h e =
    closed_place rows (k - 1) (n - 1) (nat_lt (k - 1) (length rows)) refl ∙ ap (λ (x : Bool). cond x None (joined (slice_get rows (n - 1)))) (by_places k n h e)

-- the row of a case after one was closed
pub closed_row : (rows : List (Option Row)) (k n : ℕ) → row_at (rows_after_close k rows) n ≡ cond (nat_eq k n) None (row_at rows n)
closed_row rows k n = closed_by rows k n (k == 0) (n == 0) refl refl

apart_zero : (k n : ℕ) → (k == 0) ≡ false → (n == 0) ≡ true → nat_eq k n ≡ false
apart_zero k n h e = grind (arith, common_steps, h, e)

put_by : (rows : List (Option Row)) (r : Row) (k n : ℕ) (d : Bool) → (k == 0) ≡ false → k - 1 < length rows → (n == 0) ≡ d
    → cond d None (joined (slice_get (slice_set rows (k - 1) (Some r)) (n - 1))) ≡ cond (nat_eq k n) (Some r) (cond d None (joined (slice_get rows (n - 1))))
put_by rows r k n true h fits e = ap (λ (x : Bool). cond x (Some r) None) (sym (apart_zero k n h e))
put_by rows r k n false h fits e =
    ap joined (get_some rows r (k - 1) (n - 1) fits) ∙ joined_cond (nat_eq (k - 1) (n - 1)) (Some r) (slice_get rows (n - 1))
    ∙ ap (λ (x : Bool). cond x (Some r) (joined (slice_get rows (n - 1)))) (by_places k n h e)

-- and after one was put
pub put_row : (rows : List (Option Row)) (r : Row) (k n : ℕ) → 1 ≤ k → k ≤ length rows → row_at (slice_set rows (k - 1) (Some r)) n ≡ cond (nat_eq k n) (Some r) (row_at rows n)
put_row rows r k n low high = put_by rows r k n (n == 0) (grind (arith, common_steps, low)) (omega (arith, low, high)) refl

-- so a change puts it in its place
pub put_of : (rows : List (Option Row)) (r : Row) (k : ℕ) → 1 ≤ k → rows_after_put k r rows ≡ slice_set rows (k - 1) (Some r)
put_of rows r k low = ap (λ (b : Bool). cond b rows (slice_set rows (k - 1) (Some r))) (above_zero k low)
  where
    above_zero : (k : ℕ) → 1 ≤ k → (k == 0) ≡ false
    above_zero k low = grind (arith, common_steps, low)

-- what is watched of the case that has another life
same_watch : (s : State) (life : Life) (c : KeptCase) (b : Bool) → stands_on s.day c ≡ b → (b ≡ false → stands_on s.day (record c { life = life }) ≡ false) → stands_on s.day (record c { life = life }) ≡ true
    → watched_row s c ≡ watched_row s (record c { life = life })
same_watch s life c true is goes stands = ap (λ (x : Bool). cond x (option_map (comparison_row s c) c.list) None) (is ∙ sym stands)
same_watch s life c false is goes stands = absurd (cc (goes refl, stands))

life_kept : (s : State) (life : Life) (b : Bool) (o : Option KeptCase) → ((c : KeptCase) → b ≡ true → o ≡ Some c → (stands_on s.day c ≡ false → stands_on s.day (record c { life = life }) ≡ false) × (stands_on s.day (record c { life = life }) ≡ true))
    → with_some o (watched_row s) ≡ with_some (option_map (λ c. cond b (record c { life = life }) c) o) (watched_row s)
life_kept s life b None h = refl
life_kept s life true (Some c) h = let p = h c refl refl in same_watch s life c (stands_on s.day c) refl p.0 p.1
life_kept s life false (Some c) h = refl

at_same : (cases : List KeptCase) (k n : ℕ) (c : KeptCase) → nat_eq k n ≡ true → case_at cases n ≡ Some c → case_at cases k ≡ Some c
at_same cases k n c e at = ap (case_at cases) (same_number k n e) ∙ at

stands_then : (s : State) (k : ℕ) (f : KeptCase → KeptCase) (c : KeptCase) (b : Bool) → case_at s.cases k ≡ Some c → stands_in (record s { cases = with_case k f s.cases }) k ≡ b → stands_on s.day (f c) ≡ b
stands_then s k f c b at h =
    let found : case_at (with_case k f s.cases) k ≡ Some (f c) = case_changed k f s.cases k ∙ ap (option_map (λ d. cond (nat_eq k k) (f d) d)) at ∙ ap (λ (x : Bool). Some (cond x (f c) c)) (itself k) in
    ap (λ o. option_map_or (stands_on s.day) o false) (sym found) ∙ h
  where
    itself : (k : ℕ) → nat_eq k k ≡ true
    itself k = grind (arith, common_steps)

pub marks_alive : (s : State) (k : ℕ) (life : Life) (rows : List (Option Row)) → Goes s (steps.LifePut k life) → AreMarks s rows
    → stands_in (record s { cases = with_case k (λ c. record c { life = life }) s.cases }) k ≡ true → AreMarks (record s { cases = with_case k (λ c. record c { life = life }) s.cases }) rows
marks_alive s k life rows goes are stands n =
    are n
    ∙ life_kept s life (nat_eq k n) (case_at s.cases n)
    (λ c e at. (let there = at_same s.cases k n c e at in (goes c there, stands_then s k (λ d. record d { life = life }) c true there stands)))
    ∙ ap (λ o. with_some o (watched_row s)) (sym (case_changed k (λ c. record c { life = life }) s.cases n))

pub not_watched : (s : State) (c : KeptCase) (b : Bool) → stands_on s.day c ≡ b → b ≡ false → watched_row s c ≡ None
not_watched s c true is h = absurd (cc (h))
not_watched s c false is h = ap (λ (x : Bool). cond x (option_map (comparison_row s c) c.list) None) is

fallen_at : (s : State) (f : KeptCase → KeptCase) (b : Bool) (o : Option KeptCase) → ((c : KeptCase) → b ≡ true → o ≡ Some c → stands_on s.day (f c) ≡ false)
    → cond b None (with_some o (watched_row s)) ≡ with_some (option_map (λ c. cond b (f c) c) o) (watched_row s)
fallen_at s f true None h = refl
fallen_at s f false None h = refl
fallen_at s f true (Some c) h = sym (not_watched s (f c) (stands_on s.day (f c)) refl (h c refl refl))
fallen_at s f false (Some c) h = refl

-- of any change of a case after which its determination does not stand
pub marks_fallen : (s : State) (k : ℕ) (f : KeptCase → KeptCase) (rows : List (Option Row)) → AreMarks s rows → stands_in (record s { cases = with_case k f s.cases }) k ≡ false
    → AreMarks (record s { cases = with_case k f s.cases }) (rows_after_close k rows)
marks_fallen s k f rows are fallen n =
    closed_row rows k n ∙ ap (cond (nat_eq k n) None) (are n)
    ∙ fallen_at s f (nat_eq k n) (case_at s.cases n) (λ c e at. stands_then s k f c false (at_same s.cases k n c e at) fallen)
    ∙ ap (λ o. with_some o (watched_row s)) (sym (case_changed k f s.cases n))

-- ---- a determination is issued

-- the row of a determination on this list of this structure
abbrev pub issued_row : State → Site → KeptList → Row
issued_row s site kept = record { filing = site; stored = kept.list; marked = differs kept.list (findings_of s.register site) }

issued_at : (s : State) (site : Site) (life : Life) (kept : KeptList) (there : KeptCase) (b : Bool) (o : Option KeptCase)
    → (b ≡ true → (o ≡ Some there) × (stands_on s.day (issued_case site life kept there) ≡ true))
    → cond b (Some (issued_row s site kept)) (with_some o (watched_row s)) ≡ with_some (option_map (λ c. cond b (issued_case site life kept c) c) o) (watched_row s)
issued_at s site life kept there false None h = refl
issued_at s site life kept there false (Some c) h = refl
issued_at s site life kept there true o h =
    let p = h refl in
    ap (λ (x : Bool). cond x (Some (issued_row s site kept)) None) (sym p.1)
    ∙ ap (λ o. with_some (option_map (λ c. issued_case site life kept c) o) (watched_row s)) (sym p.0)

pub marks_issued : (s : State) (k : ℕ) (site : Site) (life : Life) (kept : KeptList) (there : KeptCase) (rows : List (Option Row)) → AreMarks s rows → 1 ≤ k → k ≤ length rows → case_at s.cases k ≡ Some there
    → stands_in (record s { cases = with_case k (issued_case site life kept) s.cases }) k ≡ true
    → AreMarks (record s { cases = with_case k (issued_case site life kept) s.cases }) (slice_set rows (k - 1) (Some (issued_row s site kept)))
marks_issued s k site life kept there rows are low high at stands n =
    put_row rows (issued_row s site kept) k n low high ∙ ap (cond (nat_eq k n) (Some (issued_row s site kept))) (are n)
    ∙ issued_at s site life kept there (nat_eq k n) (case_at s.cases n) (λ e. (ap (case_at s.cases) (sym (same_number k n e)) ∙ at, stands_then s k (issued_case site life kept) there true at stands))
    ∙ ap (λ o. with_some o (watched_row s)) (sym (case_changed k (issued_case site life kept) s.cases n))

-- where it does not stand, the row that was put is closed again
closed_over : (rows : List (Option Row)) (r : Row) (k n : ℕ) (b : Bool) (o : Option Row) → cond b None (cond b (Some r) o) ≡ cond b None o
closed_over rows r k n true o = refl
closed_over rows r k n false o = refl

pub closed_put : (rows : List (Option Row)) (r : Row) (k : ℕ) → 1 ≤ k → k ≤ length rows → (n : ℕ) → row_at (rows_after_close k (slice_set rows (k - 1) (Some r))) n ≡ row_at (rows_after_close k rows) n
closed_put rows r k low high n =
    closed_row (slice_set rows (k - 1) (Some r)) k n ∙ ap (cond (nat_eq k n) None) (put_row rows r k n low high) ∙ closed_over rows r k n (nat_eq k n) (row_at rows n) ∙ sym (closed_row rows k n)

-- ---- the desk has another day

still_late : (x y e : ℤ) → x ≤ℤ y → int_lt x e ≡ false → int_lt y e ≡ false
still_late x y e le h = grind (arith, common_steps, le, h)

still_past : (z x y : ℤ) → x ≤ℤ y → int_lt z x ≡ true → int_lt z y ≡ true
still_past z x y le h = grind (arith, common_steps, le, h)

past_by : (o : Option ℤ) (x y : ℤ) → x ≤ℤ y → is_past o x ≡ true → is_past o y ≡ true
past_by None x y le h = absurd (cc (h))
past_by (Some z) x y le h = still_past z x y le h

fall_past : (o : Option ℤ) (x y : ℤ) (b : Bool) → x ≤ℤ y → is_past o x ≡ b → is_standing (if b then statuses.Expired else statuses.InForce) ≡ false → is_standing (if is_past o y then statuses.Expired else statuses.InForce) ≡ false
fall_past o x y true le is h = ap (λ (b : Bool). is_standing (if b then statuses.Expired else statuses.InForce)) (past_by o x y le is)
fall_past o x y false le is h = absurd (cc (h))

fall_effect : (d : Decision) (o : Option ℤ) (x y : ℤ) → x ≤ℤ y → is_standing (in_effect d o x) ≡ false → is_standing (in_effect d o y) ≡ false
fall_effect Hazard o x y le h = absurd (cc (h))
fall_effect NoHazard o x y le h = fall_past o x y (is_past o x) le refl h

fall_by : (r : Record) (e : Date) (x y : ℤ) (b : Bool) → x ≤ℤ y → int_lt x (epoch_day e) ≡ b → is_standing (if b then statuses.Pending else in_effect r.decision (expiry_day r) x) ≡ false
    → is_standing (if int_lt y (epoch_day e) then statuses.Pending else in_effect r.decision (expiry_day r) y) ≡ false
fall_by r e x y true le is h = absurd (cc (h))
fall_by r e x y false le is h =
    ap (λ (b : Bool). is_standing (if b then statuses.Pending else in_effect r.decision (expiry_day r) y)) (still_late x y (epoch_day e) le is) ∙ fall_effect r.decision (expiry_day r) x y le h

fall_effective : (o : Option Date) (r : Record) (x y : ℤ) → x ≤ℤ y → is_standing (by_effective o r x) ≡ false → is_standing (by_effective o r y) ≡ false
fall_effective None r x y le h = absurd (cc (h))
fall_effective (Some e) r x y le h = fall_by r e x y (int_lt x (epoch_day e)) le refl h

fall_record : (o : Option Record) (x y : ℤ) → x ≤ℤ y → is_standing (by_record o x) ≡ false → is_standing (by_record o y) ≡ false
fall_record None x y le h = refl
fall_record (Some r) x y le h = fall_effective (effective_date r) r x y le h

fall_end : (end : Option End) (a b : Status) → (is_standing a ≡ false → is_standing b ≡ false) → is_standing (by_end end a) ≡ false → is_standing (by_end end b) ≡ false
fall_end None a b f h = f h
fall_end (Some ends.Abandoned) a b f h = refl
fall_end (Some ends.Reversed) a b f h = refl

-- a determination that does not stand on a day does not stand on a later one
pub falls : (l : Life) (x y : ℤ) → x ≤ℤ y → is_standing (status_of l x) ≡ false → is_standing (status_of l y) ≡ false
falls l x y le h = fall_end l.end (by_record l.determination x) (by_record l.determination y) (fall_record l.determination x y le) h

-- what is watched on the new day
day_watch : (s : State) (d : Date) (c : KeptCase) (kept : Option Date) (b : Bool) → s.day ≡ kept → (kept ≡ None → ⊥) → IfSome kept (λ k. epoch_day k ≤ℤ epoch_day d) → stands_on (Some d) c ≡ b
    → cond (not b) None (watched_row s c) ≡ watched_row (record s { day = Some d }) c
day_watch s d c None b is has goes stands = absurd (has refl)
day_watch s d c (Some kept) false is has goes stands = ap (λ (x : Bool). cond x (option_map (comparison_row s c) c.list) None) (sym stands)
day_watch s d c (Some kept) true is has goes stands =
    let stood : stands_on (Some kept) c ≡ true = not_false (stands_on (Some kept) c) (λ f. (let g : stands_on (Some d) c ≡ false = falls c.life (epoch_day kept) (epoch_day d) goes f in cc (g, stands))) in
    ap (λ day. cond (stands_on day c) (option_map (comparison_row s c) c.list) None) is ∙ ap (λ (x : Bool). cond x (option_map (comparison_row s c) c.list) None) (stood ∙ sym stands)
  where
    not_false : (b : Bool) → (b ≡ false → ⊥) → b ≡ true
    not_false true h = refl
    not_false false h = absurd (h refl)

day_at : (s : State) (d : Date) (o : Option KeptCase) → ((c : KeptCase) → o ≡ Some c → s.day ≡ None → ⊥) → IfSome s.day (λ k. epoch_day k ≤ℤ epoch_day d)
    → cond (not (option_map_or (stands_on (Some d)) o false)) None (with_some o (watched_row s)) ≡ with_some o (watched_row (record s { day = Some d }))
day_at s d None has goes = refl
day_at s d (Some c) has goes = day_watch s d c s.day (stands_on (Some d) c) refl (has c refl) goes refl

none_found : (cases : List KeptCase) (n : ℕ) (c : KeptCase) → cases ≡ [] → case_at cases n ≡ Some c → ⊥
none_found cases n c e at = nothing n (n == 0) (ap (λ (xs : List KeptCase). case_at xs n) (sym e) ∙ at)
  where
    nothing : (n : ℕ) (b : Bool) → cond b None (slice_get [] (n - 1)) ≡ Some c → ⊥
    nothing n true h = cc (h)
    nothing n false h = cc (h)

pub marks_on_day : (s : State) (d : Date) (rows new : List (Option Row)) → HasDay s → Goes s (steps.DaySet d) → AreMarks s rows
    → ((n : ℕ) → row_at new n ≡ cond (not (stands_in (record s { day = Some d }) n)) None (row_at rows n)) → AreMarks (record s { day = Some d }) new
marks_on_day s d rows new has goes are closes n =
    closes n ∙ ap (cond (not (stands_in (record s { day = Some d }) n)) None) (are n)
    ∙ day_at s d (case_at s.cases n) (λ c at none. none_found s.cases n c (has none) at) goes

-- ---- the marked cases

append_none : (xs : List ℕ) → xs ++ [] ≡ xs
append_none [] = refl
append_none (x ∷ xs) = ap (λ zs. x ∷ zs) (append_none xs)

not_put : (xs : List ℕ) (n : ℕ) (b : Bool) → b ≡ false → xs ++ cond b (n ∷ []) [] ≡ xs
not_put xs n true e = absurd (cc (e))
not_put xs n false e = append_none xs

by_last : (f : ℕ → Bool) (m t : ℕ) (b : Bool) → nat_lt m (suc t) ≡ b → m ≤ suc t → (m ≤ t → numbers_up_to f t ≡ numbers_up_to f m) → (m < suc t → f (suc t) ≡ false) → numbers_up_to f (suc t) ≡ numbers_up_to f m
by_last f m t true e le rest none =
    let short : m < suc t = grind (arith, common_steps, e) in
    not_put (numbers_up_to f t) (suc t) (f (suc t)) (none short) ∙ rest (omega (arith, short))
by_last f m t false e le rest none =
    let same : suc t ≡ m = grind (arith, common_steps, e, le) in
    ap (numbers_up_to f) same

numbers_beyond : (f : ℕ → Bool) (m t : ℕ) → m ≤ t → ((k : ℕ) → m < k → f k ≡ false) → numbers_up_to f t ≡ numbers_up_to f m
numbers_beyond f m zero le h = let same : 0 ≡ m = omega (arith, le) in ap (numbers_up_to f) same
numbers_beyond f m (suc t) le h = by_last f m t (nat_lt m (suc t)) refl le (λ short. numbers_beyond f m t short h) (h (suc t))

numbers_same : (f g : ℕ → Bool) (n : ℕ) → ((k : ℕ) → f k ≡ g k) → numbers_up_to f n ≡ numbers_up_to g n
numbers_same f g zero h = refl
numbers_same f g (suc n) h = ap (λ xs. xs ++ cond (f (suc n)) (suc n ∷ []) []) (numbers_same f g n h) ∙ ap (λ (b : Bool). numbers_up_to g n ++ cond b (suc n ∷ []) []) (h (suc n))

pub is_marked_as : (s : State) (rows : List (Option Row)) (n : ℕ) → AreMarks s rows → is_marked_in rows n ≡ is_marked s n
is_marked_as s rows n are = ap is_marked_row (are n)

-- the marked cases of the book are those of the state
pub marks_are : (s : State) (rows : List (Option Row)) → AreMarks s rows → marked_cases rows ≡ marks s
marks_are s rows are =
    let top = length rows + length s.cases in
    let beyond_rows = numbers_beyond (is_marked_in rows) (length rows) top (omega arith) (λ k h. ap is_marked_row (row_past rows k (grind (arith, common_steps, h)))) in
    let beyond_cases = numbers_beyond (is_marked s) (length s.cases) top (omega arith) (λ k h. ap (λ o. is_marked_row (with_some o (watched_row s))) (case_past s.cases k h)) in
    sym beyond_rows ∙ numbers_same (is_marked_in rows) (is_marked s) top (λ k. is_marked_as s rows k are) ∙ beyond_cases

-- ---- whole steps

-- the marks and the day, as the office keeps them
abbrev pub AreKept : State → List (Option Row) → Type 0
AreKept s rows = AreMarks s rows × HasDay s

nothing_changed : (k : ℕ) (f : KeptCase → KeptCase) (v : Option KeptCase) → cases_changed_at k f [] v ≡ []
nothing_changed k f None = refl
nothing_changed k f (Some c) = refl

day_formed : (s : State) (k : ℕ) (f : KeptCase → KeptCase) → HasDay s → HasDay (record s { cases = with_case k f s.cases })
day_formed s k f h = λ none. ap (with_case k f) (h none) ∙ nothing_changed k f (case_at [] k)

-- a case is changed in what no list hangs on
pub kept_formed : (s : State) (k : ℕ) (f : KeptCase → KeptCase) (rows : List (Option Row)) → ((c : KeptCase) → watched_row s (f c) ≡ watched_row s c) → AreKept s rows → AreKept (record s { cases = with_case k f s.cases }) rows
kept_formed s k f rows same h = (marks_formed s k f rows same h.0, day_formed s k f h.1)

lived : (s : State) (k : ℕ) (life : Life) (rows : List (Option Row)) (b : Bool) → stands_in (record s { cases = with_case k (λ c. record c { life = life }) s.cases }) k ≡ b → Goes s (steps.LifePut k life) → AreMarks s rows
    → AreMarks (record s { cases = with_case k (λ c. record c { life = life }) s.cases }) (cond b rows (rows_after_close k rows))
lived s k life rows true is goes are = marks_alive s k life rows goes are is
lived s k life rows false is goes are = marks_fallen s k (λ c. record c { life = life }) rows are is

pub kept_alive : (s : State) (k : ℕ) (life : Life) (rows : List (Option Row)) → Goes s (steps.LifePut k life) → AreKept s rows
    → AreKept (state_after_step (steps.LifePut k life) s) (cond (stands_in (state_after_step (steps.LifePut k life) s) k) rows (rows_after_close k rows))
kept_alive s k life rows goes h = (lived s k life rows (stands_in (state_after_step (steps.LifePut k life) s) k) refl goes h.0, day_formed s k (λ c. record c { life = life }) h.1)

issued_rows : (s : State) (k : ℕ) (site : Site) (life : Life) (kept : KeptList) (there : KeptCase) (rows : List (Option Row)) (b : Bool) → stands_in (record s { cases = with_case k (issued_case site life kept) s.cases }) k ≡ b
    → 1 ≤ k → k ≤ length rows → case_at s.cases k ≡ Some there → AreMarks s rows
    → AreMarks (record s { cases = with_case k (issued_case site life kept) s.cases }) (cond b (slice_set rows (k - 1) (Some (issued_row s site kept))) (rows_after_close k (slice_set rows (k - 1) (Some (issued_row s site kept)))))
issued_rows s k site life kept there rows true is low high at are = marks_issued s k site life kept there rows are low high at is
issued_rows s k site life kept there rows false is low high at are =
    λ n. closed_put rows (issued_row s site kept) k low high n ∙ marks_fallen s k (issued_case site life kept) rows are is n

-- no case has the number 0
pub numbered : (cases : List KeptCase) (k : ℕ) (there : KeptCase) → case_at cases k ≡ Some there → 1 ≤ k
numbered cases zero there e = absurd (cc (e))
numbered cases (suc k) there e = omega arith

pub kept_issued : (s : State) (k : ℕ) (site : Site) (life : Life) (kept : KeptList) (there : KeptCase) (old rows : List (Option Row)) → case_at s.cases k ≡ Some there → ((n : ℕ) → row_at rows n ≡ row_at old n)
    → k ≤ length rows → AreKept s old
    → AreKept (state_after_step (steps.Issued k site life kept) s)
    (cond (stands_in (state_after_step (steps.Issued k site life kept) s) k) (slice_set rows (k - 1) (Some (issued_row s site kept))) (rows_after_close k (slice_set rows (k - 1) (Some (issued_row s site kept)))))
kept_issued s k site life kept there old rows at same high h =
    (issued_rows s k site life kept there rows (stands_in (state_after_step (steps.Issued k site life kept) s) k) refl (numbered s.cases k there at) high at (λ n. same n ∙ h.0 n), day_formed s k (issued_case site life kept) h.1)

pub kept_opened : (s : State) (c : KeptCase) (rows : List (Option Row)) → Goes s (steps.CaseFiled c) → AreKept s rows → AreKept (state_after_step (steps.CaseFiled c) s) rows
kept_opened s c rows goes h = (marks_opened s c rows goes.0 h.0, λ none. absurd (goes.1 none))

pub kept_on_day : (s : State) (d : Date) (rows new : List (Option Row)) → Goes s (steps.DaySet d) → AreKept s rows → ((n : ℕ) → row_at new n ≡ cond (not (stands_in (state_after_step (steps.DaySet d) s) n)) None (row_at rows n))
    → AreKept (state_after_step (steps.DaySet d) s) new
kept_on_day s d rows new goes h closes = (marks_on_day s d rows new h.1 goes h.0 closes, λ none. absurd (cc (none)))

pub kept_amended : (s : State) (airfields : List Airfield) (change : AirfieldChange) (rows new : List (Option Row)) → Leads s.register airfields change → AreKept s rows → ((n : ℕ) → row_at new n ≡ option_map (row_after_change airfields change) (row_at rows n))
    → AreKept (with_register airfields s) new
kept_amended s airfields change rows new l h turns = (marks_amended s airfields change rows new l h.0 turns, h.1)

form_stands : (day : Option Date) (c : KeptCase) (form : Option Date) → stands_on day (record c { form = form }) ≡ stands_on day c
form_stands None c form = refl
form_stands (Some today) c form = refl

pub form_watched : (s : State) (c : KeptCase) (form : Option Date) → watched_row s (record c { form = form }) ≡ watched_row s c
form_watched s c form = ap (λ (b : Bool). cond b (option_map (comparison_row s c) c.list) None) (form_stands s.day c form)
