-- Of the rows of a desk none is wanting.
use Rattle.std.proofs.Common.{◌≡◌, refl, sym, ap, ◌∙◌, subst, arith, ℕ, ◌==◌, List, [], ◌∷◌, length, Option, Some, None, Bool, true, false, not, ◌&&◌, cond}
use Rattle.std.proofs.Common.{is_none, slice_get}
use Rattle.std.specs.List.{filter}
use Rattle.std.specs.Option.{option_map}
use Rattle.std.specs.Str.{bytes_eq}
use Rattle.std.specs.Ordering.{eq_by_cmp, is_eq}
use Rattle.std.specs.declared.cmp.Ordering.{Ordering}
use Rattle.std.specs.declared.cmp.Ordering.TheVariants.{Less, Equal, Greater}
use Rattle.std.specs.FinMap as maps
use Rattle.std.proofs.lemmas.Bool.Decides.{Decides-eqb}
use Rattle.std.proofs.lemmas.Cmp.{tied_itself}
use Rattle.std.proofs.lemmas.Slice.Eq.{bytes_eq-Decides}
use Rattle.jiff_core.specs.declared.civil.date.Date.{Date}
use Rattle.airfields.specs.declared.airfield.Airfield.{Airfield}
use Rattle.determination_dates.specs.Closed.{is_none_of}
use Rattle.determination_dates.specs.Text.{date_text}
use Rattle.case_records.specs.declared.case.KeptCase.{KeptCase}
use Rattle.row_register.specs.Desk.{desk_row}
use Rattle.row_register.specs.declared.desk.DeskRow.TheVariants as days
use Rattle.wire_requests.specs.Limits.{IsCase}
use Rattle.row_cases.specs.Cases.{case_key}
use Rattle.row_cases.specs.Filings.{filing_row}
use Rattle.oe_keeper.specs.Kept.{Key, Kept, key_cmp, key_cmp_total}
use Rattle.oe_keeper.specs.declared.change.Table.TheVariants as tables
use Rattle.oe_keeper.proofs.Keys.{key_cmp-same}
use Rattle.desk_machine.specs.States.{State, case_at, empty}
use Rattle.desk_machine.specs.declared.entry.Entry.{Entry}
use Rattle.desk_tables.specs.Tables.{Format, Found, AreNamed, Today, filing_found, found_in, text_if_shown}
use Rattle.desk_tables.specs.Rows.{AreRows, is_bare}
use Rattle.desk_tables.proofs.Bare.{bare_rows}
use Rattle.desk_tables.proofs.OneRows.{one_rows}
use Rattle.desk_tables.specs.Values.{Row}
use Rattle.desk_tables.specs.Opening.{count_of, format_key, is_at, is_in, put_wanting, today_key, with_format, with_today, with_wanting}
use Rattle.desk_tables.specs.Reachable.{IsDesk}

equal : (o : Ordering) → is_eq o ≡ true → o ≡ Equal
equal Less h = absurd (cc (h))
equal Equal h = refl
equal Greater h = absurd (cc (h))

-- ---- a row that is there is counted

pub some_counted : (c : Bool) (r : Row) (rest : List Row) → c ≡ true → length (cond c (r ∷ rest) rest) ≡ 0 → ⊥
some_counted true r rest h none = absurd (omega (arith, none))
some_counted false r rest h none = absurd (cc (h))

pub rest_counted : (c : Bool) (r : Row) (rest : List Row) → length (cond c (r ∷ rest) rest) ≡ 0 → length rest ≡ 0
rest_counted true r rest none = absurd (omega (arith, none))
rest_counted false r rest none = none

pub is_here : (key : List ℕ) (r : Row) → eq_by_cmp key_cmp (2, key) r.0 ≡ true → is_at tables.Desk key r ≡ true
is_here key r e =
    let same : r.0 ≡ (2, key) = sym (key_cmp-same (2, key) r.0 (equal (key_cmp (2, key) r.0) e)) in
    ap (λ (k : Key). (k.0 == 2) && bytes_eq k.1 key) same ∙ (bytes_eq-Decides key key).1 refl

there_by : (key x : List ℕ) (r : Row) (es : List Row) (b : Bool) → eq_by_cmp key_cmp (2, key) r.0 ≡ b
    → cond b (Some r.1) (maps.find key_cmp (2, key) es) ≡ Some x
    → (maps.find key_cmp (2, key) es ≡ Some x → length (filter (is_at tables.Desk key) es) ≡ 0 → ⊥) → length (filter (is_at tables.Desk key) (r ∷ es)) ≡ 0 → ⊥
there_by key x r es true e at rest none = some_counted (is_at tables.Desk key r) r (filter (is_at tables.Desk key) es) (is_here key r e) none
there_by key x r es false e at rest none = rest at (rest_counted (is_at tables.Desk key r) r (filter (is_at tables.Desk key) es) none)

there_counted : (key x : List ℕ) (es : List Row) → maps.find key_cmp (2, key) es ≡ Some x → length (filter (is_at tables.Desk key) es) ≡ 0 → ⊥
there_counted key x [] at none = absurd (cc (at))
there_counted key x (r ∷ es) at none = there_by key x r es (eq_by_cmp key_cmp (2, key) r.0) refl at (there_counted key x es) none

pub counted_by : (c : Bool) (n : ℕ) → (n == 0) ≡ c → (n ≡ 0 → ⊥) → (n == 0) ≡ false
counted_by true n e h = absurd (h ((Decides-eqb n 0).0 e))
counted_by false n e h = e

is_counted : (kept : Kept) (key x : List ℕ) → maps.get kept (2, key) ≡ Some x → (count_of (is_at tables.Desk key) kept == 0) ≡ false
is_counted kept key x at = counted_by _ (count_of (is_at tables.Desk key) kept) refl
    (there_counted key x (maps.entries kept) (sym (maps.get-entries kept (2, key)) ∙ at))

-- ---- where no key of a table has a row, none is counted

not_here : (b : Bool) (x : List ℕ) (o : Option (List ℕ)) → cond b (Some x) o ≡ None → (b ≡ false) × (o ≡ None)
not_here true x o none = absurd (cc (none))
not_here false x o none = (refl, none)

none_by : (r : Row) (es : List Row) (c : Bool) → (r.0.0 == 3) ≡ c → maps.find key_cmp (3, r.0.1) (r ∷ es) ≡ None → length (filter (is_in tables.Filing) es) ≡ 0
    → length (cond c (r ∷ filter (is_in tables.Filing) es) (filter (is_in tables.Filing) es)) ≡ 0
none_by r es true e none rest =
    let table : r.0.0 ≡ 3 = (Decides-eqb r.0.0 3).0 e in
    let tied : eq_by_cmp key_cmp (3, r.0.1) r.0 ≡ true = (λ i. is_eq (key_cmp (sym table i, r.0.1) r.0)) ∙ ap is_eq (tied_itself key_cmp_total r.0) in
    let apart = not_here (eq_by_cmp key_cmp (3, r.0.1) r.0) r.1 (maps.find key_cmp (3, r.0.1) es) none in
    absurd (cc (tied, apart.0))
none_by r es false e none rest = rest

none_counted : (es : List Row) → ((key : List ℕ) → maps.find key_cmp (3, key) es ≡ None) → length (filter (is_in tables.Filing) es) ≡ 0
none_counted [] none = refl
none_counted (r ∷ es) none =
    let rest : (key : List ℕ) → maps.find key_cmp (3, key) es ≡ None =
    λ key. (let apart = not_here (eq_by_cmp key_cmp (3, key) r.0) r.1 (maps.find key_cmp (3, key) es) (none key) in apart.1) in
    none_by r es (r.0.0 == 3) refl (none r.0.1) (none_counted es rest)

-- a table without named rows has no rows
no_rows : {N : Type 0} (IsName : N → Type 0) (key : N → List ℕ) (row : N → Option (List ℕ)) (found : Found) → AreNamed IsName key row found
    → ((n : N) → row n ≡ None) → (text : List ℕ) → found text ≡ None
no_rows IsName key row found are none text = by (found text) refl
  where
    by : (o : Option (List ℕ)) → found text ≡ o → found text ≡ None
    by None e = e
    by (Some x) e = are.only text (λ n h k. absurd (cc (sym e ∙ ap found k ∙ are.there n h ∙ none n)))

-- ---- none is wanting

bare_by : (register : List Airfield) (day : Option Date) (closed : List Date) (cases : List KeptCase) (entries : List Entry)
    → (is_none_of register && is_none day && is_none_of closed && is_none_of cases && is_none_of entries) ≡ true
    → ◌≡◌ {A = State} (record { register = register; day = day; closed = closed; cases = cases; entries = entries }) empty
bare_by [] None [] [] [] h = refl
bare_by (x ∷ register) day closed cases entries h = absurd (cc (h))
bare_by [] (Some d) closed cases entries h = absurd (cc (h))
bare_by [] None (d ∷ closed) cases entries h = absurd (cc (h))
bare_by [] None [] (c ∷ cases) entries h = absurd (cc (h))
bare_by [] None [] [] (e ∷ entries) h = absurd (cc (h))

no_case : (b : Bool) → option_map filing_row (cond b None (slice_get [] 0)) ≡ None
no_case true = refl
no_case false = refl

module _ (s : State) (kept : Kept) (rows : AreRows s kept) where
  -- a desk that holds nothing has no rows
  bare_empty : is_bare s ≡ true → maps.len kept ≡ 0
  bare_empty bare =
      let nothing : s ≡ empty = bare_by s.register s.day s.closed s.cases s.entries bare in
      ap maps.len (one_rows empty kept maps.empty (subst (λ (t : State). AreRows t kept) nothing rows) bare_rows) ∙ maps.len-empty key_cmp (List ℕ)

  pub format_there : is_bare s ≡ false → maps.get kept (2, format_key) ≡ Some (desk_row days.Format)
  format_there bare = rows.days.there Format tt ∙ ap (λ b. text_if_shown (not b) (desk_row days.Format)) bare

  kept_by : (b c : Bool) (m n : Kept) → (b ≡ false → c ≡ false) → cond b m (cond c n m) ≡ m
  kept_by true c m n h = refl
  kept_by false true m n h = absurd (cc (h refl))
  kept_by false false m n h = refl

  format_kept : with_format kept ≡ kept
  format_kept = kept_by (maps.len kept == 0) (count_of (is_at tables.Desk format_key) kept == 0) kept (put_wanting format_key kept)
      (λ some. by some (is_bare s) refl)
    where
      by : (maps.len kept == 0) ≡ false → (t : Bool) → is_bare s ≡ t → (count_of (is_at tables.Desk format_key) kept == 0) ≡ false
      by some true e = absurd (cc (some, (Decides-eqb (maps.len kept) 0).1 (bare_empty e)))
      by some false e = is_counted kept format_key (desk_row days.Format) (format_there e)

  today_by : IsDesk s → (o : Option Date) → s.day ≡ o → with_today kept ≡ kept
  today_by desk (Some d) e =
      kept_by (count_of (is_in tables.Filing) kept == 0) (count_of (is_at tables.Desk today_key) kept == 0) kept (put_wanting today_key kept)
      (λ some. is_counted kept today_key (date_text d) (rows.days.there Today tt ∙ ap (option_map date_text) e))
  today_by desk None e =
      let no_cases : s.cases ≡ [] = desk.has_day e in
      let none : (key : List ℕ) → maps.get kept (3, key) ≡ None =
      no_rows IsCase case_key (filing_found s.cases) (found_in kept tables.Filing) rows.filings
      (λ k. ap (λ (cs : List KeptCase). option_map filing_row (case_at cs k)) no_cases ∙ no_case (k == 0)) in
      let zero_times : count_of (is_in tables.Filing) kept ≡ 0 = none_counted (maps.entries kept) (λ key. sym (maps.get-entries kept (3, key)) ∙ none key) in
      ap (λ b. cond b kept (cond (count_of (is_at tables.Desk today_key) kept == 0) (put_wanting today_key kept) kept))
      ((Decides-eqb (count_of (is_in tables.Filing) kept) 0).1 zero_times)

  pub none_wanting : IsDesk s → with_wanting kept ≡ kept
  none_wanting desk = ap with_today format_kept ∙ today_by desk s.day refl
