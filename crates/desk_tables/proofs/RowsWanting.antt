-- Tables whose rows were read have no row wanting, and they have a format where there is something in them.
use Rattle.std.proofs.Common.{◌≡◌, ◌≢◌, refl, sym, ap, ◌∙◌, subst, ℕ, ◌+◌, ◌==◌, List, [], ◌∷◌, length, Option, Some, None, Bool, true, false, not, ◌&&◌, cond, is_none, is_some}
use Rattle.std.specs.Option.{option_map}
use Rattle.std.specs.List.{filter}
use Rattle.std.specs.Str.{bytes_eq}
use Rattle.std.specs.Ordering.{is_eq, eq_by_cmp}
use Rattle.std.specs.FinMap as maps
use Rattle.std.proofs.lemmas.Bool.{and_parts}
use Rattle.std.proofs.lemmas.Bool.Decides.{Decides-eqb}
use Rattle.std.proofs.lemmas.Cmp.{tied_itself}
use Rattle.std.proofs.lemmas.Slice.Eq.{bytes_eq-Decides}
use Rattle.jiff_core.specs.declared.civil.date.Date.{Date}
use Rattle.airfields.specs.declared.airfield.Airfield.{Airfield}
use Rattle.determination_dates.specs.Closed.{is_none_of}
use Rattle.determination_dates.specs.Text.{date_text}
use Rattle.case_records.specs.declared.case.KeptCase.{KeptCase}
use Rattle.row_register.specs.Desk.{desk_row}
use Rattle.row_register.specs.declared.desk.DeskRow.TheVariants as days
use Rattle.oe_keeper.specs.Kept.{Key, Kept, key_cmp, key_cmp_total}
use Rattle.oe_keeper.specs.declared.change.Table.TheVariants as tables
use Rattle.desk_machine.specs.States.{State, empty}
use Rattle.desk_machine.specs.declared.entry.Entry.{Entry}
use Rattle.desk_tables.specs.Tables.{text_if_shown, Format, Today}
use Rattle.desk_tables.specs.Rows.{AreTables, is_bare}
use Rattle.desk_tables.proofs.Named.{IsPutAt}
use Rattle.desk_tables.proofs.Kepts.{put_in}
use Rattle.desk_tables.proofs.Days.{format_put}
use Rattle.desk_tables.proofs.Keeping.{desk_put}
use Rattle.desk_tables.proofs.OneRows.{one_tables}
use Rattle.desk_tables.proofs.Bare.{bare_rows}
use Rattle.desk_tables.specs.Values.{Row}
use Rattle.desk_tables.specs.Parts.{Part, Reads, entries_of, state_of}
use Rattle.desk_tables.specs.Opening.{ReadsAll, count_of, format_key, is_at, is_in, is_lone, layout_of, today_key, unread_of, with_format, with_wanting}
use Rattle.desk_tables.proofs.RequestRows.{no_entries}
use Rattle.desk_tables.proofs.RowsGrown.{format_apart}

-- ---- no row without a text was put

put_here : (m : Kept) (key text : List ℕ) → maps.get (maps.insert m (2, key) text) (2, key) ≡ Some text
put_here m key text = IsPutAt.here (put_in m tables.Desk key text)

unwanted : (b c : Bool) (m : Kept) (key : List ℕ) → maps.get (cond b m (cond c (maps.insert m (2, key) []) m)) (2, key) ≢ Some [] → cond b m (cond c (maps.insert m (2, key) []) m) ≡ m
unwanted true c m key h = refl
unwanted false true m key h = absurd (h (put_here m key []))
unwanted false false m key h = refl

format_full : (f : Bool) → text_if_shown f (desk_row days.Format) ≢ Some []
format_full true e = absurd (cc (e))
format_full false e = absurd (cc (e))

today_full : (o : Option Date) → option_map date_text o ≢ Some []
today_full None e = absurd (cc (e))
today_full (Some d) e = absurd (cc (e))

pub none_wanting : (kept : Kept) (f : Bool) (s : State) → AreTables f s (with_wanting kept) → (with_format kept ≡ kept) × (with_wanting kept ≡ kept)
none_wanting kept f s are =
    let today : with_wanting kept ≡ with_format kept =
    unwanted (count_of (is_in tables.Filing) (with_format kept) == 0) (count_of (is_at tables.Desk today_key) (with_format kept) == 0) (with_format kept) today_key
    (λ e. today_full s.day (sym (are.days.there Today tt) ∙ e)) in
    let format : with_format kept ≡ kept =
    unwanted (maps.len kept == 0) (count_of (is_at tables.Desk format_key) kept == 0) kept format_key
    (λ e. format_full f (sym (are.days.there Format tt) ∙ ap (λ (m : Kept). maps.get m (2, format_key)) today ∙ e)) in
    (format, today ∙ format)

-- ---- a key that is not there is counted 0 times

by_parts : (key : List ℕ) (r : Row) (b : Bool) → is_at tables.Desk key r ≡ b → eq_by_cmp key_cmp (2, key) r.0 ≡ false → b ≡ false
by_parts key r true e h =
    let parts = and_parts (r.0.0 == 2) (bytes_eq r.0.1 key) e in
    let table : r.0.0 ≡ 2 = (Decides-eqb r.0.0 2).0 parts.0 in
    let same : r.0.1 ≡ key = (bytes_eq-Decides r.0.1 key).0 parts.1 in
    let tied : eq_by_cmp key_cmp (2, key) r.0 ≡ true = (λ i. is_eq (key_cmp (2, key) (table i, same i))) ∙ ap is_eq (tied_itself key_cmp_total (2, key)) in
    absurd (cc (tied, h))
by_parts key r false e h = refl

counted : (b : Bool) (r : Row) (text : List ℕ) (o : Option (List ℕ)) (c : Bool) (rest : List Row) → cond b (Some text) o ≡ None → (b ≡ false → c ≡ false) → (o ≡ None → length rest ≡ 0)
    → length (cond c (r ∷ rest) rest) ≡ 0
counted true r text o c rest none apart more = absurd (cc (none))
counted false r text o c rest none apart more = ap (λ d. length (cond d (r ∷ rest) rest)) (apart refl) ∙ more none

lacking : (key : List ℕ) (es : List Row) → maps.find key_cmp (2, key) es ≡ None → length (filter (is_at tables.Desk key) es) ≡ 0
lacking key [] none = refl
lacking key (r ∷ es) none =
    counted (eq_by_cmp key_cmp (2, key) r.0) r r.1 (maps.find key_cmp (2, key) es) (is_at tables.Desk key r) (filter (is_at tables.Desk key) es) none
    (λ h. by_parts key r (is_at tables.Desk key r) refl h) (λ h. lacking key es h)

-- ---- the format alone

bare_is : (register : List Airfield) (day : Option Date) (closed : List Date) (cases : List KeptCase) (entries : List Entry)
    → (is_none_of register && is_none day && is_none_of closed && is_none_of cases && is_none_of entries) ≡ true
    → ◌≡◌ {A = State} (record { register = register; day = day; closed = closed; cases = cases; entries = entries }) empty
bare_is [] None [] [] [] h = refl
bare_is (x ∷ register) day closed cases entries h = absurd (cc (h))
bare_is [] (Some d) closed cases entries h = absurd (cc (h))
bare_is [] None (d ∷ closed) cases entries h = absurd (cc (h))
bare_is [] None [] (c ∷ cases) entries h = absurd (cc (h))
bare_is [] None [] [] (e ∷ entries) h = absurd (cc (h))

format_row : List ℕ
format_row = desk_row days.Format

no_rows : Kept
no_rows = maps.empty

only_format : AreTables true empty (maps.insert no_rows (2, format_key) format_row)
unfolding format_row no_rows
only_format = desk_put false empty maps.empty bare_rows format_key (desk_row days.Format) true None [] (format_put false None [] _ _ bare_rows.days (put_in maps.empty tables.Desk format_key (desk_row days.Format)))

one_row : (key : Key) (row : List ℕ) → maps.len (maps.insert no_rows key row) ≡ 1
unfolding no_rows
one_row key row =
    maps.len-insert key_cmp_total maps.empty key row
    ∙ ap (λ (o : Option (List ℕ)). cond (is_some o) (maps.len no_rows) (maps.len no_rows + 1)) (maps.get-empty key_cmp key)
    ∙ ap (λ n. n + 1) (maps.len-empty key_cmp (List ℕ))

lone_format : (kept : Kept) → AreTables true empty kept → is_lone kept ≡ true
lone_format kept are =
    ap is_lone (one_tables true empty kept (maps.insert no_rows (2, format_key) format_row) are only_format) ∙ ap (λ n. n == 1) (one_row (2, format_key) format_row)

-- ---- no rows

of_no_length : (es : List Row) → length es ≡ 0 → es ≡ []
of_no_length [] h = refl
of_no_length (r ∷ es) h = absurd (cc (h))

pub nothing_read : (old : Bool) (kept : Kept) (q : Part) → ReadsAll old kept q → maps.len kept ≡ 0 → state_of q ≡ empty
nothing_read old kept q reads none =
    let no_row : maps.entries kept ≡ [] = of_no_length (maps.entries kept) (sym (maps.len-entries kept) ∙ none) in
    let same : unread_of kept ≡ q = subst (λ es. Reads (layout_of old kept) (unread_of kept) es q) no_row reads in
    let blank : state_of (unread_of kept) ≡ empty = ap (λ (es : List Entry). record empty { entries = es }) (no_entries (count_of (is_in tables.Receipt) kept)) in
    sym (ap state_of same) ∙ blank

-- ---- whether there is a format

put_wanting_is : (b c : Bool) (m : Kept) (key : List ℕ) → b ≡ false → c ≡ true → cond b m (cond c (maps.insert m (2, key) []) m) ≡ m → maps.get m (2, key) ≡ Some []
put_wanting_is true c m key h k e = absurd (cc (h))
put_wanting_is false false m key h k e = absurd (cc (k))
put_wanting_is false true m key h k e = sym (ap (λ (n : Kept). maps.get n (2, key)) e) ∙ put_here m key []

module _ (old : Bool) (kept : Kept) (q : Part) (reads : ReadsAll old kept q) (whole : with_format kept ≡ kept) (are : AreTables q.has_format (state_of q) kept) where
  bare_by : (b : Bool) → (maps.len kept == 0) ≡ b → q.has_format ≡ false → is_bare (state_of q) ≡ true
  bare_by true e none = ap is_bare (nothing_read old kept q reads ((Decides-eqb (maps.len kept) 0).0 e))
  bare_by false e none =
      let lacks : maps.get kept (2, format_key) ≡ None = are.days.there Format tt ∙ ap (λ f. text_if_shown f (desk_row days.Format)) none in
      let zero_times : count_of (is_at tables.Desk format_key) kept ≡ 0 = lacking format_key (maps.entries kept) (sym (maps.get-entries kept (2, format_key)) ∙ lacks) in
      let put : maps.get kept (2, format_key) ≡ Some [] =
      put_wanting_is (maps.len kept == 0) (count_of (is_at tables.Desk format_key) kept == 0) kept format_key e ((Decides-eqb (count_of (is_at tables.Desk format_key) kept) 0).1 zero_times) whole in
      absurd (cc (sym lacks ∙ put))

  format_by : (f t : Bool) → q.has_format ≡ f → is_bare (state_of q) ≡ t → f ≡ not t
  format_by true false e h = refl
  format_by false true e h = refl
  format_by true true e h =
      let state : state_of q ≡ empty = bare_is q.register q.day q.closed q.cases (entries_of q.requests) h in
      let lone : is_lone kept ≡ true = lone_format kept (subst (λ (s : State). AreTables true s kept) state (subst (λ f. AreTables f (state_of q) kept) e are)) in
      let apart : is_lone kept ≡ false = format_apart (layout_of old kept) (maps.entries kept) (unread_of kept) q (λ f. absurd (cc (f))) reads e in
      absurd (cc (sym lone ∙ apart))
  format_by false false e h = absurd (cc (sym h ∙ bare_by (maps.len kept == 0) refl e))

  pub has_format_is : q.has_format ≡ not (is_bare (state_of q))
  has_format_is = format_by q.has_format (is_bare (state_of q)) refl refl
