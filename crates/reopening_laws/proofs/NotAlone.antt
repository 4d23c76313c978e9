-- The format is never the only row of a desk, and each of its requests has a row.
use Rattle.std.proofs.Common.{◌≡◌, ◌≢◌, refl, sym, ap, ◌∙◌, arith, ℕ, zero, suc, ◌==◌, ◌<◌, ◌≤◌, List, [], ◌∷◌, length, Option, Some, None, Bool, true, false}
use Rattle.std.proofs.Common.{not, ◌&&◌, cond, is_none, slice_get, inl, inr}
use Rattle.std.specs.Option.{option_map}
use Rattle.std.specs.Ordering.{is_eq}
use Rattle.std.specs.FinMap as maps
use Rattle.std.proofs.lemmas.Bool.Decides.{Decides-eqb}
use Rattle.std.proofs.lemmas.Cmp.{nat_list_cmp_total, tied_itself}
use Rattle.std.proofs.lemmas.List.Elements.{All-head}
use Rattle.std.proofs.lemmas.Option.{same_Some, slice_get_cases}
use Rattle.jiff_core.specs.declared.civil.date.Date.{Date}
use Rattle.airfields.specs.Airfields.{id_of}
use Rattle.airfields.specs.declared.airfield.Airfield.{Airfield}
use Rattle.airport_register.specs.Amendments.{airfield_at}
use Rattle.determination_dates.specs.Days.{IsLimited}
use Rattle.determination_dates.specs.Closed.{is_none_of}
use Rattle.determination_dates.specs.Text.{date_text}
use Rattle.case_records.specs.declared.case.KeptCase.{KeptCase}
use Rattle.row_register.specs.Airfields.{airfield_row}
use Rattle.row_register.specs.Desk.{desk_row}
use Rattle.row_register.specs.declared.desk.DeskRow.TheVariants as days
use Rattle.row_receipts.specs.Receipts.{receipt_key}
use Rattle.desk_tables.specs.Names.{IsNamed}
use Rattle.oe_keeper.specs.Kept.{Key, Kept}
use Rattle.oe_keeper.specs.declared.change.Table.TheVariants as tables
use Rattle.desk_machine.specs.States.{State, entry_of}
use Rattle.desk_machine.specs.declared.entry.Entry.{Entry}
use Rattle.desk_tables.specs.Tables.{ClosedOn, Format, ReceiptName, Today, day_key, entry_row, text_if_shown}
use Rattle.desk_tables.specs.Rows.{AreRows, AreTables, is_bare}
use Rattle.desk_tables.proofs.Receipts.{one_receipt_name}
use Rattle.desk_tables.specs.Opening.{count_of, format_key, is_in, is_lone}
use Rattle.desk_tables.specs.Reachable.{IsDesk, IsEntryOf, IsOwn}
use Rattle.reopening_laws.proofs.ClosedSets.{has_first}
use Rattle.reopening_laws.proofs.FieldRows.{id_named}
use Rattle.desk_tables.proofs.Owners.{entry_like}
use Rattle.desk_tables.proofs.Places.{all_at}
use Rattle.reopening_laws.proofs.RequestsIn.{caller_of, entry_at}
use Rattle.reopening_laws.proofs.RowsCounted.{as_many_in_table, as_many_rows}

-- ---- a row beside the format

pub record HasOther (kept : Kept) : Type 0 where
  pub key : Key
  pub there : maps.get kept key ≢ None
  pub apart : key ≢ (2, format_key)

some_there : {o : Option (List ℕ)} (x : List ℕ) → o ≡ Some x → o ≢ None
some_there x e none = absurd (cc (e, none))

other_table : (t : ℕ) (key : List ℕ) → t ≢ 2 → ◌≢◌ {A = Key} (t, key) (2, format_key)
other_table t key h e = h (ap (λ (k : Key). k.0) e)

other_key : (key : List ℕ) → key ≢ format_key → ◌≢◌ {A = Key} (2, key) (2, format_key)
other_key key h e = h (ap (λ (k : Key). k.1) e)

field_found_first : (v : Airfield) (vs : List Airfield) → airfield_at (v ∷ vs) (id_of v) ≡ Some v
field_found_first v vs = ap (λ o. cond (is_eq o) (Some v) (airfield_at vs (id_of v))) (tied_itself nat_list_cmp_total (id_of v))

abbrev state : List Airfield → Option Date → List Date → List KeptCase → List Entry → State
state register day closed cases entries = record { register = register; day = day; closed = closed; cases = cases; entries = entries }

other_by : (f : Bool) (kept : Kept) (register : List Airfield) (day : Option Date) (closed : List Date) (cases : List KeptCase) (entries : List Entry)
    → IsDesk (state register day closed cases entries) → AreTables f (state register day closed cases entries) kept
    → (is_none_of register && is_none day && is_none_of closed && is_none_of cases && is_none_of entries) ≡ false → HasOther kept
other_by f kept (v ∷ vs) day closed cases entries desk are h = record {
  key = (0, id_of v);
  there = some_there (airfield_row v) (are.airfields.there (id_of v) (id_named v (All-head IsNamed v vs desk.named))
      ∙ ap (option_map airfield_row) (field_found_first v vs));
  apart = other_table 0 (id_of v) (λ e. absurd (omega (arith, e)));
}
other_by f kept [] (Some d) closed cases entries desk are h = record {
  key = (2, day_key Today);
  there = some_there (date_text d) (are.days.there Today tt);
  apart = other_key (day_key Today) (λ e. absurd (cc (e)));
}
other_by f kept [] None (d ∷ ds) cases entries desk are h = record {
  key = (2, day_key (ClosedOn d));
  there = some_there (desk_row (days.Closed d))
      (are.days.there (ClosedOn d) (All-head IsLimited d ds desk.closed.limited) ∙ ap (λ b. text_if_shown b (desk_row (days.Closed d))) (has_first d ds));
  apart = other_key (day_key (ClosedOn d)) (λ e. absurd (cc (e)));
}
other_by f kept [] None [] (c ∷ cs) entries desk are h = absurd (cc (desk.has_day refl))
other_by f kept [] None [] [] (e ∷ es) desk are h =
    let is : IsEntryOf (length (e ∷ es)) 0 e = desk.entries 0 in
    record {
      key = (4, receipt_key e.change.caller e.change.key);
      there = some_there (entry_row e) (are.receipts.there (record { caller = e.change.caller; key = e.change.key }) (caller_of (length (e ∷ es)) 0 e is)
          ∙ ap (option_map entry_row) (All-head (IsOwn (e ∷ es)) e es desk.own));
      apart = other_table 4 (receipt_key e.change.caller e.change.key) (λ e. absurd (omega (arith, e)));
    }
other_by f kept [] None [] [] [] desk are h = absurd (cc (h))

two_keys : Key → Key → ℕ → Key
two_keys k l zero = k
two_keys k l (suc i) = l

two_rows : (kept : Kept) (k l : Key) → maps.get kept k ≢ None → maps.get kept l ≢ None → k ≢ l → 2 ≤ maps.len kept
unfolding two_keys
two_rows kept k l here there apart = as_many_rows 2 kept (two_keys k l) (λ i h. found i) (λ i j h m. differ i j h m)
  where
    found : (i : ℕ) → maps.get kept (two_keys k l i) ≢ None
    found zero = here
    found (suc i) = there

    differ : (i j : ℕ) → i < j → j < 2 → two_keys k l i ≢ two_keys k l j
    differ zero zero h m e = absurd (omega (arith, h))
    differ zero (suc j) h m e = apart e
    differ (suc i) zero h m e = absurd (omega (arith, h))
    differ (suc i) (suc j) h m e = absurd (omega (arith, h, m))

alone_by : (n : ℕ) (b : Bool) → (n == 1) ≡ b → 2 ≤ n → (n == 1) ≡ false
alone_by n true e l = absurd (omega (arith, (Decides-eqb n 1).0 e, l))
alone_by n false e l = e

pub not_alone : (s : State) (kept : Kept) → IsDesk s → AreRows s kept → not (is_bare s) ≡ true → is_lone kept ≡ false
not_alone s kept desk rows h =
    let some : is_bare s ≡ false = full (is_bare s) h in
    let other : HasOther kept = other_by (not (is_bare s)) kept s.register s.day s.closed s.cases s.entries desk rows some in
    let format : maps.get kept (2, format_key) ≡ Some (desk_row days.Format) = rows.days.there Format tt ∙ ap (λ b. text_if_shown b (desk_row days.Format)) h in
    alone_by (maps.len kept) (maps.len kept == 1) refl
    (two_rows kept other.key (2, format_key) other.there (some_there (desk_row days.Format) format) other.apart)
  where
    full : (b : Bool) → not b ≡ true → b ≡ false
    full true e = absurd (cc (e))
    full false e = refl

-- ---- as many rows as requests

key_at : Option Entry → List ℕ
key_at None = []
key_at (Some e) = receipt_key e.change.caller e.change.key

entry_name : Entry → ReceiptName
entry_name e = record { caller = e.change.caller; key = e.change.key }

module _ (s : State) (desk : IsDesk s) (f : Bool) (kept : Kept) (are : AreTables f s kept) where
  own_at : (i : ℕ) (e : Entry) → slice_get s.entries i ≡ Some e → entry_like e s.entries ≡ Some e
  own_at i e at = all_at (IsOwn s.entries) s.entries i e desk.own at

  row_at : (i : ℕ) → i < length s.entries → maps.get kept (4, key_at (slice_get s.entries i)) ≢ None
  unfolding key_at
  row_at i l = elim (slice_get_cases s.entries i).1 [
    | inl found ↦ (let e = found.0 in
        let word = caller_of (length s.entries) i e (entry_at s i e desk found.2) in
        let row : maps.get kept (4, receipt_key e.change.caller e.change.key) ≡ Some (entry_row e) =
        are.receipts.there (record { caller = e.change.caller; key = e.change.key }) word ∙ ap (option_map entry_row) (own_at i e found.2) in
        some_there (entry_row e) (ap (λ o. maps.get kept (4, key_at o)) found.2 ∙ row))
    | inr past ↦ absurd (omega (arith, past.0, l))
  ]

  keys_apart : (i j : ℕ) (d e : Entry) → slice_get s.entries i ≡ Some d → slice_get s.entries j ≡ Some e → i < j
      → receipt_key d.change.caller d.change.key ≡ receipt_key e.change.caller e.change.key → ⊥
  unfolding entry_name
  keys_apart i j d e at there l same =
      let first = entry_at s i d desk at in
      let second = entry_at s j e desk there in
      let name : entry_name d ≡ entry_name e =
      one_receipt_name (entry_name d) (entry_name e) (caller_of (length s.entries) i d first) (caller_of (length s.entries) j e second) same in
      let found : entry_like d s.entries ≡ entry_like e s.entries = ap (λ (n : ReceiptName). entry_of n.caller n.key s.entries) name in
      let one : d ≡ e = same_Some d e (sym (own_at i d at) ∙ found ∙ own_at j e there) in
      let number : d.number ≡ e.number = ap (λ (x : Entry). x.number) one in
      omega (arith, number, first.number, second.number, l)

  differ_at : (i j : ℕ) → i < j → j < length s.entries → key_at (slice_get s.entries i) ≢ key_at (slice_get s.entries j)
  unfolding key_at
  differ_at i j l k same = elim (slice_get_cases s.entries i).1 [
    | inl found ↦ elim (slice_get_cases s.entries j).1 [
      | inl other ↦ keys_apart i j found.0 other.0 found.2 other.2 l (sym (ap key_at found.2) ∙ same ∙ ap key_at other.2)
      | inr past ↦ absurd (omega (arith, past.0, k))
    ]
    | inr past ↦ absurd (omega (arith, past.0, l, k))
  ]

  pub rows_for_all : length s.entries ≤ count_of (is_in tables.Receipt) kept
  rows_for_all = as_many_in_table 4 (length s.entries) kept (λ i. key_at (slice_get s.entries i)) refl row_at differ_at
