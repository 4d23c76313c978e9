-- The row of the format, in tables of today and in those of older formats.
use Rattle.std.proofs.Common.{◌≡◌, ◌≢◌, refl, sym, ap, ◌∙◌, subst, ℕ, ◌==◌, List, [], ◌∷◌, ◌++◌, append_assoc, length, Some, Bool, true, false, not, ◌&&◌, ◌||◌, cond}
use Rattle.std.specs.List.{filter, flat_map}
use Rattle.std.specs.Str.{bytes_eq}
use Rattle.std.specs.Ordering.{eq_by_cmp}
use Rattle.std.specs.FinMap as maps
use Rattle.std.proofs.lemmas.Bool.{and_parts}
use Rattle.std.proofs.lemmas.Bool.Decides.{Decides-eqb}
use Rattle.std.proofs.lemmas.Option.{same_Some}
use Rattle.std.proofs.lemmas.Slice.Eq.{bytes_eq-Decides}
use Rattle.row_register.specs.Desk.{desk_row}
use Rattle.row_register.specs.declared.desk.DeskRow.TheVariants as days
use Rattle.oe_keeper.specs.Kept.{Key, Kept, key_cmp, key_cmp_total, rows_after_changes}
use Rattle.oe_keeper.specs.declared.change.Table.TheVariants as tables
use Rattle.desk_machine.specs.States.{State}
use Rattle.desk_tables.specs.Changes.{put_desk}
use Rattle.desk_tables.specs.Tables.{Format, text_if_shown}
use Rattle.desk_tables.specs.Rows.{AreRows, is_bare}
use Rattle.desk_tables.specs.Values.{Row}
use Rattle.desk_tables.specs.Opening.{count_of, first_format, format_key, is_at, is_first, is_older, renewed, renewed_filing, second_format}
use Rattle.desk_tables.proofs.RowsInOrder.{ComesAt, comes_at}
use Rattle.reopening_laws.proofs.NoneWanting.{counted_by, is_here, rest_counted, some_counted}

-- ---- tables with another row of the format are not of a format

at_format : (r : Row) → is_at tables.Desk format_key r ≡ true → r.0 ≡ (2, format_key)
at_format r e =
    let parts = and_parts (r.0.0 == 2) (bytes_eq r.0.1 format_key) e in
    let table : r.0.0 ≡ 2 = (Decides-eqb r.0.0 2).0 parts.0 in
    let key : r.0.1 ≡ format_key = (bytes_eq-Decides r.0.1 format_key).0 parts.1 in
    λ i. (table i, key i)

out_by : (a b : Bool) → (a ≡ true → b ≡ false) → (a && b) ≡ false
out_by true b h = h refl
out_by false b h = refl

-- whether the text of a format row is that of an older format
module _ (is_old : List ℕ → Bool) where
  abbrev pub is_old_row : Row → Bool
  is_old_row r = is_at tables.Desk format_key r && is_old r.1

  pub none_counted : (kept : Kept) → ((text : List ℕ) → maps.get kept (2, format_key) ≡ Some text → is_old text ≡ false)
      → (ys xs : List Row) → maps.entries kept ≡ xs ++ ys → length (filter is_old_row ys) ≡ 0
  none_counted kept today [] xs rows = refl
  none_counted kept today (r ∷ ys) xs rows =
      let at : ComesAt kept (maps.from_entries xs) r = comes_at kept xs ys r rows in
      let out : is_old_row r ≡ false =
      out_by (is_at tables.Desk format_key r) (is_old r.1)
      (λ e. today r.1 (sym (ap (λ (k : Key). maps.get kept k) (at_format r e)) ∙ at.here)) in
      ap (λ b. length (cond b (r ∷ filter is_old_row ys) (filter is_old_row ys))) out
      ∙ none_counted kept today ys (xs ++ r ∷ []) (rows ∙ sym (append_assoc xs (r ∷ []) ys))

  there_by : (text : List ℕ) (r : Row) (es : List Row) (b : Bool) → is_old text ≡ true → eq_by_cmp key_cmp (2, format_key) r.0 ≡ b
      → cond b (Some r.1) (maps.find key_cmp (2, format_key) es) ≡ Some text
      → (maps.find key_cmp (2, format_key) es ≡ Some text → length (filter is_old_row es) ≡ 0 → ⊥) → length (filter is_old_row (r ∷ es)) ≡ 0 → ⊥
  there_by text r es true is e at rest none =
      let both : is_old_row r ≡ true = ap (λ b. b && is_old r.1) (is_here format_key r e) ∙ ap is_old (same_Some r.1 text at) ∙ is in
      some_counted (is_old_row r) r (filter is_old_row es) both none
  there_by text r es false is e at rest none = rest at (rest_counted (is_old_row r) r (filter is_old_row es) none)

  there_counted : (text : List ℕ) (es : List Row) → is_old text ≡ true → maps.find key_cmp (2, format_key) es ≡ Some text → length (filter is_old_row es) ≡ 0 → ⊥
  there_counted text [] is at none = absurd (cc (at))
  there_counted text (r ∷ es) is at none = there_by text r es (eq_by_cmp key_cmp (2, format_key) r.0) is refl at (there_counted text es is) none

  -- tables with such a row of the format
  pub old_there : (kept : Kept) (text : List ℕ) → is_old text ≡ true → maps.get kept (2, format_key) ≡ Some text → not (count_of is_old_row kept == 0) ≡ true
  old_there kept text is at =
      ap not
      (counted_by (count_of is_old_row kept == 0) (count_of is_old_row kept) refl
      (there_counted text (maps.entries kept) is (sym (maps.get-entries kept (2, format_key)) ∙ at)))

  -- and those with none
  pub old_absent : (kept : Kept) → ((text : List ℕ) → maps.get kept (2, format_key) ≡ Some text → is_old text ≡ false) → not (count_of is_old_row kept == 0) ≡ false
  old_absent kept today = ap (λ n. not (n == 0)) (none_counted kept today (maps.entries kept) [] refl)

abbrev is_first_text : List ℕ → Bool
is_first_text text = bytes_eq text first_format

abbrev is_older_text : List ℕ → Bool
is_older_text text = bytes_eq text first_format || bytes_eq text second_format

today_text : (is_old : List ℕ → Bool) (b : Bool) (text : List ℕ) → is_old (desk_row days.Format) ≡ false → text_if_shown b (desk_row days.Format) ≡ Some text → is_old text ≡ false
today_text is_old true text is e = subst (λ (x : List ℕ). is_old x ≡ false) (same_Some (desk_row days.Format) text e) is
today_text is_old false text is e = absurd (cc (e))

module _ (s : State) (kept : Kept) (rows : AreRows s kept) where
  not_old : (is_old : List ℕ → Bool) → is_old (desk_row days.Format) ≡ false → not (count_of (is_old_row is_old) kept == 0) ≡ false
  not_old is_old is = old_absent is_old kept (λ text e. today_text is_old (not (is_bare s)) text is (sym (rows.days.there Format tt) ∙ e))

  pub not_first : is_first kept ≡ false
  not_first = not_old is_first_text refl

  pub not_older : is_older kept ≡ false
  not_older = not_old is_older_text refl

  pub same_renewed : renewed kept ≡ kept
  same_renewed = ap (λ b. rows_after_changes kept (cond b (put_desk days.Format ∷ flat_map renewed_filing (maps.entries kept)) [])) not_older

-- ---- tables of an older format

pub first_is_first : (aged : Kept) → maps.get aged (2, format_key) ≡ Some first_format → is_first aged ≡ true
first_is_first aged at = old_there is_first_text aged first_format refl at

pub first_is_older : (aged : Kept) → maps.get aged (2, format_key) ≡ Some first_format → is_older aged ≡ true
first_is_older aged at = old_there is_older_text aged first_format refl at

pub second_is_older : (aged : Kept) → maps.get aged (2, format_key) ≡ Some second_format → is_older aged ≡ true
second_is_older aged at = old_there is_older_text aged second_format refl at

pub second_not_first : (aged : Kept) → maps.get aged (2, format_key) ≡ Some second_format → is_first aged ≡ false
second_not_first aged at =
    old_absent is_first_text aged (λ text e. subst (λ (x : List ℕ). is_first_text x ≡ false) (same_Some second_format text (sym at ∙ e)) refl)
