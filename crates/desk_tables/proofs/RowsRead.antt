-- The tables that a desk is opened by are the rows of its state.
use Rattle.std.proofs.Common.{◌≡◌, refl, sym, ap, ◌∙◌, subst, ℕ, ◌==◌, List, [], ◌∷◌, length, Bool, false, not, cond}
use Rattle.std.specs.List.{filter, flat_map}
use Rattle.std.specs.FinMap as maps
use Rattle.row_register.specs.declared.desk.DeskRow.TheVariants as rows
use Rattle.oe_keeper.specs.Kept.{Kept, key_cmp, key_cmp_total, rows_after_changes}
use Rattle.oe_keeper.proofs.Keys.{key_cmp-same}
use Rattle.oe_keeper.specs.declared.change.Table.TheVariants as tables
use Rattle.desk_machine.specs.States.{State, empty}
use Rattle.desk_machine.specs.declared.entry.Entry.{Entry}
use Rattle.desk_tables.specs.Changes.{put_desk}
use Rattle.desk_tables.specs.Rows.{AreRows, AreTables}
use Rattle.desk_tables.proofs.Bare.{bare_rows}
use Rattle.desk_tables.specs.Parts.{Part, state_of, unread_part}
use Rattle.desk_tables.specs.Opening.{Opens, ReadsAll, count_of, is_first, is_in, is_older, is_older_row, layout_of, renewed, renewed_filing, unread_of, with_wanting}
use Rattle.desk_tables.proofs.RequestRows.{no_entries}
use Rattle.desk_tables.proofs.RowsGrown.{grown}
use Rattle.desk_tables.proofs.RowsWanting.{none_wanting, nothing_read, has_format_is}

-- before the first row
unread_rows : (requests : ℕ) → AreTables false (state_of (unread_part requests)) maps.empty
unread_rows requests = subst (λ (es : List Entry). AreTables false (record empty { entries = es }) maps.empty) (sym (no_entries requests)) bare_rows

again : (kept : Kept) → maps.from_entries (maps.entries kept) ≡ kept
again kept = maps.same_map key_cmp_total key_cmp-same _ kept (λ k. maps.get-from_entries key_cmp_total (maps.entries kept) k ∙ sym (maps.get-entries kept k))

all_read : (old : Bool) (kept : Kept) (q : Part) → ReadsAll old kept q → AreTables q.has_format (state_of q) kept
all_read old kept q reads =
    subst (λ m. AreTables q.has_format (state_of q) m) (again kept)
    (grown (layout_of old kept) (maps.entries kept) [] (unread_of kept) q (maps.entries_sorted kept) (unread_rows (count_of (is_in tables.Receipt) kept)) reads)

-- the rows that were read, of tables in which none is wanting
pub these_read : (old : Bool) (kept : Kept) (q : Part) → ReadsAll old (with_wanting kept) q → AreRows (state_of q) kept
these_read old kept q reads =
    let are : AreTables q.has_format (state_of q) (with_wanting kept) = all_read old (with_wanting kept) q reads in
    let same = none_wanting kept q.has_format (state_of q) are in
    let here : ReadsAll old kept q = subst (λ m. ReadsAll old m q) same.1 reads in
    let now : AreTables q.has_format (state_of q) kept = subst (λ m. AreTables q.has_format (state_of q) m) same.1 are in
    subst (λ f. AreTables f (state_of q) kept) (has_format_is old kept q here same.0 now) now

pub rows_read : (kept : Kept) (s : State) → Opens kept s → AreRows s (renewed kept)
rows_read kept s opens =
    subst (λ (t : State). AreRows t (renewed kept)) (sym opens.state) (these_read (is_first kept) (renewed kept) opens.part opens.reads)

-- tables without a row are of no older format
nil : {A : Type 0} (xs : List A) → length xs ≡ 0 → xs ≡ []
nil [] e = refl
nil (x ∷ xs) e = absurd (cc (e))

pub none_older : (kept : Kept) → maps.len kept ≡ 0 → is_older kept ≡ false
none_older kept none =
    let no_row : maps.entries kept ≡ [] = nil (maps.entries kept) (sym (maps.len-entries kept) ∙ none) in
    ap (λ es. not (length (filter is_older_row es) == 0)) no_row

pub none_renewed : (kept : Kept) → maps.len kept ≡ 0 → renewed kept ≡ kept
none_renewed kept none = ap (λ b. rows_after_changes kept (cond b (put_desk rows.Format ∷ flat_map renewed_filing (maps.entries kept)) [])) (none_older kept none)

pub no_rows_read : (s : State) → Opens maps.empty s → s ≡ empty
no_rows_read s opens =
    let q = opens.part in
    let old = is_first maps.empty in
    let reads : ReadsAll old (with_wanting maps.empty) q =
    subst (λ m. ReadsAll old (with_wanting m) q) (none_renewed maps.empty (maps.len-empty key_cmp (List ℕ))) opens.reads in
    let are : AreTables q.has_format (state_of q) (with_wanting maps.empty) = all_read old (with_wanting maps.empty) q reads in
    let same = none_wanting maps.empty q.has_format (state_of q) are in
    let here : ReadsAll old maps.empty q = subst (λ m. ReadsAll old m q) same.1 reads in
    opens.state ∙ nothing_read old maps.empty q here (maps.len-empty key_cmp (List ℕ))
