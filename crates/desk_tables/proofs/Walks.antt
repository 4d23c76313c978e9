-- What is so of what was read so far, from the first row to the last.
use Rattle.std.proofs.Common.{◌≡◌, refl, sym, ◌∙◌, subst, Bool, false, List, [], ◌∷◌, ◌++◌, append_assoc, None}
use Rattle.std.specs.FinMap as maps
use Rattle.oe_keeper.specs.Kept.{Kept, key_cmp, key_cmp_total}
use Rattle.oe_keeper.specs.declared.change.Table.TheVariants as tables
use Rattle.oe_keeper.proofs.Keys.{key_cmp-same}
use Rattle.desk_machine.specs.States.{empty}
use Rattle.desk_machine.specs.declared.entry.Entry.{Entry}
use Rattle.desk_tables.specs.Rows.{AreTables}
use Rattle.desk_tables.proofs.Bare.{bare_rows}
use Rattle.desk_tables.specs.Values.{Row, IsRowOf}
use Rattle.desk_tables.specs.Parts.{Part, IsNext, Reads, state_of, with_row}
use Rattle.desk_tables.specs.Opening.{ReadsAll, count_of, is_in, layout_of, unread_of}
use Rattle.desk_tables.specs.declared.layout.Layout.{Layout}
use Rattle.desk_tables.specs.declared.value.RowValue.{RowValue}
use Rattle.desk_tables.proofs.RequestRows.{no_entries}
use Rattle.desk_tables.proofs.RowsTaken.{taken}
use Rattle.desk_tables.proofs.RowsInOrder.{ComesAt, comes_at}

-- the rows of what was read are those so far
abbrev pub HasRead : Part → Kept → Type 0
HasRead p so_far = AreTables p.has_format (state_of p) so_far

-- the tables have the rows so far and these behind them
abbrev IsSplit : Kept → List Row → List Row → Type 0
IsSplit whole xs ys = maps.entries whole ≡ xs ++ ys

module _ (whole : Kept) (b : Layout) where
  next_split : (xs rs : List Row) (r : Row) → IsSplit whole xs (r ∷ rs) → IsSplit whole (xs ++ r ∷ []) rs
  next_split xs rs r rows = rows ∙ sym (append_assoc xs (r ∷ []) rs)

  one_more : (xs : List Row) (r : Row) (p : Part) (v : RowValue) → HasRead p (maps.from_entries xs) → maps.get {R = key_cmp} (maps.from_entries xs) r.0 ≡ None
      → IsRowOf r v → IsNext b p v
      → HasRead (with_row v p) (maps.from_entries (xs ++ r ∷ []))
  one_more xs r p v are new is next =
      subst (λ k. HasRead (with_row v p) k)
      (sym (maps.from_entries_push key_cmp_total key_cmp-same xs r.0 r.1 (sym (maps.get-from_entries key_cmp_total xs r.0) ∙ new)))
      (taken b.is_lone p (maps.from_entries xs) r v are new is next.0)

  module _ (P : Part → Type 0) where
    -- each row that is read keeps it
    abbrev pub IsKept : Type 0
    IsKept = (so_far : Kept) (p : Part) (r : Row) (v : RowValue) → HasRead p so_far → ComesAt whole so_far r → IsRowOf r v → IsNext b p v → P p
        → P (with_row v p)

    -- the row that comes can be read, and keeps it
    abbrev pub GoesOn : Type 0
    GoesOn = (so_far : Kept) (p : Part) (r : Row) → HasRead p so_far → ComesAt whole so_far r → P p → (v : RowValue) × IsRowOf r v × IsNext b p v
        × P (with_row v p)

    -- all rows were read, and it is so in the end
    pub record IsReadTo (p : Part) (ys : List Row) : Type 0 where
      pub part : Part
      pub reads : Reads b p ys part
      pub so : P part

    kept_from : IsKept → (ys xs : List Row) (p q : Part) → IsSplit whole xs ys → HasRead p (maps.from_entries xs) → Reads b p ys q → P p → P q
    kept_from keeps [] xs p q rows are reads h = subst P reads h
    kept_from keeps (r ∷ rs) xs p q rows are reads h =
        let at : ComesAt whole (maps.from_entries xs) r = comes_at whole xs rs r rows in
        let v = reads.0 in
        kept_from keeps rs (xs ++ r ∷ []) (with_row v p) q (next_split xs rs r rows) (one_more xs r p v are at.new reads.1 reads.2) reads.3
        (keeps (maps.from_entries xs) p r v are at reads.1 reads.2 h)

    goes_from : GoesOn → (ys xs : List Row) (p : Part) → IsSplit whole xs ys → HasRead p (maps.from_entries xs) → P p → IsReadTo p ys
    goes_from goes [] xs p rows are h = record { part = p; reads = refl; so = h }
    goes_from goes (r ∷ rs) xs p rows are h =
        let at : ComesAt whole (maps.from_entries xs) r = comes_at whole xs rs r rows in
        let next = goes (maps.from_entries xs) p r are at h in
        let rest : IsReadTo (with_row next.0 p) rs =
        goes_from goes rs (xs ++ r ∷ []) (with_row next.0 p) (next_split xs rs r rows) (one_more xs r p next.0 are at.new next.1 next.2) next.3 in
        record { part = rest.part; reads = (next.0, next.1, next.2, rest.reads); so = rest.so }

none_read : (kept : Kept) → HasRead (unread_of kept) (maps.from_entries [])
none_read kept = subst (λ (es : List Entry). AreTables false (record empty { entries = es }) maps.empty)
    (sym (no_entries (count_of (is_in tables.Receipt) kept))) bare_rows

pub kept_on : (old : Bool) (kept : Kept) (P : Part → Type 0) (q : Part) → IsKept kept (layout_of old kept) P → ReadsAll old kept q → P (unread_of kept) → P q
kept_on old kept P q keeps reads h = kept_from kept (layout_of old kept) P keeps (maps.entries kept) [] (unread_of kept) q refl (none_read kept) reads h

pub goes_on : (old : Bool) (kept : Kept) (P : Part → Type 0) → GoesOn kept (layout_of old kept) P → P (unread_of kept)
    → IsReadTo kept (layout_of old kept) P (unread_of kept) (maps.entries kept)
goes_on old kept P goes h = goes_from kept (layout_of old kept) P goes (maps.entries kept) [] (unread_of kept) refl (none_read kept) h
