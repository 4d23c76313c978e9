-- The rows of what was read, from the first to the last.
use Rattle.std.proofs.Common.{◌≡◌, refl, sym, ap, ◌∙◌, subst, List, [], ◌∷◌, ◌++◌, None, Some, Bool, true, false, cond, ◌&&◌, T, append_assoc, append-nil}
use Rattle.std.specs.declared.cmp.Ordering.{Ordering}
use Rattle.std.specs.declared.cmp.Ordering.TheVariants.{Less, Equal, Greater}
use Rattle.std.specs.Ordering.{is_lt, is_eq, ordering_reverse, eq_by_cmp}
use Rattle.std.specs.Cmp.{IsTotalOrder}
use Rattle.std.specs.FinMap as maps
use Rattle.std.specs.FinMap.Entries.{below_all}
use Rattle.row_register.specs.declared.desk.DeskRow.TheVariants as days
use Rattle.oe_keeper.specs.Kept.{Key, key_cmp, key_cmp_total}
use Rattle.oe_keeper.proofs.Keys.{key_cmp-same}
use Rattle.desk_tables.specs.Rows.{AreTables}
use Rattle.desk_tables.specs.Values.{Row}
use Rattle.desk_tables.specs.Parts.{Part, Follows, Reads, state_of, with_row}
use Rattle.desk_tables.specs.declared.layout.Layout.{Layout}
use Rattle.desk_tables.specs.declared.value.RowValue.{RowValue}
use Rattle.desk_tables.specs.declared.value.RowValue.TheVariants.{Airfield as AnAirfield, Runway, Desk, Case, Request}
use Rattle.desk_tables.proofs.RowsTaken.{taken}

-- ---- the key of the next row is new

first : (a b : Bool) → T (a && b) → T a
first true b p = tt
first false b p = p

second : (a b : Bool) → T (a && b) → T b
second true b p = p
second false b p = absurd p

above : (o : Ordering) → T (is_lt o) → is_eq (ordering_reverse o) ≡ false
above Less h = refl
above Equal h = absurd h
above Greater h = absurd h

untied : (a b : Key) → T (is_lt (key_cmp a b)) → eq_by_cmp key_cmp b a ≡ false
untied a b h = ap is_eq (IsTotalOrder.antisymm key_cmp_total b a) ∙ above (key_cmp a b) h

below_one : (k : Key) (xs ys : List Row) (r : Row) → T (below_all key_cmp k (xs ++ r ∷ ys)) → T (is_lt (key_cmp k r.0))
below_one k [] ys r h = first _ _ h
below_one k (x ∷ xs) ys r h = below_one k xs ys r (second (is_lt (key_cmp k x.0)) _ h)

new_key : (xs ys : List Row) (r : Row) → T (maps.is_sorted key_cmp (xs ++ r ∷ ys)) → maps.find key_cmp r.0 xs ≡ None
new_key [] ys r h = refl
new_key (x ∷ xs) ys r h =
    ap (λ b. cond b (Some x.1) (maps.find key_cmp r.0 xs)) (untied x.0 r.0 (below_one x.0 xs ys r (first (below_all key_cmp x.0 (xs ++ r ∷ ys)) _ h)))
    ∙ new_key xs ys r (second (below_all key_cmp x.0 (xs ++ r ∷ ys)) _ h)

-- ---- the walk

pub grown : (b : Layout) (ys xs : List Row) (p q : Part) → T (maps.is_sorted key_cmp (xs ++ ys)) → AreTables p.has_format (state_of p) (maps.from_entries xs) → Reads b p ys q
    → AreTables q.has_format (state_of q) (maps.from_entries (xs ++ ys))
grown b [] xs p q sorted are reads =
    subst (λ l. AreTables q.has_format (state_of q) (maps.from_entries l)) (sym (append-nil xs)) (subst (λ (t : Part). AreTables t.has_format (state_of t) (maps.from_entries xs)) reads are)
grown b (r ∷ rs) xs p q sorted are reads =
    let v = reads.0 in
    let new : maps.find key_cmp r.0 xs ≡ None = new_key xs rs r sorted in
    let now : AreTables (with_row v p).has_format (state_of (with_row v p)) (maps.insert (maps.from_entries xs) r.0 r.1) =
    taken b.is_lone p (maps.from_entries xs) r v are (maps.get-from_entries key_cmp_total xs r.0 ∙ new) reads.1 reads.2.0 in
    let more : AreTables (with_row v p).has_format (state_of (with_row v p)) (maps.from_entries (xs ++ r ∷ [])) =
    subst (λ k. AreTables (with_row v p).has_format (state_of (with_row v p)) k) (sym (maps.from_entries_push key_cmp_total key_cmp-same xs r.0 r.1 new)) now in
    subst (λ l. AreTables q.has_format (state_of q) (maps.from_entries l)) (append_assoc xs (r ∷ []) rs)
    (grown b rs (xs ++ r ∷ []) (with_row v p) q (subst (λ l. T (maps.is_sorted key_cmp l)) (sym (append_assoc xs (r ∷ []) rs)) sorted) more reads.3)

-- ---- the format is never the only row

apart : (b : Bool) (p : Part) (v : RowValue) → Follows b p v → (p.has_format ≡ true → b ≡ false) → (with_row v p).has_format ≡ true → b ≡ false
apart b p (AnAirfield v) next h = h
apart b p (Runway v) next h = h
apart b p (Desk days.Format) next h = λ e. next
apart b p (Desk (days.Now d)) next h = h
apart b p (Desk (days.Closed d)) next h = h
apart b p (Case v) next h = h
apart b p (Request v) next h = h

pub format_apart : (b : Layout) (ys : List Row) (p q : Part) → (p.has_format ≡ true → b.is_lone ≡ false) → Reads b p ys q → q.has_format ≡ true → b.is_lone ≡ false
format_apart b [] p q h reads = λ e. h (ap (λ (t : Part). t.has_format) reads ∙ e)
format_apart b (r ∷ rs) p q h reads = format_apart b rs (with_row reads.0 p) q (apart b.is_lone p reads.0 reads.2.0 h) reads.3
