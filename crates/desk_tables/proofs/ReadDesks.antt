-- What is read of all rows is a desk.
use Rattle.std.proofs.Common.{◌≡◌, refl, sym, ap, ◌∙◌, subst, arith, ℕ, ◌+◌, ◌-◌, ◌==◌, ◌<◌, ◌≤◌, ◌^◌, Bool, false, cond, List, [], ◌∷◌, ◌++◌, length, All}
use Rattle.std.proofs.Common.{Option, Some, None, IfSome, slice_get, inl, inr}
use Rattle.std.specs.List.{filter}
use Rattle.std.specs.Option.{option_map}
use Rattle.std.specs.FinMap as maps
use Rattle.std.proofs.lemmas.Option.{IfSome_then, slice_get_cases}
use Rattle.row_register.specs.declared.desk.DeskRow.{DeskRow}
use Rattle.row_register.specs.declared.desk.DeskRow.TheVariants as days
use Rattle.oe_keeper.specs.Kept.{Kept}
use Rattle.oe_keeper.specs.declared.change.Table.TheVariants as tables
use Rattle.desk_machine.specs.States.{State}
use Rattle.desk_machine.specs.declared.entry.Entry.{Entry}
use Rattle.desk_tables.specs.Reachable.{IsCaseOf, IsDesk, IsEntryOf}
use Rattle.desk_tables.proofs.SteppedDesks.{RegisterGoesOn}
use Rattle.desk_tables.specs.Values.{Row, IsRowOf}
use Rattle.desk_tables.specs.Parts.{Part, Follows, Reads, entries_of, entry_of_row, state_of, with_row}
use Rattle.desk_tables.specs.Opening.{Opens, ReadsAll, count_of, is_first, is_in, layout_of, renewed, unread_of, with_wanting}
use Rattle.desk_tables.specs.declared.layout.Layout.{Layout}
use Rattle.desk_tables.specs.declared.value.RowValue.{RowValue}
use Rattle.desk_tables.specs.declared.value.RowValue.TheVariants.{Airfield as AnAirfield, Runway, Desk, Case, Request}
use Rattle.desk_tables.proofs.RequestRows.{no_entries}
use Rattle.desk_tables.proofs.DeskParts.{IsDeskPart, IsRequestAt, keeps_part, nothing_read}
use Rattle.desk_tables.proofs.Places.{filled_all, filled_more, length_with}
use Rattle.desk_tables.proofs.Walks.{kept_on}

-- ---- as many requests are read as there are rows of them

abbrev requests_in : List Row → ℕ
requests_in rows = length (filter (is_in tables.Receipt) rows)

-- a row that is none, or one, of a request
not_counted : (r : Row) (rs : List Row) (t : ℕ) → r.0.0 ≡ t → (t == 4) ≡ false → requests_in (r ∷ rs) ≡ requests_in rs
not_counted r rs t at other = ap (λ n. length (cond (n == 4) (r ∷ filter (is_in tables.Receipt) rs) (filter (is_in tables.Receipt) rs))) at
    ∙ ap (λ b. length (cond b (r ∷ filter (is_in tables.Receipt) rs) (filter (is_in tables.Receipt) rs))) other

one_counted : (r : Row) (rs : List Row) → r.0.0 ≡ 4 → requests_in (r ∷ rs) ≡ requests_in rs + 1
one_counted r rs at = ap (λ n. length (cond (n == 4) (r ∷ filter (is_in tables.Receipt) rs) (filter (is_in tables.Receipt) rs))) at ∙ omega arith

day_counted : (v : DeskRow) (p : Part) → (with_row (Desk v) p).requests ≡ p.requests
day_counted days.Format p = refl
day_counted (days.Now d) p = refl
day_counted (days.Closed d) p = refl

row_counted : (b : Bool) (r : Row) (rs : List Row) (p : Part) (v : RowValue) → IsRowOf r v → Follows b p v
    → length (entries_of (with_row v p).requests) + requests_in rs ≡ length (entries_of p.requests) + requests_in (r ∷ rs)
row_counted b r rs p (AnAirfield v) is next = ap (λ n. length (entries_of p.requests) + n) (sym (not_counted r rs 0 is.0 refl))
row_counted b r rs p (Runway v) is next = ap (λ n. length (entries_of p.requests) + n) (sym (not_counted r rs 1 is.0 refl))
row_counted b r rs p (Desk v) is next =
    ap (λ (os : List (Option Entry)). length (entries_of os) + requests_in rs) (day_counted v p)
    ∙ ap (λ n. length (entries_of p.requests) + n) (sym (not_counted r rs 2 is.0 refl))
row_counted b r rs p (Case v) is next = ap (λ n. length (entries_of p.requests) + n) (sym (not_counted r rs 3 is.0 refl))
row_counted b r rs p (Request v) is next =
    let more = filled_more p.requests (v.number - 1) (entry_of_row v) next.free in
    let counted : requests_in (r ∷ rs) ≡ requests_in rs + 1 = one_counted r rs is.0 in
    let old : length (entries_of p.requests) ≡ length (more.front ++ more.rest) = ap length more.old in
    let new : length (entries_of (with_row (Request v) p).requests) ≡ length (more.front ++ more.rest) + 1 =
    ap length more.new ∙ length_with more.front more.rest (entry_of_row v) in
    omega (arith, counted, old, new)

counted : (b : Layout) (rows : List Row) (p q : Part) → Reads b p rows q → length (entries_of q.requests) ≡ length (entries_of p.requests) + requests_in rows
counted b [] p q reads = ap (λ (t : Part). length (entries_of t.requests)) (sym reads) ∙ omega arith
counted b (r ∷ rs) p q reads = counted b rs (with_row reads.0 p) q reads.3 ∙ row_counted b.is_lone r rs p reads.0 reads.1 reads.2.0

pub all_counted : (old : Bool) (kept : Kept) (q : Part) → ReadsAll old kept q → length (entries_of q.requests) ≡ count_of (is_in tables.Receipt) kept
all_counted old kept q reads =
    let n = count_of (is_in tables.Receipt) kept in
    counted (layout_of old kept) (maps.entries kept) (unread_of kept) q reads ∙ ap (λ (es : List Entry). length es + n) (no_entries n) ∙ omega arith

-- ---- the desk

told : (P : Entry → Type 0) (o : Option Entry) → IfSome (option_map Some o) (λ p. IfSome p P) → IfSome o P
told P None h = tt
told P (Some e) h = h

requests_told : (n : ℕ) (read : List (Option Entry)) → length read ≤ length (entries_of read)
    → ((i : ℕ) → IfSome (slice_get read i) (λ o. IfSome o (IsRequestAt n i))) → (i : ℕ)
    → IfSome (slice_get (entries_of read) i) (IsRequestAt n i)
requests_told n read all each i =
    told (IsRequestAt n i) (slice_get (entries_of read) i)
    (subst (λ (o : Option (Option Entry)). IfSome o (λ p. IfSome p (IsRequestAt n i))) (filled_all read all i) (each i))

-- the last request has the count of them as its number
few_by : (es : List Entry) (n i : ℕ) → length es ≡ i + 1 → IfSome (slice_get es i) (IsRequestAt n i) → length es < 2 ^ 64
few_by es n i long each = elim (slice_get_cases es i).1 [
  | inl found ↦ (let at : IsRequestAt n i found.0 = subst (λ (o : Option Entry). IfSome o (IsRequestAt n i)) found.2 each in
      let number = at.0.number in
      omega (arith, number, at.1, long))
  | inr past ↦ absurd (omega (arith, past.0, long))
]

few : (es : List Entry) (n : ℕ) → ((i : ℕ) → IfSome (slice_get es i) (IsRequestAt n i)) → length es < 2 ^ 64
few [] n each = omega arith
few (e ∷ es) n each = few_by (e ∷ es) n (length es) (omega arith) (each (length es))

pub part_is_desk : (n : ℕ) (q : Part) → IsDeskPart n q → length (entries_of q.requests) ≡ n → IsDesk (state_of q)
part_is_desk n q h count =
    let told_all = requests_told n q.requests (omega (arith, count, h.entries.room)) h.entries.each in
    record {
      register = h.airfields.is_register;
      named = h.airfields.named;
      day = h.days.limited;
      has_day = h.cases.has_day;
      closed = h.days.are_closed;
      most = h.cases.most;
      cases = subst (λ m. All (IsCaseOf m) q.cases) (sym count) h.cases.each;
      entries = λ i. subst (λ m. IfSome (slice_get (entries_of q.requests) i) (IsEntryOf m i)) (sym count)
          (IfSome_then (slice_get (entries_of q.requests) i) (told_all i) (λ e at. at.0));
      own = h.entries.own;
      counted = few (entries_of q.requests) n told_all;
    }

pub read_desk : RegisterGoesOn → (old : Bool) (kept : Kept) (q : Part) → ReadsAll old kept q → IsDesk (state_of q)
read_desk law old kept q reads =
    let n = count_of (is_in tables.Receipt) kept in
    part_is_desk n q (kept_on old kept (IsDeskPart n) q (keeps_part law kept (layout_of old kept) n) reads (nothing_read kept)) (all_counted old kept q reads)

pub opened_desk : RegisterGoesOn → (s : State) (kept : Kept) → Opens kept s → IsDesk s
opened_desk law s kept opens = subst IsDesk (sym opens.state) (read_desk law (is_first kept) (with_wanting (renewed kept)) opens.part opens.reads)
