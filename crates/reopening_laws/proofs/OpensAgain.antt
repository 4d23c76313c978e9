-- The rows of a desk open as that desk.
use Rattle.std.proofs.Common.{◌≡◌, sym, ap, ◌∙◌, subst, arith, ℕ, zero, suc, List, not, cond, ◌≤◌, length, Bool, true, false}
use Rattle.std.specs.FinMap as maps
use Rattle.oe_keeper.specs.Kept.{Kept}
use Rattle.oe_keeper.specs.declared.change.Table.TheVariants as tables
use Rattle.desk_machine.specs.States.{State}
use Rattle.desk_tables.specs.Rows.{AreRows, is_bare}
use Rattle.desk_tables.specs.Parts.{Part, state_of}
use Rattle.desk_tables.specs.Opening.{Opens, ReadsAll, count_of, first_format, is_first, is_in, layout_of, renewed, second_format, unread_of, with_wanting}
use Rattle.desk_tables.specs.Planned.{PlansNothing}
use Rattle.desk_tables.proofs.RowFacts.{HaveOneValue}
use Rattle.desk_tables.proofs.RowsRead.{these_read}
use Rattle.desk_tables.specs.Reachable.{IsDesk}
use Rattle.desk_tables.proofs.SteppedDesks.{RegisterGoesOn}
use Rattle.reopening_laws.proofs.CaseRows.{case_comes}
use Rattle.reopening_laws.proofs.DayRows.{day_comes}
use Rattle.reopening_laws.proofs.FieldRows.{field_comes, runway_comes}
use Rattle.reopening_laws.proofs.NoneWanting.{none_wanting}
use Rattle.reopening_laws.specs.Older.{IsAged, RevisesNothing}
use Rattle.reopening_laws.proofs.AgedRows.{RowsAreRenewed, leads_back}
use Rattle.reopening_laws.proofs.OlderRows.{first_is_first, first_is_older, not_first, same_renewed, second_is_older, second_not_first}
use Rattle.reopening_laws.proofs.NotAlone.{not_alone, rows_for_all}
use Rattle.reopening_laws.proofs.PartsOf.{ComesIn, IsPartOf, PartsGrow, nothing_of}
use Rattle.desk_tables.proofs.ReadDesks.{all_counted, read_desk}
use Rattle.reopening_laws.proofs.RequestsIn.{request_comes}
use Rattle.desk_tables.proofs.RowsInOrder.{ComesAt}
use Rattle.reopening_laws.proofs.SameDesks.{same_desk}
use Rattle.desk_tables.proofs.Walks.{GoesOn, HasRead, IsReadTo, goes_on}

module _ (one : HaveOneValue) (law : RegisterGoesOn) (grow : PartsGrow) (s : State) (kept : Kept) (desk : IsDesk s) (rows : AreRows s kept)
    (old : Bool) (plain : old ≡ true → PlansNothing s) where
  -- the tables have a format
  f : Bool
  f = not (is_bare s)

  -- a row of any table
  row_comes : (n : ℕ) → length s.entries ≤ n → (so_far : Kept) (p : Part) → HasRead p so_far → IsPartOf s n p → (t : ℕ) (key text : List ℕ)
      → ComesAt kept so_far ((t, key), text) → ComesIn s n (layout_of old kept) p ((t, key), text)
  unfolding f
  row_comes n room so_far p read part zero key text at = field_comes grow s desk n (layout_of old kept) f kept so_far rows p read part plain key text at
  row_comes n room so_far p read part (suc zero) key text at = runway_comes grow s desk n (layout_of old kept) f kept so_far rows p read part plain key text at
  row_comes n room so_far p read part (suc (suc zero)) key text at =
      day_comes s desk n (layout_of old kept) f kept so_far rows p part (not_alone s kept desk rows) key text at
  row_comes n room so_far p read part (suc (suc (suc zero))) key text at =
      case_comes s desk n (layout_of old kept) f kept so_far rows p read part room key text at
  row_comes n room so_far p read part (suc (suc (suc (suc zero)))) key text at =
      request_comes s desk n (layout_of old kept) f kept so_far rows p read part room plain key text at
  row_comes n room so_far p read part (suc (suc (suc (suc (suc t))))) key text at =
      absurd (cc (rows.only (suc (suc (suc (suc (suc t))))) key (omega arith), at.here))

  -- all rows are read
  requests : ℕ
  requests = count_of (is_in tables.Receipt) kept

  room_for_all : length s.entries ≤ requests
  unfolding f requests
  room_for_all = rows_for_all s desk f kept rows

  goes : GoesOn kept (layout_of old kept) (IsPartOf s requests)
  goes so_far p r read at part =
      let comes : ComesIn s requests (layout_of old kept) p r = row_comes requests room_for_all so_far p read part r.0.0 r.0.1 r.1 at in
      (comes.value, comes.is, comes.next, comes.part)

  read_all : IsReadTo kept (layout_of old kept) (IsPartOf s requests) (unread_of kept) (maps.entries kept)
  unfolding requests
  read_all = goes_on old kept (IsPartOf s requests) goes (nothing_of grow s kept)

  -- what is read of them is the desk
  record IsReading : Type 0 where
    part : Part
    reads : ReadsAll old (with_wanting kept) part
    state : s ≡ state_of part

  reading : IsReading
  unfolding f requests
  reading =
      let q = read_all.part in
      let same : with_wanting kept ≡ kept = none_wanting s kept rows desk in
      let reads : ReadsAll old (with_wanting kept) q = subst (λ (m : Kept). ReadsAll old m q) (sym same) read_all.reads in
      record {
        part = q;
        reads = reads;
        state =
            same_desk one grow s requests q f (not (is_bare (state_of q))) kept desk (read_desk law old kept q read_all.reads) rows
            (these_read old kept q reads) read_all.so (all_counted old kept q read_all.reads) room_for_all;
      }

module _ (one : HaveOneValue) (law : RegisterGoesOn) (grow : PartsGrow) (s : State) (kept : Kept) (desk : IsDesk s) (rows : AreRows s kept) where
  -- tables that the format of today makes its rows open as the desk; where they are of the first format, nothing is planned in it
  opens_as : (old : Bool) (aged : Kept) → (old ≡ true → PlansNothing s) → is_first aged ≡ old → renewed aged ≡ kept → Opens aged s
  opens_as old aged plain first same =
      let r = reading one law grow s kept desk rows old plain in
      let reads : ReadsAll old (with_wanting (renewed aged)) r.part = subst (λ (m : Kept). ReadsAll old (with_wanting m) r.part) (sym same) r.reads in
      record { part = r.part; reads = subst (λ b. ReadsAll b (with_wanting (renewed aged)) r.part) (sym first) reads; state = r.state }

  pub opens_again : Opens kept s
  opens_again = opens_as false kept (λ e. absurd (cc (e))) (not_first s kept rows) (same_renewed s kept rows)

  module _ (renews : RowsAreRenewed) (aged : Kept) (some : is_bare s ≡ false) (unrevised : RevisesNothing s) where
    pub first_renewed : IsAged first_format s kept aged → renewed aged ≡ kept
    first_renewed are = leads_back renews s first_format kept aged desk rows some unrevised are (first_is_older aged are.format)

    pub second_renewed : IsAged second_format s kept aged → renewed aged ≡ kept
    second_renewed are = leads_back renews s second_format kept aged desk rows some unrevised are (second_is_older aged are.format)

    pub first_opens : IsAged first_format s kept aged → PlansNothing s → Opens aged s
    first_opens are plain = opens_as true aged (λ e. plain) (first_is_first aged are.format) (first_renewed are)

    pub second_opens : IsAged second_format s kept aged → Opens aged s
    second_opens are = opens_as false aged (λ e. absurd (cc (e))) (second_not_first aged are.format) (second_renewed are)
