-- The rows of a desk's days can be read.
use Rattle.std.proofs.Common.{◌≡◌, refl, sym, subst, ℕ, List, Bool, true, false, Option, Some, IfSome}
use Rattle.std.proofs.lemmas.Option.{cond_some}
use Rattle.jiff_core.specs.declared.civil.date.Date.{Date}
use Rattle.jiff_core.specs.Date.{epoch_day}
use Rattle.determination_dates.specs.Days.{IsLimited}
use Rattle.determination_dates.specs.Closed.{is_closed}
use Rattle.determination_dates.specs.Text.{date_text}
use Rattle.row_register.specs.Desk.{desk_row}
use Rattle.row_register.specs.declared.desk.DeskRow.TheVariants as rows
use Rattle.oe_keeper.specs.Kept.{Kept}
use Rattle.oe_keeper.specs.declared.change.Table.TheVariants as tables
use Rattle.desk_machine.specs.States.{State}
use Rattle.desk_tables.specs.Rows.{AreTables}
use Rattle.desk_tables.specs.Tables.{ClosedOn, DayName, Format, IsDayName, Today, day_found, day_key, found_in}
use Rattle.desk_tables.specs.Parts.{Part}
use Rattle.desk_tables.specs.declared.layout.Layout.{Layout}
use Rattle.desk_tables.specs.declared.value.RowValue.TheVariants.{Desk}
use Rattle.desk_tables.specs.Reachable.{IsDesk}
use Rattle.reopening_laws.proofs.ClosedSets.{closed_limited}
use Rattle.reopening_laws.proofs.PartsOf.{ComesIn, IsPartOf, either_format}
use Rattle.desk_tables.proofs.Places.{mapped}
use Rattle.reopening_laws.proofs.RowNames.{day_named, day_sure, name_found}
use Rattle.desk_tables.proofs.RowsInOrder.{ComesAt}

module _ (s : State) (desk : IsDesk s) (n : ℕ) (b : Layout) (f : Bool) (kept so_far : Kept) (are : AreTables f s kept) (p : Part) (part : IsPartOf s n p)
    (lone : f ≡ true → b.is_lone ≡ false) where
  day_by : (name : DayName) (text : List ℕ) → day_found f s.day s.closed name ≡ Some text → ComesIn s n b p ((2, day_key name), text)
  day_by Format text row =
      let shows = cond_some f (desk_row rows.Format) text row in
      record {
        value = Desk rows.Format;
        is = (refl, record { key_is = refl; row_is = sym shows.1; valid = tt });
        next = (lone shows.0, either_format b.is_old);
        part = record { register = part.register; room = part.room; entries = part.entries };
      }
  day_by Today text row =
      let day = mapped date_text s.day text row in
      record {
        value = Desk (rows.Now day.0);
        is = (refl, record { key_is = refl; row_is = sym day.2; valid = subst (λ (o : Option Date). IfSome o IsLimited) day.1 desk.day });
        next = (tt, either_format b.is_old);
        part = record { register = part.register; room = part.room; entries = part.entries };
      }
  day_by (ClosedOn d) text row =
      let shows = cond_some (is_closed s.closed (epoch_day d)) (desk_row (rows.Closed d)) text row in
      record {
        value = Desk (rows.Closed d);
        is = (refl, record { key_is = refl; row_is = sym shows.1; valid = closed_limited d s.closed desk.closed.limited shows.0 });
        next = (tt, either_format b.is_old);
        part = record { register = part.register; room = part.room; entries = part.entries };
      }

  pub day_comes : (key text : List ℕ) → ComesAt kept so_far ((2, key), text) → ComesIn s n b p ((2, key), text)
  day_comes key text at =
      let name = name_found IsDayName day_key (day_found f s.day s.closed) (found_in kept tables.Desk) are.days key text at.here (day_named key s.closed)
      (λ m h e row. day_sure key text f s.day s.closed m desk.closed.limited h e row) in
      subst (λ k. ComesIn s n b p ((2, k), text)) (sym name.key_is) (day_by (day_named key s.closed) text name.row_is)
