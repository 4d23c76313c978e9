use Rattle.std.proofs.Common.{◌≡◌, ◌++◌, ◌∷◌, [], ◌∙◌, ap, arith, cond, sym, List}
use Rattle.std.specs.List.{flat_map}
use Rattle.std.specs.FinMap as maps
use Rattle.std.proofs.lemmas.List.{take_all}
use Rattle.oe_keeper.specs.declared.change.RowChange.{RowChange}
use Rattle.row_register.specs.declared.desk.DeskRow.TheVariants as days
use Rattle.desk_tables.specs.Changes.{put_desk}
use Rattle.desk_tables.specs.Opening.{renewed_filing}
use Rattle.desk_tables.specs.Values.{Row}
use Rattle.desk_tables.proofs.RenewalFacts.{flat_on}
use Rattle.desk_tables.proofs.renewal.renewal.Goals as goal

pub loop-i-preserved : goal.loop-i-preserved
loop-i-preserved c =
    flat_on renewed_filing (maps.entries c.args.tables.now) c.loop-i.i _ (put_desk days.Format) _ _ c.row_at-table.ensures c.loop-i.invariant c.in_ok-renew_row.ensures

pub returns : goal.returns
returns c =
    c.loop-i.invariant
    ∙ ap (λ (rows : List Row). put_desk days.Format ∷ flat_map renewed_filing rows) (take_all c.loop-i.i (maps.entries c.args.tables.now) (omega (arith, c.loop-i-test.false, c.len-i-end.ensures, maps.len-entries c.args.tables.now)))
    ∙ ap (λ b. cond b (put_desk days.Format ∷ flat_map renewed_filing (maps.entries c.args.tables.now)) []) (sym (sym c.is_older.ensures ∙ c.if-not-is_older.false))
