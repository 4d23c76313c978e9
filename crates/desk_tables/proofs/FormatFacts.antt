-- A row that may come next, by the format of the tables.
use Rattle.std.proofs.Common.{◌≡◌, refl, Bool, true, false, not, ◌&&◌, Result, Ok, Err, IfErr}
use Rattle.std.specs.Prelude.{OnOk}
use Rattle.desk_tables.specs.Parts.{Part, Follows, IsNext, with_row}
use Rattle.desk_tables.specs.Planned.{plans_row}
use Rattle.desk_tables.specs.declared.layout.Layout.{Layout}
use Rattle.desk_tables.specs.declared.unread.Untaken.{Untaken}
use Rattle.desk_tables.specs.declared.unread.Untaken.TheVariants.{Bad}
use Rattle.desk_tables.specs.declared.value.RowValue.{RowValue}

in_format : (b t : Bool) → t ≡ not b → t ≡ true → b ≡ false
in_format true t e h = absurd (cc (e, h))
in_format false t e h = refl

out_of_format : (b t : Bool) → t ≡ not b → t ≡ false → b ≡ false → ⊥
out_of_format true t e h k = cc (k)
out_of_format false t e h k = cc (e, h)

module _ (layout : Layout) (p q : Part) (v : RowValue) (t : Bool) where
  -- a row that the format allows
  pub taken_ok : t ≡ not (layout.is_old && plans_row v) → t ≡ true → (r : Result (Unit {0}) Untaken) → OnOk r (Follows layout.is_lone p v × (q ≡ with_row v p))
      → OnOk r (IsNext layout p v × (q ≡ with_row v p))
  taken_ok e h (Ok x) k = ((k.0, in_format (layout.is_old && plans_row v) t e h), k.1)
  taken_ok e h (Err why) k = tt

  pub taken_bad : (r : Result (Unit {0}) Untaken) → IfErr r (λ why. why ≡ Bad → Follows layout.is_lone p v → ⊥) → IfErr r (λ why. why ≡ Bad → IsNext layout p v → ⊥)
  taken_bad (Ok x) k = tt
  taken_bad (Err why) k = λ is next. k is next.0

  -- and one that it does not
  pub not_allowed : t ≡ not (layout.is_old && plans_row v) → t ≡ false → IsNext layout p v → ⊥
  not_allowed e h next = out_of_format (layout.is_old && plans_row v) t e h next.1
