use Rattle.std.proofs.Common.{◌∙◌, sym}
use Rattle.center_polygon.proofs.Flat.{none_of_none, none_on_line}
use Rattle.center_polygon.proofs.polygon.kept.Goals as goal

pub returns-in_default : goal.returns-in_default
returns-in_default c = λ x. none_of_none c.args.centers.now x c.in_default.len_below

pub returns-then-not-is_bent_with : goal.returns-then-not-is_bent_with
returns-then-not-is_bent_with c = λ x. none_on_line c.first-item.result c.args.centers.now x (sym c.is_bent_with.ensures ∙ c.if-not-is_bent_with.true)
