use Rattle.std.proofs.Common.{rules, w64, to_z, of_z}
use Rattle.grid_exact.specs.declared.cap.Cap.TheVariants.{Level, Beyond}
use Rattle.horizontal_hull.proofs.Listed.{cap_listed}
use Rattle.horizontal_hull.proofs.hull.Hull.cap_at.Goals as goal

pub returns-in-Horizontal-clause-value : goal.returns-in-Horizontal-clause-value
returns-in-Horizontal-clause-value c = λ x h. cap_listed c.args.self.now x (Level (to_z w64 (of_z w64 c.self.inside.level))) (search rules)

pub returns-in-Conical-clause-value : goal.returns-in-Conical-clause-value
returns-in-Conical-clause-value c = λ x h. cap_listed c.args.self.now x (Level (to_z w64 (of_z w64 c.in-Conical.level))) (search rules)

pub returns-in-Beyond-clause-value : goal.returns-in-Beyond-clause-value
returns-in-Beyond-clause-value c = λ x h. cap_listed c.args.self.now x Beyond (search rules)
