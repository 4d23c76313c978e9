use Rattle.surface_tree.proofs.Even.{level_hits}
use Rattle.surface_tree.proofs.laws.each_size_comes_in_order.Goals as goal

pub returns : goal.returns
returns g c = λ plot point level items l. level_hits plot point level items l
