use Rattle.horizontal_hull.proofs.Sights.{seen_capsule}
use Rattle.horizontal_hull.proofs.seen.Seen.is_within.Goals as goal

pub returns : goal.returns
returns c = λ a b x h. seen_capsule a b x c.args.self.now c.args.c c.is_in_sight.result h c.is_in_sight.ensures
