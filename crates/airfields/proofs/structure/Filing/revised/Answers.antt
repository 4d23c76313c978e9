use Rattle.std.specs.Prelude.{MatchResult}
use Rattle.std.proofs.Common.{◌≡◌, subst, w64}
use Rattle.std.proofs.lemmas.Int.{to_z-of_z}
use Rattle.airfields.specs.Sites.{AreFacts, Site, revised_site, site}
use Rattle.airfields.proofs.NewFacts.{mobile_whole, revised}
use Rattle.airfields.proofs.structure.Filing.revised.Goals as goal

pub returns : goal.returns
returns c =
    let i = c.self.inside in
    let s = site i.at i.ground i.height i.kind i.mobile i.flags i.on in
    let terrain = to_z-of_z w64 c.args.terrain c.ranges.terrain in
    let height = to_z-of_z w64 c.args.height c.ranges.height in
    let made = rw (terrain, height, mobile_whole s c.self.invariant) at c.new.ensures.exact in
    subst (λ (t : Site). MatchResult c.new.result (λ f. f ≡ revised_site t c.args.terrain c.args.height) (λ x. ¬ AreFacts c.args.terrain c.args.height))
    c.self.view_is (revised s c.args.terrain c.args.height c.new.result c.self.invariant made)
