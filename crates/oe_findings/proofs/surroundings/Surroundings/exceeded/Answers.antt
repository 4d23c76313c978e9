use Rattle.std.proofs.Common.{refl, ap, ◌∙◌, subst, map, [], false}
use Rattle.airfields.specs.Sites.{IsSite}
use Rattle.airfield_findings.specs.Prepared.{airfield_of}
use Rattle.oe_findings.specs.Screenings.{exceeds_over}
use Rattle.oe_findings.proofs.Looks.{near_steps}
use Rattle.oe_findings.proofs.Sights.{exceeds_all, levels_of}
use Rattle.oe_findings.proofs.surroundings.Surroundings.exceeded.Goals as goal

pub returns-clause-found : goal.returns-clause-found
returns-clause-found g c =
    let site = c.args.filing.now in
    let tree = c.self.inside.tree in
    let h = c.visit.ensures.seen (record { structure = _; is_found = false }) [] (refl, λ e. refl) in
    let levels = levels_of site (subst IsSite c.filing.view_is c.filing.invariant) in
    h.2.1 refl ∙ ap (λ s. exceeds_over s (map airfield_of h.0)) (h.2.0 ∙ c.of.ensures) ∙ exceeds_all site tree h.0 c.filing.inside.at (ap (λ s. s.at) c.filing.view_is) levels h.1
    ∙ ap (exceeds_over site) c.self.view_is

pub returns-clause-near : goal.returns-clause-near
returns-clause-near g c n near = near_steps c.self.inside.tree _ c.filing.inside.at _ _ _ c.self.view_is (ap (λ s. s.at) c.filing.view_is) c.visit.ensures.close n near
