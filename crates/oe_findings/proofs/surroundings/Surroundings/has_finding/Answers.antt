use Rattle.std.proofs.Common.{refl, ap, ◌∙◌, subst, [], List, Bool, false}
use Rattle.std.specs.List.{list_any}
use Rattle.airfields.specs.Sites.{IsSite, Site}
use Rattle.airfields.specs.declared.airfield.Airfield.{Airfield}
use Rattle.airfield_findings.specs.Prepared.{airfield_of}
use Rattle.oe_findings.specs.Screenings.{gives_entry}
use Rattle.oe_findings.proofs.Clears.{given_all}
use Rattle.oe_findings.proofs.Looks.{near_steps}
use Rattle.oe_findings.proofs.Sights.{levels_of}
use Rattle.oe_findings.proofs.surroundings.Surroundings.has_finding.Goals as goal

pub returns-clause-found : goal.returns-clause-found
returns-clause-found g c =
    let site = c.args.filing.now in
    let due = c.args.is_due in
    let h = c.visit.ensures.seen (record { structure = _; is_due = due; is_found = false }) [] (refl, refl, refl) in
    let levels = levels_of site (subst IsSite c.filing.view_is c.filing.invariant) in
    h.2.2 ∙ ap (λ (s : Site). list_any (λ p. gives_entry s c.visit.new.visitor.is_due (airfield_of p)) h.0) (h.2.0 ∙ c.of.ensures) ∙ ap (λ (b : Bool). list_any (λ p. gives_entry site b (airfield_of p)) h.0) h.2.1
    ∙ given_all site due c.self.inside.tree h.0 c.filing.inside.at (ap (λ s. s.at) c.filing.view_is) levels h.1 ∙ ap (λ (fs : List Airfield). list_any (gives_entry site due) fs) c.self.view_is

pub returns-clause-near : goal.returns-clause-near
returns-clause-near g c n near = near_steps c.self.inside.tree _ c.filing.inside.at _ _ _ c.self.view_is (ap (λ s. s.at) c.filing.view_is) c.visit.ensures.close n near
