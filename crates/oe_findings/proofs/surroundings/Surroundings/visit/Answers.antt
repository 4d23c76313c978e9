use Rattle.std.proofs.Common.{refl, ap, sym, ◌∙◌, subst, []}
use Rattle.airfields.specs.Sites.{Site}
use Rattle.grid_exact.specs.Level.{IsLevel}
use Rattle.airfield_findings.specs.Reaches.{HasLevels}
use Rattle.oe_findings.proofs.Looks.{near_steps}
use Rattle.oe_findings.proofs.Sights.{seen_all}
use Rattle.oe_findings.proofs.surroundings.Surroundings.visit.Goals as goal

pub returns-clause-filing : goal.returns-clause-filing
returns-clause-filing g c = (c.visit.ensures.order c.args.screening.now [] (refl, refl, c.requires)).0

pub returns-clause-due : goal.returns-clause-due
returns-clause-due g c = (c.visit.ensures.order c.args.screening.now [] (refl, refl, c.requires)).1

pub returns-clause-seen : goal.returns-clause-seen
returns-clause-seen g c rises =
    let h = c.visit.ensures.order c.args.screening.now [] (refl, refl, c.requires) in
    let s = c.visit.new.visitor in
    let standards = c.standards_top-standards.ensures in
    let notice = c.notice_top-notice.ensures in
    let levels : HasLevels s.structure = subst HasLevels (sym h.0) (record { standards_level = subst IsLevel standards.value standards.level; notice_level = subst IsLevel notice.value notice.level }) in
    seen_all g.C.Collector.taken g.C.Collector.fails s.structure s.is_due s.standards s.notices s.refused c.self.inside.tree _ _ c.self.view_is rises (c.at.ensures ∙ ap (λ (f : Site). f.at) (sym h.0)) levels h.2

pub returns-clause-near : goal.returns-clause-near
returns-clause-near g c n near = near_steps c.self.inside.tree _ _ _ _ _ c.self.view_is c.at.ensures c.visit.ensures.close n near
