use Rattle.std.proofs.Common.{[], refl, sym, ◌∙◌}
use Rattle.airfield_findings.proofs.PadPlots.{not_had_any, pad_plot}
use Rattle.airfield_findings.proofs.PlotFacts.{beside_far, beside_placed}
use Rattle.airfield_findings.proofs.plots.heliport_plot.Goals as goal

pub returns-then-not-described-clause-plot : goal.returns-then-not-described-clause-plot
returns-then-not-described-clause-plot c =
    let h = c.args.heliport.now in
    let plot = c.beside_grid.result in
    record {
      some_areas = ∣ ([], rw (sym c.described.ensures ∙ c.if-not-described.true) refl) ∣₁;
      placed = beside_placed h.a plot c.beside_grid.ensures;
      level = rw c.beside_grid.ensures.level refl;
      seen = λ areas q x e. absurd (beside_far h.a plot x c.beside_grid.ensures e);
    }

pub returns-clause-plot : goal.returns-clause-plot
returns-clause-plot c = rw c.requires.areas.ordered (pad_plot c.args.heliport.now c.args.areas.now c.requires.held c.requires.areas (sym c.described.ensures ∙ c.if-not-described.false))

pub returns-clause-outside : goal.returns-clause-outside
returns-clause-outside c = λ d x n. not_had_any c.args.heliport.now c.args.areas.now x c.requires.held c.requires.areas (rw c.requires.areas.ordered at n)
