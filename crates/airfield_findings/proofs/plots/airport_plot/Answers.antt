use Rattle.std.proofs.Common.{sym, ◌∙◌}
use Rattle.airfield_findings.proofs.AirportPlots.{beside_plot, large_plot_of, none_over, small_plot_of}
use Rattle.airfield_findings.proofs.plots.airport_plot.Goals as goal

pub returns-in_default-clause-plot : goal.returns-in_default-clause-plot
returns-in_default-clause-plot c =
    beside_plot c.args.airport.now c.args.near.now c.args.notice.now c.args.surfaces.now c.beside_grid.result c.requires.parts c.beside_grid.ensures

pub returns-then-is_some-clause-plot : goal.returns-then-is_some-clause-plot
returns-then-is_some-clause-plot c =
    large_plot_of c.args.airport.now c.args.near.now c.args.notice.now c.args.surfaces.now c.joined_some.result c.joined_some-2.result c.in-Some.area c.requires.held c.requires.parts c.joined_some.ensures c.joined_some-2.ensures c.in-Some.is (sym c.is_some.ensures ∙ c.if-is_some.true)

pub returns-then-is_some-clause-outside : goal.returns-then-is_some-clause-outside
returns-then-is_some-clause-outside c =
    none_over c.args.near.now c.args.notice.now c.args.surfaces.now c.joined_some.result c.joined_some-2.result c.in-Some.area c.joined_some.ensures c.joined_some-2.ensures c.in-Some.is

pub returns-else-is_some-clause-plot : goal.returns-else-is_some-clause-plot
returns-else-is_some-clause-plot c =
    small_plot_of c.args.airport.now c.args.near.now c.args.notice.now c.args.surfaces.now c.joined_some.result c.joined_some-2.result c.in-Some.area c.requires.held c.requires.parts c.joined_some.ensures c.joined_some-2.ensures c.in-Some.is (sym c.is_some.ensures ∙ c.if-is_some.false)

pub returns-else-is_some-clause-outside : goal.returns-else-is_some-clause-outside
returns-else-is_some-clause-outside c =
    none_over c.args.near.now c.args.notice.now c.args.surfaces.now c.joined_some.result c.joined_some-2.result c.in-Some.area c.joined_some.ensures c.joined_some-2.ensures c.in-Some.is
