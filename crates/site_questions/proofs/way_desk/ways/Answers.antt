use Rattle.std.proofs.Common.{[], subst}
use Rattle.oe_http.specs.Session.{Answered}
use Rattle.site_questions.specs.Ways.{Survey, WayStep, survey}
use Rattle.site_questions.proofs.ClosingFacts.{answered_whole, begun_closing, front_closing, no_fault}
use Rattle.site_questions.proofs.way_desk.ways.Goals as goal

pub returns-in-Closed-clause-closed : goal.returns-in-Closed-clause-closed
returns-in-Closed-clause-closed g c = λ e.
    let start = survey c.args.sky.now c.args.last [] in
    let all =
    subst (λ (s : Survey). Answered WayStep s c.records.new.desk (g.S.Source.left c.args.input.now) (g.O.Sink.held c.args.output.now) (g.O.Sink.held c.records.new.output)) c.over-desk.ensures
    (c.records.ensures.closed c.in-Closed.is) in
    let told = c.close.ensures.closes.closed e in
    answered_whole start c.records.new.desk told.1 _ _ _ _ told.0 all told.2 told.3

pub returns-in-Closed-clause-begun : goal.returns-in-Closed-clause-begun
returns-in-Closed-clause-begun g c =
    let start = survey c.args.sky.now c.args.last [] in
    let all =
    subst (λ (s : Survey). Answered WayStep s c.records.new.desk (g.S.Source.left c.args.input.now) (g.O.Sink.held c.args.output.now) (g.O.Sink.held c.records.new.output)) c.over-desk.ensures
    (c.records.ensures.closed c.in-Closed.is) in
    let told = c.close.ensures.closes.begun in
    begun_closing start c.records.new.desk _ _ _ _ told.0 all told.1 told.2

pub returns-in-Closed-clause-written : goal.returns-in-Closed-clause-written
returns-in-Closed-clause-written g c =
    let start = survey c.args.sky.now c.args.last [] in
    let all =
    subst (λ (s : Survey). Answered WayStep s c.records.new.desk (g.S.Source.left c.args.input.now) (g.O.Sink.held c.args.output.now) (g.O.Sink.held c.records.new.output)) c.over-desk.ensures
    (c.records.ensures.closed c.in-Closed.is) in (
      c.records.new.desk,
      record {
        read_to_end = λ _. c.records.ensures.written.read_to_end c.in-Closed.is;
        whole = λ e. absurd (no_fault c.close.result c.close.ensures.closes.ways e);
        memory = λ e. front_closing start c.records.new.desk _ _ _ _ all (c.close.ensures.closes.memory e);
      },
    )
