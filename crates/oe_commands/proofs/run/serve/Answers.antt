use Rattle.line_desk.specs.Desk.{serving}
use Rattle.oe_commands.proofs.RunFacts.{ceiling_run, dated_run, desk_run, stations_run}
use Rattle.oe_commands.proofs.run.serve.Goals as goal

pub returns-in-Desk-clause-session : goal.returns-in-Desk-clause-session
returns-in-Desk-clause-session g c =
    (desk_run g.K.Keeper.Tells g.K.Keeper.IsSteady g.K.Keeper.faults (serving c.args.clerk) c.session.result (g.S.Source.left c.args.input.now) (g.S.Source.left c.session.new.input) (g.O.Sink.held c.args.output.now) (g.O.Sink.held c.session.new.output)
    c.args.service c.ended_status.result c.in-Desk.is c.ended_status.ensures c.session.ensures.lines c.session.ensures.closed c.session.ensures.begun c.session.ensures.written).0

pub returns-in-Desk-clause-steady : goal.returns-in-Desk-clause-steady
returns-in-Desk-clause-steady g c =
    (desk_run g.K.Keeper.Tells g.K.Keeper.IsSteady g.K.Keeper.faults (serving c.args.clerk) c.session.result (g.S.Source.left c.args.input.now) (g.S.Source.left c.session.new.input) (g.O.Sink.held c.args.output.now) (g.O.Sink.held c.session.new.output)
    c.args.service c.ended_status.result c.in-Desk.is c.ended_status.ensures c.session.ensures.lines c.session.ensures.closed c.session.ensures.begun c.session.ensures.written).1

pub returns-in-AsOf-clause-session : goal.returns-in-AsOf-clause-session
returns-in-AsOf-clause-session g c =
    (dated_run g.K.Keeper.Tells g.K.Keeper.IsSteady g.K.Keeper.faults (serving c.args.clerk) c.dated_records.result (g.S.Source.left c.args.input.now) (g.S.Source.left c.dated_records.new.input) (g.O.Sink.held c.args.output.now) (g.O.Sink.held c.dated_records.new.output)
    c.args.service c.ended_status-in-AsOf.result c.in-AsOf.is c.ended_status-in-AsOf.ensures c.dated_records.ensures.lines c.dated_records.ensures.told).0

pub returns-in-AsOf-clause-steady : goal.returns-in-AsOf-clause-steady
returns-in-AsOf-clause-steady g c =
    (dated_run g.K.Keeper.Tells g.K.Keeper.IsSteady g.K.Keeper.faults (serving c.args.clerk) c.dated_records.result (g.S.Source.left c.args.input.now) (g.S.Source.left c.dated_records.new.input) (g.O.Sink.held c.args.output.now) (g.O.Sink.held c.dated_records.new.output)
    c.args.service c.ended_status-in-AsOf.result c.in-AsOf.is c.ended_status-in-AsOf.ensures c.dated_records.ensures.lines c.dated_records.ensures.told).1

pub returns-in-Ceiling-clause-session : goal.returns-in-Ceiling-clause-session
returns-in-Ceiling-clause-session g c =
    (ceiling_run g.K.Keeper.Tells g.K.Keeper.IsSteady g.K.Keeper.faults (serving c.args.clerk) c.ask.result (g.S.Source.left c.args.input.now) (g.S.Source.left c.ask.new.input) (g.O.Sink.held c.args.output.now) (g.O.Sink.held c.ask.new.output)
    c.args.service c.ended_status-in-Ceiling.result c.in-Ceiling.is c.ended_status-in-Ceiling.ensures c.ask.ensures.lines c.ask.ensures.told).0

pub returns-in-Ceiling-clause-steady : goal.returns-in-Ceiling-clause-steady
returns-in-Ceiling-clause-steady g c =
    (ceiling_run g.K.Keeper.Tells g.K.Keeper.IsSteady g.K.Keeper.faults (serving c.args.clerk) c.ask.result (g.S.Source.left c.args.input.now) (g.S.Source.left c.ask.new.input) (g.O.Sink.held c.args.output.now) (g.O.Sink.held c.ask.new.output)
    c.args.service c.ended_status-in-Ceiling.result c.in-Ceiling.is c.ended_status-in-Ceiling.ensures c.ask.ensures.lines c.ask.ensures.told).1

pub returns-in-Stations-clause-session : goal.returns-in-Stations-clause-session
returns-in-Stations-clause-session g c =
    (stations_run g.K.Keeper.Tells g.K.Keeper.IsSteady g.K.Keeper.faults (serving c.args.clerk) c.ask-in-Stations.result (g.S.Source.left c.args.input.now) (g.S.Source.left c.ask-in-Stations.new.input) (g.O.Sink.held c.args.output.now) (g.O.Sink.held c.ask-in-Stations.new.output)
    c.args.service c.ended_status-in-Stations.result c.in-Stations.is c.ended_status-in-Stations.ensures c.ask-in-Stations.ensures.lines c.ask-in-Stations.ensures.told).0

pub returns-in-Stations-clause-steady : goal.returns-in-Stations-clause-steady
returns-in-Stations-clause-steady g c =
    (stations_run g.K.Keeper.Tells g.K.Keeper.IsSteady g.K.Keeper.faults (serving c.args.clerk) c.ask-in-Stations.result (g.S.Source.left c.args.input.now) (g.S.Source.left c.ask-in-Stations.new.input) (g.O.Sink.held c.args.output.now) (g.O.Sink.held c.ask-in-Stations.new.output)
    c.args.service c.ended_status-in-Stations.result c.in-Stations.is c.ended_status-in-Stations.ensures c.ask-in-Stations.ensures.lines c.ask-in-Stations.ensures.told).1
