use Rattle.std.proofs.Common.{ap}
use Rattle.oe_commands.proofs.UnkeptFacts.{unkept_good, unkept_no_bad, unkept_run}
use Rattle.oe_commands.proofs.laws.run_unkept.Goals as goal

pub returns-clause-served : goal.returns-clause-served
returns-clause-served g c = λ service path d. unkept_run c.opened_empty.ensures service _ path c.run.result _ _ _ _ (c.run.ensures.served service path d) (ap g.S.Source.left) (ap g.O.Sink.held)

pub returns-clause-bad_row : goal.returns-clause-bad_row
returns-clause-bad_row g c = λ table key e. unkept_no_bad c.args.words.now _ table key (c.run.ensures.bad_row table key e)

pub returns-clause-complete : goal.returns-clause-complete
returns-clause-complete g c = λ is gate calm. c.run.ensures.complete is tt gate (λ path rows k said found bad. unkept_good rows k found bad) calm
