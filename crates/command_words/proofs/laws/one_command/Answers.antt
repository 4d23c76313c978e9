use Rattle.command_words.proofs.CommandFacts.{one_draw, one_service, one_serving, service_or_draws, service_or_workers, workers_or_draws}
use Rattle.command_words.proofs.laws.one_command.Goals as goal

pub returns-clause-service : goal.returns-clause-service
returns-clause-service c = one_service

pub returns-clause-serve : goal.returns-clause-serve
returns-clause-serve c = one_serving

pub returns-clause-generate : goal.returns-clause-generate
returns-clause-generate c = one_draw

pub returns-clause-service_or_serve : goal.returns-clause-service_or_serve
returns-clause-service_or_serve c = service_or_workers

pub returns-clause-service_or_generate : goal.returns-clause-service_or_generate
returns-clause-service_or_generate c = service_or_draws

pub returns-clause-serve_or_generate : goal.returns-clause-serve_or_generate
returns-clause-serve_or_generate c = workers_or_draws
