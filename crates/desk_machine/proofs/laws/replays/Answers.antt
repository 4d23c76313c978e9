use Rattle.desk_machine.proofs.Replaying.{decided_again, replayed_always}
use Rattle.desk_machine.proofs.laws.replays.Goals as goal

pub returns-clause-again : goal.returns-clause-again
returns-clause-again c = decided_again

pub returns-clause-always : goal.returns-clause-always
returns-clause-always c = replayed_always
