use Rattle.std.proofs.Common.{refl}
use Rattle.http_session.proofs.SessionFacts.{refuses_finished, refuses_memory}
use Rattle.http_session.proofs.link.refuse.Goals as goal

pub returns-in-Ok-clause-ends : goal.returns-in-Ok-clause-ends
returns-in-Ok-clause-ends g c = refuses_finished c.args.status _ _ _ _ _ _ c.in-Ok.ensures.ok c.finish.ensures.finishes

pub returns-in-Err-NoMemory-clause-ends : goal.returns-in-Err-NoMemory-clause-ends
returns-in-Err-NoMemory-clause-ends g c =
    let memory = (rw c.in-Err-NoMemory.field-0-is at c.in-Err-NoMemory.ensures.memory) refl in
    refuses_memory c.args.status _ _ _ _ _ _ memory c.end_without_memory.ensures.ends
