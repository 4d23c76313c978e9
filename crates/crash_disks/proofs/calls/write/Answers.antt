use Rattle.crash_disks.proofs.calls.write.Goals as goal

pub returns-clause-steps : goal.returns-clause-steps
returns-clause-steps c = (c.in_ok-copy.copy, c.in_ok-copy.ensures.items, c.in_ok-note.ensures.ok)
