use Rattle.horizontal_hull.proofs.hull.Hull.cap.Goals as goal

pub returns-clause-exact : goal.returns-clause-exact
returns-clause-exact c = c.cap_at.ensures.exact c.args.x.now c.standing.ensures
