use Rattle.http_session.proofs.link.write_on.Goals as goal

pub returns-clause-left : goal.returns-clause-left
returns-clause-left g c = g.met.L.TwoWay.left_told _ _ c.write_response.ensures.beside

pub returns-clause-read_faults : goal.returns-clause-read_faults
returns-clause-read_faults g c = g.met.L.TwoWay.read_faults_told _ _ c.write_response.ensures.beside
