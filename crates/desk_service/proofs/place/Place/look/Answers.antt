use Rattle.desk_service.proofs.Over.{if_ok, version}
use Rattle.desk_service.proofs.place.Place.look.Goals as goal

pub returns-clause-version : goal.returns-clause-version
returns-clause-version g c = if_ok c.current.result (λ s h. version _ _ _ h) c.current.ensures.reached
