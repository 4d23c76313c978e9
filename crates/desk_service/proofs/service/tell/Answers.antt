use Rattle.desk_service.proofs.LineFacts.{none_written}
use Rattle.desk_service.proofs.service.tell.Goals as goal

pub returns-in_default-clause-tells : goal.returns-in_default-clause-tells
returns-in_default-clause-tells g c = none_written _ _
