use Rattle.publishing_clerk.proofs.Making.{each_made}
use Rattle.publishing_clerk.proofs.laws.each_entry_is_made.Goals as goal

pub returns : goal.returns
returns g c = each_made
