use Rattle.std.proofs.Common.{[], sym, ◌∙◌}
use Rattle.row_register.proofs.PartFacts.{if_none, where_none, where_some3}
use Rattle.row_register.proofs.AirfieldFacts.{airfield_parts, airfield_read}
use Rattle.row_register.proofs.airfield.read_airfield_row.Goals as goal

pub returns-in_err-id-clause-none : goal.returns-in_err-id-clause-none
returns-in_err-id-clause-none c = if_none c.from_residual.result (λ v is. c.in_err-id.ensures.none [] is.named)

pub returns-clause-some : goal.returns-clause-some
returns-clause-some c =
    where_some3 c.airfield.result (λ v took named plain. airfield_read c.args.key.now c.args.row.now c.in_ok-id.id c.in_ok-id.ensures.some c.in_ok-id.ensures.good v (sym c.new.ensures ∙ took) named plain)
    c.airfield.ensures.took c.airfield.ensures.named c.airfield.ensures.plain

pub returns-clause-none : goal.returns-clause-none
returns-clause-none c =
    where_none c.airfield.result (λ misses v is. misses v is.plain (c.new.ensures ∙ airfield_parts v is.plain c.args.row.now is.row_is)) c.airfield.ensures.none
