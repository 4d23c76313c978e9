use Rattle.std.proofs.Common.{sym, ap, subst, ◌∙◌}
use Rattle.airfields.specs.Names.{IsRunwayName}
use Rattle.row_register.specs.Runways.{runway_key_text}
use Rattle.row_register.proofs.PartFacts.{if_none}
use Rattle.row_register.proofs.RunwayFacts.{runway_parts, runway_text}
use Rattle.row_register.proofs.runway.read_runway_row.Goals as goal

pub returns-in_err-runway-clause-none : goal.returns-in_err-runway-clause-none
returns-in_err-runway-clause-none c =
    if_none c.from_residual-in_err-runway.result (λ v is. c.in_err-runway.ensures.none v.runway is.plain (c.new.ensures ∙ runway_parts v.runway is.plain c.args.row.now is.row_is))

pub returns-clause-some : goal.returns-clause-some
returns-clause-some c = record {
  key_is = c.in_ok-names.ensures.some ∙ ap (runway_key_text c.in_ok-names.names.id) (sym c.in_ok-runway.ensures.named);
  row_is = runway_text c.in_ok-runway.runway c.args.row.now (sym c.new.ensures ∙ c.in_ok-runway.ensures.took);
  airport_named = c.in_ok-names.ensures.named.0;
  runway_named = subst IsRunwayName (sym c.in_ok-runway.ensures.named) c.in_ok-names.ensures.named.1;
  plain = c.in_ok-runway.ensures.plain;
}
