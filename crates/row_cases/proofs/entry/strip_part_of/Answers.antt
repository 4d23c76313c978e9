use Rattle.std.proofs.Common.{sym, ◌∙◌}
use Rattle.row_register.proofs.PartFacts.{where_none, where_some}
use Rattle.row_cases.proofs.EntryFacts.{strip_parts, parts_strip}
use Rattle.row_cases.proofs.entry.strip_part_of.Goals as goal

pub returns-clause-some : goal.returns-clause-some
returns-clause-some c = where_some c.take_strip_part.result (λ s took. parts_strip c.args.text.now s.runway s.part (sym c.new.ensures ∙ took)) c.take_strip_part.ensures.took

pub returns-clause-none : goal.returns-clause-none
returns-clause-none c =
    where_none c.take_strip_part.result (λ misses runway part r p e. misses runway part r p (c.new.ensures ∙ strip_parts c.args.text.now runway c.args.least part r p e)) c.take_strip_part.ensures.none
