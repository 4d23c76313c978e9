use Rattle.std.proofs.Common.{sym, ◌∙◌}
use Rattle.row_register.proofs.PartFacts.{if_none, where_none, where_some}
use Rattle.row_cases.proofs.EntryFacts.{entry_parts, read_entry, tells_entry}
use Rattle.row_cases.proofs.entry.entry.Goals as goal

pub returns-in_err-take_words-clause-none : goal.returns-in_err-take_words-clause-none
returns-in_err-take_words-clause-none c =
    if_none c.from_residual.result (λ f h e. c.in_err-take_words.ensures.none _ _ _ _ (c.new.ensures ∙ entry_parts f h c.args.text.now e))

pub returns-clause-some : goal.returns-clause-some
returns-clause-some c =
    where_some c.finding_of.result (λ f tells. read_entry c.args.text.now _ _ _ _ f (sym c.new.ensures ∙ c.in_ok-take_words.ensures.took) tells) c.finding_of.ensures.some

pub returns-clause-none : goal.returns-clause-none
returns-clause-none c =
    where_none c.finding_of.result (λ misses f h e. misses f (tells_entry c.args.text.now _ _ _ _ f (sym c.new.ensures ∙ c.in_ok-take_words.ensures.took) h e)) c.finding_of.ensures.none
