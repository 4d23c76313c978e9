use Rattle.std.proofs.Common.{rules, map, string_bytes, String, Global}
use Rattle.command_words.specs.Options.{SpellOptions, Values}
use Rattle.command_words.specs.Parsing.{values_in}
use Rattle.command_words.specs.Commands.{file_alone}
use Rattle.command_words.proofs.CommandFacts.{no_answer, no_answer_with}
use Rattle.command_words.proofs.commands.answer_command.Goals as goal

pub returns-in_default-clause-none : goal.returns-in_default-clause-none
returns-in_default-clause-none c =
    let words = map (λ (s : String Global). string_bytes s) c.args.rest.now in
    let none : (values : Values) → SpellOptions words values → ⊥ = search rules in
    no_answer c.args.service words (λ path spelled file. none (file_alone path) spelled)

pub returns-clause-none : goal.returns-clause-none
returns-clause-none c =
    let words = map (λ (s : String Global). string_bytes s) c.args.rest.now in
    let spelled : SpellOptions words (values_in c.in-Some.options) = search rules in
    no_answer_with c.args.service words c.answer_with.result (values_in c.in-Some.options) spelled c.answer_with.ensures.none
