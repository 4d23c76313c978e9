use Rattle.std.proofs.Common.{rules, map, string_bytes, String, Global}
use Rattle.command_words.specs.Options.{SpellOptions, Values}
use Rattle.command_words.specs.Parsing.{values_in}
use Rattle.command_words.specs.Commands.{values_to_serve}
use Rattle.command_words.proofs.CommandFacts.{no_serving, no_serving_with}
use Rattle.command_words.proofs.commands.serve_command.Goals as goal

pub returns-in_default-clause-none : goal.returns-in_default-clause-none
returns-in_default-clause-none c =
    let words = map (λ (s : String Global). string_bytes s) c.args.rest.now in
    let none : (values : Values) → SpellOptions words values → ⊥ = search rules in
    no_serving words (λ address workers turns path spelled limits. none (values_to_serve address workers turns path) spelled)

pub returns-clause-none : goal.returns-clause-none
returns-clause-none c =
    let words = map (λ (s : String Global). string_bytes s) c.args.rest.now in
    let spelled : SpellOptions words (values_in c.in-Some.options) = search rules in
    no_serving_with words c.serve_with.result (values_in c.in-Some.options) spelled c.serve_with.ensures.none
