use Rattle.std.proofs.Common.{rules, ◌≡◌, map, string_bytes}
use Rattle.clap.specs.Words.{app_of, kind_of}
use Rattle.clap.specs.declared.error.kind.ErrorKind.TheVariants as kind
use Rattle.command_words.specs.Parsing.{values_in}
use Rattle.command_words.proofs.ParseFacts.{ok_is, err_is}
use Rattle.command_words.proofs.options.parsed_options.Goals as goal

pub returns-in-Ok : goal.returns-in-Ok
returns-in-Ok c = ok_is (app_of c.in_ok-app.app) (map (λ s. string_bytes s) c.args.words.now) c.in-Ok.matches (values_in c.values.result)
    c.in_ok-app.ensures c.in-Ok.ensures.kinds c.in-Ok.ensures.matches c.values.ensures

pub returns-else-eq : goal.returns-else-eq
returns-else-eq c =
    let other : kind_of c.in-Err.error ≡ kind.OutOfMemory → ⊥ = search rules in
    err_is (app_of c.in_ok-app.app) (map (λ s. string_bytes s) c.args.words.now) c.in-Err.error c.in_ok-app.ensures c.in-Err.ensures.kinds other
