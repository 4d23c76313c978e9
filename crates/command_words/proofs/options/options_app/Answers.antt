use Rattle.std.proofs.Common.{rules, true, ap, ap₂, ◌≡◌, ◌∙◌, codes}
use Rattle.clap.specs.Words.{App, app_of, new_app, rule_of, with_rule}
use Rattle.clap.specs.Simple.{app_of_fields}
use Rattle.command_words.specs.Parsing.{option_rule, bare}
use Rattle.command_words.proofs.options.options_app.Goals as goal

abbrev named : App → App
named app = record app { top = record app.top { no_binary_name = true } }

abbrev quiet : App → App
quiet app = record app { top = record app.top { disable_help_flag = true } }

pub returns : goal.returns
returns c =
    let listen_is : rule_of c.long-listen.result ≡ option_rule (codes "listen") = search rules in
    let workers_is : rule_of c.long-workers.result ≡ option_rule (codes "workers") = search rules in
    let turns_is : rule_of c.long-turns.result ≡ option_rule (codes "turns") = search rules in
    let db_is : rule_of c.long-db.result ≡ option_rule (codes "db") = search rules in
    let bare_is : app_of c.disable_help_flag.result ≡ bare (new_app (codes "oe")) =
    ap app_of_fields c.disable_help_flag.ensures ∙ ap quiet (ap app_of_fields c.no_binary_name.ensures ∙ ap named c.new-5.ensures.app) in
    c.in_ok-app.ensures.shape (search rules) ∙ ap₂ with_rule
    (c.in_ok-arg-3.ensures.shape (search rules) ∙ ap₂ with_rule
    (c.in_ok-arg-2.ensures.shape (search rules) ∙ ap₂ with_rule
    (c.in_ok-arg.ensures.shape (search rules) ∙ ap₂ with_rule bare_is listen_is) workers_is) turns_is) db_is
