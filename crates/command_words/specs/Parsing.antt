-- For proofs alone: what `clap` makes of words that are options.
use Rattle.std.specs.Prelude.{◌≡◌, ◌≢◌, true, ◌⊎◌, List, [], ◌∷◌, ◌++◌, Option, Some, None, option_copied, option_map, codes}
use Rattle.clap.specs.Words.{App, Kinds, Row, Rule, Text, app_of, fault_of, first_of, matches_of, new_app, new_rule, with_rule}
use Rattle.clap.specs.declared.builder.command.Command.{Command}
use Rattle.command_words.specs.Options.{IsPlain, Values}
use Rattle.command_words.specs.declared.options.Options.{Options}

-- an option with one value
abbrev pub option_rule : Text → Rule
option_rule name = record (new_rule name) { long = Some name }

-- an app that takes all words as words after a command, and has no flag that shows help
abbrev pub bare : App → App
bare app = record app { top = record app.top { no_binary_name = true; disable_help_flag = true } }

-- the app of the four options
abbrev pub options_app : App
options_app = with_rule (with_rule (with_rule (with_rule (bare (new_app (codes "oe"))) (option_rule (codes "listen"))) (option_rule (codes "workers"))) (option_rule (codes "turns"))) (option_rule (codes "db"))

-- a command of `clap` is that app
abbrev pub IsOptionsApp : Command → Type 0
IsOptionsApp command = app_of command ≡ options_app

-- the values as texts
abbrev pub values_in : Options → Values
values_in options = record {
  listen = option_copied options.listen;
  workers = option_copied options.workers;
  turns = option_copied options.turns;
  db = option_copied options.db;
}

-- the values, where there are any
abbrev pub told : Option Options → Option Values
told options = option_map values_in options

-- the values in what was found
abbrev pub gathered : List Row → Values
gathered rows = record {
  listen = first_of (codes "listen") rows;
  workers = first_of (codes "workers") rows;
  turns = first_of (codes "turns") rows;
  db = first_of (codes "db") rows;
}

-- some values, where nothing is wrong
abbrev pub where_fine : Kinds → Values → Option Values
where_fine [] values = Some values
where_fine (kind ∷ kinds) values = None

-- the values of the options that some words are to `clap`
abbrev pub options_of : List Text → Option Values
options_of words = where_fine (fault_of options_app words) (gathered (matches_of options_app words))

-- a word that does not begin with a dash, or begins with two and goes on
abbrev pub IsCleanWord : Text → Type 0
IsCleanWord word = IsPlain word ⊎ ((name : Text) × (word ≡ codes "--" ++ name) × (name ≢ []))

-- each word is such
abbrev pub AreClean : List Text → Type 0
AreClean [] = Unit {0}
AreClean (word ∷ words) = IsCleanWord word × AreClean words
