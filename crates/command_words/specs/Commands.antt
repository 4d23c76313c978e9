-- The commands, and the words that ask for them.
use Rattle.std.specs.Prelude.{ℕ, ◌≤◌, ◌≡◌, ◌≢◌, ◌⊎◌, List, [], ◌∷◌, Option, Some, None, IfSome, codes, option_copied}
use Rattle.std.specs.Fmt.{decimal}
use Rattle.desk_generator.specs.declared.generator.TheConstants.{COUNT_LIMIT}
use Rattle.command_words.specs.Options.{IsPlain, SpellOptions, Values}
use Rattle.command_words.specs.declared.commands.Command.{Command}
use Rattle.command_words.specs.declared.commands.Command.TheVariants as commands
use Rattle.command_words.specs.declared.commands.Service.{Service}
use Rattle.command_words.specs.declared.commands.Service.TheVariants as services
use Rattle.command_words.specs.declared.commands.TheConstants.{MOST_TURNS, MOST_WORKERS, SEED_LIMIT}

-- the name of a file: it is not empty and does not begin with a dash
pub record IsFile (name : List ℕ) : Type 0 where
  pub some : name ≢ []
  pub plain : IsPlain name

-- the word of a service
abbrev pub word_of : Service → List ℕ
word_of services.Desk = codes "desk"
word_of services.Ceiling = codes "ceiling"
word_of services.Stations = codes "stations"
word_of services.AsOf = codes "asof"

-- no option but the file of the tables
abbrev pub file_alone : Option (List ℕ) → Values
file_alone path = record { listen = None; workers = None; turns = None; db = path }

-- the words ask for a service: its word, and at most the file of the tables
pub record AskFor (service : Service) (words : List (List ℕ)) (path : Option (List ℕ)) : Type 0 where
  pub rest : List (List ℕ)
  pub said : words ≡ word_of service ∷ rest
  pub options : SpellOptions rest (file_alone path)
  pub file : IfSome path IsFile

-- where one listens, how many workers there are, the turns of each, and the file of the tables, if any
abbrev pub values_to_serve : List ℕ → ℕ → ℕ → Option (List ℕ) → Values
values_to_serve address workers turns path = record { listen = Some address; workers = Some (decimal workers); turns = Some (decimal turns); db = path }

-- an address, a number of workers and a number of turns within their limits, and a file, if any
pub record IsServing (address : List ℕ) (workers turns : ℕ) (path : Option (List ℕ)) : Type 0 where
  pub address_is : IsFile address
  pub workers_least : 1 ≤ workers
  pub workers_most : workers ≤ MOST_WORKERS
  pub turns_least : 1 ≤ turns
  pub turns_most : turns ≤ MOST_TURNS
  pub file : IfSome path IsFile

-- the command `serve`: the word `serve`, then an address, a number of workers, the turns of each, and the file of the tables, if any
pub record AsksToServe (words : List (List ℕ)) (address : List ℕ) (workers turns : ℕ) (path : Option (List ℕ)) : Type 0 where
  pub rest : List (List ℕ)
  pub said : words ≡ codes "serve" ∷ rest
  pub options : SpellOptions rest (values_to_serve address workers turns path)
  pub limits : IsServing address workers turns path

-- the command `generate`: the word `generate`, the seed, and the number of cases, each number in its one spelling
pub record IsGenerate (words : List (List ℕ)) (seed count : ℕ) : Type 0 where
  pub said : words ≡ codes "generate" ∷ decimal seed ∷ decimal count ∷ []
  pub seed_most : seed ≤ SEED_LIMIT
  pub count_least : 1 ≤ count
  pub count_most : count ≤ COUNT_LIMIT

-- the words are a command
abbrev pub IsCommand : List (List ℕ) → Type 0
IsCommand words =
    ((service : Service) × (path : Option (List ℕ)) × AskFor service words path)
    ⊎ ((address : List ℕ) × (workers turns : ℕ) × (path : Option (List ℕ)) × AsksToServe words address workers turns path)
    ⊎ ((seed count : ℕ) × IsGenerate words seed count)

-- they are this command
abbrev pub Says : List (List ℕ) → Command → Type 0
Says words (commands.Answer service file) = AskFor service words (option_copied file)
Says words (commands.Serve address workers turns file) = AsksToServe words address.now workers turns (option_copied file)
Says words (commands.Generate seed count) = IsGenerate words seed count
