-- What a run tells of its words.
use Rattle.std.specs.Prelude.{ℕ, ◌≡◌, ◌≢◌, ◌⊎◌, List, Option}
use Rattle.command_words.specs.Commands.{AskFor, AsksToServe, IsCommand}
use Rattle.command_words.specs.declared.commands.Service.{Service}
use Rattle.oe_commands.specs.declared.status.Status.{Status}
use Rattle.oe_commands.specs.declared.status.Status.TheVariants as statuses

-- the words ask for a desk to be opened, from the tables of this file or from none
abbrev pub AskToOpen : List (List ℕ) → Option (List ℕ) → Type 0
AskToOpen words path = ((service : Service) × AskFor service words path)
    ⊎ ((address : List ℕ) × (workers turns : ℕ) × AsksToServe words address workers turns path)

-- the words ask for links of a gate to be served
abbrev pub AsksForGate : List (List ℕ) → Type 0
AsksForGate words = (address : List ℕ) × (workers turns : ℕ) × (path : Option (List ℕ)) × AsksToServe words address workers turns path

-- the status is `Usage` exactly where the words are no command, but where memory was wanting to read them
pub record TellsUsage (words : List (List ℕ)) (status : Status) : Type 0 where
  pub usage : (IsCommand words → ⊥) → (status ≡ statuses.Usage) ⊎ (status ≡ statuses.NoMemory)
  pub command : IsCommand words → status ≢ statuses.Usage
