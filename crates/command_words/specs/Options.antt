-- The options after a command, and how words spell them.
use Rattle.std.specs.Prelude.{ℕ, ◌≡◌, ◌≢◌, ◌⊎◌, find, List, [], ◌∷◌, ◌++◌, Option, None, option_map, codes}
use Rattle.std.specs.Str.{bytes_eq}

-- an option as it is given: its name, and its value
pub record Given : Type 0 where
  pub name : List ℕ
  pub value : List ℕ

-- a text that does not begin with a dash
abbrev pub IsPlain : List ℕ → Type 0
IsPlain text = (rest : List ℕ) → text ≢ codes "-" ++ rest

-- the words are an option, and then the rest: it is one word, `--name=value`, or two, `--name` and a value that does not begin with a dash
abbrev pub BeginsWith : List (List ℕ) → Given → List (List ℕ) → Type 0
BeginsWith words option rest =
    (words ≡ (codes "--" ++ option.name ++ (codes "=" ++ option.value)) ∷ rest)
    ⊎ ((words ≡ (codes "--" ++ option.name) ∷ option.value ∷ rest) × IsPlain option.value)

-- the words are these options in order, and nothing else
abbrev pub Spell : List (List ℕ) → List Given → Type 0
Spell words [] = words ≡ []
Spell words (option ∷ others) = (rest : List (List ℕ)) × Spell rest others × BeginsWith words option rest

-- the name of an option
abbrev pub IsName : List ℕ → Type 0
IsName name = (name ≡ codes "listen") ⊎ (name ≡ codes "workers") ⊎ (name ≡ codes "turns") ⊎ (name ≡ codes "db")

-- the first option of a name
abbrev pub option_named : List ℕ → List Given → Option Given
option_named name options = find (λ option. bytes_eq option.name name) options

-- each has the name of an option, and none has the name of another
abbrev pub AreOptions : List Given → Type 0
AreOptions [] = Unit {0}
AreOptions (option ∷ others) = IsName option.name × (option_named option.name others ≡ None) × AreOptions others

-- the value of an option, where it is given
abbrev pub value_of : List ℕ → List Given → Option (List ℕ)
value_of name options = option_map (λ option. option.value) (option_named name options)

-- the values of the options, where they are given
pub record Values : Type 0 where
  pub listen : Option (List ℕ)
  pub workers : Option (List ℕ)
  pub turns : Option (List ℕ)
  pub db : Option (List ℕ)

-- the values of some options
abbrev pub values_of : List Given → Values
values_of options = record {
  listen = value_of (codes "listen") options;
  workers = value_of (codes "workers") options;
  turns = value_of (codes "turns") options;
  db = value_of (codes "db") options;
}

-- the words are options with these values, each at most once, in any order
abbrev pub SpellOptions : List (List ℕ) → Values → Type 0
SpellOptions words values = (options : List Given) × Spell words options × AreOptions options × (values_of options ≡ values)
