-- A machine that turns lines into texts, with any type of states.
use Rattle.std.specs.Prelude.{ℕ, List, [], ◌∷◌, ◌++◌, ◌≡◌, ◌⊎◌}

-- a state, a line, its text and the state after it
abbrev pub Step : Type 0 → Type 1
Step St = St → List ℕ → List ℕ → St → Type 0

-- the texts for some lines, in order, from one state to another
abbrev pub Runs : {St : Type 0} → Step St → St → List (List ℕ) → List ℕ → St → Type 0
Runs step s [] text end = (text ≡ []) × (end ≡ s)
Runs {St} step s (line ∷ more) text end =
    (reply rest : List ℕ) × (next : St) × step s line reply next × Runs step next more rest end × (text ≡ reply ++ rest)

-- the beginning of such texts: nothing yet, a front of the next one, or the next one and a beginning of those after it
abbrev pub Starts : {St : Type 0} → Step St → St → List (List ℕ) → List ℕ → Type 0
Starts step s [] text = text ≡ []
Starts {St} step s (line ∷ more) text = (text ≡ [])
    ⊎ ((reply rest : List ℕ) × (next : St) × step s line reply next × (reply ≡ text ++ rest))
    ⊎ ((reply rest : List ℕ) × (next : St) × step s line reply next × Starts step next more rest × (text ≡ reply ++ rest))
