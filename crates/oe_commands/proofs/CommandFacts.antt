-- What is so of the command that was read is so of any that the words ask for.
use Rattle.std.proofs.Common.{ℕ, List, Option, ◌≡◌, sym, subst}
use Rattle.command_words.specs.Commands.{AsksToServe, IsGenerate}
use Rattle.command_words.proofs.CommandFacts.{one_draw, one_serving}
use Rattle.oe_commands.specs.Generating.{GenerateWrites}
use Rattle.oe_commands.specs.declared.status.Status.{Status}

pub of_draws : (words : List (List ℕ)) (s c seed count : ℕ) (status : Status) (x y : Option (List ℕ)) → IsGenerate words s c → GenerateWrites s c status x y → IsGenerate words seed count → GenerateWrites seed count status x y
of_draws words s c seed count status x y g w h = let same = one_draw words s c seed count g h in rw (sym same.0, sym same.1) w

pub of_serving : (P : ℕ → ℕ → Option (List ℕ) → Type 0) (words : List (List ℕ)) (a b : List ℕ) (n i m j : ℕ) (p q : Option (List ℕ)) → AsksToServe words a n m p → AsksToServe words b i j q → P n m p → P i j q
of_serving P words a b n i m j p q d e h =
    let same = one_serving words a b n i m j p q d e in
    subst (λ path. P i j path) same.3 (subst (λ turns. P i turns p) same.2 (subst (λ workers. P workers m p) same.1 h))
