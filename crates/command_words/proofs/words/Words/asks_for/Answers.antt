use Rattle.std.proofs.Common.{◌∙◌, ap, map, string_bytes, subst, List, ℕ}
use Rattle.std.specs.Prelude.{IfOk, IfSome, IfNone}
use Rattle.command_words.specs.Commands.{IsCommand, Says}
use Rattle.command_words.proofs.words.Words.asks_for.Goals as goal

pub returns-clause-some : goal.returns-clause-some
returns-clause-some c = subst (λ (ws : List (List ℕ)). IfOk c.command_of.result (λ o. IfSome o (λ a. Says ws a))) (ap (map (λ s. string_bytes s)) c.as_slice.ensures.value ∙ c.self.view_is) c.command_of.ensures.some

pub returns-clause-none : goal.returns-clause-none
returns-clause-none c = subst (λ (ws : List (List ℕ)). IfOk c.command_of.result (λ o. IfNone o (IsCommand ws → ⊥))) (ap (map (λ s. string_bytes s)) c.as_slice.ensures.value ∙ c.self.view_is) c.command_of.ensures.none
