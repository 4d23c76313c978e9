use Rattle.std.proofs.Common.{refl, map, string_bytes, String, Global}
use Rattle.std.proofs.lemmas.Result.{IfOk-weaker}
use Rattle.command_words.proofs.RowFacts.{clean_words, some_words, none_words}
use Rattle.command_words.proofs.options.read_options.Goals as goal

pub returns-then-not-are_clean-clause-none : goal.returns-then-not-are_clean-clause-none
returns-then-not-are_clean-clause-none c v w =
    c.if-not-are_clean.ensures.no refl (clean_words w.0 (map (λ (s : String Global). string_bytes s) c.args.words.now) w.1 w.2)

pub returns-clause-some : goal.returns-clause-some
returns-clause-some c =
    let clean = c.if-not-are_clean.ensures.yes refl in
    IfOk-weaker c.parsed_options.result _ _ (λ o e. some_words (map (λ (s : String Global). string_bytes s) c.args.words.now) o clean e) c.parsed_options.ensures

pub returns-clause-none : goal.returns-clause-none
returns-clause-none c =
    IfOk-weaker c.parsed_options.result _ _ (λ o e. none_words (map (λ (s : String Global). string_bytes s) c.args.words.now) o e) c.parsed_options.ensures
