-- What a value is, by the rows of some matches.
use Rattle.std.proofs.Common.{◌≡◌, ◌∙◌, true, List, [], ◌∷◌, Some, None, refl, subst, sym, ap, inl, inr}
use Rattle.clap.specs.Words.{App, Kinds, HasKind, HasMatchesOf, fault_of, first_of, first_value, found_of, is_simple, is_simple_and_free, kind_of, matches_of, rows_of, Text}
use Rattle.clap.specs.declared.error.Error.{Error}
use Rattle.clap.specs.declared.error.kind.ErrorKind.TheVariants as kind
use Rattle.clap.specs.declared.parser.matches.ArgMatches.{ArgMatches}
use Rattle.clap.proofs.OnLiterals.{clap_on_literals}
use Rattle.command_words.specs.Options.{Values}
use Rattle.command_words.specs.Parsing.{gathered, options_of, options_app, where_fine}
use Rattle.clap.specs.declared.parser.matches.Found.{Found}
use Rattle.clap.proofs.WalkLemmas.{first_value-rows}

pub first_value_rows : (f : Found) (id : Text) → first_value f id ≡ first_of id (rows_of f)
first_value_rows f id = first_value-rows f id

simple : is_simple options_app ≡ true
unfolding clap_on_literals
simple = refl

free : is_simple_and_free options_app ≡ true
unfolding clap_on_literals
free = refl

-- what a parse that succeeds gives
pub ok_is : (app : App) (words : List Text) (m : ArgMatches) (values : Values) → app ≡ options_app
    → (is_simple_and_free app ≡ true → fault_of app words ≡ []) → HasMatchesOf app words m
    → values ≡ gathered (rows_of (found_of m)) → Some values ≡ options_of words
ok_is app words m values e fine rows v =
    let none : fault_of options_app words ≡ [] = subst (λ a. fault_of a words ≡ []) e (fine (subst (λ a. is_simple_and_free a ≡ true) (sym e) free)) in
    let found : rows_of (found_of m) ≡ matches_of options_app words = subst (λ a. rows_of (found_of m) ≡ matches_of a words) e (rows (subst (λ a. is_simple a ≡ true) (sym e) simple)).0 in
    ap (λ x. Some x) (v ∙ ap gathered found) ∙ sym (ap (λ ks. where_fine ks (gathered (matches_of options_app words))) none)

refused : (ks : Kinds) (values : Values) (e : Error) → HasKind ks e → (kind_of e ≡ kind.OutOfMemory → ⊥) → None ≡ where_fine ks values
refused [] values e h not_memory = absurd (elim h [ inl m ↦ not_memory m | inr none ↦ none ])
refused (k ∷ ks) values e h not_memory = refl

-- what one that fails tells, but for want of memory
pub err_is : (app : App) (words : List Text) (e : Error) → app ≡ options_app
    → (is_simple_and_free app ≡ true → HasKind (fault_of app words) e) → (kind_of e ≡ kind.OutOfMemory → ⊥) → None ≡ options_of words
err_is app words e is fails not_memory =
    refused (fault_of options_app words) (gathered (matches_of options_app words)) e (subst (λ a. HasKind (fault_of a words) e) is (fails (subst (λ a. is_simple_and_free a ≡ true) (sym is) free))) not_memory
