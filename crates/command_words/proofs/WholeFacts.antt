-- What a whole parse of options comes to, by the walk alone.
use Rattle.std.proofs.Common.{◌≡◌, ◌∙◌, false, List, [], ◌∷◌, Option, Some, None, refl, ap, map, inl, inr}
use Rattle.std.specs.List.{fold}
use Rattle.clap.specs.Words.{Kinds, Row, Text, fault_of, matches_of, built}
use Rattle.clap.specs.Kinds.{or_else}
use Rattle.clap.specs.Walk.{idle, settled, has_row, nothing_held, with_default}
use Rattle.clap.specs.Faults.{walk_fault, settle_fault, defaults_fault, default_fault, entered_fault, check_fault}
use Rattle.clap.specs.Simple.{entered}
use Rattle.clap.proofs.OnLiterals.{clap_on_literals}
use Rattle.command_words.specs.Parsing.{options_app}
use Rattle.command_words.proofs.WalkFacts.{opt, top, names, at}
use Rattle.command_words.proofs.SoundFacts.{after, bool_is}

default_nil : (m : Text) (rows : List Row) → default_fault rows (opt m) ≡ []
default_nil m rows = elim (bool_is (has_row m rows)) [ inl h ↦ rw h refl | inr h ↦ rw h refl ]

defaults_nil : (ms : List Text) (rows : List Row) → defaults_fault rows (map opt ms) ≡ []
unfolding defaults_fault
defaults_nil [] rows = refl
defaults_nil (m ∷ ms) rows = rw (default_nil m rows) (defaults_nil ms (with_default rows (opt m)))

no_default : (m : Text) (rows : List Row) → with_default rows (opt m) ≡ rows
no_default m rows = elim (bool_is (has_row m rows)) [ inl h ↦ rw h refl | inr h ↦ rw h refl ]

no_defaults : (ms : List Text) (rows : List Row) → fold with_default rows (map opt ms) ≡ rows
no_defaults [] rows = refl
no_defaults (m ∷ ms) rows = ap (λ r. fold with_default r (map opt ms)) (no_default m rows) ∙ no_defaults ms rows

enters_none : (stop : Option (Text × List Text)) → entered (built options_app) stop ≡ None
unfolding clap_on_literals
enters_none None = refl
enters_none (Some p) = refl

enters_fine : (stop : Option (Text × List Text)) → entered_fault (built options_app) stop ≡ []
unfolding clap_on_literals
enters_fine None = refl
enters_fine (Some p) = refl

checks_fine : (rows : List Row) → check_fault top rows false ≡ []
checks_fine rows = refl

or_nil : (a : Kinds) → or_else a [] ≡ a
or_nil [] = refl
or_nil (k ∷ ks) = refl

pub whole_fault : (words : List Text) → fault_of options_app words ≡ or_else (walk_fault top [] (at nothing_held idle) words) (settle_fault top.rules false (after (at nothing_held idle) words).held)
whole_fault words =
    let end = (after (at nothing_held idle) words).held in
    let stop = (after (at nothing_held idle) words).stopped in
    rw (enters_none stop, enters_fine stop, defaults_nil names (settled top.rules end).rows) (ap (or_else (walk_fault top [] (at nothing_held idle) words)) (or_nil (settle_fault top.rules false end)))

pub whole_rows : (words : List Text) → matches_of options_app words ≡ (settled top.rules (after (at nothing_held idle) words).held).rows
whole_rows words = no_defaults names (settled top.rules (after (at nothing_held idle) words).held).rows
