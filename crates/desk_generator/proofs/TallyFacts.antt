-- How many cases there are.
use Rattle.std.proofs.Common.{arith, ◌≡◌, ◌≤◌, ◌<◌, ◌+◌, ◌-◌, ◌==◌, ℕ, List, length, Option, Some, None, slice_get, Bool, true, false, refl, sym, ap, ◌∙◌, inl, inr}
use Rattle.std.specs.Prelude.{is_some, not}
use Rattle.std.specs.Option.{option_map}
use Rattle.std.proofs.lemmas.Grind.{common_steps}
use Rattle.std.proofs.lemmas.Option.{slice_get_cases, slice_get_within}
use Rattle.airfields.specs.Sites.{Site}
use Rattle.case_records.specs.declared.case.KeptCase.{KeptCase}
use Rattle.desk_machine.specs.States.{case_at}
use Rattle.desk_machine.specs.Evaluations.{site_of}

-- from a number to a place
case_next : (cases : List KeptCase) (k : ℕ) → case_at cases (k + 1) ≡ slice_get cases k
case_next cases k =
    let not_zero : (k + 1 == 0) ≡ false = grind (arith, common_steps) in
    let place : k + 1 - 1 ≡ k = omega arith in
    rw (not_zero, place) refl

past : (cases : List KeptCase) (k : ℕ) (o : Option KeptCase) → slice_get cases k ≡ o → is_some (option_map site_of o) ≡ false → length cases ≤ k
past cases k None e t = elim (slice_get_cases cases k).1 [ inl h ↦ absurd (let f : Some h.0 ≡ None = sym h.2 ∙ e in cc) | inr h ↦ h.0 ]
past cases k (Some c) e t = absurd (cc)

within : (cases : List KeptCase) (k : ℕ) (o : Option KeptCase) → slice_get cases k ≡ o → is_some (option_map site_of o) ≡ true → k < length cases
within cases k None e t = absurd (cc)
within cases k (Some c) e t = slice_get_within cases k c e

-- no case has the next number, or one has
pub none_next : (cases : List KeptCase) (k n : ℕ) (r : Option Site) (b : Bool) → r ≡ option_map site_of (case_at cases n) → n ≡ k + 1 → is_some r ≡ not b → b ≡ true → length cases ≤ k
none_next cases k n r b e f g t =
    past cases k (slice_get cases k) refl (ap is_some (ap (option_map site_of) (sym (case_next cases k) ∙ ap (case_at cases) (sym f)) ∙ sym e) ∙ g ∙ ap not t)

pub one_next : (cases : List KeptCase) (k n : ℕ) (r : Option Site) (b : Bool) → r ≡ option_map site_of (case_at cases n) → n ≡ k + 1 → is_some r ≡ not b → b ≡ false → k < length cases
one_next cases k n r b e f g t =
    within cases k (slice_get cases k) refl (ap is_some (ap (option_map site_of) (sym (case_next cases k) ∙ ap (case_at cases) (sym f)) ∙ sym e) ∙ g ∙ ap not t)
