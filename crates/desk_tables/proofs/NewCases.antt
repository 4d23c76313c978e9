-- The cases, after one of them was changed or one was added.
use Rattle.std.proofs.Common.{◌≡◌, refl, ap, ◌∙◌, subst, ℕ, ◌-◌, ◌==◌, Bool, true, false, cond, List, [], All, length, slice_get, Option, Some, None}
use Rattle.std.proofs.lemmas.Option.{none-some, slice_get_within, get_or_from_slice_get}
use Rattle.std.proofs.lemmas.List.{length-set}
use Rattle.std.proofs.lemmas.List.Elements.{All-set, All-weaker, All-get_or}
use Rattle.case_records.specs.declared.case.KeptCase.{KeptCase}
use Rattle.desk_machine.specs.States.{case_at, cases_changed_at, with_case}

placed : (P : KeptCase → Type 0) (cases : List KeptCase) (i : ℕ) (c : KeptCase) → All P cases → slice_get cases i ≡ Some c → P c
placed P cases i c h at = subst P (get_or_from_slice_get cases i c c at) (All-get_or P cases i c (slice_get_within cases i c at) h)

found_by : (P : KeptCase → Type 0) (cases : List KeptCase) (i : ℕ) (c : KeptCase) (b : Bool) → All P cases → cond b None (slice_get cases i) ≡ Some c → P c
found_by P cases i c true h at = absurd (none-some c at)
found_by P cases i c false h at = placed P cases i c h at

-- what holds of all cases holds of the one that is found
pub case_found : (P : KeptCase → Type 0) (cases : List KeptCase) (number : ℕ) (c : KeptCase) → All P cases → case_at cases number ≡ Some c → P c
case_found P cases number c h at = found_by P cases (number - 1) c (number == 0) h at

changed_all : (P Q : KeptCase → Type 0) (cases : List KeptCase) (number : ℕ) (f : KeptCase → KeptCase) (v : Option KeptCase) → All P cases
    → ((c : KeptCase) → P c → Q c)
    → ((c : KeptCase) → v ≡ Some c → Q (f c)) → All Q (cases_changed_at number f cases v)
changed_all P Q cases number f None h weaker g = All-weaker P Q weaker cases h
changed_all P Q cases number f (Some c) h weaker g = All-set Q cases (number - 1) (f c) (g c refl) (All-weaker P Q weaker cases h)

pub all_changed : (P Q : KeptCase → Type 0) (cases : List KeptCase) (number : ℕ) (f : KeptCase → KeptCase) → All P cases → ((c : KeptCase) → P c → Q c)
    → ((c : KeptCase) → case_at cases number ≡ Some c → Q (f c)) → All Q (with_case number f cases)
all_changed P Q cases number f h weaker g = changed_all P Q cases number f (case_at cases number) h weaker g

changed_many : (cases : List KeptCase) (number : ℕ) (f : KeptCase → KeptCase) (v : Option KeptCase) → length (cases_changed_at number f cases v) ≡ length cases
changed_many cases number f None = refl
changed_many cases number f (Some c) = length-set cases (number - 1) (f c)

pub many_changed : (cases : List KeptCase) (number : ℕ) (f : KeptCase → KeptCase) → length (with_case number f cases) ≡ length cases
many_changed cases number f = changed_many cases number f (case_at cases number)

-- of no cases none is changed
none_by : (number : ℕ) (f : KeptCase → KeptCase) (b : Bool) → cases_changed_at number f [] (cond b None (slice_get [] (number - 1))) ≡ []
none_by number f true = refl
none_by number f false = refl

pub none_changed : (cases : List KeptCase) (number : ℕ) (f : KeptCase → KeptCase) → cases ≡ [] → with_case number f cases ≡ []
none_changed cases number f is = ap (with_case number f) is ∙ none_by number f (number == 0)
