-- A case that was found is sound.
use Rattle.std.proofs.Common.{◌≡◌, refl, sym, ap, subst, ◌∙◌, arith, ℕ, zero, suc, ◌<◌, [], ◌∷◌, length, slice_set, slice_index_or, ◌-◌, ◌==◌, false, List, ◌++◌, ◌≤◌, Option, Some, None, IfSome, option_copied, slice_get, Bor}
use Rattle.std.proofs.lemmas.Grind.{common_steps}
use Rattle.case_records.specs.declared.case.KeptCase.{KeptCase}
use Rattle.jiff_core.specs.declared.civil.date.Date.{Date}
use Rattle.std.proofs.lemmas.Option.{slice_get-get_or}
use Rattle.determination_dates.specs.Days.{IsLimited}
use Rattle.determination_dates.specs.Effects.{IsKept}
use Rattle.case_acts.specs.Cases.{IsSound}
use Rattle.desk_machine.specs.declared.entry.TheConstants.{MOST_CASES}
use Rattle.desk_machine.specs.States.{case_at, cases_changed_at, with_case}
use Rattle.filing_desk.specs.Desks.{AreSound}

pub sound_of : (cases : List KeptCase) (i : ℕ) (r : Option (Bor KeptCase)) → AreSound cases → option_copied r ≡ slice_get cases i → IfSome r (λ c. IsSound c.now)
sound_of cases i None h e = tt
sound_of cases i (Some b) h e = subst (λ o. IfSome o IsSound) (sym e) (h i)

-- from a number to a place
pub numbered : (cases : List KeptCase) (n : ℕ) (r : Option KeptCase) → (n ≡ 0 → ⊥) → r ≡ slice_get cases (n - 1) → r ≡ case_at cases n
numbered cases n r h e =
    let not_zero : (n == 0) ≡ false = grind (arith, common_steps, h) in
    rw not_zero e

-- ---- a case is changed

sound_set : (cases : List KeptCase) (i : ℕ) (c : KeptCase) → AreSound cases → IsSound c → (j : ℕ) → IfSome (slice_get (slice_set cases i c) j) IsSound
sound_set [] i c h s j = tt
sound_set (x ∷ xs) zero c h s zero = s
sound_set (x ∷ xs) zero c h s (suc j) = h (suc j)
sound_set (x ∷ xs) (suc i) c h s zero = h zero
sound_set (x ∷ xs) (suc i) c h s (suc j) = sound_set xs i c (λ k. h (suc k)) s j

there : (cases : List KeptCase) (i : ℕ) (c : KeptCase) → i < length cases → c ≡ slice_index_or cases i c → slice_get cases i ≡ Some c
there cases i c h e = slice_get-get_or cases i c h ∙ ap Some (sym e)

found_sound : (cases : List KeptCase) (i : ℕ) (c : KeptCase) → i < length cases → c ≡ slice_index_or cases i c → AreSound cases → IsSound c
found_sound cases i c short e h = subst (λ o. IfSome o IsSound) (there cases i c short e) (h i)

pub life_sound : (cases : List KeptCase) (i : ℕ) (c d : KeptCase) → i < length cases → c ≡ slice_index_or cases i c → AreSound cases → d.received ≡ c.received → IfSome d.life.determination IsKept
    → AreSound (slice_set cases i d)
life_sound cases i c d short e h same kept =
    let s = found_sound cases i c short e h in
    sound_set cases i d h (record { received = subst IsLimited (sym same) s.received; determination = kept })

pub form_sound : (cases : List KeptCase) (i : ℕ) (c : KeptCase) (form : Option Date) → i < length cases → c ≡ slice_index_or cases i c → AreSound cases
    → AreSound (slice_set cases i (record c { form = form }))
form_sound cases i c form short e h =
    let s = found_sound cases i c short e h in
    sound_set cases i (record c { form = form }) h (record { received = s.received; determination = s.determination })

-- a case behind the others
pub sound_more : (cases : List KeptCase) (c : KeptCase) → AreSound cases → IsSound c → AreSound (cases ++ c ∷ [])
sound_more [] c h s zero = s
sound_more [] c h s (suc j) = tt
sound_more (x ∷ xs) c h s zero = h zero
sound_more (x ∷ xs) c h s (suc j) = sound_more xs c (λ k. h (suc k)) s j

-- what is put in the place of a case is put in its number's
pub changed_case : (cases : List KeptCase) (n : ℕ) (c : KeptCase) (f : KeptCase → KeptCase) → (n ≡ 0 → ⊥) → n - 1 < length cases → c ≡ slice_index_or cases (n - 1) c
    → slice_set cases (n - 1) (f c) ≡ with_case n f cases
changed_case cases n c f h short e = ap (cases_changed_at n f cases) (numbered cases n (Some c) h (sym (there cases (n - 1) c short e)))

-- where there is no such case, nothing is changed
pub unchanged_zero : (cases : List KeptCase) (n : ℕ) (f : KeptCase → KeptCase) → n ≡ 0 → cases ≡ with_case n f cases
unchanged_zero cases n f e = rw e refl

past : (cases : List KeptCase) (i : ℕ) → length cases ≤ i → slice_get cases i ≡ None
past [] i h = refl
past (x ∷ xs) zero h = absurd (omega (arith, h))
past (x ∷ xs) (suc i) h = past xs i (omega (arith, h))

pub unchanged_past : (cases : List KeptCase) (n : ℕ) (f : KeptCase → KeptCase) → (n ≡ 0 → ⊥) → length cases ≤ n - 1 → cases ≡ with_case n f cases
unchanged_past cases n f h beyond = ap (cases_changed_at n f cases) (numbered cases n None h (sym (past cases (n - 1) beyond)))

-- ---- a change leaves the number of cases

same_number : (cases : List KeptCase) (i : ℕ) (c : KeptCase) → length (slice_set cases i c) ≡ length cases
same_number [] i c = refl
same_number (x ∷ xs) zero c = refl
same_number (x ∷ xs) (suc i) c = ap suc (same_number xs i c)

pub most_set : (cases : List KeptCase) (i : ℕ) (c : KeptCase) → length cases ≤ MOST_CASES → length (slice_set cases i c) ≤ MOST_CASES
most_set cases i c h = subst (λ n. n ≤ MOST_CASES) (sym (same_number cases i c)) h
