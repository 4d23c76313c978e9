-- The marks of a desk, case after case.
use Rattle.std.proofs.Common.{◌≡◌, refl, sym, ap, ◌∙◌, arith, ℕ, zero, suc, ◌+◌, ◌-◌, ◌<◌, ◌≤◌, ◌==◌, nat_eq, nat_le, Bool, true, false, cond, List, [], length, Option, Some, None, slice_set}
use Rattle.std.proofs.lemmas.Grind.{common_steps}
use Rattle.std.specs.Option.{option_map, option_map_or}
use Rattle.determination_dates.specs.Computed.{with_some}
use Rattle.case_records.specs.declared.case.KeptCase.{KeptCase}
use Rattle.case_records.specs.declared.case.KeptList.{KeptList}
use Rattle.review_marks.specs.Books.{row_at}
use Rattle.review_marks.specs.declared.row.Row.{Row}
use Rattle.review_marks.proofs.Turning.{same_number}
use Rattle.desk_machine.specs.States.{State, case_at}
use Rattle.desk_machine.specs.Marks.{comparison_row, row_of, stands_on, stands_in, watched_row}
use Rattle.desk_machine.proofs.CaseFacts.{case_past}
use Rattle.filing_desk.specs.Marked.{AreMarks, AreMarksTo}
use Rattle.filing_desk.proofs.MarksAfter.{put_row, unlisted, not_watched}

-- ---- the row of one case

fallen_by : (s : State) (o : Option KeptCase) → option_map_or (stands_on s.day) o false ≡ false → with_some o (watched_row s) ≡ None
fallen_by s None h = refl
fallen_by s (Some c) h = not_watched s c (stands_on s.day c) refl h

-- a determination that does not stand
pub fallen_row : (s : State) (n : ℕ) → stands_in s n ≡ false → row_of s n ≡ None
fallen_row s n h = fallen_by s (case_at s.cases n) h

-- no case
pub no_row : (s : State) (n : ℕ) → None ≡ case_at s.cases n → row_of s n ≡ None
no_row s n h = ap (λ (o : Option KeptCase). with_some o (watched_row s)) (sym h)

-- a case without a list
pub listless_row : (s : State) (n : ℕ) (c : KeptCase) → Some c ≡ case_at s.cases n → c.list ≡ None → row_of s n ≡ None
listless_row s n c at h = ap (λ (o : Option KeptCase). with_some o (watched_row s)) (sym at) ∙ unlisted s c c.list (stands_on s.day c) h

-- a determination that stands
pub standing_row : (s : State) (n : ℕ) (c : KeptCase) (kept : KeptList) → stands_in s n ≡ true → Some c ≡ case_at s.cases n → c.list ≡ Some kept → row_of s n ≡ Some (comparison_row s c kept)
standing_row s n c kept stands at has =
    let stood : stands_on s.day c ≡ true = ap (λ (o : Option KeptCase). option_map_or (stands_on s.day) o false) at ∙ stands in
    ap (λ (o : Option KeptCase). with_some o (watched_row s)) (sym at) ∙ ap (λ (b : Bool). cond b (option_map (comparison_row s c) c.list) None) stood ∙ ap (option_map (comparison_row s c)) has

-- ---- the rows up to a number

nothing_there : (b : Bool) (o : Option Row) → o ≡ None → cond b o o ≡ None
nothing_there true o h = h
nothing_there false o h = h

none_to_zero : (n : ℕ) → nat_le (suc n) 0 ≡ false
none_to_zero n = grind (arith, common_steps)

pub marks_begun : (s : State) → AreMarksTo s 0 []
marks_begun s zero = refl
marks_begun s (suc n) = nothing_there (suc n == 0) None refl ∙ ap (λ (b : Bool). cond b (row_of s (suc n)) None) (sym (none_to_zero n))

at_last : (k n : ℕ) → nat_eq (k + 1) n ≡ true → nat_le n (k + 1) ≡ true
at_last k n e = grind (arith, common_steps, e)

not_last : (k n : ℕ) (b : Bool) → nat_eq (k + 1) n ≡ false → nat_le n k ≡ b → nat_le n (k + 1) ≡ b
not_last k n true e h = grind (arith, common_steps, e, h)
not_last k n false e h = grind (arith, common_steps, e, h)

-- the row of one number more
joined_by : (s : State) (k n : ℕ) (b : Bool) → nat_eq (k + 1) n ≡ b → cond b (row_of s (k + 1)) (cond (nat_le n k) (row_of s n) None) ≡ cond (nat_le n (k + 1)) (row_of s n) None
joined_by s k n true e = ap (row_of s) (same_number (k + 1) n e) ∙ ap (λ (x : Bool). cond x (row_of s n) None) (sym (at_last k n e))
joined_by s k n false e = ap (λ (x : Bool). cond x (row_of s n) None) (sym (not_last k n (nat_le n k) e refl))

either_none : (b d : Bool) (o : Option Row) → o ≡ None → cond b o None ≡ cond d o None
either_none true true o h = refl
either_none true false o h = h
either_none false true o h = sym h
either_none false false o h = refl

skipped_by : (s : State) (k n : ℕ) (b : Bool) → nat_eq (k + 1) n ≡ b → row_of s (k + 1) ≡ None → cond (nat_le n k) (row_of s n) None ≡ cond (nat_le n (k + 1)) (row_of s n) None
skipped_by s k n true e h = either_none (nat_le n k) (nat_le n (k + 1)) (row_of s n) (ap (row_of s) (sym (same_number (k + 1) n e)) ∙ h)
skipped_by s k n false e h = ap (λ (x : Bool). cond x (row_of s n) None) (sym (not_last k n (nat_le n k) e refl))

pub marks_skipped : (s : State) (k : ℕ) (rows : List (Option Row)) → row_of s (k + 1) ≡ None → AreMarksTo s k rows → AreMarksTo s (k + 1) rows
marks_skipped s k rows h are n = are n ∙ skipped_by s k n (nat_eq (k + 1) n) refl h

pub marks_put : (s : State) (k : ℕ) (old rows : List (Option Row)) (r : Row) → row_of s (k + 1) ≡ Some r → k + 1 ≤ length rows → ((n : ℕ) → row_at rows n ≡ row_at old n) → AreMarksTo s k old
    → AreMarksTo s (k + 1) (slice_set rows (k + 1 - 1) (Some r))
marks_put s k old rows r is room same are n =
    put_row rows r (k + 1) n (omega arith) room ∙ ap (cond (nat_eq (k + 1) n) (Some r)) (same n ∙ are n)
    ∙ ap (λ (o : Option Row). cond (nat_eq (k + 1) n) o (cond (nat_le n k) (row_of s n) None)) (sym is) ∙ joined_by s k n (nat_eq (k + 1) n) refl

all_by : (s : State) (n : ℕ) (b : Bool) → nat_le n (length s.cases) ≡ b → cond b (row_of s n) None ≡ row_of s n
all_by s n true h = refl
all_by s n false h = (let beyond : length s.cases < n = grind (arith, common_steps, h) in sym (ap (λ (o : Option KeptCase). with_some o (watched_row s)) (case_past s.cases n beyond)))

pub marks_all : (s : State) (rows : List (Option Row)) → AreMarksTo s (length s.cases) rows → AreMarks s rows
marks_all s rows are n = are n ∙ all_by s n (nat_le n (length s.cases)) refl
