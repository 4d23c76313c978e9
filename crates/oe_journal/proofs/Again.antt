-- What was spelled is read again.
use Rattle.std.proofs.Common.{◌≡◌, ℕ, zero, suc, ◌≤◌, false, ltb, List, [], ◌∷◌, ◌++◌, length, Some, refl, ap, ◌∙◌, arith, length-append, append_assoc}
use Rattle.std.specs.Int.{w64, from_be_bytes, to_be_bytes}
use Rattle.std.proofs.lemmas.Str.{is_utf8-from_IsUtf8}
use Rattle.std.proofs.lemmas.Bool.{le-ltb}
use Rattle.std.proofs.lemmas.Nat.{from_be_bytes-to_be_bytes_8}
use Rattle.std.proofs.lemmas.List.{take_at, drop_at}
use Rattle.oe_keeper.specs.Kept.{place}
use Rattle.oe_keeper.specs.declared.change.Table.{Table}
use Rattle.oe_keeper.specs.declared.change.Table.TheVariants.{Airfield, Runway, Desk, Filing, Receipt}
use Rattle.oe_keeper.specs.declared.change.RowChange.{RowChange}
use Rattle.oe_keeper.specs.declared.change.RowChange.TheVariants.{Put, Remove}
use Rattle.oe_journal.specs.Spelling.{text, spelled_change, spelled, FitsText, AreChanges}
use Rattle.oe_journal.specs.Reading.{number_at, utf8_at, text_at, table_at, put_at, removal_at, change_at, changes_within, changes_of}

number_again : (head rest : List ℕ) (n : ℕ) → length head ≡ 8 → from_be_bytes w64 head ≡ n → number_at (head ++ rest) ≡ Some (n, rest)
number_again head rest n eight is =
    let len = length-append head rest in
    let long : ltb (length (head ++ rest)) 8 ≡ false = le-ltb _ _ (omega arith) in
    rw (long, take_at head rest 8 eight, drop_at head rest 8 eight) (ap (λ (k : ℕ). Some (k, rest)) is)

utf8_again : (t : List ℕ) → FitsText t → utf8_at t ≡ Some t
utf8_again t fits = rw (is_utf8-from_IsUtf8 t fits.1) refl

text_from : (head t rest : List ℕ) → length head ≡ 8 → from_be_bytes w64 head ≡ length t → FitsText t → text_at ((head ++ t) ++ rest) ≡ Some (t, rest)
unfolding text_at
text_from head t rest eight is fits =
    let len = length-append t rest in
    let long : ltb (length (t ++ rest)) (length t) ≡ false = le-ltb _ _ (omega arith) in
    let number : number_at ((head ++ t) ++ rest) ≡ Some (length t, t ++ rest) = ap number_at (append_assoc head t rest) ∙ number_again head (t ++ rest) (length t) eight is in
    rw (number, long, take_at t rest (length t) refl, drop_at t rest (length t) refl, utf8_again t fits) refl

text_again : (t rest : List ℕ) → FitsText t → text_at (text t ++ rest) ≡ Some (t, rest)
text_again t rest fits = text_from (to_be_bytes w64 (length t)) t rest refl (from_be_bytes-to_be_bytes_8 (length t) fits.0) fits

table_again : (t : Table) → table_at (place t) ≡ Some t
table_again Airfield = refl
table_again Runway = refl
table_again Desk = refl
table_again Filing = refl
table_again Receipt = refl

put_from : (at : ℕ) (kb rb rest key row : List ℕ) (table : Table) → table_at at ≡ Some table → text_at (kb ++ (rb ++ rest)) ≡ Some (key, rb ++ rest) → text_at (rb ++ rest) ≡ Some (row, rest)
    → change_at (80 ∷ at ∷ (kb ++ rb) ++ rest) ≡ Some (Put table key row, rest)
unfolding change_at put_at
put_from at kb rb rest key row table t k r = rw (t, append_assoc kb rb rest, k, r) refl

removal_from : (at : ℕ) (kb rest key : List ℕ) (table : Table) → table_at at ≡ Some table → text_at (kb ++ rest) ≡ Some (key, rest) → change_at (82 ∷ at ∷ kb ++ rest) ≡ Some (Remove table key, rest)
unfolding change_at removal_at
removal_from at kb rest key table t k = rw (t, k) refl

within_step : (n b : ℕ) (xs after : List ℕ) (c : RowChange) (cs : List RowChange) → change_at (b ∷ xs) ≡ Some (c, after) → changes_within n after ≡ Some cs → changes_within (suc n) (b ∷ xs) ≡ Some (c ∷ cs)
unfolding changes_within
within_step n b xs after c cs first others = rw (first, others) refl

within_again : (n : ℕ) (cs : List RowChange) → length cs ≤ n → AreChanges cs → changes_within n (spelled cs) ≡ Some cs
unfolding changes_within
within_again n [] le are = refl
within_again zero (c ∷ cs) le are = absurd (omega arith)
within_again (suc n) (Put table key row ∷ cs) le are =
    within_step n 80 (place table ∷ (text key ++ text row) ++ spelled cs) (spelled cs) (Put table key row) cs
    (put_from (place table) (text key) (text row) (spelled cs) key row table (table_again table) (text_again key (text row ++ spelled cs) are.0.0) (text_again row (spelled cs) are.0.1)) (within_again n cs (omega arith) are.1)
within_again (suc n) (Remove table key ∷ cs) le are =
    within_step n 82 (place table ∷ text key ++ spelled cs) (spelled cs) (Remove table key) cs
    (removal_from (place table) (text key) (spelled cs) key table (table_again table) (text_again key (spelled cs) are.0)) (within_again n cs (omega arith) are.1)

length-spelled : (cs : List RowChange) → length cs ≤ length (spelled cs)
length-spelled [] = omega arith
length-spelled (Put table key row ∷ cs) = omega (arith, length-append (spelled_change (Put table key row)) (spelled cs), length-spelled cs)
length-spelled (Remove table key ∷ cs) = omega (arith, length-append (spelled_change (Remove table key)) (spelled cs), length-spelled cs)

pub changes_again : (cs : List RowChange) → AreChanges cs → changes_of (spelled cs) ≡ Some cs
changes_again cs are = within_again (length (spelled cs)) cs (length-spelled cs) are
