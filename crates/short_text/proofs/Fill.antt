-- A text written over zeros.
use Rattle.std.proofs.Common.{◌≡◌, ◌≤◌, ℕ, List, ◌++◌, length, take, drop, replicate, refl, ap}
use Rattle.std.proofs.lemmas.List.{drop-replicate, take_at}
use Rattle.short_text.specs.Filling.{IsFilled, filled}

pub filled_with : (most : ℕ) (text : List ℕ) → length text ≤ most → IsFilled most (text ++ drop (length text) (replicate most 0)) (length text)
unfolding filled
filled_with most text h =
    let begins : take (length text) (text ++ drop (length text) (replicate most 0)) ≡ text = take_at text _ (length text) refl in
    record {
      within = h;
      rest = rw (begins, drop-replicate {X = ℕ} (length text) most 0) refl;
      is_len = ap length begins;
    }
