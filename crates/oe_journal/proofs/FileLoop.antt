-- Reading frames one after another, as a loop does.
use Rattle.std.proofs.Common.{◌≡◌, ℕ, ◌+◌, ◌<◌, ◌≤◌, Bool, true, false, cond, List, ◌∷◌, map, length, drop, Option, Some, None, Bor, refl, sym, ap, ◌∙◌, arith, length-drop, length-take}
use Rattle.std.specs.Prelude.{option_copied}
use Rattle.std.proofs.lemmas.List.{drop-drop}
use Rattle.std.specs.FinMap as maps
use Rattle.oe_keeper.specs.Kept.{Kept, rows_after_changes}
use Rattle.oe_journal.specs.Frames.{size_at, counts, payload, first_of, frames_after, extent, list_of, lists_of, rows_after, rows_of}
use Rattle.oe_journal.proofs.FrameRuns.{counts_true, frames_counts, frames_closed, extent_counts, extent_closed}

pub record IsFirst (xs p : List ℕ) : Type 0 where
  pub whole : counts xs ≡ true
  pub is : payload xs ≡ p
  pub size : size_at xs ≡ length p
  pub within : 9 + length p < length xs

chosen : {A : Type 0} (b : Bool) (x y : A) → cond b (Some x) None ≡ Some y → (b ≡ true) × (x ≡ y)
chosen true x y e = (refl, cc)
chosen false x y e = absurd cc

not_chosen : {A : Type 0} (b : Bool) (x : A) → cond b (Some x) None ≡ None → b ≡ false
not_chosen true x e = absurd cc
not_chosen false x e = refl

first_some : (xs p : List ℕ) → first_of xs ≡ Some p → IsFirst xs p
first_some xs p e =
    let t = chosen (counts xs) (payload xs) p e in
    let long = (counts_true xs t.0).1 in
    let l1 = length-take (size_at xs) (drop 9 xs) in
    let l2 = length-drop 9 xs in
    let l3 = ap length t.1 in
    record { whole = t.0; is = t.1; size = omega arith; within = omega arith }

pub first_none : (xs : List ℕ) → first_of xs ≡ None → counts xs ≡ false
first_none xs e = not_chosen (counts xs) (payload xs) e

-- what the loop keeps
pub record Shows (file : List ℕ) (end : ℕ) (rows : Kept) : Type 0 where
  pub rows_are : rows_after rows (map list_of (frames_after 0 end (drop end file))) ≡ rows_after maps.empty (lists_of file)
  pub end_is : end + extent (drop end file) ≡ extent file
  pub within : end ≤ length file

pub shows_at_start : (file : List ℕ) → Shows file 0 maps.empty
shows_at_start file = record { rows_are = refl; end_is = omega arith; within = omega arith }

module _ (file : List ℕ) (end : ℕ) (rows : Kept) (so_far : Shows file end rows) where
  pub found : (r : Option (Bor (List ℕ))) (p : Bor (List ℕ)) (xs : List ℕ) → option_copied r ≡ first_of xs → r ≡ Some p → xs ≡ drop end file → IsFirst (drop end file) p.now
  found r p xs got is same = first_some (drop end file) p.now (sym (ap first_of same) ∙ sym got ∙ ap option_copied is)

  pub not_found : (r : Option (Bor (List ℕ))) (xs : List ℕ) → option_copied r ≡ first_of xs → r ≡ None → xs ≡ drop end file → counts (drop end file) ≡ false
  not_found r xs got is same = first_none (drop end file) (sym (ap first_of same) ∙ sym got ∙ ap option_copied is)

  pub shows_more : (p : List ℕ) (new : Kept) → IsFirst (drop end file) p → new ≡ rows_after_changes rows (list_of (end, p)) → Shows file (end + (9 + length p)) new
  shows_more p new first is =
      let xs = drop end file in
      let deep : drop (9 + length p) xs ≡ drop (end + (9 + length p)) file = drop-drop (9 + length p) end file in
      let one : frames_after 0 end xs ≡ (end, p) ∷ frames_after 0 (end + (9 + length p)) (drop (end + (9 + length p)) file) =
      frames_counts end xs first.whole ∙ (λ i. (end, first.is i) ∷ frames_after 0 (end + (9 + first.size i)) (drop (9 + first.size i) xs)) ∙ ap (λ (l : List ℕ). (end, p) ∷ frames_after 0 (end + (9 + length p)) l) deep in
      let e1 = extent_counts xs first.whole in
      let e2 : extent (drop (9 + size_at xs) xs) ≡ extent (drop (end + (9 + length p)) file) = ap (λ (k : ℕ). extent (drop (9 + k) xs)) first.size ∙ ap extent deep in
      let e3 = so_far.end_is in
      let e4 = first.size in
      let l = length-drop end file in
      let w = first.within in
      record {
        rows_are = ap (λ (r : Kept). rows_after r (map list_of (frames_after 0 (end + (9 + length p)) (drop (end + (9 + length p)) file)))) is ∙ ap (λ (fs : List (ℕ × List ℕ)). rows_after rows (map list_of fs)) (sym one) ∙ so_far.rows_are;
        end_is = omega arith;
        within = omega arith;
      }

  pub shown_all : counts (drop end file) ≡ false → rows ≡ rows_of file
  unfolding rows_of
  shown_all shut = sym (ap (λ (fs : List (ℕ × List ℕ)). rows_after rows (map list_of fs)) (frames_closed end (drop end file) shut)) ∙ so_far.rows_are

  pub shown_end : counts (drop end file) ≡ false → end ≡ extent file
  shown_end shut = let z = extent_closed (drop end file) shut in let e = so_far.end_is in omega arith
