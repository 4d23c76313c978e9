-- The images that a crash may leave, made call by call.
use Rattle.std.proofs.Common.{◌≡◌, ℕ, zero, suc, ◌+◌, ◌-◌, ◌<◌, ◌≤◌, min, true, List, [], ◌∷◌, ◌++◌, length, get_or, take, drop, sym, ap, subst, ◌∙◌, arith, append_assoc, length-append, length-take, length-drop, Result, Ok, Err}
use Rattle.std.specs.Prelude.{IfOk}
use Rattle.std.proofs.lemmas.Bool.{and_parts, leb-true}
use Rattle.std.proofs.lemmas.List.{take_at, drop_at, drop-drop, drop_more, drop_all}
use Rattle.crash_disks.specs.Bytes.{Torn}
use Rattle.crash_disks.specs.declared.step.Step.{Step}
use Rattle.crash_disks.specs.declared.step.Step.TheVariants as steps
use Rattle.crash_disks.specs.Replay.{replay, fits, Leaves, InPlace}

-- a write of which a front, or other bytes, were put
pub torn_part : (at n : ℕ) (patch old new : List ℕ) → at ≤ length old → length patch ≤ n → new ≡ take at old ++ patch ++ drop (at + length patch) old → Torn at n old new
torn_part at n patch old new le short is =
    let front = length-take at old in
    let back = length-drop (at + length patch) old in
    let two = length-append (take at old) patch in
    let all = ap length is ∙ length-append (take at old ++ patch) (drop (at + length patch) old) in
    let e : min at (length old) ≡ at = omega arith in
    let split : at + n ≡ at + length patch + (n - length patch) = omega arith in
    let behind : drop (at + length patch) new ≡ drop (at + length patch) old = ap (λ (l : List ℕ). drop (at + length patch) l) is ∙ drop_at (take at old ++ patch) (drop (at + length patch) old) (at + length patch) (omega arith) in
    record {
      before = subst (λ (k : ℕ). take k new ≡ take k old) (sym e) (ap (λ (l : List ℕ). take at l) (is ∙ append_assoc (take at old) patch (drop (at + length patch) old)) ∙ take_at (take at old) (patch ++ drop (at + length patch) old) at (omega arith));
      after = ap (λ (k : ℕ). drop k new) split ∙ sym (drop-drop (n - length patch) (at + length patch) new) ∙ ap (λ (l : List ℕ). drop (n - length patch) l) behind ∙ drop-drop (n - length patch) (at + length patch) old ∙ ap (λ (k : ℕ). drop k old) (sym split);
      no_shorter = omega arith;
      no_longer = omega arith;
    }

fits_tail : (first : List ℕ) (s : Step) (older : List Step) → fits first (s ∷ older) ≡ true → fits first older ≡ true
fits_tail first (steps.Wrote at bytes) older h = (and_parts _ _ h).1
fits_tail first (steps.Cut len) older h = (and_parts _ _ h).1
fits_tail first (steps.Tore at bytes) older h = h
fits_tail first (steps.Frayed len) older h = h
fits_tail first steps.Synced older h = h

fits_drop : (first : List ℕ) (n : ℕ) (done : List Step) → fits first done ≡ true → fits first (drop n done) ≡ true
fits_drop first zero done h = h
fits_drop first (suc n) [] h = h
fits_drop first (suc n) (s ∷ older) h = fits_drop first n older (fits_tail first s older h)

in_place : (first : List ℕ) (s : Step) (older : List Step) (read : List ℕ) → read ≡ replay first older → fits first (s ∷ older) ≡ true → InPlace s read
in_place first (steps.Wrote at bytes) older read is h = let le : at ≤ length (replay first older) = leb-true _ _ (and_parts _ _ h).0 in let e = ap length is in omega arith
in_place first (steps.Cut len) older read is h = let le : len ≤ length (replay first older) = leb-true _ _ (and_parts _ _ h).0 in let e = ap length is in omega arith
in_place first (steps.Tore at bytes) older read is h = tt
in_place first (steps.Frayed len) older read is h = tt
in_place first steps.Synced older read is h = tt

-- the calls so far, oldest first, have made these bytes, and these are one image of them
pub record IsImage (first : List ℕ) (done : List Step) (so_far : ℕ) (left read : List ℕ) : Type 0 where
  pub read_is : read ≡ replay first (drop (length done - so_far) done)
  pub left_is : Leaves first (drop (length done - so_far) done) left
  pub within : so_far ≤ length done

pub at_start : (first : List ℕ) (done : List Step) (left read : List ℕ) → left ≡ first → read ≡ first → IsImage first done 0 left read
at_start first done left read l r =
    let none : drop (length done - 0) done ≡ [] = drop_all (length done - 0) done (omega arith) in
    record {
      read_is = r ∙ ap (replay first) (sym none);
      left_is = subst (λ (x : List Step). Leaves first x left) (sym none) l;
      within = omega arith;
    }

module _ (first : List ℕ) (done : List Step) (so_far : ℕ) (left read : List ℕ) (image : IsImage first done so_far left read) (step : Step) (lt : so_far < length done) (is : step ≡ get_or done (length done - 1 - so_far) step) where
  next : drop (length done - (so_far + 1)) done ≡ step ∷ drop (length done - so_far) done
  next =
      let i : length done - (so_far + 1) ≡ length done - 1 - so_far = omega arith in
      let j : length done - 1 - so_far + 1 ≡ length done - so_far = omega arith in
      ap (λ (k : ℕ). drop k done) i ∙ drop_more done (length done - 1 - so_far) step (omega arith) ∙ (λ n. sym is n ∷ drop (j n) done)

  pub fits_here : fits first done ≡ true → InPlace step read
  fits_here h = in_place first step (drop (length done - so_far) done) read image.read_is (subst (λ (x : List Step). fits first x ≡ true) next (fits_drop first (length done - (so_far + 1)) done h))

  pub one_more : (new_left new_read : List ℕ)
      → ((f : List ℕ) (older : List Step) → read ≡ replay f older → Leaves f older left → Leaves f (step ∷ older) new_left)
      → ((f : List ℕ) (older : List Step) → read ≡ replay f older → new_read ≡ replay f (step ∷ older)) → IsImage first done (so_far + 1) new_left new_read
  one_more new_left new_read leaves reads = record {
    read_is = reads first (drop (length done - so_far) done) image.read_is ∙ ap (replay first) (sym next);
    left_is = subst (λ (x : List Step). Leaves first x new_left) (sym next) (leaves first (drop (length done - so_far) done) image.read_is image.left_is);
    within = omega arith;
  }

pub at_end : (first : List ℕ) (done : List Step) (so_far : ℕ) (left read : List ℕ) → IsImage first done so_far left read → length done ≤ so_far → Leaves first done left
at_end first done so_far left read image le =
    let z : length done - so_far ≡ 0 = omega arith in
    subst (λ (k : ℕ). Leaves first (drop k done) left) z image.left_is

pub if_ok : {T E : Type 0} {P Q : T → Type 0} (r : Result T E) → ((x : T) → P x → Q x) → IfOk r P → IfOk r Q
if_ok (Ok x) f p = f x p
if_ok (Err e) f p = tt
