-- What the mending of a file's end leaves.
use Rattle.std.proofs.Common.{◌≡◌, ◌≢◌, ◌⊎◌, inl, inr, ⊎_elim, ℕ, zero, suc, ◌+◌, ◌<◌, ◌≤◌, Bool, true, false, eqb, List, [], ◌∷◌, ◌++◌, length, get_or, take, drop, sym, ap, subst, ◌∙◌, arith, length-append, length-take, length-drop}
use Rattle.std.proofs.lemmas.Bool.{eqb-true, cases_lt}
use Rattle.std.proofs.lemmas.List.{take_at, drop_at, take_all, drop_all, take-take, append-nil, get_or_at, nil_from_length}
use Rattle.crash_disks.specs.Bytes.{Holds, Torn, Cut}
use Rattle.crash_disks.specs.Crash.{Only, After}
use Rattle.oe_journal.specs.Frames.{counts, extent, rows_of}
use Rattle.oe_journal.proofs.FrameRuns.{closed_gate, short_file, extent_within, extent_closed, counts_nil}
use Rattle.oe_journal.proofs.Meaning.{IsSame, same_rows, cut_rows}
use Rattle.oe_journal.specs.Standing.{closed_at, IsMended}
use Rattle.oe_journal.proofs.Images.{torn_front}

module _ (file : List ℕ) (end : ℕ) (place : end ≡ extent file) where
  no_frames : length file ≡ 0 → end ≡ 0
  no_frames none = place ∙ ap extent (nil_from_length file none) ∙ extent_closed [] counts_nil

  pub within : 0 < length file → end < length file
  within some = let w = extent_within (length file) file (omega arith) some in omega arith

  cut_some : (c : List ℕ) → Cut (end + 1) file c → 0 < length file → rows_of c ≡ rows_of file
  cut_some c cut some =
      let w = within some in
      let n = cut.no_shorter in
      let l = ap length cut.front in
      let m = length-take (length c) file in
      ap rows_of (sym cut.front) ∙ (cut_rows file (length c) (omega arith) (omega arith)).rows

  pub cut_image : (c : List ℕ) → Cut (end + 1) file c → rows_of c ≡ rows_of file
  cut_image c cut = elim (cases_lt 0 (length file)) [ inl some ↦ cut_some c cut some | inr none ↦ ap rows_of (sym cut.front ∙ take_all (length c) file (omega (arith, ap length cut.front, length-take (length c) file))) ]

  pub cut_left : (old_leave : List ℕ → Type 0) → Only file old_leave → (c : List ℕ) → After (Cut (end + 1)) old_leave c → rows_of c ≡ rows_of file
  cut_left old_leave only c from = cut_image c (subst (λ (d : List ℕ). Cut (end + 1) d c) (only from.0 from.1) from.2)

  pub nothing_cut : length file ≡ 0 → file ≡ take (end + 1) file
  nothing_cut none = sym (take_all (end + 1) file (omega arith))

  -- the file that was cut
  mid : List ℕ
  mid = take (end + 1) file

  pub mid_size : length (take (end + 1) file) ≤ end + 1
  mid_size = let l = length-take (end + 1) file in omega arith

  mid_long : 0 < end → end < length (take (end + 1) file)
  mid_long some = let l = length-take (end + 1) file in elim (cases_lt 0 (length file)) [
    | inl more ↦ let w = within more in omega arith
    | inr none ↦ let z = no_frames (omega arith) in omega arith
  ]

  pub reach : end ≤ length (take (end + 1) file)
  reach = elim (cases_lt 0 end) [
    | inl some ↦ let l = mid_long some in omega arith
    | inr none ↦ omega arith
  ]

  front : (c : List ℕ) → take end c ≡ take end file → (0 < end → end < length c) → length (drop end c) ≤ 9 ⊎ (get_or (drop end c) 0 0 ≢ 1) → IsSame file c
  front c same long tail =
      same_rows file c (subst (λ (k : ℕ). take k c ≡ take k file) place same) (λ some. subst (λ (k : ℕ). k < length c) place (long (omega arith)))
      (subst (λ (k : ℕ). counts (drop k c) ≡ false) place (⊎_elim (λ short. short_file (drop end c) short) (λ shut. closed_gate (drop end c) shut) tail))

  pub end_image : (c : List ℕ) → Torn end 1 (take (end + 1) file) c → rows_of c ≡ rows_of file
  end_image c torn =
      let m = mid_size in
      let s = torn.no_shorter in
      let l = torn.no_longer in
      let d = length-drop end c in
      (front c (torn_front end 1 (take (end + 1) file) c reach torn ∙ take-take end (end + 1) file (omega arith)) (λ some. let w = mid_long some in omega arith) (inl (omega arith))).rows

  pub end_left : (mid_leave : List ℕ → Type 0) (now : List ℕ) → now ≡ take (end + 1) file → Only now mid_leave → (c : List ℕ) → After (Torn end 1) mid_leave c → rows_of c ≡ rows_of file
  end_left mid_leave now is only c from = end_image c (subst (λ (d : List ℕ). Torn end 1 d c) (only from.0 from.1 ∙ is) from.2)

  size_front : length (take end file) ≡ end
  size_front = let l = length-take end file in let m = length-take (end + 1) file in let r = reach in omega arith

  closed_same : IsSame file (closed_at end file)
  closed_same =
      let s = size_front in
      let l = length-append (take end file) (0 ∷ []) in
      front (closed_at end file) (take_at (take end file) (0 ∷ []) end s) (λ _. omega arith) (inr (λ e. absurd (let z : get_or (drop end (closed_at end file)) 0 0 ≡ 0 = ap (λ (t : List ℕ). get_or t 0 0) (drop_at (take end file) (0 ∷ []) end s) in omega arith)))

  pub mended : (now new : List ℕ) (new_leave : List ℕ → Type 0) → now ≡ take (end + 1) file → Holds now end (0 ∷ []) new → Only new new_leave → IsMended end file new new_leave
  mended now new new_leave is holds only =
      let m = mid_size in
      let s = size_front in
      let held : Holds (take (end + 1) file) end (0 ∷ []) new = subst (λ (d : List ℕ). Holds d end (0 ∷ []) new) is holds in
      let new_is : new ≡ closed_at end file =
      held ∙ (λ i. (take-take end (end + 1) file (omega arith) i ++ 0 ∷ []) ++ drop_all (end + 1) (take (end + 1) file) m i) ∙ append-nil (take end file ++ 0 ∷ []) in
      let front_is : take end new ≡ take end file = ap (λ (l : List ℕ). take end l) new_is ∙ take_at (take end file) (0 ∷ []) end s in
      let closed : closed_at end new ≡ closed_at end file = ap (λ (l : List ℕ). l ++ 0 ∷ []) front_is in
      let size = ap length new_is ∙ length-append (take end file) (0 ∷ []) in
      let gate : get_or new end 0 ≡ 0 = ap (λ (l : List ℕ). get_or l end 0) new_is ∙ get_or_at (take end file) 0 [] 0 end s in
      record {
        is = new_is;
        rows = ap rows_of new_is ∙ closed_same.rows;
        ready =
            record {
              frames = ap extent closed ∙ closed_same.end ∙ sym place;
              long = λ c left. let e = ap length (only c left) in omega arith;
              same = λ c left. ap (λ (l : List ℕ). take end l) (only c left);
              closed = λ _ c left one. let e : get_or c end 0 ≡ get_or new end 0 = ap (λ (l : List ℕ). get_or l end 0) (only c left) in absurd (omega arith);
              behind = λ e. absurd cc;
            };
        acknowledges = ap rows_of closed ∙ closed_same.rows;
        durable = only;
      }

pub bool_empty : (n : ℕ) (b : Bool) → b ≡ eqb n 0 → b ≡ true → n ≡ 0
bool_empty n b is yes_it_is = eqb-true n 0 (sym is ∙ yes_it_is)

pub bool_some : (n : ℕ) (b : Bool) → b ≡ eqb n 0 → b ≡ false → 0 < n
bool_some zero b is shut = absurd (let e : b ≡ true = is in cc)
bool_some (suc n) b is shut = omega arith
