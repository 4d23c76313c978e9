-- What a file stands for where its front is that of another, and a closed gate, a short end or one frame more stands behind it.
use Rattle.std.proofs.Common.{◌≡◌, ℕ, suc, ◌+◌, ◌-◌, ◌<◌, ◌≤◌, ◌^◌, true, false, List, [], ◌∷◌, ◌++◌, map, length, get_or, take, drop, refl, sym, ap, subst, ◌∙◌, arith, length-take, length-append, append_assoc, Option}
use Rattle.std.specs.Int.{w64, from_be_bytes, to_be_bytes}
use Rattle.std.specs.FinMap as maps
use Rattle.std.proofs.lemmas.Nat.{from_be_bytes-to_be_bytes_8}
use Rattle.std.proofs.lemmas.List.{take-take, take_at, drop_at, drop-drop, drop-take, map-append, append-nil}
use Rattle.oe_keeper.specs.Kept.{Kept, rows_after_changes}
use Rattle.oe_keeper.specs.declared.change.RowChange.{RowChange}
use Rattle.oe_journal.specs.Spelling.{spelled, block, AreChanges}
use Rattle.oe_journal.specs.Frames.{size_at, counts, payload, frames_after, frames, extent, list_of, or_damaged, lists_of, rows_after, rows_of}
use Rattle.oe_journal.proofs.FrameRuns.{counts_true, counts_is, counts_not, closed_gate, frames_counts, frames_closed, extent_counts, extent_closed, counts_no_more, same_part, same_first, front, size_same}
use Rattle.oe_journal.proofs.Again.{changes_again}

rows_append : (rows : Kept) (xs ys : List (List RowChange)) → rows_after rows (xs ++ ys) ≡ rows_after (rows_after rows xs) ys
rows_append rows [] ys = refl
rows_append rows (x ∷ xs) ys = rows_append (rows_after_changes rows x) xs ys

-- the rows of a file whose front is all the frames of another
rows_on : (base c : List ℕ) (more : List (ℕ × List ℕ)) → frames c ≡ frames base ++ more → rows_of c ≡ rows_after (rows_of base) (map list_of more)
unfolding rows_of
rows_on base c more e = ap (λ (l : List (ℕ × List ℕ)). rows_after maps.empty (map list_of l)) e ∙ ap (rows_after maps.empty) (map-append list_of (frames base) more) ∙ rows_append maps.empty (lists_of base) (map list_of more)

-- ---- nothing more

pub record IsSame (base c : List ℕ) : Type 0 where
  pub rows : rows_of c ≡ rows_of base
  pub end : extent c ≡ extent base

pub same_rows : (base c : List ℕ) → take (extent base) c ≡ take (extent base) base → (0 < extent base → extent base < length c) → counts (drop (extent base) c) ≡ false → IsSame base c
same_rows base c same long shut =
    let f = front (length base) 0 base c (omega arith) same long in
    let nothing : frames_after 0 (0 + extent base) (drop (extent base) c) ≡ [] = frames_closed _ _ shut in
    let z : extent (drop (extent base) c) ≡ 0 = extent_closed _ shut in
    let e = f.extent_is in
    record {
      rows = rows_on base c [] (f.frames_are ∙ ap (λ (l : List (ℕ × List ℕ)). frames base ++ l) nothing);
      end = omega arith;
    }

-- a front of what does not count does not count
counts_front : (m : ℕ) (xs : List ℕ) → counts xs ≡ false → counts (take m xs) ≡ false
counts_front m xs shut =
    counts_not (take m xs) (λ h.
    let fact = counts_true (take m xs) h in
    let long = fact.1 in
    let len = length-take m xs in
    let size : size_at (take m xs) ≡ size_at xs = size_same xs (take m xs) (same_part m 1 8 xs (take m xs) (take-take m m xs (omega arith)) (omega arith)) in
    let gate : get_or (take m xs) 0 0 ≡ get_or xs 0 0 = same_first m xs (take m xs) (take-take m m xs (omega arith)) (omega arith) in
    let whole : counts xs ≡ true = counts_is xs (sym gate ∙ fact.0) (omega arith) in
    absurd cc)

drop-take_front : (e m : ℕ) (xs : List ℕ) → e ≤ m → drop e (take m xs) ≡ take (m - e) (drop e xs)
drop-take_front e m xs le = let q : m ≡ e + (m - e) = omega arith in ap (λ (k : ℕ). drop e (take k xs)) q ∙ lemma
  where
    lemma : drop e (take (e + (m - e)) xs) ≡ take (m - e) (drop e xs)
    lemma = drop-take e (m - e) xs

-- any cut behind the first gate that does not count keeps the rows
pub cut_rows : (file : List ℕ) (m : ℕ) → extent file < m → m ≤ length file → IsSame file (take m file)
cut_rows file m lt le =
    let len = length-take m file in
    same_rows file (take m file) (take-take (extent file) m file (omega arith)) (λ _. omega arith)
    (subst (λ (l : List ℕ). counts l ≡ false) (sym (drop-take_front (extent file) m file (omega arith))) (counts_front (m - extent file) (drop (extent file) file) (counts_no_more (length file) file (omega arith))))

-- ---- one frame more

pub record IsOpen (p junk : List ℕ) (xs : List ℕ) : Type 0 where
  pub whole : counts xs ≡ true
  pub size : size_at xs ≡ length p
  pub holds : payload xs ≡ p
  pub rest : drop (9 + length p) xs ≡ 0 ∷ junk

pub block_open : (p junk : List ℕ) → length p < 2 ^ 64 → IsOpen p junk (1 ∷ block p ++ junk)
unfolding size_at
block_open p junk fits =
    let bytes = to_be_bytes w64 (length p) in
    let tail = p ++ 0 ∷ junk in
    let split : block p ++ junk ≡ bytes ++ tail = append_assoc (bytes ++ p) (0 ∷ []) junk ∙ append_assoc bytes p (0 ∷ junk) in
    let size : size_at (1 ∷ block p ++ junk) ≡ length p = ap (λ (l : List ℕ). from_be_bytes w64 (take 8 l)) split ∙ ap (λ (l : List ℕ). from_be_bytes w64 l) (take_at bytes tail 8 refl) ∙ from_be_bytes-to_be_bytes_8 (length p) fits in
    let behind : drop 8 (block p ++ junk) ≡ tail = ap (λ (l : List ℕ). drop 8 l) split ∙ drop_at bytes tail 8 refl in
    let rest : drop (8 + length p) (block p ++ junk) ≡ 0 ∷ junk = sym (drop-drop (length p) 8 (block p ++ junk)) ∙ ap (λ (l : List ℕ). drop (length p) l) behind ∙ drop_at p (0 ∷ junk) (length p) refl in
    let len_all = length-append bytes tail in
    let len_tail = length-append p (0 ∷ junk) in
    let len = ap length split in
    let nine : suc (8 + length p) ≡ 9 + length p = omega arith in
    record {
      whole = counts_is (1 ∷ block p ++ junk) refl (omega arith);
      size = size;
      holds = ap (λ (k : ℕ). take k (drop 8 (block p ++ junk))) size ∙ ap (λ (l : List ℕ). take (length p) l) behind ∙ take_at p (0 ∷ junk) (length p) refl;
      rest = ap (λ (k : ℕ). drop k (1 ∷ block p ++ junk)) (sym nine) ∙ rest;
    }

-- a file that is one frame stands for its list
pub one_list : (frame : List ℕ) (changes : List RowChange) → frame ≡ 1 ∷ block (spelled changes) → length (spelled changes) < 2 ^ 64 → AreChanges changes → lists_of frame ≡ changes ∷ []
one_list frame changes is fits are =
    let p = spelled changes in
    let same : 1 ∷ block p ++ [] ≡ frame = ap (λ (l : List ℕ). 1 ∷ l) (append-nil (block p)) ∙ sym is in
    let is_open : IsOpen p [] frame = subst (IsOpen p []) same (block_open p [] fits) in
    let shut : counts (drop (9 + size_at frame) frame) ≡ false = subst (λ (k : ℕ). counts (drop (9 + k) frame) ≡ false) (sym is_open.size) (subst (λ (l : List ℕ). counts l ≡ false) (sym is_open.rest) (closed_gate (0 ∷ []) (λ e. absurd (omega arith)))) in
    let one : frames frame ≡ (0, p) ∷ [] =
    frames_counts 0 frame is_open.whole ∙ ap (λ (l : List (ℕ × List ℕ)). (0, payload frame) ∷ l) (frames_closed _ _ shut) ∙ ap (λ (q : List ℕ). (0, q) ∷ []) is_open.holds in
    ap (λ (l : List (ℕ × List ℕ)). map list_of l) one ∙ ap (λ (read : Option (List RowChange)). or_damaged 0 read ∷ []) (changes_again changes are)

pub record HasMore (base : List ℕ) (changes : List RowChange) (c : List ℕ) : Type 0 where
  pub rows : rows_of c ≡ rows_after_changes (rows_of base) changes
  pub end : extent c ≡ extent base + (9 + length (spelled changes))

pub one_more : (base c junk : List ℕ) (changes : List RowChange) → take (extent base) c ≡ take (extent base) base → (0 < extent base → extent base < length c) → drop (extent base) c ≡ 1 ∷ block (spelled changes) ++ junk
    → length (spelled changes) < 2 ^ 64 → AreChanges changes → HasMore base changes c
one_more base c junk changes same long behind fits are =
    let p = spelled changes in
    let xs = drop (extent base) c in
    let f = front (length base) 0 base c (omega arith) same long in
    let is_open : IsOpen p junk xs = subst (IsOpen p junk) (sym behind) (block_open p junk fits) in
    let shut : counts (drop (9 + size_at xs) xs) ≡ false = subst (λ (k : ℕ). counts (drop (9 + k) xs) ≡ false) (sym is_open.size) (subst (λ (l : List ℕ). counts l ≡ false) (sym is_open.rest) (closed_gate (0 ∷ junk) (λ e. absurd (omega arith)))) in
    let at : ℕ = 0 + extent base in
    let more : frames_after 0 at xs ≡ (at, p) ∷ [] =
    frames_counts at xs is_open.whole ∙ ap (λ (l : List (ℕ × List ℕ)). (at, payload xs) ∷ l) (frames_closed _ _ shut) ∙ ap (λ (q : List ℕ). (at, q) ∷ []) is_open.holds in
    let list : list_of (at, p) ≡ changes = ap (or_damaged at) (changes_again changes are) in
    let e1 = f.extent_is in
    let e2 = extent_counts xs is_open.whole in
    let e3 = extent_closed _ shut in
    let e4 = is_open.size in
    record {
      rows = rows_on base c ((at, p) ∷ []) (f.frames_are ∙ ap (λ (l : List (ℕ × List ℕ)). frames base ++ l) more) ∙ ap (rows_after_changes (rows_of base)) list;
      end = omega arith;
    }
