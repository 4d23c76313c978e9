-- What a torn gate, a staged block and a cut make of a file.
use Rattle.std.proofs.Common.{◌≡◌, ◌≢◌, ℕ, ◌+◌, ◌<◌, ◌≤◌, min, ◌^◌, false, List, [], ◌∷◌, ◌++◌, length, get_or, take, drop, sym, ap, subst, ◌∙◌, arith, append_assoc, length-append, length-take, length-drop, take-append-drop}
use Rattle.std.proofs.lemmas.List.{take_at, drop_at, drop_more, take-take, drop-drop, get_or-drop, get_or_at, get_or-take}
use Rattle.oe_keeper.specs.declared.change.RowChange.{RowChange}
use Rattle.crash_disks.specs.Bytes.{Holds, Torn}
use Rattle.oe_journal.specs.Spelling.{spelled, block, AreChanges}
use Rattle.oe_journal.specs.Frames.{counts, extent}
use Rattle.oe_journal.proofs.FrameRuns.{closed_gate}
use Rattle.oe_journal.proofs.Meaning.{IsSame, same_rows, HasMore, one_more}
use Rattle.oe_journal.specs.Standing.{gated, closed_at}

pub torn_front : (at n : ℕ) (old new : List ℕ) → at ≤ length old → Torn at n old new → take at new ≡ take at old
torn_front at n old new le torn = let e : min at (length old) ≡ at = omega arith in subst (λ (k : ℕ). take k new ≡ take k old) e torn.before

-- ---- one byte at a gate

module _ (end : ℕ) (d : List ℕ) (within : end < length d) where
  size : length (take end d) ≡ end
  size = let l = length-take end d in omega arith

  pub gated-take : (g : ℕ) → take end (gated end g d) ≡ take end d
  gated-take g = take_at (take end d) (g ∷ drop (end + 1) d) end size

  pub gated-drop : (g : ℕ) → drop end (gated end g d) ≡ g ∷ drop (end + 1) d
  gated-drop g = drop_at (take end d) (g ∷ drop (end + 1) d) end size

  pub gated-behind : (g : ℕ) → drop (end + 1) (gated end g d) ≡ drop (end + 1) d
  gated-behind g = sym (drop-drop 1 end (gated end g d)) ∙ ap (λ (l : List ℕ). drop 1 l) (gated-drop g)

  pub gated-length : (g : ℕ) → length (gated end g d) ≡ length d
  gated-length g = let a = length-append (take end d) (g ∷ drop (end + 1) d) in let b = length-drop (end + 1) d in let s = size in omega arith

  pub gated-gate : (g : ℕ) → get_or (gated end g d) end 0 ≡ g
  gated-gate g = get_or_at (take end d) g (drop (end + 1) d) 0 end size

  pub gated-gated : (g h : ℕ) → gated end g (gated end h d) ≡ gated end g d
  gated-gated g h = (λ i. gated-take h i ++ g ∷ gated-behind h i)

  -- a file with the same front and the same rest is this one with its own byte there
  pub gated_from : (c : List ℕ) → end < length c → take end c ≡ take end d → drop (end + 1) c ≡ drop (end + 1) d → c ≡ gated end (get_or c end 0) d
  gated_from c long front back = sym (take-append-drop end c) ∙ ap (λ (l : List ℕ). take end c ++ l) (drop_more c end 0 long) ∙ (λ i. front i ++ get_or c end 0 ∷ back i)

  pub torn_gate : (c : List ℕ) → Torn end 1 d c → c ≡ gated end (get_or c end 0) d
  torn_gate c torn = let s = torn.no_shorter in gated_from c (omega arith) (torn_front end 1 d c (omega arith) torn) torn.after

  pub holds_gate : (g : ℕ) (c : List ℕ) → Holds d end (g ∷ []) c → c ≡ gated end g d
  holds_gate g c holds = holds ∙ append_assoc (take end d) (g ∷ []) (drop (end + 1) d)

  pub holds_behind : (g : ℕ) (c : List ℕ) → Holds d end (g ∷ []) c → drop (end + 1) c ≡ drop (end + 1) d
  holds_behind g c holds = ap (λ (l : List ℕ). drop (end + 1) l) (holds_gate g c holds) ∙ gated-behind g

-- ---- the rows of a file whose front is the acknowledged frames

module _ (end : ℕ) (file : List ℕ) (within : end < length file) (frames : extent (closed_at end file) ≡ end) where
  base_take : take end (closed_at end file) ≡ take end file
  base_take = take_at (take end file) (0 ∷ []) end (size end file within)

  front_of : (c : List ℕ) → take end c ≡ take end file → take (extent (closed_at end file)) c ≡ take (extent (closed_at end file)) (closed_at end file)
  front_of c same = subst (λ (k : ℕ). take k c ≡ take k (closed_at end file)) (sym frames) (same ∙ sym base_take)

  pub closed_rows : (c : List ℕ) → take end c ≡ take end file → end < length c → get_or c end 0 ≢ 1 → IsSame (closed_at end file) c
  closed_rows c same long shut =
      same_rows (closed_at end file) c (front_of c same) (λ _. omega (arith, frames))
      (subst (λ (k : ℕ). counts (drop k c) ≡ false) (sym frames) (closed_gate (drop end c) (λ e. shut (sym (get_or-drop end c 0 0 ∙ ap (λ (k : ℕ). get_or c k 0) zero_more) ∙ e))))
    where
      zero_more : end + 0 ≡ end
      zero_more = omega arith

  pub open_rows : (c junk : List ℕ) (changes : List RowChange) → take end c ≡ take end file → end < length c → drop end c ≡ 1 ∷ block (spelled changes) ++ junk → length (spelled changes) < 2 ^ 64 → AreChanges changes
      → HasMore (closed_at end file) changes c
  open_rows c junk changes same long behind fits are =
      one_more (closed_at end file) c junk changes (front_of c same) (λ _. omega (arith, frames)) (subst (λ (k : ℕ). drop k c ≡ 1 ∷ block (spelled changes) ++ junk) (sym frames) behind) fits are

-- ---- a block behind the gate

module _ (end : ℕ) (d : List ℕ) (within : end < length d) where
  pub torn_behind-gate : (n : ℕ) (c : List ℕ) → Torn (end + 1) n d c → (take end c ≡ take end d) × (get_or c end 0 ≡ get_or d end 0) × (end < length c)
  torn_behind-gate n c torn =
      let s = torn.no_shorter in
      let before : take (end + 1) c ≡ take (end + 1) d = torn_front (end + 1) n d c (omega arith) torn in
      let front : take end c ≡ take end d = sym (take-take end (end + 1) c (omega arith)) ∙ ap (λ (l : List ℕ). take end l) before ∙ take-take end (end + 1) d (omega arith) in
      let gate : get_or c end 0 ≡ get_or d end 0 =
      sym (get_or-take (end + 1) c end 0 (omega arith)) ∙ ap (λ (l : List ℕ). get_or l end 0) before ∙ get_or-take (end + 1) d end 0 (omega arith) in
      (front, gate, omega arith)

  -- the file with the block staged behind the gate
  pub record IsStaged (bytes c : List ℕ) : Type 0 where
    pub front : take end c ≡ take end d
    pub gate : get_or c end 0 ≡ get_or d end 0
    pub long : end < length c
    pub behind : drop (end + 1) c ≡ bytes ++ drop (end + 1 + length bytes) d

  pub staged : (bytes c : List ℕ) → Holds d (end + 1) bytes c → IsStaged bytes c
  staged bytes c holds =
      let len = length-take (end + 1) d in
      let whole : c ≡ take (end + 1) d ++ (bytes ++ drop (end + 1 + length bytes) d) = holds ∙ append_assoc (take (end + 1) d) bytes (drop (end + 1 + length bytes) d) in
      let all = ap length whole ∙ length-append (take (end + 1) d) (bytes ++ drop (end + 1 + length bytes) d) in
      let front1 : take (end + 1) c ≡ take (end + 1) d = ap (λ (l : List ℕ). take (end + 1) l) whole ∙ take_at (take (end + 1) d) _ (end + 1) (omega arith) in
      record {
        front = sym (take-take end (end + 1) c (omega arith)) ∙ ap (λ (l : List ℕ). take end l) front1 ∙ take-take end (end + 1) d (omega arith);
        gate = sym (get_or-take (end + 1) c end 0 (omega arith)) ∙ ap (λ (l : List ℕ). get_or l end 0) front1 ∙ get_or-take (end + 1) d end 0 (omega arith);
        long = omega arith;
        behind = ap (λ (l : List ℕ). drop (end + 1) l) whole ∙ drop_at (take (end + 1) d) _ (end + 1) (omega arith);
      }
