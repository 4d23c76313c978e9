-- The steps of an apply, as what they make of the files that a crash may leave.
use Rattle.std.proofs.Common.{◌≡◌, ◌⊎◌, inl, inr, ⊎_elim, ℕ, ◌+◌, ◌<◌, Bool, true, false, List, [], ◌∷◌, ◌++◌, length, get_or, take, drop, refl, sym, ap, subst, ◌∙◌, arith, append_assoc, length-append, length-take}
use Rattle.std.specs.Int.{w64, to_be_bytes}
use Rattle.std.proofs.lemmas.Bool.{cases_eq}
use Rattle.std.proofs.lemmas.List.{take_at, drop_at, get_or-drop, drop-drop}
use Rattle.oe_keeper.specs.Kept.{Kept, rows_after_changes}
use Rattle.oe_keeper.specs.declared.change.RowChange.{RowChange}
use Rattle.crash_disks.specs.Bytes.{Holds, Torn}
use Rattle.crash_disks.specs.Crash.{Only, After, Follows}
use Rattle.oe_journal.specs.Spelling.{spelled, block}
use Rattle.oe_journal.specs.Frames.{counts, extent, rows_of}
use Rattle.oe_journal.proofs.FrameRuns.{closed_gate, extent_within}
use Rattle.oe_journal.proofs.Meaning.{IsSame, same_rows, IsOpen, block_open, HasMore}
use Rattle.oe_journal.specs.Standing.{gated, closed_at, acknowledged, MayStand, MayStandWith, IsReady, StaysReady, IsUnappended, IsAppended, IsStagedAt, IsBlock}
use Rattle.oe_journal.proofs.Images.{gated-take, gated-drop, gated-behind, gated-length, gated-gate, gated-gated, torn_gate, holds_gate, closed_rows, open_rows, torn_front, torn_behind-gate, staged}

no_such : (false ≡ true) → ⊥
no_such e = absurd cc

-- ---- the gate is settled

module _ (end : ℕ) (old : List ℕ) (old_leave : List ℕ → Type 0) (here : old_leave old) (ready : IsReady old old_leave end true) where
  -- another byte at the gate
  pub settle_image : (c : List ℕ) → After (Torn end 1) old_leave c → MayStand true end old_leave (rows_of c)
  settle_image c from =
      let d = from.0 in
      let is = torn_gate end d (ready.long d from.1) c from.2 in
      (d, from.1, inr (refl, (get_or c end 0, ap rows_of is)))

  pub settle_err : (new : List ℕ) (new_leave : List ℕ → Type 0) → new_leave new → Follows (Torn end 1) old_leave new_leave → StaysReady end true old old_leave true new new_leave
  settle_err new new_leave there follows =
      let front : (c : List ℕ) → new_leave c → take end c ≡ take end old = λ c left. let from = follows c left in let long = ready.long from.0 from.1 in torn_front end 1 from.0 c (omega arith) from.2 ∙ ready.same from.0 from.1 in
      let back : (c : List ℕ) → new_leave c → drop (end + 1) c ≡ drop (end + 1) old = λ c left. let from = follows c left in from.2.after ∙ ready.behind refl from.0 from.1 in
      let closed : closed_at end new ≡ closed_at end old = ap (λ (l : List ℕ). l ++ 0 ∷ []) (front new there) in
      record {
        ready =
            record {
              frames = ap extent closed ∙ ready.frames;
              long = λ c left. let from = follows c left in let l = ready.long from.0 from.1 in let s = from.2.no_shorter in omega arith;
              same = λ c left. front c left ∙ sym (front new there);
              closed = λ e. absurd cc;
              behind = λ _ c left. back c left ∙ sym (back new there);
            };
        same = front new there;
        stands = λ rows stand.
            let c = stand.0 in
            let from = follows c stand.1 in
            let d = from.0 in
            let is = torn_gate end d (ready.long d from.1) c from.2 in
            ⊎_elim (λ e. (d, from.1, inr (refl, (get_or c end 0, e ∙ ap rows_of is))))
            (λ other. (d, from.1, inr (refl, (other.1.0, other.1.1 ∙ ap (λ (l : List ℕ). rows_of (gated end other.1.0 l)) is ∙ ap rows_of (gated-gated end d (ready.long d from.1) other.1.0 (get_or c end 0)))))) stand.2;
      }

  pub settle_ok : (new : List ℕ) (new_leave : List ℕ → Type 0) → Holds old end (0 ∷ []) new → Only new new_leave → StaysReady end true old old_leave false new new_leave
  settle_ok new new_leave holds only =
      let long = ready.long old here in
      let is : new ≡ gated end 0 old = holds_gate end old long 0 new holds in
      let front : take end new ≡ take end old = ap (λ (l : List ℕ). take end l) is ∙ gated-take end old long 0 in
      let size : length new ≡ length old = ap length is ∙ gated-length end old long 0 in
      let gate : get_or new end 0 ≡ 0 = ap (λ (l : List ℕ). get_or l end 0) is ∙ gated-gate end old long 0 in
      record {
        ready =
            record {
              frames = ap (λ (l : List ℕ). extent (l ++ 0 ∷ [])) front ∙ ready.frames;
              long = λ c left. let e = ap length (only c left) in omega arith;
              same = λ c left. ap (λ (l : List ℕ). take end l) (only c left);
              closed = λ _ c left one. let e : get_or c end 0 ≡ get_or new end 0 = ap (λ (l : List ℕ). get_or l end 0) (only c left) in absurd (omega arith);
              behind = λ e. absurd cc;
            };
        same = front;
        stands = λ rows stand. ⊎_elim (λ e. (old, here, inr (refl, (0, e ∙ ap rows_of (only stand.0 stand.1 ∙ is))))) (λ other. absurd (no_such other.0)) stand.2;
      }

pub nothing_settled : (end : ℕ) (old : List ℕ) (old_leave : List ℕ → Type 0) (b : Bool) → IsReady old old_leave end b → StaysReady end b old old_leave b old old_leave
nothing_settled end old old_leave b ready = record { ready = ready; same = refl; stands = λ rows stand. stand }

-- ---- the block is staged

module _ (end : ℕ) (old : List ℕ) (old_leave : List ℕ → Type 0) (here : old_leave old) (ready : IsReady old old_leave end false) where
  long_old : end < length old
  long_old = ready.long old here

  pub acknowledged_now : (c : List ℕ) → old_leave c → rows_of c ≡ acknowledged end old
  acknowledged_now c left = (closed_rows end old long_old ready.frames c (ready.same c left) (ready.long c left) (ready.closed refl c left)).rows

  pub stage_rows : (n : ℕ) (c : List ℕ) (from : After (Torn (end + 1) n) old_leave c) → rows_of c ≡ rows_of from.0
  stage_rows n c from =
      let d = from.0 in
      let t = torn_behind-gate end d (ready.long d from.1) n c from.2 in
      (closed_rows end old long_old ready.frames c (t.0 ∙ ready.same d from.1) t.2 (λ one. ready.closed refl d from.1 (sym t.1 ∙ one))).rows ∙ sym (acknowledged_now d from.1)

  pub stage_image : (n : ℕ) (c : List ℕ) → After (Torn (end + 1) n) old_leave c → MayStand false end old_leave (rows_of c)
  stage_image n c from = (from.0, from.1, inl (stage_rows n c from))

  pub stage_err : (n : ℕ) (new : List ℕ) (new_leave : List ℕ → Type 0) → new_leave new → Follows (Torn (end + 1) n) old_leave new_leave → StaysReady end false old old_leave false new new_leave
  stage_err n new new_leave there follows =
      let torn : (c : List ℕ) (left : new_leave c) → (take end c ≡ take end (follows c left).0) × (get_or c end 0 ≡ get_or (follows c left).0 end 0) × (end < length c) = λ c left.
      let from = follows c left in torn_behind-gate end from.0 (ready.long from.0 from.1) n c from.2 in
      let front : (c : List ℕ) → new_leave c → take end c ≡ take end old = λ c left. (torn c left).0 ∙ ready.same (follows c left).0 (follows c left).1 in
      record {
        ready =
            record {
              frames = ap (λ (l : List ℕ). extent (l ++ 0 ∷ [])) (front new there) ∙ ready.frames;
              long = λ c left. (torn c left).2;
              same = λ c left. front c left ∙ sym (front new there);
              closed = λ _ c left one. ready.closed refl (follows c left).0 (follows c left).1 (sym (torn c left).1 ∙ one);
              behind = λ e. absurd cc;
            };
        same = front new there;
        stands = λ rows stand. ⊎_elim (λ e. ((follows stand.0 stand.1).0, (follows stand.0 stand.1).1, inl (e ∙ stage_rows n stand.0 (follows stand.0 stand.1)))) (λ other. absurd (no_such other.0)) stand.2;
      }

  pub stage_ok : (bytes new : List ℕ) (new_leave : List ℕ → Type 0) → Holds old (end + 1) bytes new → Only new new_leave → IsStagedAt end bytes old new new_leave
  stage_ok bytes new new_leave holds only =
      let s = staged end old long_old bytes new holds in
      record { front = s.front; gate = s.gate; long = s.long; behind = s.behind; durable = only }

  -- ---- the gate is opened

  module _ (changes : List RowChange) (bytes mid : List ℕ) (mid_leave : List ℕ → Type 0) (is_block : IsBlock bytes changes) (on_disk : IsStagedAt end bytes old mid mid_leave) where
    junk : List ℕ
    junk = drop (end + 1 + length bytes) old

    behind : drop (end + 1) mid ≡ block (spelled changes) ++ junk
    unfolding junk
    behind = on_disk.behind ∙ ap (λ (l : List ℕ). l ++ drop (end + 1 + length bytes) old) is_block.is

    opened : (g : ℕ) → g ≡ 1 → HasMore (closed_at end old) changes (gated end g mid)
    opened g one =
        open_rows end old long_old ready.frames (gated end g mid) junk changes (gated-take end mid on_disk.long g ∙ on_disk.front) (let l = gated-length end mid on_disk.long g in let m = on_disk.long in omega arith)
        (gated-drop end mid on_disk.long g ∙ (λ i. one i ∷ behind i)) is_block.bound is_block.fits

    pub gate_rows : (g : ℕ) → (rows_of (gated end g mid) ≡ acknowledged end old) ⊎ (rows_of (gated end g mid) ≡ rows_after_changes (acknowledged end old) changes)
    gate_rows g =
        elim (cases_eq g 1) [
          | inl one ↦ inr (opened g one).rows
          | inr shut ↦
              let l = gated-length end mid on_disk.long g in
              let m = on_disk.long in
              inl (closed_rows end old long_old ready.frames (gated end g mid) (gated-take end mid on_disk.long g ∙ on_disk.front) (omega arith) (λ one. shut (sym (gated-gate end mid on_disk.long g) ∙ one))).rows
        ]

    with_rows : (rows : Kept) (g : ℕ) → rows ≡ rows_of (gated end g mid) → MayStandWith false end old_leave old changes rows
    with_rows rows g e = ⊎_elim (λ was. inl (old, here, inl (e ∙ was ∙ sym (acknowledged_now old here)))) (λ more. inr (e ∙ more)) (gate_rows g)

    torn_mid : (c : List ℕ) → After (Torn end 1) mid_leave c → c ≡ gated end (get_or c end 0) mid
    torn_mid c from = torn_gate end mid on_disk.long c (subst (λ (d : List ℕ). Torn end 1 d c) (on_disk.durable from.0 from.1) from.2)

    pub open_image : (c : List ℕ) → After (Torn end 1) mid_leave c → MayStandWith false end old_leave old changes (rows_of c)
    open_image c from = with_rows (rows_of c) (get_or c end 0) (ap rows_of (torn_mid c from))

    pub open_err : (new : List ℕ) (new_leave : List ℕ → Type 0) → new_leave new → Follows (Torn end 1) mid_leave new_leave → IsUnappended end changes false old old_leave true new new_leave
    open_err new new_leave there follows =
        let is : (c : List ℕ) → new_leave c → c ≡ gated end (get_or c end 0) mid = λ c left. torn_mid c (follows c left) in
        let front : (c : List ℕ) → new_leave c → take end c ≡ take end old = λ c left. ap (λ (l : List ℕ). take end l) (is c left) ∙ gated-take end mid on_disk.long (get_or c end 0) ∙ on_disk.front in
        let back : (c : List ℕ) → new_leave c → drop (end + 1) c ≡ drop (end + 1) mid = λ c left. ap (λ (l : List ℕ). drop (end + 1) l) (is c left) ∙ gated-behind end mid on_disk.long (get_or c end 0) in
        record {
          ready =
              record {
                frames = ap (λ (l : List ℕ). extent (l ++ 0 ∷ [])) (front new there) ∙ ready.frames;
                long = λ c left. let l = ap length (is c left) ∙ gated-length end mid on_disk.long (get_or c end 0) in let m = on_disk.long in omega arith;
                same = λ c left. front c left ∙ sym (front new there);
                closed = λ e. absurd cc;
                behind = λ _ c left. back c left ∙ sym (back new there);
              };
          same = front new there;
          stands = λ rows stand.
              let c = stand.0 in
              ⊎_elim (λ e. with_rows rows (get_or c end 0) (e ∙ ap rows_of (is c stand.1)))
              (λ other. with_rows rows other.1.0 (other.1.1 ∙ ap (λ (l : List ℕ). rows_of (gated end other.1.0 l)) (is c stand.1) ∙ ap rows_of (gated-gated end mid on_disk.long other.1.0 (get_or c end 0)))) stand.2;
        }

    held : (new : List ℕ) → Holds mid end (1 ∷ []) new → Holds old end (1 ∷ block (spelled changes)) new
    unfolding junk
    held new holds =
        let size = ap length is_block.is in
        let k : end + 1 + length bytes ≡ end + length (1 ∷ block (spelled changes)) = omega arith in
        holds_gate end mid on_disk.long 1 new holds
        ∙ (λ i. on_disk.front i ++ 1 ∷ behind i)
        ∙ sym (append_assoc (take end old) (1 ∷ block (spelled changes)) (drop (end + 1 + length bytes) old)) ∙ ap (λ (n : ℕ). (take end old ++ 1 ∷ block (spelled changes)) ++ drop n old) k

    pub open_ok : (new_end : ℕ) (new : List ℕ) (new_leave : List ℕ → Type 0) → new_end ≡ end + length bytes → Holds mid end (1 ∷ []) new → Only new new_leave → IsAppended end changes old new_end new new_leave
    open_ok new_end new new_leave end_is holds only =
        let p = spelled changes in
        let m = on_disk.long in
        let is : new ≡ gated end 1 mid = holds_gate end mid m 1 new holds in
        let more = opened 1 refl in
        let rows : rows_of new ≡ rows_after_changes (acknowledged end old) changes = ap rows_of is ∙ more.rows in
        let size1 = ap length is_block.is ∙ length-append (to_be_bytes w64 (length p) ++ p) (0 ∷ []) in
        let size2 = length-append (to_be_bytes w64 (length p)) p in
        let place : new_end ≡ end + (9 + length p) = omega arith in
        let reaches : extent new ≡ new_end = ap extent is ∙ more.end ∙ let f = ready.frames in let q : extent (closed_at end old) + (9 + length p) ≡ new_end = omega arith in q in
        let len = ap length is ∙ gated-length end mid m 1 in
        let within : new_end < length new = let w = extent_within (length new) new (omega arith) (omega arith) in omega arith in
        let whole : IsOpen p junk (drop end new) = subst (IsOpen p junk) (sym (ap (λ (l : List ℕ). drop end l) is ∙ gated-drop end mid m 1 ∙ ap (λ (l : List ℕ). 1 ∷ l) behind)) (block_open p junk is_block.bound) in
        let after : drop new_end new ≡ 0 ∷ junk = ap (λ (k : ℕ). drop k new) place ∙ sym (drop-drop (9 + length p) end new) ∙ whole.rest in
        let zero_more : new_end + 0 ≡ new_end = omega arith in
        let gate : get_or new new_end 0 ≡ 0 = ap (λ (k : ℕ). get_or new k 0) (sym zero_more) ∙ sym (get_or-drop new_end new 0 0) ∙ ap (λ (l : List ℕ). get_or l 0 0) after in
        let len_take = length-take new_end new in
        let c = closed_at new_end new in
        let size_c = length-append (take new_end new) (0 ∷ []) in
        let closed : IsSame new c =
        same_rows new c (subst (λ (k : ℕ). take k c ≡ take k new) (sym reaches) (take_at (take new_end new) (0 ∷ []) new_end (omega arith))) (λ _. omega arith)
        (subst (λ (k : ℕ). counts (drop k c) ≡ false) (sym reaches) (subst (λ (l : List ℕ). counts l ≡ false) (sym (drop_at (take new_end new) (0 ∷ []) new_end (omega arith))) (closed_gate (0 ∷ []) (λ e. absurd (omega arith))))) in
        record {
          ready =
              record {
                frames = closed.end ∙ reaches;
                long = λ x left. let e = ap length (only x left) in omega arith;
                same = λ x left. ap (λ (l : List ℕ). take new_end l) (only x left);
                closed = λ _ x left one. let e : get_or x new_end 0 ≡ get_or new new_end 0 = ap (λ (l : List ℕ). get_or l new_end 0) (only x left) in absurd (omega arith);
                behind = λ e. absurd cc;
              };
          file = record { holds = held new holds; end_is = place };
          rows = rows;
          same = closed.rows ∙ rows;
          stands = λ r stand. ⊎_elim (λ e. e ∙ ap rows_of (only stand.0 stand.1) ∙ rows) (λ other. absurd (no_such other.0)) stand.2;
        }
