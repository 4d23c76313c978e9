-- The steps of an apply, one after another.
use Rattle.std.proofs.Common.{◌≡◌, inl, inr, ⊎_elim, ℕ, ◌+◌, Bool, true, false, List, [], ◌∷◌, ◌-◌, ◌++◌, length, take, drop, arith, length-drop, sym, ap, subst, ◌∙◌}
use Rattle.std.proofs.lemmas.List.{drop-drop}
use Rattle.crash_disks.specs.Bytes.{Holds}
use Rattle.crash_disks.specs.Crash.{Passes}
use Rattle.oe_journal.specs.Spelling.{spelled, block}
use Rattle.oe_keeper.specs.Kept.{Kept, rows_after_changes}
use Rattle.oe_keeper.specs.declared.change.RowChange.{RowChange}
use Rattle.oe_journal.specs.Frames.{rows_of}
use Rattle.oe_journal.proofs.Moments.{passes_as, passes_then}
use Rattle.oe_journal.specs.Standing.{acknowledged, MayStand, MayStandWith, StaysReady, IsUnappended, IsAppended, IsBlock, IsFrame}

-- what stands behind the frame's gate
pub block_in : (frame : List ℕ) (changes : List RowChange) → IsFrame frame changes → IsBlock (drop 1 frame) changes
block_in frame changes f = record { is = ap (drop 1) f.is; bound = f.bound; fits = f.fits }

pub end_after : (end : ℕ) (frame : List ℕ) → end + (length frame - 1) ≡ end + length (drop 1 frame)
end_after end frame = let l = length-drop 1 frame in omega arith

pub acknowledged_same : (end : ℕ) (old new : List ℕ) → take end new ≡ take end old → acknowledged end new ≡ acknowledged end old
acknowledged_same end old new same = ap (λ (l : List ℕ). rows_of (l ++ 0 ∷ [])) same

module _ (end : ℕ) (b : Bool) (old : List ℕ) (old_leave : List ℕ → Type 0) where
  pub settled_as : (s : Bool) (mid : List ℕ) (mid_leave : List ℕ → Type 0) → s ≡ false → StaysReady end b old old_leave s mid mid_leave → StaysReady end b old old_leave false mid mid_leave
  settled_as s mid mid_leave is stays = subst (λ (k : Bool). StaysReady end b old old_leave k mid mid_leave) is stays

  pub unappended : (changes : List RowChange) (s : Bool) (new : List ℕ) (new_leave : List ℕ → Type 0) → StaysReady end b old old_leave s new new_leave → IsUnappended end changes b old old_leave s new new_leave
  unappended changes s new new_leave stays = record { ready = stays.ready; same = stays.same; stands = λ rows stand. inl (stays.stands rows stand) }

  module _ (mid : List ℕ) (mid_leave : List ℕ → Type 0) (stays : StaysReady end b old old_leave false mid mid_leave) (changes : List RowChange) where
    acknowledged_old : acknowledged end mid ≡ acknowledged end old
    acknowledged_old = acknowledged_same end old mid stays.same

    pub lifted : (rows : Kept) → MayStandWith false end mid_leave mid changes rows → MayStandWith b end old_leave old changes rows
    lifted rows stand = ⊎_elim (λ was. inl (stays.stands rows was)) (λ more. inr (more ∙ ap (λ (k : Kept). rows_after_changes k changes) acknowledged_old)) stand

    pub stays_unappended : (s : Bool) (new : List ℕ) (new_leave : List ℕ → Type 0) → s ≡ false → StaysReady end false mid mid_leave false new new_leave → IsUnappended end changes b old old_leave s new new_leave
    stays_unappended s new new_leave is then =
        subst (λ (k : Bool). IsUnappended end changes b old old_leave k new new_leave) (sym is) (record { ready = then.ready; same = then.same ∙ stays.same; stands = λ rows stand. inl (stays.stands rows (then.stands rows stand)) })

    pub lifted_unappended : (new : List ℕ) (new_leave : List ℕ → Type 0) → IsUnappended end changes false mid mid_leave true new new_leave → IsUnappended end changes b old old_leave true new new_leave
    lifted_unappended new new_leave then = record { ready = then.ready; same = then.same ∙ stays.same; stands = λ rows stand. lifted rows (then.stands rows stand) }

    -- what lies beyond the frame is the same where all is that lies behind the gate
    beyond : drop (end + 1) mid ≡ drop (end + 1) old → drop (end + length (1 ∷ block (spelled changes))) mid ≡ drop (end + length (1 ∷ block (spelled changes))) old
    beyond behind =
        let e : end + length (1 ∷ block (spelled changes)) ≡ end + 1 + length (block (spelled changes)) = omega arith in
        ap (λ (k : ℕ). drop k mid) e
        ∙ sym (drop-drop (length (block (spelled changes))) (end + 1) mid)
        ∙ ap (λ (l : List ℕ). drop (length (block (spelled changes))) l) behind
        ∙ drop-drop (length (block (spelled changes))) (end + 1) old ∙ ap (λ (k : ℕ). drop k old) (sym e)

    pub lifted_appended : drop (end + 1) mid ≡ drop (end + 1) old → (new_end : ℕ) (new : List ℕ) (new_leave : List ℕ → Type 0) → IsAppended end changes mid new_end new new_leave → IsAppended end changes old new_end new new_leave
    lifted_appended behind new_end new new_leave then =
        let more = ap (λ (k : Kept). rows_after_changes k changes) acknowledged_old in
        let holds : Holds old end (1 ∷ block (spelled changes)) new = then.file.holds ∙ (λ i. (stays.same i ++ 1 ∷ block (spelled changes)) ++ beyond behind i) in
        record { ready = then.ready; file = record { holds = holds; end_is = then.file.end_is }; rows = then.rows ∙ more; same = then.same ∙ more; stands = λ rows stand. then.stands rows stand ∙ more }

    -- a crash while a gate is settled and the frame staged, and then while its gate is opened
    module _ {t0 t1 t2 : ℕ} {at0 at1 at2 : ℕ → List ℕ → Type 0} where
      pub while_staged : Passes t0 t1 at0 at1 (λ c. MayStand b end old_leave (rows_of c)) → Passes t1 t2 at1 at2 (λ c. MayStand false end mid_leave (rows_of c)) → Passes t0 t2 at0 at2 (λ c. MayStandWith b end old_leave old changes (rows_of c))
      while_staged settled staged =
          passes_then t0 t1 t2 at0 at1 at2 (λ c. MayStandWith b end old_leave old changes (rows_of c)) (passes_as (λ c. MayStand b end old_leave (rows_of c)) (λ c. MayStandWith b end old_leave old changes (rows_of c)) (λ c stand. inl stand) settled)
          (passes_as (λ c. MayStand false end mid_leave (rows_of c)) (λ c. MayStandWith b end old_leave old changes (rows_of c)) (λ c stand. inl (stays.stands (rows_of c) stand)) staged)

      module _ {t3 : ℕ} {at3 : ℕ → List ℕ → Type 0} where
        pub while_opened : (P : List ℕ → Type 0) → ((c : List ℕ) → P c → MayStandWith false end mid_leave mid changes (rows_of c)) → Passes t0 t1 at0 at1 (λ c. MayStand b end old_leave (rows_of c))
            → Passes t1 t2 at1 at2 (λ c. MayStand false end mid_leave (rows_of c)) → Passes t2 t3 at2 at3 P → Passes t0 t3 at0 at3 (λ c. MayStandWith b end old_leave old changes (rows_of c))
        while_opened P image settled staged opened =
            passes_then t0 t2 t3 at0 at2 at3 (λ c. MayStandWith b end old_leave old changes (rows_of c)) (while_staged settled staged)
            (passes_as P (λ c. MayStandWith b end old_leave old changes (rows_of c)) (λ c from. lifted (rows_of c) (image c from)) opened)
