-- What the laws of a disk's trait say of a disk in memory.
use Rattle.std.proofs.Common.{◌≡◌, inl, inr, ℕ, suc, ◌+◌, ◌≤◌, min, true, List, [], ◌∷◌, ◌++◌, length, take, drop, refl, sym, ap, subst, ◌∙◌, arith, append_assoc, length-append, length-take, length-drop}
use Rattle.std.proofs.lemmas.Bool.{and_parts, leb-true}
use Rattle.std.proofs.lemmas.List.{take_at, drop_at, take_all, take_min}
use Rattle.crash_disks.specs.Bytes.{Torn, Cut}
use Rattle.crash_disks.specs.declared.step.Step.{Step}
use Rattle.crash_disks.specs.declared.step.Step.TheVariants as steps
use Rattle.crash_disks.specs.declared.memory.MemoryDisk.{MemoryDisk}
use Rattle.crash_disks.specs.Replay.{replay, fits, Leaves, LeftAfter}

pub left_now : (first : List ℕ) (done : List Step) (t : ℕ) (c : List ℕ) → Leaves first done c → LeftAfter first done t c
left_now first [] t c now = now
left_now first (step ∷ older) t c now = inl now

nothing_later : (n : ℕ) → suc n ≤ n → ⊥
nothing_later n le = absurd (omega arith)

pub only_left_now : (first : List ℕ) (done : List Step) (c : List ℕ) → LeftAfter first done (length done) c → Leaves first done c
only_left_now first [] c left = left
only_left_now first (step ∷ older) c (inl now) = now
only_left_now first (step ∷ older) c (inr past) = absurd (nothing_later (length older) past.0)

-- a write that was done is one of those that a crash may cut short, and so is a cut
written : (at : ℕ) (bytes old : List ℕ) → at ≤ length old → Torn at (length bytes) old (take at old ++ bytes ++ drop (at + length bytes) old)
written at bytes old le =
    let front = length-take at old in
    let back = length-drop (at + length bytes) old in
    let two = length-append (take at old) bytes in
    let all = length-append (take at old ++ bytes) (drop (at + length bytes) old) in
    let e : min at (length old) ≡ at = omega arith in
    record {
      before = subst (λ (k : ℕ). take k (take at old ++ bytes ++ drop (at + length bytes) old) ≡ take k old) (sym e) (ap (λ (l : List ℕ). take at l) (append_assoc (take at old) bytes (drop (at + length bytes) old)) ∙ take_at (take at old) (bytes ++ drop (at + length bytes) old) at (omega arith));
      after = drop_at (take at old ++ bytes) (drop (at + length bytes) old) (at + length bytes) (omega arith);
      no_shorter = omega arith;
      no_longer = omega arith;
    }

pub torn_not : (at n : ℕ) (old : List ℕ) → Torn at n old old
torn_not at n old = record { before = refl; after = refl; no_shorter = omega arith; no_longer = omega arith }

cut_done : (len : ℕ) (old : List ℕ) → Cut len old (take len old)
cut_done len old = let l = length-take len old in record { no_shorter = omega arith; front = ap (λ (k : ℕ). take k old) l ∙ take_min len old }

pub cut_not : (len : ℕ) (old : List ℕ) → Cut len old old
cut_not len old = record { no_shorter = omega arith; front = take_all (length old) old (omega arith) }

pub replay_left : (first : List ℕ) (done : List Step) → fits first done ≡ true → Leaves first done (replay first done)
replay_left first [] h = refl
replay_left first (steps.Wrote at bytes ∷ older) h = let both = and_parts _ _ h in (replay first older, replay_left first older both.1, written at bytes.items (replay first older) (leb-true _ _ both.0))
replay_left first (steps.Tore at bytes ∷ older) h = (replay first older, replay_left first older h, torn_not at (length bytes.items) (replay first older))
replay_left first (steps.Cut len ∷ older) h = let both = and_parts _ _ h in (replay first older, replay_left first older both.1, cut_done len (replay first older))
replay_left first (steps.Frayed len ∷ older) h = (replay first older, replay_left first older h, cut_not len (replay first older))
replay_left first (steps.Synced ∷ older) h = refl

-- what a read gives is one of the things that a crash may leave
pub bytes_left : (d : MemoryDisk) → Leaves d.first.items d.steps.items d.bytes.items
bytes_left d = subst (λ (c : List ℕ). Leaves d.first.items d.steps.items c) (sym d.held) (replay_left d.first.items d.steps.items d.ran)
