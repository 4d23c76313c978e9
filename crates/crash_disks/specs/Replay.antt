-- What the calls of a disk make of its bytes, and what a crash may leave of them. The newest call comes first.
use Rattle.std.specs.Prelude.{◌≡◌, ◌⊎◌, ℕ, ◌+◌, ◌≤◌, List, [], ◌∷◌, ◌++◌, length, take, drop, Bool, true, ◌&&◌, nat_le}
use Rattle.crash_disks.specs.Bytes.{Torn, Cut}
use Rattle.crash_disks.specs.Crash.{After}
use Rattle.crash_disks.specs.declared.step.Step.{Step}
use Rattle.crash_disks.specs.declared.step.Step.TheVariants as steps

-- what a read gives after the calls
abbrev pub replay : List ℕ → List Step → List ℕ
replay first [] = first
replay first (steps.Wrote at bytes ∷ older) = take at (replay first older) ++ bytes.items ++ drop (at + length bytes.items) (replay first older)
replay first (steps.Cut len ∷ older) = take len (replay first older)
replay first (steps.Tore at bytes ∷ older) = replay first older
replay first (steps.Frayed len ∷ older) = replay first older
replay first (steps.Synced ∷ older) = replay first older

-- each write was at a place within the file, each cut to a length within it
abbrev pub fits : List ℕ → List Step → Bool
fits first [] = true
fits first (steps.Wrote at bytes ∷ older) = nat_le at (length (replay first older)) && fits first older
fits first (steps.Cut len ∷ older) = nat_le len (length (replay first older)) && fits first older
fits first (steps.Tore at bytes ∷ older) = fits first older
fits first (steps.Frayed len ∷ older) = fits first older
fits first (steps.Synced ∷ older) = fits first older

-- a write at a place within these bytes, or a cut to a length within them, or another call
abbrev pub InPlace : Step → List ℕ → Type 0
InPlace (steps.Wrote at bytes) read = at ≤ length read
InPlace (steps.Cut len) read = len ≤ length read
InPlace (steps.Tore at bytes) read = Unit {0}
InPlace (steps.Frayed len) read = Unit {0}
InPlace steps.Synced read = Unit {0}

-- what a crash after the calls may leave
abbrev pub Leaves : List ℕ → List Step → List ℕ → Type 0
Leaves first [] c = c ≡ first
Leaves first (steps.Wrote at bytes ∷ older) c = After (Torn at (length bytes.items)) (Leaves first older) c
Leaves first (steps.Tore at bytes ∷ older) c = After (Torn at (length bytes.items)) (Leaves first older) c
Leaves first (steps.Cut len ∷ older) c = After (Cut len) (Leaves first older) c
Leaves first (steps.Frayed len ∷ older) c = After (Cut len) (Leaves first older) c
Leaves first (steps.Synced ∷ older) c = c ≡ replay first older

-- what a crash after the first t calls or more might have left
abbrev pub LeftAfter : List ℕ → List Step → ℕ → List ℕ → Type 0
LeftAfter first [] t c = Leaves first [] c
LeftAfter first (step ∷ older) t c = Leaves first (step ∷ older) c ⊎ ((t ≤ length older) × LeftAfter first older t c)
