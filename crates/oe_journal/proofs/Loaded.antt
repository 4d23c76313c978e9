-- That a journal is loaded is no more than a fact.
use Rattle.std.proofs.Common.{◌≡◌, ℕ, Bool, true, false, List, Result, Ok, Err}
use Rattle.std.specs.Prelude.{OnOk, OnErr, IfOk}
use Rattle.std.proofs.Math.Logic.{∥∥₁_elim}
use Rattle.std.proofs.Props.{props}
use Rattle.oe_journal.specs.declared.journal.JournalKeeper.{JournalKeeper}
use Rattle.oe_keeper.specs.declared.keeper.KeepErr.{KeepErr}
use Rattle.oe_keeper.specs.declared.keeper.KeepErr.TheVariants.{Failed, NoMemory}
use Rattle.oe_keeper.specs.Keeping.{IfFailed}
use Rattle.oe_journal.specs.Results.{IfNoMemory}
use Rattle.oe_journal.specs.Journal.{IsLoadedOver}

pub loaded_of : {D : Type 0} (IsTold : Type 0) (content : D → List ℕ) (MayLeave : D → List ℕ → Type 0) (k : JournalKeeper D) → ∥ IsLoadedOver IsTold content MayLeave k ∥₁ → IsLoadedOver IsTold content MayLeave k
loaded_of IsTold content MayLeave k loaded = ∥∥₁_elim loaded (hlevel props) (λ x. x)

pub on_err_map : {T E : Type 0} {P Q : Type 0} (r : Result T E) → (P → Q) → OnErr r P → OnErr r Q
on_err_map (Ok x) f p = tt
on_err_map (Err e) f p = f p

pub if_ok_both : {T E : Type 0} {P : Type 0} {Q R : T → Type 0} (r : Result T E) → ((x : T) → P → Q x → R x) → OnOk r P → IfOk r Q → IfOk r R
if_ok_both (Ok x) f p q = f x p q
if_ok_both (Err e) f p q = tt

pub if_no_memory : {T : Type 0} {P Q R S : Type 0} (r : Result T KeepErr) → (P → (Q → R) → S) → IfNoMemory r P → (Q → OnErr r R) → IfNoMemory r S
if_no_memory (Ok x) f p q = tt
if_no_memory (Err NoMemory) f p q = f p q
if_no_memory (Err Failed) f p q = tt

pub not_both : (b : Bool) → b ≡ true → b ≡ false → ⊥
not_both b p q = absurd cc

pub if_failed : {T : Type 0} {P Q : Type 0} (r : Result T KeepErr) → (P → Q) → IfFailed r P → IfFailed r Q
if_failed (Ok x) f p = tt
if_failed (Err NoMemory) f p = tt
if_failed (Err Failed) f p = f p

pub was_told : {P : Type 0} (b : Bool) → ∥ P ∥₁ → (P → b ≡ true) → b ≡ true
was_told b p f = ∥∥₁_elim p (hlevel props) f

pub failed_says : (T : Type 0) {P : Type 0} (e : KeepErr) → e ≡ Failed → IfFailed {T = T} (Err e) P → P
failed_says T Failed is p = p
failed_says T NoMemory is p = absurd cc

pub no_memory_says : (T : Type 0) {P : Type 0} (e : KeepErr) → e ≡ NoMemory → IfNoMemory {T = T} (Err e) P → P
no_memory_says T Failed is p = absurd cc
no_memory_says T NoMemory is p = p
