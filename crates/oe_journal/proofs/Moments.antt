-- How the moments of one call follow those of another, and what a result says.
use Rattle.std.proofs.Common.{inl, inr, ⊎_elim, ℕ, List, arith, Result, Ok, Err}
use Rattle.std.specs.Prelude.{OnOk, OnErr}
use Rattle.crash_disks.specs.Crash.{Passes}

module _ {before now : ℕ} {past since : ℕ → List ℕ → Type 0} where
  pub passes_as : (P Q : List ℕ → Type 0) → ((c : List ℕ) → P c → Q c) → Passes before now past since P → Passes before now past since Q
  passes_as P Q to p = record { later = p.later; each = λ t c le left. ⊎_elim (λ was. inl was) (λ here. inr (to c here)) (p.each t c le left); keeps = p.keeps }

pub passes_none : (now : ℕ) (past : ℕ → List ℕ → Type 0) (P : List ℕ → Type 0) → Passes now now past past P
passes_none now past P = record { later = omega arith; each = λ t c le left. inl left; keeps = λ t c le left. left }

pub passes_then : (a b c : ℕ) (A B C : ℕ → List ℕ → Type 0) (P : List ℕ → Type 0) → Passes a b A B P → Passes b c B C P → Passes a c A C P
passes_then a b c A B C P p q =
    let l1 = p.later in
    let l2 = q.later in
    record {
      later = omega arith;
      each = λ t x le left. ⊎_elim (λ was. p.each t x le was) (λ here. inr here) (q.each t x (omega (arith, le, l1)) left);
      keeps = λ t x le left. q.keeps t x (omega (arith, le, l1)) (p.keeps t x le left);
    }

pub on_ok : {T E : Type 0} {P Q : Type 0} (r : Result T E) → (P → Q) → OnOk r P → OnOk r Q
on_ok (Ok x) f p = f p
on_ok (Err e) f p = tt

pub on_ok_both : {T E : Type 0} {P Q R : Type 0} (r : Result T E) → (P → Q → R) → OnOk r P → OnOk r Q → OnOk r R
on_ok_both (Ok x) f p q = f p q
on_ok_both (Err e) f p q = tt

pub on_err : {T E : Type 0} {Q : Type 0} (r : Result T E) → Q → OnErr r Q
on_err (Ok x) q = tt
on_err (Err e) q = q
