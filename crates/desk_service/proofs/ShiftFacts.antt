-- Shifts that were made of ports, in order.
use Rattle.std.proofs.Common.{ℕ, ◌+◌, Option, Some, None, List, [], ◌∷◌, ◌++◌, ◌≡◌, ◌∙◌, sym, ap, append-nil, append_assoc, arith, length, map, subst, All}
use Rattle.std.proofs.lemmas.List.{length-append, map-append}
use Rattle.std.proofs.lemmas.Option.{none-some, same_Some}
use Rattle.std.specs.Prelude.{IfSome}
use Rattle.std.proofs.lemmas.List.Elements.{All-head, All-push, All-tail}

module _ {A B C : Type 0} (f : A → C) (h : B → C) where
  -- the first port of the rest became a shift, which serves what the port has
  pub one_made : (all now : List A) (s : A) (rest left : List B) (p : B) (whole : List C) → now ≡ all ++ s ∷ [] → rest ≡ p ∷ left → f s ≡ h p
      → map f all ++ map h rest ≡ whole → map f now ++ map h left ≡ whole
  one_made all now s rest left p whole is first serves before =
      ap (λ xs. map f xs ++ map h left) is ∙ ap (λ xs. xs ++ map h left) (map-append f all (s ∷ []))
      ∙ append_assoc (map f all) (f s ∷ []) (map h left) ∙ ap (λ x. map f all ++ x ∷ map h left) serves
      ∙ ap (λ xs. map f all ++ map h xs) (sym first) ∙ before

  -- no port is left
  pub all_made : (all : List A) (rest : List B) (whole : List C) → rest ≡ [] → map f all ++ map h rest ≡ whole → map f all ≡ whole
  all_made all rest whole none before = sym (append-nil (map f all)) ∙ ap (λ xs. map f all ++ map h xs) (sym none) ∙ before

-- the ports of the rest and the shifts are steady
pub steady_made : {A B : Type 0} (P : B → Type 0) (Q : A → Type 0) (all now : List A) (s : A) (rest left : List B) (p : B) → now ≡ all ++ s ∷ [] → rest ≡ p ∷ left → (P p → Q s)
    → All P rest × All Q all → All P left × All Q now
steady_made P Q all now s rest left p is first keeps (ports, made) =
    let whole : All P (p ∷ left) = subst (All P) first ports in
    (All-tail P p left whole, subst (All Q) (sym is) (All-push Q all s made (keeps (All-head P p left whole))))

-- one seat was taken
pub one_seat : {A : Type 0} (before after : List A) (s : A) (m n : ℕ) → before ≡ after ++ s ∷ [] → length before ≡ m → m ≡ n + 1 → length after ≡ n
one_seat before after s m n is has more = let all : length before ≡ length after + 1 = ap length is ∙ length-append after (s ∷ []) in omega (arith, all, has, more)

-- what is told is what was counted
pub told_count : (told : Option ℕ) (m n : ℕ) → told ≡ Some n → IfSome told (λ k. m ≡ k) → m ≡ n
told_count None m n e p = absurd (none-some n e)
told_count (Some k) m n e p = p ∙ same_Some k n e
