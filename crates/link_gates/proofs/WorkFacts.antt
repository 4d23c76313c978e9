-- A worker's links, one after another.
use Rattle.std.proofs.Common.{◌≡◌, ◌∙◌, ◌≤◌, ◌<◌, ◌+◌, ℕ, List, [], ◌∷◌, ◌++◌, Option, Some, None, refl, sym, ap, append_assoc, append-nil, length, length-append, inl, inr, min, arith}
use Rattle.std.specs.Prelude.{IfSome}
use Rattle.std.proofs.lemmas.Bool.{cases_lt}
use Rattle.std.proofs.lemmas.Option.{none-some, same_Some}
use Rattle.oe_http.specs.declared.session.Ended.{Ended}
use Rattle.link_gates.specs.Ports.{ahead, behind, NoneLeft}
use Rattle.link_gates.specs.Serving.{Meets, Serves, WorksOff}

ahead_nil : {A : Type 0} (told : Option (List A)) → told ≡ ahead [] told
ahead_nil None = refl
ahead_nil (Some xs) = refl

behind_nil : {A : Type 0} (told : Option (List A)) → told ≡ behind told []
behind_nil None = refl
behind_nil (Some xs) = ap (λ ys. Some ys) (sym (append-nil xs))

ahead_on : {A : Type 0} (a b c : Option (List A)) (xs ys : List A) → a ≡ ahead xs b → b ≡ ahead ys c → a ≡ ahead (xs ++ ys) c
ahead_on a b None xs ys p q = p ∙ ap (ahead xs) q
ahead_on a b (Some zs) xs ys p q = p ∙ ap (ahead xs) q ∙ ap (λ ls. Some ls) (sym (append_assoc xs ys zs))

behind_on : {A : Type 0} (a b c : Option (List A)) (xs ys : List A) → b ≡ behind a xs → c ≡ behind b ys → c ≡ behind a (xs ++ ys)
behind_on None b c xs ys p q = q ∙ ap (λ t. behind t ys) p
behind_on (Some zs) b c xs ys p q = q ∙ ap (λ t. behind t ys) p ∙ ap (λ ls. Some ls) (append_assoc zs xs ys)

serves_on : {St Link : Type 0} (meets : Meets St Link) (s m t : St) (xs : List Link) (bs : List (Link × Ended)) (x y : Link) (e : Ended)
    → Serves meets s xs bs m → meets m x e t y → Serves meets s (xs ++ x ∷ []) (bs ++ (y, e) ∷ []) t
serves_on meets s m t [] [] x y e p q = (t, (rw p q), refl)
serves_on meets s m t [] (b ∷ bs) x y e p q = absurd p
serves_on meets s m t (a ∷ xs) [] x y e p q = absurd p
serves_on meets s m t (a ∷ xs) (b ∷ bs) x y e p q = (p.0, p.1, serves_on meets p.0 m t xs bs x y e p.2 q)

pub works_start : {St Link : Type 0} (meets : Meets St Link) (s : St) (left : Option (List Link)) (given : Option (List (Link × Ended)))
    → WorksOff meets s s left left given given 0
works_start meets s left given = record { took = []; back = []; takes = ahead_nil left; gives = behind_nil given; serves = refl; counted = refl }

pub works_on : {St Link : Type 0} (meets : Meets St Link) (s m t : St) (left_0 left_1 left_2 : Option (List Link)) (given_0 given_1 given_2 : Option (List (Link × Ended))) (served : ℕ) (x y : Link) (e : Ended)
    → WorksOff meets s m left_0 left_1 given_0 given_1 served → left_1 ≡ ahead (x ∷ []) left_2 → meets m x e t y → given_2 ≡ behind given_1 ((y, e) ∷ [])
    → WorksOff meets s t left_0 left_2 given_0 given_2 (served + 1)
works_on meets s m t left_0 left_1 left_2 given_0 given_1 given_2 served x y e w p q r = record {
  took = w.took ++ x ∷ [];
  back = w.back ++ (y, e) ∷ [];
  takes = ahead_on left_0 left_1 left_2 w.took (x ∷ []) w.takes p;
  gives = behind_on given_0 given_1 given_2 w.back ((y, e) ∷ []) w.gives r;
  serves = serves_on meets s m t w.took w.back x y e w.serves q;
  counted = ap (λ n. n + 1) w.counted ∙ sym (length-append w.took (x ∷ []));
}

-- a worker that met no fault serves all links, or as many as it has turns
pub works_count : {St Link : Type 0} (meets : Meets St Link) (s t : St) (left_old left_new : Option (List Link)) (given_old given_new : Option (List (Link × Ended))) (served turns : ℕ)
    → WorksOff meets s t left_old left_new given_old given_new served → served ≤ turns → (served < turns → NoneLeft left_new)
    → IfSome left_old (λ xs. served ≡ min turns (length xs))
works_count meets s t None left_new given_old given_new served turns w most none = tt
works_count meets s t (Some xs) None given_old given_new served turns w most none = absurd (none-some xs (sym w.takes))
works_count meets s t (Some xs) (Some ys) given_old given_new served turns w most none =
    let all : length xs ≡ length w.took + length ys = ap length (same_Some xs (w.took ++ ys) w.takes) ∙ length-append w.took ys in
    let counted = w.counted in
    elim (cases_lt served turns) [
      | inl less ↦ let empty : length ys ≡ 0 = ap length (none less) in omega (arith)
      | inr full ↦ omega (arith)
    ]
