-- Lists in rising order that find the same items are one list.
use Rattle.std.proofs.Common.{◌≡◌, ◌≢◌, ◌∙◌, Some, None, List, [], ◌∷◌, ◌++◌, ap, refl, subst, sym}
use Rattle.std.specs.Cmp.{IsTotalOrder}
use Rattle.std.specs.List.{All}
use Rattle.std.specs.declared.cmp.Ordering.{Ordering}
use Rattle.std.specs.declared.cmp.Ordering.TheVariants.{Less, Equal, Greater}
use Rattle.std.proofs.lemmas.Cmp.{tied_itself}
use Rattle.std.proofs.lemmas.List.Elements.{All-head, All-tail, All-weaker}
use Rattle.ordered_list.specs.Ordered.{Rises, found_by, put_by}
use Rattle.ordered_list.proofs.Orders.{above, alike, below}
use Rattle.ordered_list.proofs.Rising.{missing, missing_below}

module _ {T K : Type 0} (order : K → K → Ordering) (is_total : IsTotalOrder order) (key : T → K) where
  found_first : (x : T) (xs : List T) → found_by order key (key x) (x ∷ xs) ≡ Some x
  found_first x xs = let e : order (key x) (key x) ≡ Equal = tied_itself is_total (key x) in rw e refl

  passed : (k : K) (x : T) (xs : List T) → Rises order key (x ∷ xs) → order k (key x) ≡ Equal → found_by order key k xs ≡ None
  passed k x xs rises e =
      missing order is_total key k xs (All-weaker (λ y. order (key x) (key y) ≡ Less) (λ y. order k (key y) ≢ Equal) (λ y l q. absurd (let d : Less ≡ Equal = sym l ∙ sym (alike order is_total k (key x) (key y) e) ∙ q in cc)) xs rises.0)

  rest_found : (k : K) (x : T) (xs ys : List T) (o : Ordering) → Rises order key (x ∷ xs) → Rises order key (x ∷ ys) → order k (key x) ≡ o → found_by order key k (x ∷ xs) ≡ found_by order key k (x ∷ ys) → found_by order key k xs ≡ found_by order key k ys
  rest_found k x xs ys Equal rx ry e h = passed k x xs rx e ∙ sym (passed k x ys ry e)
  rest_found k x xs ys Less rx ry e h = let q : found_by order key k xs ≡ found_by order key k ys = rw e at h in q
  rest_found k x xs ys Greater rx ry e h = let q : found_by order key k xs ≡ found_by order key k ys = rw e at h in q

  first_same : (x y : T) (xs ys : List T) (o : Ordering) → Rises order key (x ∷ xs) → Rises order key (y ∷ ys) → order (key x) (key y) ≡ o → ((k : K) → found_by order key k (x ∷ xs) ≡ found_by order key k (y ∷ ys)) → x ≡ y
  first_same x y xs ys Less rx ry e h = absurd (let q : Some x ≡ None = sym (found_first x xs) ∙ h (key x) ∙ missing_below order is_total key (key x) y ys e ry in cc)
  first_same x y xs ys Greater rx ry e h = absurd (let q : Some y ≡ None = sym (found_first y ys) ∙ sym (h (key y)) ∙ missing_below order is_total key (key y) x xs (below order is_total (key x) (key y) e) rx in cc)
  first_same x y xs ys Equal rx ry e h =
      let f : found_by order key (key x) (y ∷ ys) ≡ Some y = rw e refl in
      let q : Some x ≡ Some y = sym (found_first x xs) ∙ h (key x) ∙ f in
      cc

  pub one_in_order : (xs ys : List T) → Rises order key xs → Rises order key ys → ((k : K) → found_by order key k xs ≡ found_by order key k ys) → xs ≡ ys
  one_in_order [] [] rx ry h = refl
  one_in_order [] (y ∷ ys) rx ry h = absurd (let q : None ≡ Some y = h (key y) ∙ found_first y ys in cc)
  one_in_order (x ∷ xs) [] rx ry h = absurd (let q : Some x ≡ None = sym (found_first x xs) ∙ h (key x) in cc)
  one_in_order (x ∷ xs) (y ∷ ys) rx ry h =
      let e : y ≡ x = sym (first_same x y xs ys (order (key x) (key y)) rx ry refl h) in
      let r : Rises order key (x ∷ ys) = subst (λ (z : T). Rises order key (z ∷ ys)) e ry in
      let g : (k : K) → found_by order key k (x ∷ xs) ≡ found_by order key k (x ∷ ys) = λ k. h k ∙ ap (λ (z : T). found_by order key k (z ∷ ys)) e in
      let t : xs ≡ ys = one_in_order xs ys rx.1 r.1 (λ k. rest_found k x xs ys (order k (key x)) rx r refl (g k)) in
      (λ i. sym e i ∷ t i)

  -- one more at the end
  pub put_last : (xs : List T) (x : T) → All (λ y. order (key y) (key x) ≡ Less) xs → put_by order key x xs ≡ xs ++ x ∷ []
  put_last [] x h = refl
  put_last (y ∷ ys) x h =
      let g : order (key x) (key y) ≡ Greater = above order is_total (key y) (key x) (All-head (λ z. order (key z) (key x) ≡ Less) y ys h) in
      rw g (ap (λ (zs : List T). y ∷ zs) (put_last ys x (All-tail (λ z. order (key z) (key x) ≡ Less) y ys h)))
