-- A list that rises, about one of its items.
use Rattle.std.proofs.Common.{◌≡◌, ◌≢◌, List, [], ◌∷◌, ◌++◌, Some, None, refl, ap, ◌∙◌, cond, get_or}
use Rattle.std.specs.List.{All}
use Rattle.std.specs.Cmp.{IsTotalOrder}
use Rattle.std.specs.Ordering.{is_eq}
use Rattle.std.specs.declared.cmp.Ordering.{Ordering}
use Rattle.std.specs.declared.cmp.Ordering.TheVariants.{Less, Equal, Greater}
use Rattle.std.proofs.lemmas.List.Elements.{All-nil, All-cons, All-head, All-tail}
use Rattle.ordered_list.specs.Ordered.{Rises, found_by, put_by, removed_by, by_order}
use Rattle.ordered_list.proofs.Orders.{above, alike, greater_trans}
use Rattle.ordered_list.proofs.Finding.{not_equal}
use Rattle.ordered_list.proofs.Rising.{missing}
use Rattle.ordered_list.proofs.Removal.{none_removed}

module _ {T K : Type 0} (cmp : K → K → Ordering) (total : IsTotalOrder cmp) (key : T → K) where
  -- the items before m are below it, and those behind it above
  pub record Around (xs : List T) (m : T) (ys : List T) : Type 0 where
    pub before : All (λ i. cmp (key i) (key m) ≡ Less) xs
    pub behind : All (λ i. cmp (key m) (key i) ≡ Less) ys
    pub first : Rises cmp key xs
    pub second : Rises cmp key ys

  all_first : (P : T → Type 0) (xs zs : List T) → All P (xs ++ zs) → All P xs
  all_first P [] zs h = All-nil P
  all_first P (x ∷ xs) zs h = All-cons P x xs (All-head P x (xs ++ zs) h) (all_first P xs zs (All-tail P x (xs ++ zs) h))

  all_second : (P : T → Type 0) (xs zs : List T) → All P (xs ++ zs) → All P zs
  all_second P [] zs h = h
  all_second P (x ∷ xs) zs h = all_second P xs zs (All-tail P x (xs ++ zs) h)

  pub around : (xs : List T) (m : T) (ys : List T) → Rises cmp key (xs ++ m ∷ ys) → Around xs m ys
  around [] m ys h = record { before = All-nil (λ i. cmp (key i) (key m) ≡ Less); behind = h.0; first = tt; second = h.1 }
  around (x ∷ xs) m ys h =
      let r = around xs m ys h.1 in
      let P : T → Type 0 = λ i. cmp (key x) (key i) ≡ Less in
      record {
        before = All-cons (λ i. cmp (key i) (key m) ≡ Less) x xs (All-head P m ys (all_second P xs (m ∷ ys) h.0)) r.before;
        behind = r.behind;
        first = (all_first P xs (m ∷ ys) h.0, r.first);
        second = r.second;
      }

  -- ---- finding
  found_behind : (k : K) (xs zs : List T) → All (λ i. cmp k (key i) ≢ Equal) xs → found_by cmp key k (xs ++ zs) ≡ found_by cmp key k zs
  found_behind k [] zs h = refl
  found_behind k (x ∷ xs) zs h =
      rw (not_equal (cmp k (key x)) (All-head (λ i. cmp k (key i) ≢ Equal) x xs h)) (found_behind k xs zs (All-tail (λ i. cmp k (key i) ≢ Equal) x xs h))

  found_before : (k : K) (xs zs : List T) → All (λ i. cmp k (key i) ≢ Equal) zs → found_by cmp key k (xs ++ zs) ≡ found_by cmp key k xs
  found_before k [] zs h = missing cmp total key k zs h
  found_before k (x ∷ xs) zs h = ap (cond (is_eq (cmp k (key x))) (Some x)) (found_before k xs zs h)

  -- what a key below m is not
  not_behind : (k : K) (m : T) (ys : List T) → cmp k (key m) ≡ Less → All (λ i. cmp (key m) (key i) ≡ Less) ys → All (λ i. cmp k (key i) ≢ Equal) (m ∷ ys)
  not_behind k m ys l h =
      All-cons (λ i. cmp k (key i) ≢ Equal) m ys (λ e. cc)
      (λ j d b e. (let t : cmp k (key (get_or ys j d)) ≡ Less = total.trans k (key m) (key (get_or ys j d)) l (h j d b) in cc))

  -- what a key above m is not
  past_before : (k : K) (m : T) (xs : List T) → cmp k (key m) ≡ Greater → All (λ i. cmp (key i) (key m) ≡ Less) xs → All (λ i. cmp k (key i) ≡ Greater) xs
  past_before k m xs g h = λ j d b. greater_trans cmp total k (key m) (key (get_or xs j d)) g (above cmp total (key (get_or xs j d)) (key m) (h j d b))

  past_same : (k : K) (m : T) (xs : List T) → cmp k (key m) ≡ Equal → All (λ i. cmp (key i) (key m) ≡ Less) xs → All (λ i. cmp k (key i) ≡ Greater) xs
  past_same k m xs e h = λ j d b. alike cmp total k (key m) (key (get_or xs j d)) e ∙ above cmp total (key (get_or xs j d)) (key m) (h j d b)

  not_past : (k : K) (xs : List T) → All (λ i. cmp k (key i) ≡ Greater) xs → All (λ i. cmp k (key i) ≢ Equal) xs
  not_past k xs h = λ j d b e. (let g = h j d b in cc)

  not_same : (k : K) (m : T) (ys : List T) → cmp k (key m) ≡ Equal → All (λ i. cmp (key m) (key i) ≡ Less) ys → All (λ i. cmp k (key i) ≢ Equal) ys
  not_same k m ys e h = λ j d b f. (let t : cmp k (key (get_or ys j d)) ≡ Less = alike cmp total k (key m) (key (get_or ys j d)) e ∙ h j d b in cc)

  pub found_less : (k : K) (m : T) (xs ys : List T) → cmp k (key m) ≡ Less → Around xs m ys → found_by cmp key k (xs ++ m ∷ ys) ≡ found_by cmp key k xs
  found_less k m xs ys l p = found_before k xs (m ∷ ys) (not_behind k m ys l p.behind)

  pub found_greater : (k : K) (m : T) (xs ys : List T) → cmp k (key m) ≡ Greater → Around xs m ys → found_by cmp key k (xs ++ m ∷ ys) ≡ found_by cmp key k ys
  found_greater k m xs ys g p = found_behind k xs (m ∷ ys) (not_past k xs (past_before k m xs g p.before)) ∙ rw g refl

  pub found_equal : (k : K) (m : T) (xs ys : List T) → cmp k (key m) ≡ Equal → Around xs m ys → found_by cmp key k (xs ++ m ∷ ys) ≡ Some m
  found_equal k m xs ys e p = found_behind k xs (m ∷ ys) (not_past k xs (past_same k m xs e p.before)) ∙ rw e refl

  -- ---- putting
  put_past : (x : T) (xs zs : List T) → All (λ i. cmp (key x) (key i) ≡ Greater) xs → put_by cmp key x (xs ++ zs) ≡ xs ++ put_by cmp key x zs
  put_past x [] zs h = refl
  put_past x (y ∷ ys) zs h =
      rw (All-head (λ i. cmp (key x) (key i) ≡ Greater) y ys h) (ap (λ vs. y ∷ vs) (put_past x ys zs (All-tail (λ i. cmp (key x) (key i) ≡ Greater) y ys h)))

  at_head : (x y : T) (ys m : List T) (o : Ordering) (r s : List T) → r ≡ s ++ m → by_order o (x ∷ y ∷ (ys ++ m)) (x ∷ (ys ++ m)) (y ∷ r) ≡ by_order o (x ∷ y ∷ ys) (x ∷ ys) (y ∷ s) ++ m
  at_head x y ys m Less r s e = refl
  at_head x y ys m Equal r s e = refl
  at_head x y ys m Greater r s e = ap (λ zs. y ∷ zs) e

  pub put_less : (x m : T) (xs ys : List T) → cmp (key x) (key m) ≡ Less → put_by cmp key x (xs ++ m ∷ ys) ≡ put_by cmp key x xs ++ m ∷ ys
  put_less x m [] ys h = rw h refl
  put_less x m (y ∷ zs) ys h = at_head x y zs (m ∷ ys) (cmp (key x) (key y)) _ _ (put_less x m zs ys h)

  pub put_greater : (x m : T) (xs ys : List T) → cmp (key x) (key m) ≡ Greater → Around xs m ys → put_by cmp key x (xs ++ m ∷ ys) ≡ xs ++ m ∷ put_by cmp key x ys
  put_greater x m xs ys g p = put_past x xs (m ∷ ys) (past_before (key x) m xs g p.before) ∙ rw g refl

  pub put_equal : (x m : T) (xs ys : List T) → cmp (key x) (key m) ≡ Equal → Around xs m ys → put_by cmp key x (xs ++ m ∷ ys) ≡ xs ++ x ∷ ys
  put_equal x m xs ys e p = put_past x xs (m ∷ ys) (past_same (key x) m xs e p.before) ∙ rw e refl

  -- ---- removing
  removed_step : (k : K) (x : T) (rest zs ys : List T) (o : Ordering) → rest ≡ zs ++ ys → cond (is_eq o) rest (x ∷ rest) ≡ cond (is_eq o) zs (x ∷ zs) ++ ys
  removed_step k x rest zs ys Less e = ap (λ vs. x ∷ vs) e
  removed_step k x rest zs ys Equal e = e
  removed_step k x rest zs ys Greater e = ap (λ vs. x ∷ vs) e

  removed_append : (k : K) (xs ys : List T) → removed_by cmp key k (xs ++ ys) ≡ removed_by cmp key k xs ++ removed_by cmp key k ys
  removed_append k [] ys = refl
  removed_append k (x ∷ xs) ys = removed_step k x _ _ _ (cmp k (key x)) (removed_append k xs ys)

  pub removed_less : (k : K) (m : T) (xs ys : List T) → cmp k (key m) ≡ Less → Around xs m ys → removed_by cmp key k (xs ++ m ∷ ys) ≡ removed_by cmp key k xs ++ m ∷ ys
  removed_less k m xs ys l p = removed_append k xs (m ∷ ys) ∙ ap (λ vs. removed_by cmp key k xs ++ vs) (none_removed cmp total key k (m ∷ ys) (not_behind k m ys l p.behind))

  pub removed_greater : (k : K) (m : T) (xs ys : List T) → cmp k (key m) ≡ Greater → Around xs m ys → removed_by cmp key k (xs ++ m ∷ ys) ≡ xs ++ m ∷ removed_by cmp key k ys
  removed_greater k m xs ys g p =
      let f : removed_by cmp key k xs ≡ xs = none_removed cmp total key k xs (not_past k xs (past_before k m xs g p.before)) in
      removed_append k xs (m ∷ ys) ∙ rw (f, g) refl

  pub removed_equal : (k : K) (m : T) (xs ys : List T) → cmp k (key m) ≡ Equal → Around xs m ys → removed_by cmp key k (xs ++ m ∷ ys) ≡ xs ++ ys
  removed_equal k m xs ys e p =
      let f : removed_by cmp key k xs ≡ xs = none_removed cmp total key k xs (not_past k xs (past_same k m xs e p.before)) in
      let s : removed_by cmp key k ys ≡ ys = none_removed cmp total key k ys (not_same k m ys e p.behind) in
      removed_append k xs (m ∷ ys) ∙ rw (f, e, s) refl

  -- ---- an item put after the one under its key was taken out
  not_removed_step : (k : K) (x : T) (xs : List T) (o : Ordering) → cmp k (key x) ≡ o → All (λ i. cmp k (key i) ≢ Equal) (removed_by cmp key k xs) → All (λ i. cmp k (key i) ≢ Equal) (cond (is_eq o) (removed_by cmp key k xs) (x ∷ removed_by cmp key k xs))
  not_removed_step k x xs Less e h = All-cons (λ i. cmp k (key i) ≢ Equal) x (removed_by cmp key k xs) (λ f. cc) h
  not_removed_step k x xs Equal e h = h
  not_removed_step k x xs Greater e h = All-cons (λ i. cmp k (key i) ≢ Equal) x (removed_by cmp key k xs) (λ f. cc) h

  pub not_removed : (k : K) (xs : List T) → All (λ i. cmp k (key i) ≢ Equal) (removed_by cmp key k xs)
  not_removed k [] = All-nil (λ i. cmp k (key i) ≢ Equal)
  not_removed k (x ∷ xs) = not_removed_step k x xs (cmp k (key x)) refl (not_removed k xs)

  front : (x : T) (ys : List T) → All (λ y. cmp (key x) (key y) ≡ Less) ys → put_by cmp key x ys ≡ x ∷ ys
  front x [] h = refl
  front x (y ∷ ys) h = rw (All-head (λ z. cmp (key x) (key z) ≡ Less) y ys h) refl

  put_removed_step : (x y : T) (ys : List T) (o : Ordering) → cmp (key x) (key y) ≡ o → Rises cmp key (y ∷ ys) → put_by cmp key x (removed_by cmp key (key x) ys) ≡ put_by cmp key x ys → put_by cmp key x (removed_by cmp key (key x) (y ∷ ys)) ≡ put_by cmp key x (y ∷ ys)
  put_removed_step x y ys Less e r h = ap (put_by cmp key x) (none_removed cmp total key (key x) (y ∷ ys) (not_behind (key x) y ys e r.0))
  put_removed_step x y ys Equal e r h =
      let s : removed_by cmp key (key x) ys ≡ ys = none_removed cmp total key (key x) ys (not_same (key x) y ys e r.0) in
      let f : put_by cmp key x ys ≡ x ∷ ys = front x ys (λ j d b. alike cmp total (key x) (key y) (key (get_or ys j d)) e ∙ r.0 j d b) in
      rw (e, s) f
  put_removed_step x y ys Greater e r h = rw e (rw e (ap (λ vs. y ∷ vs) h))

  pub put_removed : (x : T) (xs : List T) → Rises cmp key xs → put_by cmp key x (removed_by cmp key (key x) xs) ≡ put_by cmp key x xs
  put_removed x [] r = refl
  put_removed x (y ∷ ys) r = put_removed_step x y ys (cmp (key x) (key y)) refl r (put_removed x ys r.1)

  -- ---- what is found under a key
  none_found_step : (k : K) (x : T) (xs : List T) (o : Ordering) → cmp k (key x) ≡ o → found_by cmp key k (x ∷ xs) ≡ None → (found_by cmp key k xs ≡ None → removed_by cmp key k xs ≡ xs) → removed_by cmp key k (x ∷ xs) ≡ x ∷ xs
  none_found_step k x xs Less e h r = let n = rw e at h in rw e (ap (λ vs. x ∷ vs) (r n))
  none_found_step k x xs Equal e h r = absurd (let f : found_by cmp key k (x ∷ xs) ≡ Some x = rw e refl in cc)
  none_found_step k x xs Greater e h r = let n = rw e at h in rw e (ap (λ vs. x ∷ vs) (r n))

  pub none_found : (k : K) (xs : List T) → found_by cmp key k xs ≡ None → removed_by cmp key k xs ≡ xs
  none_found k [] h = refl
  none_found k (x ∷ xs) h = none_found_step k x xs (cmp k (key x)) refl h (none_found k xs)

  only_step : (k : K) (x y : T) (xs : List T) (o : Ordering) → cmp k (key x) ≡ o → Rises cmp key (x ∷ xs) → found_by cmp key k (x ∷ xs) ≡ Some y → (found_by cmp key k xs ≡ Some y → All (λ i. cmp k (key i) ≡ Equal → i ≡ y) xs) → All (λ i. cmp k (key i) ≡ Equal → i ≡ y) (x ∷ xs)
  only_step k x y xs Less e r h f = let n = rw e at h in All-cons (λ i. cmp k (key i) ≡ Equal → i ≡ y) x xs (λ q. absurd cc) (f n)
  only_step k x y xs Greater e r h f = let n = rw e at h in All-cons (λ i. cmp k (key i) ≡ Equal → i ≡ y) x xs (λ q. absurd cc) (f n)
  only_step k x y xs Equal e r h f =
      let g : found_by cmp key k (x ∷ xs) ≡ Some x = rw e refl in
      let s : x ≡ y = cc in
      All-cons (λ i. cmp k (key i) ≡ Equal → i ≡ y) x xs (λ q. s) (λ j d b q. absurd (not_same k x xs e r.0 j d b q))

  -- an item under the key is the one that is found
  pub only_found : (k : K) (y : T) (xs : List T) → Rises cmp key xs → found_by cmp key k xs ≡ Some y → All (λ i. cmp k (key i) ≡ Equal → i ≡ y) xs
  only_found k y [] r h = absurd cc
  only_found k y (x ∷ xs) r h = only_step k x y xs (cmp k (key x)) refl r h (only_found k y xs r.1)
