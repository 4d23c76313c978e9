-- Two lists that rise by one key, where what is found in one says something of the other.
use Rattle.std.proofs.Common.{◌≡◌, ◌≢◌, ◌+◌, ◌<◌, ◌≤◌, List, [], ◌∷◌, Option, Some, None, Bool, true, false, length, refl, sym, ap, ◌∙◌, cond, arith, get_or}
use Rattle.std.specs.Cmp.{IsTotalOrder}
use Rattle.std.specs.Ordering.{is_eq}
use Rattle.std.specs.declared.cmp.Ordering.{Ordering}
use Rattle.std.specs.declared.cmp.Ordering.TheVariants.{Less, Equal, Greater}
use Rattle.std.proofs.lemmas.Cmp.{tied_itself}
use Rattle.ordered_list.specs.Ordered.{Rises, found_by, put_by}
use Rattle.ordered_list.proofs.Orders.{alike, alike_to, below}
use Rattle.ordered_list.proofs.Finding.{not_equal, found_by-put_other}
use Rattle.ordered_list.proofs.Rising.{missing, missing_below, length-put_new, Rises-put}

module _ {T K : Type 0} (cmp : K → K → Ordering) (total : IsTotalOrder cmp) (key : T → K) where
  first_found : (x : T) (xs : List T) → found_by cmp key (key x) (x ∷ xs) ≡ Some x
  first_found x xs = rw (tied_itself total (key x)) refl

  -- under the key of the first item no later one stands
  later_missing : (k : K) (x : T) (xs : List T) → cmp k (key x) ≡ Equal → Rises cmp key (x ∷ xs) → found_by cmp key k xs ≡ None
  later_missing k x xs e r =
      missing cmp total key k xs (λ j d l f. (let t : cmp k (key (get_or xs j d)) ≡ Less = alike cmp total k (key x) (key (get_or xs j d)) e ∙ r.0 j d l in cc))

  -- under equal keys the same is found
  found_alike : (j k : K) (xs : List T) → cmp j k ≡ Equal → found_by cmp key j xs ≡ found_by cmp key k xs
  found_alike j k [] e = refl
  found_alike j k (x ∷ xs) e = rw (alike cmp total j k (key x) e) (ap (cond (is_eq (cmp k (key x))) (Some x)) (found_alike j k xs e))

  past_first : (k : K) (x : T) (xs : List T) → cmp k (key x) ≢ Equal → found_by cmp key k (x ∷ xs) ≡ found_by cmp key k xs
  past_first k x xs h = rw (not_equal (cmp k (key x)) h) refl

  none_later : (b : Bool) (x : T) (o : Option T) → cond b (Some x) o ≡ None → o ≡ None
  none_later true x o e = absurd (cc e)
  none_later false x o e = e

  -- ---- each key of the one is a key of the other

  abbrev pub HasKeysIn : List T → List T → Type 0
  HasKeysIn xs ys = (k : K) → found_by cmp key k ys ≡ None → found_by cmp key k xs ≡ None

  -- two first items under one key
  later_keys : (x y : T) (xs ys : List T) → cmp (key x) (key y) ≡ Equal → Rises cmp key (x ∷ xs) → HasKeysIn (x ∷ xs) (y ∷ ys) → HasKeysIn xs ys
  later_keys x y xs ys e r keys k none = by (cmp k (key x)) refl
    where
      other : cmp k (key x) ≢ Equal → found_by cmp key k xs ≡ None
      other apart = none_later (is_eq (cmp k (key x))) x (found_by cmp key k xs)
          (keys k (past_first k y ys (λ f. apart (alike_to cmp total (key x) (key y) k e ∙ f)) ∙ none))

      by : (o : Ordering) → cmp k (key x) ≡ o → found_by cmp key k xs ≡ None
      by Less m = other (λ f. cc)
      by Equal m = later_missing k x xs m r
      by Greater m = other (λ f. cc)

  -- a first item of the other that is below all
  keys_above : (x y : T) (xs ys : List T) → cmp (key x) (key y) ≡ Greater → Rises cmp key (x ∷ xs) → HasKeysIn (x ∷ xs) (y ∷ ys) → HasKeysIn (x ∷ xs) ys
  keys_above x y xs ys e r keys k none = by (cmp k (key y)) refl
    where
      by : (o : Ordering) → cmp k (key y) ≡ o → found_by cmp key k (x ∷ xs) ≡ None
      by Less m = keys k (past_first k y ys (λ f. cc) ∙ none)
      by Equal m = missing_below cmp total key k x xs (alike cmp total k (key y) (key x) m ∙ below cmp total (key x) (key y) e) r
      by Greater m = keys k (past_first k y ys (λ f. cc) ∙ none)

  no_more_step : (x y : T) (xs ys : List T) (o : Ordering) → cmp (key x) (key y) ≡ o → Rises cmp key (x ∷ xs) → Rises cmp key (y ∷ ys)
      → HasKeysIn (x ∷ xs) (y ∷ ys) → ((zs : List T) → Rises cmp key zs → HasKeysIn zs ys → length zs ≤ length ys) → length (x ∷ xs) ≤ length (y ∷ ys)
  no_more_step x y xs ys Less e r s keys rest = absurd (cc (sym (first_found x xs) ∙ keys (key x) (missing_below cmp total key (key x) y ys e s)))
  no_more_step x y xs ys Equal e r s keys rest = let n : length xs ≤ length ys = rest xs r.1 (later_keys x y xs ys e r keys) in omega arith
  no_more_step x y xs ys Greater e r s keys rest = let n : length (x ∷ xs) ≤ length ys = rest (x ∷ xs) r (keys_above x y xs ys e r keys) in omega arith

  pub no_more : (ys xs : List T) → Rises cmp key xs → Rises cmp key ys → HasKeysIn xs ys → length xs ≤ length ys
  no_more ys [] r s keys = omega arith
  no_more [] (x ∷ xs) r s keys = absurd (cc (sym (first_found x xs) ∙ keys (key x) refl))
  no_more (y ∷ ys) (x ∷ xs) r s keys = no_more_step x y xs ys (cmp (key x) (key y)) refl r s keys (λ zs q k. no_more ys zs q s.1 k)

  put_keys : (y z : T) (xs ys : List T) → found_by cmp key (key y) ys ≡ Some z → HasKeysIn xs ys → HasKeysIn (put_by cmp key y xs) ys
  put_keys y z xs ys there keys k none = by (cmp k (key y)) refl
    where
      other : cmp k (key y) ≢ Equal → found_by cmp key k (put_by cmp key y xs) ≡ None
      other apart = found_by-put_other cmp total key k y xs apart ∙ keys k none

      by : (o : Ordering) → cmp k (key y) ≡ o → found_by cmp key k (put_by cmp key y xs) ≡ None
      by Less m = other (λ f. cc)
      by Equal m = absurd (cc (sym none ∙ found_alike k (key y) ys m ∙ there))
      by Greater m = other (λ f. cc)

  -- the other has one more key, so it has more items
  pub fewer : (y : T) (xs ys : List T) → Rises cmp key xs → Rises cmp key ys → HasKeysIn xs ys → found_by cmp key (key y) ys ≡ Some y
      → found_by cmp key (key y) xs ≡ None → length xs < length ys
  fewer y xs ys r s keys there new =
      let more : length (put_by cmp key y xs) ≡ length xs + 1 = length-put_new cmp total key y xs new in
      let most : length (put_by cmp key y xs) ≤ length ys =
      no_more ys (put_by cmp key y xs) (Rises-put cmp total key y xs r) s (put_keys y y xs ys there keys) in
      omega arith

  -- ---- the same is found in both

  abbrev pub FindsSame : List T → List T → Type 0
  FindsSame xs ys = (k : K) → found_by cmp key k xs ≡ found_by cmp key k ys

  later_same : (x y : T) (xs ys : List T) → cmp (key x) (key y) ≡ Equal → Rises cmp key (x ∷ xs) → Rises cmp key (y ∷ ys)
      → FindsSame (x ∷ xs) (y ∷ ys) → FindsSame xs ys
  later_same x y xs ys e r s finds k = by (cmp k (key x)) refl
    where
      other : cmp k (key x) ≢ Equal → found_by cmp key k xs ≡ found_by cmp key k ys
      other apart = sym (past_first k x xs apart) ∙ finds k ∙ past_first k y ys (λ f. apart (alike_to cmp total (key x) (key y) k e ∙ f))

      by : (o : Ordering) → cmp k (key x) ≡ o → found_by cmp key k xs ≡ found_by cmp key k ys
      by Less m = other (λ f. cc)
      by Equal m = later_missing k x xs m r ∙ sym (later_missing k y ys (sym (alike_to cmp total (key x) (key y) k e) ∙ m) s)
      by Greater m = other (λ f. cc)

  one_list_step : (x y : T) (xs ys : List T) (o : Ordering) → cmp (key x) (key y) ≡ o → Rises cmp key (x ∷ xs) → Rises cmp key (y ∷ ys)
      → FindsSame (x ∷ xs) (y ∷ ys) → (FindsSame xs ys → xs ≡ ys) → x ∷ xs ≡ y ∷ ys
  one_list_step x y xs ys Less e r s finds rest = absurd (cc (sym (first_found x xs) ∙ finds (key x) ∙ missing_below cmp total key (key x) y ys e s))
  one_list_step x y xs ys Greater e r s finds rest =
      absurd (cc (sym (missing_below cmp total key (key y) x xs (below cmp total (key x) (key y) e) r) ∙ finds (key y) ∙ first_found y ys))
  one_list_step x y xs ys Equal e r s finds rest =
      let found : found_by cmp key (key x) (y ∷ ys) ≡ Some y = rw e refl in
      let both : Some x ≡ Some y = sym (first_found x xs) ∙ finds (key x) ∙ found in
      let first : x ≡ y = cc in
      ap (λ z. z ∷ xs) first ∙ ap (λ zs. y ∷ zs) (rest (later_same x y xs ys e r s finds))

  -- two such lists are one
  pub one_list : (xs ys : List T) → Rises cmp key xs → Rises cmp key ys → FindsSame xs ys → xs ≡ ys
  one_list [] [] r s finds = refl
  one_list [] (y ∷ ys) r s finds = absurd (cc (finds (key y) ∙ first_found y ys))
  one_list (x ∷ xs) [] r s finds = absurd (cc (sym (first_found x xs) ∙ finds (key x)))
  one_list (x ∷ xs) (y ∷ ys) r s finds = one_list_step x y xs ys (cmp (key x) (key y)) refl r s finds (λ f. one_list xs ys r.1 s.1 f)
