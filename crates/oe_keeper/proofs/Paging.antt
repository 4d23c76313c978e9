-- Pages: what a row that is put into its page, or taken out of it, makes of the rows of all.
use Rattle.std.proofs.Common.{◌≡◌, ℕ, suc, zero, ◌+◌, ◌<◌, ◌≤◌, Bool, true, false, List, [], ◌∷◌, ◌++◌, Ok, Err, length, take, drop, set, get_or, refl, sym, ap, subst, ◌∙◌, arith, cond, append_assoc, length-append, add-one}
use Rattle.std.specs.Prelude.{slice_get}
use Rattle.std.specs.List.{All, insert, remove}
use Rattle.std.specs.List.Sorted.{IsBinarySearchResult}
use Rattle.std.specs.Cmp.{IsTotalOrder}
use Rattle.std.specs.Ordering.{is_gt, is_eq}
use Rattle.std.specs.declared.cmp.Ordering.{Ordering}
use Rattle.std.specs.declared.cmp.Ordering.TheVariants.{Less, Equal, Greater}
use Rattle.std.proofs.Math.Seq.{drop-cons}
use Rattle.std.proofs.lemmas.List.Elements.{All-nil, All-cons, All-head, All-tail}
use Rattle.std.proofs.lemmas.List.{take-append-drop}
use Rattle.ordered_list.specs.Ordered.{Rises, by_order, put_by, removed_by}
use Rattle.ordered_list.proofs.Orders.{above, below, alike_to}
use Rattle.ordered_list.proofs.Places.{search_set, search_insert}
use Rattle.ordered_list.proofs.Removal.{none_removed, search_removed, search_kept}
use Rattle.oe_keeper.specs.Kept.{Key, key_cmp, key_cmp_total}
use Rattle.oe_keeper.specs.Walk.{key_of}
use Rattle.oe_keeper.specs.Paging.{IsFilled, IsPageOf, begins_above, rows_of}
use Rattle.oe_keeper.specs.declared.rows.Entry.{Entry}
use Rattle.oe_keeper.specs.declared.pages.Page.{Page}

all_left : {X : Type 0} (P : X → Type 0) (xs ys : List X) → All P (xs ++ ys) → All P xs
all_left P [] ys h = All-nil P
all_left P (x ∷ xs) ys h = All-cons P x xs (All-head P x (xs ++ ys) h) (all_left P xs ys (All-tail P x (xs ++ ys) h))

all_right : {X : Type 0} (P : X → Type 0) (xs ys : List X) → All P (xs ++ ys) → All P ys
all_right P [] ys h = h
all_right P (x ∷ xs) ys h = all_right P xs ys (All-tail P x (xs ++ ys) h)

-- lists that rise, in parts
module _ {T K : Type 0} (cmp : K → K → Ordering) (total : IsTotalOrder cmp) (key : T → K) where
  pub rises_right : (xs ys : List T) → Rises cmp key (xs ++ ys) → Rises cmp key ys
  rises_right [] ys r = r
  rises_right (x ∷ xs) ys r = rises_right xs ys r.1

  pub rises_left : (xs ys : List T) → Rises cmp key (xs ++ ys) → Rises cmp key xs
  rises_left [] ys r = tt
  rises_left (x ∷ xs) ys r = (all_left (λ y. cmp (key x) (key y) ≡ Less) xs ys r.0, rises_left xs ys r.1)

  below_first : (xs : List T) (e : T) (zs : List T) → Rises cmp key (xs ++ e ∷ zs) → All (λ x. cmp (key x) (key e) ≡ Less) xs
  below_first [] e zs r = All-nil (λ x. cmp (key x) (key e) ≡ Less)
  below_first (x ∷ xs) e zs r =
      All-cons (λ x. cmp (key x) (key e) ≡ Less) x xs (All-head (λ y. cmp (key x) (key y) ≡ Less) e zs (all_right (λ y. cmp (key x) (key y) ≡ Less) xs (e ∷ zs) r.0)) (below_first xs e zs r.1)

  lower : (k : K) (e : T) (xs : List T) (o : Ordering) → cmp (key e) k ≡ o → is_gt o ≡ false → All (λ x. cmp (key x) (key e) ≡ Less) xs → All (λ x. cmp (key x) k ≡ Less) xs
  lower k e xs Less p g h = λ i d l. total.trans (key (get_or xs i d)) (key e) k (h i d l) p
  lower k e xs Equal p g h = λ i d l. sym (alike_to cmp total (key e) k (key (get_or xs i d)) p) ∙ h i d l
  lower k e xs Greater p g h = absurd cc

  -- rows before those that begin at or below a key are below it
  pub below_parts : (k : K) (e : T) (a m b : List T) → Rises cmp key (a ++ (e ∷ m ++ b)) → is_gt (cmp (key e) k) ≡ false → All (λ x. cmp (key x) k ≡ Less) a
  below_parts k e a m b r g = lower k e a (cmp (key e) k) refl g (below_first a e (m ++ b) r)

  greater : (o : Ordering) → is_gt o ≡ true → o ≡ Greater
  greater Less g = absurd cc
  greater Equal g = absurd cc
  greater Greater g = refl

  -- rows that begin above a key are above it
  pub above_parts : (k : K) (e : T) (a m b : List T) → Rises cmp key (a ++ (e ∷ m ++ b)) → is_gt (cmp (key e) k) ≡ true → All (λ y. cmp k (key y) ≡ Less) (e ∷ m ++ b)
  above_parts k e a m b r g =
      let u : cmp k (key e) ≡ Less = below cmp total (key e) k (greater (cmp (key e) k) g) in
      All-cons (λ y. cmp k (key y) ≡ Less) e (m ++ b) u (λ i d l. total.trans k (key e) (key (get_or (m ++ b) i d)) u ((rises_right a (e ∷ m ++ b) r).0 i d l))

  -- what is put between rows below it and rows above it
  pub put_after : (x : T) (a ys : List T) → All (λ y. cmp (key y) (key x) ≡ Less) a → put_by cmp key x (a ++ ys) ≡ a ++ put_by cmp key x ys
  put_after x [] ys h = refl
  put_after x (y ∷ a) ys h =
      rw (above cmp total (key y) (key x) (All-head (λ y. cmp (key y) (key x) ≡ Less) y a h)) (ap (λ l. y ∷ l) (put_after x a ys (All-tail (λ y. cmp (key y) (key x) ≡ Less) y a h)))

  put_step : (x y : T) (ys b : List T) (o : Ordering) → put_by cmp key x (ys ++ b) ≡ put_by cmp key x ys ++ b
      → by_order o (x ∷ y ∷ (ys ++ b)) (x ∷ (ys ++ b)) (y ∷ put_by cmp key x (ys ++ b)) ≡ by_order o (x ∷ y ∷ ys) (x ∷ ys) (y ∷ put_by cmp key x ys) ++ b
  put_step x y ys b Less r = refl
  put_step x y ys b Equal r = refl
  put_step x y ys b Greater r = ap (λ l. y ∷ l) r

  pub put_before : (x : T) (ys b : List T) → All (λ y. cmp (key x) (key y) ≡ Less) b → put_by cmp key x (ys ++ b) ≡ put_by cmp key x ys ++ b
  put_before x [] [] h = refl
  put_before x [] (y ∷ b) h = rw (All-head (λ y. cmp (key x) (key y) ≡ Less) y b h) refl
  put_before x (y ∷ ys) b h = put_step x y ys b (cmp (key x) (key y)) (put_before x ys b h)

  -- what is taken out between rows below it and rows above it
  pub removed_after : (k : K) (a ys : List T) → All (λ y. cmp (key y) k ≡ Less) a → removed_by cmp key k (a ++ ys) ≡ a ++ removed_by cmp key k ys
  removed_after k [] ys h = refl
  removed_after k (y ∷ a) ys h =
      rw (above cmp total (key y) k (All-head (λ y. cmp (key y) k ≡ Less) y a h)) (ap (λ l. y ∷ l) (removed_after k a ys (All-tail (λ y. cmp (key y) k ≡ Less) y a h)))

  removed_step : (k : K) (y : T) (ys b : List T) (t : Bool) → removed_by cmp key k (ys ++ b) ≡ removed_by cmp key k ys ++ b
      → cond t (removed_by cmp key k (ys ++ b)) (y ∷ removed_by cmp key k (ys ++ b)) ≡ cond t (removed_by cmp key k ys) (y ∷ removed_by cmp key k ys) ++ b
  removed_step k y ys b true r = r
  removed_step k y ys b false r = ap (λ l. y ∷ l) r

  pub removed_before : (k : K) (ys b : List T) → All (λ y. cmp k (key y) ≡ Less) b → removed_by cmp key k (ys ++ b) ≡ removed_by cmp key k ys ++ b
  removed_before k [] b h = none_removed cmp total key k b (λ i d l e. (let a : cmp k (key (get_or b i d)) ≡ Less = h i d l in cc))
  removed_before k (y ∷ ys) b h = removed_step k y ys b (is_eq (cmp k (key y))) (removed_before k ys b h)

-- the rows before a page, its own, and those after it
pub parts : (ps : List Page) (p : ℕ) (d : Page) → p < length ps → rows_of ps ≡ rows_of (take p ps) ++ ((get_or ps p d).rows.items ++ rows_of (drop (suc p) ps))
parts [] p d h = absurd (omega arith)
parts (q ∷ ps) zero d h = refl
parts (q ∷ ps) (suc p) d h =
    ap (λ l. q.rows.items ++ l) (parts ps p d (omega arith)) ∙ sym (append_assoc q.rows.items (rows_of (take p ps)) ((get_or ps p d).rows.items ++ rows_of (drop (suc p) ps)))

pub set_parts : (ps : List Page) (p : ℕ) (q : Page) → p < length ps → rows_of (set ps p q) ≡ rows_of (take p ps) ++ (q.rows.items ++ rows_of (drop (suc p) ps))
set_parts [] p q h = absurd (omega arith)
set_parts (s ∷ ps) zero q h = refl
set_parts (s ∷ ps) (suc p) q h = ap (λ l. s.rows.items ++ l) (set_parts ps p q (omega arith)) ∙ sym (append_assoc s.rows.items (rows_of (take p ps)) (q.rows.items ++ rows_of (drop (suc p) ps)))

-- the same of a page that was read there
pub parts_at : (ps : List Page) (p : ℕ) (o : Page) → p < length ps → o ≡ get_or ps p o → rows_of ps ≡ rows_of (take p ps) ++ (o.rows.items ++ rows_of (drop (suc p) ps))
parts_at ps p o h is = parts ps p o h ∙ ap (λ (q : Page). rows_of (take p ps) ++ (q.rows.items ++ rows_of (drop (suc p) ps))) (sym is)

abbrev pub Up : List Entry → Type 0
Up = Rises key_cmp key_of

pub page_rises : (ps : List Page) (p : ℕ) (o : Page) → p < length ps → o ≡ get_or ps p o → Up (rows_of ps) → Up o.rows.items
page_rises ps p o h is r =
    let b = rows_of (drop (suc p) ps) in
    rises_left key_cmp key_cmp_total key_of o.rows.items b (rises_right key_cmp key_cmp_total key_of (rows_of (take p ps)) (o.rows.items ++ b) (subst Up (parts_at ps p o h is) r))

-- a step of the search for a page
begins_low : (k : Key) (a m b : List Entry) → Up (a ++ (m ++ b)) → 0 < length m → begins_above k m ≡ false → All (λ x. key_cmp (key_of x) k ≡ Less) a
begins_low k a [] b r f g = absurd (omega arith)
begins_low k a (e ∷ m) b r f g = below_parts key_cmp key_cmp_total key_of k e a m b r g

begins_high : (k : Key) (a m b : List Entry) → Up (a ++ (m ++ b)) → begins_above k m ≡ true → All (λ y. key_cmp k (key_of y) ≡ Less) (m ++ b)
begins_high k a [] b r g = absurd cc
begins_high k a (e ∷ m) b r g = above_parts key_cmp key_cmp_total key_of k e a m b r g

pub low_page : (k : Key) (ps : List Page) (p : ℕ) (o : Page) → p < length ps → o ≡ get_or ps p o → Up (rows_of ps) → All IsFilled ps → begins_above k o.rows.items ≡ false → All (λ x. key_cmp (key_of x) k ≡ Less) (rows_of (take p ps))
low_page k ps p o h is r f g = begins_low k (rows_of (take p ps)) o.rows.items (rows_of (drop (suc p) ps)) (subst Up (parts_at ps p o h is) r) (subst IsFilled (sym is) (f p o h)) g

pub high_page : (k : Key) (ps : List Page) (p : ℕ) (o : Page) → p < length ps → o ≡ get_or ps p o → Up (rows_of ps) → begins_above k o.rows.items ≡ true → All (λ y. key_cmp k (key_of y) ≡ Less) (rows_of (drop p ps))
high_page k ps p o h is r g =
    subst (λ l. All (λ y. key_cmp k (key_of y) ≡ Less) (rows_of l)) (sym (drop-cons ps p o h ∙ ap (λ q. q ∷ drop (suc p) ps) (sym is)))
    (begins_high k (rows_of (take p ps)) o.rows.items (rows_of (drop (suc p) ps)) (subst Up (parts_at ps p o h is) r) g)

-- a row put into its page, and one taken out of it
pub put_page : (x : Entry) (ps : List Page) (p : ℕ) (o q : Page) → p < length ps → o ≡ get_or ps p o → IsPageOf (key_of x) ps p → q.rows.items ≡ put_by key_cmp key_of x o.rows.items → rows_of (set ps p q) ≡ put_by key_cmp key_of x (rows_of ps)
put_page x ps p o q h at is e =
    let a = rows_of (take p ps) in
    let m = o.rows.items in
    let b = rows_of (drop (suc p) ps) in
    let high : All (λ y. key_cmp (key_of x) (key_of y) ≡ Less) b = subst (λ n. All (λ y. key_cmp (key_of x) (key_of y) ≡ Less) (rows_of (drop n ps))) (add-one p) is.above in
    set_parts ps p q h ∙ ap (λ l. a ++ (l ++ b)) e ∙ sym (ap (put_by key_cmp key_of x) (parts_at ps p o h at) ∙ put_after key_cmp key_cmp_total key_of x a (m ++ b) is.below ∙ ap (λ l. a ++ l) (put_before key_cmp key_cmp_total key_of x m b high))

pub removed_page : (k : Key) (ps : List Page) (p : ℕ) (o q : Page) → p < length ps → o ≡ get_or ps p o → IsPageOf k ps p → q.rows.items ≡ removed_by key_cmp key_of k o.rows.items → rows_of (set ps p q) ≡ removed_by key_cmp key_of k (rows_of ps)
removed_page k ps p o q h at is e =
    let a = rows_of (take p ps) in
    let m = o.rows.items in
    let b = rows_of (drop (suc p) ps) in
    let high : All (λ y. key_cmp k (key_of y) ≡ Less) b = subst (λ n. All (λ y. key_cmp k (key_of y) ≡ Less) (rows_of (drop n ps))) (add-one p) is.above in
    set_parts ps p q h ∙ ap (λ l. a ++ (l ++ b)) e ∙ sym (ap (removed_by key_cmp key_of k) (parts_at ps p o h at) ∙ removed_after key_cmp key_cmp_total key_of k a (m ++ b) is.below ∙ ap (λ l. a ++ l) (removed_before key_cmp key_cmp_total key_of k m b high))

pub same_page : (ps : List Page) (p : ℕ) (o q : Page) → p < length ps → o ≡ get_or ps p o → q.rows.items ≡ o.rows.items → rows_of (set ps p q) ≡ rows_of ps
same_page ps p o q h at e = set_parts ps p q h ∙ ap (λ l. rows_of (take p ps) ++ (l ++ rows_of (drop (suc p) ps))) e ∙ sym (parts_at ps p o h at)

-- how many rows there are after a page has become longer by n, or shorter by s
pub set_length : (ps : List Page) (p : ℕ) (o q : Page) (s n : ℕ) → p < length ps → o ≡ get_or ps p o → length q.rows.items + s ≡ length o.rows.items + n → length (rows_of (set ps p q)) + s ≡ length (rows_of ps) + n
set_length ps p o q s n h at e =
    let a = rows_of (take p ps) in
    let m = o.rows.items in
    let b = rows_of (drop (suc p) ps) in
    let new : length (rows_of (set ps p q)) ≡ length a + (length q.rows.items + length b) = ap length (set_parts ps p q h) ∙ length-append a (q.rows.items ++ b) ∙ ap (λ n. length a + n) (length-append q.rows.items b) in
    let old : length (rows_of ps) ≡ length a + (length m + length b) = ap length (parts_at ps p o h at) ∙ length-append a (m ++ b) ∙ ap (λ n. length a + n) (length-append m b) in
    omega (arith, new, old, e)

none : (l : List Entry) → length l ≡ 0 → l ≡ []
none [] h = refl
none (x ∷ l) h = absurd (omega arith)

-- without a page that has no rows
pub emptied : (ps : List Page) (p : ℕ) (q : Page) → p < length ps → length q.rows.items ≡ 0 → rows_of (remove (set ps p q) p) ≡ rows_of (set ps p q)
emptied [] p q h e = absurd (omega arith)
emptied (s ∷ ps) zero q h e = sym (ap (λ l. l ++ rows_of ps) (none q.rows.items e))
emptied (s ∷ ps) (suc p) q h e = ap (λ l. s.rows.items ++ l) (emptied ps p q (omega arith) e)

-- a page in two
split_at : (ps : List Page) (p : ℕ) (e x y d : Page) → p < length ps → x.rows.items ++ y.rows.items ≡ (get_or ps p d).rows.items → rows_of (set (set (insert ps (suc p) e) p x) (suc p) y) ≡ rows_of ps
split_at [] p e x y d h g = absurd (omega arith)
split_at (q ∷ ps) zero e x y d h g = sym (append_assoc x.rows.items y.rows.items (rows_of ps)) ∙ ap (λ l. l ++ rows_of ps) g
split_at (q ∷ ps) (suc p) e x y d h g = ap (λ l. q.rows.items ++ l) (split_at ps p e x y d (omega arith) g)

kept_at : (ps : List Page) (p : ℕ) (e d : Page) → p < length ps → get_or (insert ps (suc p) e) p d ≡ get_or ps p d
kept_at [] p e d h = absurd (omega arith)
kept_at (q ∷ ps) zero e d h = refl
kept_at (q ∷ ps) (suc p) e d h = kept_at ps p e d (omega arith)

pub split_rows : (ps new : List Page) (p at : ℕ) (e o x y : Page) → p < length ps → new ≡ insert ps (p + 1) e → o ≡ get_or new p o → x.rows.items ≡ take at o.rows.items → y.rows.items ≡ drop at o.rows.items
    → rows_of (set (set new p x) (p + 1) y) ≡ rows_of ps
split_rows ps new p at e o x y h n is f g =
    let m : new ≡ insert ps (suc p) e = n ∙ ap (λ i. insert ps i e) (add-one p) in
    let o_is : o ≡ get_or ps p o = is ∙ ap (λ l. get_or l p o) m ∙ kept_at ps p e o h in
    let whole : x.rows.items ++ y.rows.items ≡ (get_or ps p o).rows.items =
    ap (λ l. l ++ y.rows.items) f ∙ ap (λ l. take at o.rows.items ++ l) g ∙ take-append-drop at o.rows.items ∙ ap (λ (q : Page). q.rows.items) o_is in
    ap (λ l. rows_of (set (set l p x) (p + 1) y)) m ∙ ap (λ i. rows_of (set (set (insert ps (suc p) e) p x) i y)) (add-one p) ∙ split_at ps p e x y o h whole

-- what a search in a page finds
pub page_set : (x : Entry) (xs zs : List Entry) (i : ℕ) (k : Key) → Up xs → zs ≡ xs → k ≡ key_of x → i < length zs → IsBinarySearchResult (λ e. key_cmp (key_of e) k) zs (Ok i) → set xs i x ≡ put_by key_cmp key_of x xs
page_set x xs zs i k r z q l h =
    search_set key_cmp key_cmp_total key_of x xs i r (subst (λ l. i < length l) z l)
    (subst (λ j. IsBinarySearchResult (λ e. key_cmp (key_of e) j) xs (Ok i)) q (subst (λ l. IsBinarySearchResult (λ e. key_cmp (key_of e) k) l (Ok i)) z h))

pub page_insert : (x : Entry) (xs zs : List Entry) (i : ℕ) (k : Key) → Up xs → zs ≡ xs → k ≡ key_of x → i ≤ length zs → IsBinarySearchResult (λ e. key_cmp (key_of e) k) zs (Err i) → insert xs i x ≡ put_by key_cmp key_of x xs
page_insert x xs zs i k r z q l h =
    search_insert key_cmp key_cmp_total key_of x xs i r (subst (λ l. i ≤ length l) z l)
    (subst (λ j. IsBinarySearchResult (λ e. key_cmp (key_of e) j) xs (Err i)) q (subst (λ l. IsBinarySearchResult (λ e. key_cmp (key_of e) k) l (Err i)) z h))

pub page_remove : (xs zs : List Entry) (i : ℕ) (d : Entry) (k : Key) → Up xs → zs ≡ xs → i < length zs → IsBinarySearchResult (λ e. key_cmp (key_of e) k) zs (Ok i) → remove xs i ≡ removed_by key_cmp key_of k xs
page_remove xs zs i d k r z l h = search_removed key_cmp key_cmp_total key_of k xs i d r (subst (λ l. i < length l) z l) (subst (λ l. IsBinarySearchResult (λ e. key_cmp (key_of e) k) l (Ok i)) z h)

pub page_keeps : (xs zs : List Entry) (i : ℕ) (k : Key) → Up xs → zs ≡ xs → IsBinarySearchResult (λ e. key_cmp (key_of e) k) zs (Err i) → xs ≡ removed_by key_cmp key_of k xs
page_keeps xs zs i k r z h = sym (search_kept key_cmp key_cmp_total key_of k xs i r (subst (λ l. IsBinarySearchResult (λ e. key_cmp (key_of e) k) l (Err i)) z h))

-- what stands at a place
get_after : (a ys : List Entry) (i n : ℕ) → i ≡ length a + n → slice_get (a ++ ys) i ≡ slice_get ys n
get_after [] ys i n e = let s : i ≡ n = omega arith in ap (slice_get ys) s
get_after (x ∷ a) ys zero n e = absurd (omega arith)
get_after (x ∷ a) ys (suc i) n e = get_after a ys i n (omega arith)

get_before : (m b : List Entry) (n : ℕ) → n < length m → slice_get (m ++ b) n ≡ slice_get m n
get_before [] b n h = absurd (omega arith)
get_before (x ∷ m) b zero h = refl
get_before (x ∷ m) b (suc n) h = get_before m b n (omega arith)

pub got_in : (ps : List Page) (p : ℕ) (q : Page) (n i : ℕ) → p < length ps → q ≡ get_or ps p q → length (rows_of (take p ps)) + n ≡ i → n < length q.rows.items → slice_get q.rows.items n ≡ slice_get (rows_of ps) i
got_in ps p q n i h is e l =
    let a = rows_of (take p ps) in
    let b = rows_of (drop (suc p) ps) in
    let all : rows_of ps ≡ a ++ (q.rows.items ++ b) = parts_at ps p q h is in
    sym (ap (λ l. slice_get l i) all ∙ get_after a (q.rows.items ++ b) i n (sym e) ∙ get_before q.rows.items b n l)
