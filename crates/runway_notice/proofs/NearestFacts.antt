-- The nearest runway is the one before which no other is taken, and there is one at most.
use Rattle.std.proofs.Common.{[], ◌∷◌, ◌≡◌, ◌≢◌, ◌+◌, ◌<◌, ℕ, zero, suc, List, Option, Some, None, Bool, true, false, inl, inr, arith, refl, sym, ◌∙◌, ap, subst, get_or, length}
use Rattle.std.specs.List.{All, Contains, IsFirstAndRest, find, list_all}
use Rattle.std.specs.Ordering.{is_le, is_lt, ordering_reverse, ordering_then}
use Rattle.std.specs.declared.cmp.Ordering.{Ordering}
use Rattle.std.specs.declared.cmp.Ordering.TheVariants.{Less, Equal, Greater}
use Rattle.std.proofs.lemmas.Bool.{cases_Bool, cases_lt}
use Rattle.std.proofs.lemmas.Cmp.{nat_list_cmp_total}
use Rattle.std.proofs.lemmas.List.{get_or_default}
use Rattle.std.proofs.lemmas.List.Elements.{All-head, All-tail, All-nil, All-cons}
use Rattle.ordered_list.specs.Ordered.{Rises}
use Rattle.ordered_list.proofs.Places.{apart}
use Rattle.grid_exact.specs.declared.point.Point.{Point}
use Rattle.airfields.specs.Names.{name_cmp}
use Rattle.airfields.specs.Runways.{IsProper, name_of}
use Rattle.airfields.specs.declared.runway.Runway.{Runway}
use Rattle.runway_notice.specs.Nearest.{IsNearest, is_first, nearest, nearness_cmp, taking_cmp}
use Rattle.runway_notice.proofs.Order.{taking_self, taking_trans, taking_back, nearer_first, named_first}

-- ---- what a search finds
module _ {X : Type 0} (p : X → Bool) where
  later : (y : X) (ys : List X) (x : X) → Contains ys x → Contains (y ∷ ys) x
  later y ys x (k, l, e) = (suc k, omega (arith, l), e)

  find_some : (xs : List X) (x : X) → find p xs ≡ Some x → Contains xs x × (p x ≡ true)
  find_some [] x e = absurd (cc)
  find_some (y ∷ ys) x e = elim (cases_Bool (p y)) [
    | inl t ↦ (let q : y ≡ x = cc in ((0, omega arith, q), rw q at t))
    | inr f ↦ (let h = find_some ys x (rw f at e) in (later y ys x h.0, h.1))
  ]

  find_none : (xs : List X) (x : X) → find p xs ≡ None → Contains xs x → p x ≡ true → ⊥
  find_none [] x e (k, l, h) t = omega (arith, l)
  find_none (y ∷ ys) x e (zero, l, h) t = (let q : p y ≡ true = rw h t in cc)
  find_none (y ∷ ys) x e (suc k, l, h) t = elim (cases_Bool (p y)) [
    | inl q ↦ (cc)
    | inr f ↦ find_none ys x (rw f at e) (k, omega (arith, l), h) t
  ]

-- ---- one runway is nearest
pub kept : (P : Runway → Type 0) (runways : List Runway) (r : Runway) → All P runways → Contains runways r → P r
kept P runways r all (k, l, e) = subst P e (all k r l)

both_ways : (o : Ordering) → o ≢ Greater → ordering_reverse o ≢ Greater → o ≡ Equal
both_ways Less h k = absurd (k refl)
both_ways Equal h k = refl
both_ways Greater h k = absurd (h refl)

last_equal : (o n : Ordering) → ordering_then o n ≡ Equal → n ≡ Equal
last_equal Less n h = absurd (cc)
last_equal Equal n h = h
last_equal Greater n h = absurd (cc)

-- two runways of one name are one
same_named : (runways : List Runway) (r s : Runway) → Rises name_cmp name_of runways → Contains runways r → Contains runways s → name_cmp r.name s.name ≡ Equal → name_cmp s.name r.name ≡ Equal → r ≡ s
same_named runways r s rises (i, l, e) (j, m, f) h k =
    elim (cases_lt i j) [
      | inl b ↦ absurd (let n = apart name_cmp nat_list_cmp_total name_of runways i j r rises b m in
          let q : name_cmp r.name s.name ≡ Less = rw (e, get_or_default runways j r s m ∙ f) at n in cc)
      | inr a ↦ elim (cases_lt j i) [
        | inl b ↦ absurd (let n = apart name_cmp nat_list_cmp_total name_of runways j i s rises b l in
            let q : name_cmp s.name r.name ≡ Less = rw (f, get_or_default runways i s r l ∙ e) at n in cc)
        | inr b ↦ (let q : i ≡ j = omega arith in sym e ∙ (get_or_default runways i r s l ∙ (ap (λ n. get_or runways n s) q ∙ f)))
      ]
    ]

pub nearest_only : (runways : List Runway) (x : Point) (r s : Runway) → Rises name_cmp name_of runways → All IsProper runways → IsNearest runways x r → IsNearest runways x s → r ≡ s
nearest_only runways x r s rises proper n m =
    let p = kept IsProper runways r proper n.one_of in
    let q = kept IsProper runways s proper m.one_of in
    let there : taking_cmp x r s ≢ Greater = kept (λ t. taking_cmp x r t ≢ Greater) runways s n.first m.one_of in
    let back : taking_cmp x s r ≢ Greater = kept (λ t. taking_cmp x s t ≢ Greater) runways r m.first n.one_of in
    let e : taking_cmp x s r ≡ ordering_reverse (taking_cmp x r s) = taking_back x s r q p in
    let f : taking_cmp x r s ≡ ordering_reverse (taking_cmp x s r) = taking_back x r s p q in
    let a : taking_cmp x r s ≡ Equal = both_ways (taking_cmp x r s) there (rw e at back) in
    let b : taking_cmp x s r ≡ Equal = both_ways (taking_cmp x s r) back (rw f at there) in
    same_named runways r s rises n.one_of m.one_of (last_equal _ (name_cmp r.name s.name) a) (last_equal _ (name_cmp s.name r.name) b)

-- ---- the test of what comes first
le_not : (o : Ordering) → is_le o ≡ true → o ≢ Greater
le_not Less h e = cc
le_not Equal h e = cc
le_not Greater h e = cc

not_le : (o : Ordering) → o ≢ Greater → is_le o ≡ true
not_le Less h = refl
not_le Equal h = refl
not_le Greater h = absurd (h refl)

list_all_out : (p : Runway → Bool) (P : Runway → Type 0) (xs : List Runway) → ((r : Runway) → P r → p r ≡ true) → All P xs → list_all p xs ≡ true
list_all_out p P [] f h = refl
list_all_out p P (y ∷ ys) f h = rw (f y (All-head P y ys h)) (list_all_out p P ys f (All-tail P y ys h))

list_all_in : (p : Runway → Bool) (P : Runway → Type 0) (xs : List Runway) → ((r : Runway) → p r ≡ true → P r) → list_all p xs ≡ true → All P xs
list_all_in p P [] f h = All-nil P
list_all_in p P (y ∷ ys) f h = elim (cases_Bool (p y)) [
  | inl t ↦ All-cons P y ys (f y t) (list_all_in p P ys f (rw t at h))
  | inr q ↦ absurd (let g : false ≡ true = rw q at h in cc)
]

first_out : (runways : List Runway) (x : Point) (r : Runway) → IsNearest runways x r → is_first runways x r ≡ true
first_out runways x r n = list_all_out (λ s. is_le (taking_cmp x r s)) (λ s. taking_cmp x r s ≢ Greater) runways (λ s. not_le (taking_cmp x r s)) n.first

-- what the function finds is the nearest runway
pub nearest_is : (runways : List Runway) (x : Point) (r : Runway) → nearest runways x ≡ Some r → IsNearest runways x r
nearest_is runways x r e =
    let h = find_some (is_first runways x) runways r e in
    record {
      one_of = h.0;
      first = list_all_in (λ s. is_le (taking_cmp x r s)) (λ s. taking_cmp x r s ≢ Greater) runways (λ s. le_not (taking_cmp x r s)) h.1;
    }

-- where it finds none there is none
pub nearest_none : (runways : List Runway) (x : Point) (r : Runway) → nearest runways x ≡ None → IsNearest runways x r → ⊥
nearest_none runways x r e n = find_none (is_first runways x) runways r e n.one_of (first_out runways x r n)

-- and it finds the one that there is
nearest_found : (runways : List Runway) (x : Point) (r : Runway) → Rises name_cmp name_of runways → All IsProper runways → IsNearest runways x r → nearest runways x ≡ Some r
nearest_found runways x r rises proper n = by_found (nearest runways x) refl
  where
    by_found : (o : Option Runway) → nearest runways x ≡ o → o ≡ Some r
    by_found None e = absurd (nearest_none runways x r e n)
    by_found (Some s) e = ap Some (nearest_only runways x s r rises proper (nearest_is runways x s e) n)

-- ---- the search, after so many runways
-- the best is one of them, and no other of them is taken before it
pub record IsBest (x : Point) (runways : List Runway) (n : ℕ) (best : Runway) : Type 0 where
  pub place : ℕ
  pub looked_at : place < n
  pub here : get_or runways place best ≡ best
  pub first : (k : ℕ) (d : Runway) → k < n → taking_cmp x best (get_or runways k d) ≢ Greater

module _ (x : Point) (runways : List Runway) (first : Runway) (rest : List Runway) (f : IsFirstAndRest runways first rest) (proper : All IsProper runways) where
  pub first_proper : IsProper first
  first_proper = All-head IsProper first rest (rw f.0 at proper)

  -- the first one alone
  pub best_first : IsBest x runways 1 first
  best_first = rw f.0 (record { place = 0; looked_at = omega arith; here = refl; first = alone })
    where
      alone : (k : ℕ) (d : Runway) → k < 1 → taking_cmp x first (get_or (first ∷ rest) k d) ≢ Greater
      alone zero d l = taking_self x first first_proper
      alone (suc k) d l = absurd (omega (arith, l))

  -- and one more, at place i of the rest
  module _ (i : ℕ) (best r : Runway) (l : i < length rest) (e : r ≡ get_or rest i r) (b : IsBest x runways (i + 1) best) where
    more : i + 1 < length runways
    more = rw f.0 (omega (arith, l))

    here : (d : Runway) → get_or runways (i + 1) d ≡ r
    here d = let q : i + 1 ≡ suc i = omega arith in rw (f.0, q) (get_or_default rest i d r l ∙ sym e)

    pub next_proper : IsProper r
    next_proper = subst IsProper (here r) (proper (i + 1) r more)

    best_proper : IsProper best
    best_proper = subst IsProper b.here (proper b.place best (omega (arith, b.looked_at, more)))

    -- which is nearer, and takes the place
    pub takes : is_lt (nearness_cmp x r best) ≡ true → IsBest x runways (i + 1 + 1) r
    takes t = record { place = i + 1; looked_at = omega arith; here = here r; first = before }
      where
        before : (k : ℕ) (d : Runway) → k < i + 1 + 1 → taking_cmp x r (get_or runways k d) ≢ Greater
        before k d m = elim (cases_lt k (i + 1)) [
          | inl n ↦ taking_trans x r best (get_or runways k d) next_proper best_proper (proper k d (omega (arith, n, more))) (nearer_first x r best t) (b.first k d n)
          | inr n ↦ (let q : k ≡ i + 1 = omega (arith, m, n) in rw (q, here d) (taking_self x r next_proper))
        ]

    -- or is not: the best so far has the smaller name
    pub keeps : Rises name_cmp name_of runways → is_lt (nearness_cmp x r best) ≡ false → IsBest x runways (i + 1 + 1) best
    keeps rises t = record { place = b.place; looked_at = omega (arith, b.looked_at); here = b.here; first = before }
      where
        named : name_cmp best.name r.name ≡ Less
        named = rw (b.here, here best) at (apart name_cmp nat_list_cmp_total name_of runways b.place (i + 1) best rises b.looked_at more)

        before : (k : ℕ) (d : Runway) → k < i + 1 + 1 → taking_cmp x best (get_or runways k d) ≢ Greater
        before k d m = elim (cases_lt k (i + 1)) [
          | inl n ↦ b.first k d n
          | inr n ↦ (let q : k ≡ i + 1 = omega (arith, m, n) in rw (q, here d) (named_first x best r best_proper next_proper t named))
        ]

  -- all of them
  pub best_nearest : (i : ℕ) (best : Runway) → i ≡ length rest → Rises name_cmp name_of runways → IsBest x runways (i + 1) best → nearest runways x ≡ Some best
  best_nearest i best e rises b =
      let all : i + 1 ≡ length runways = rw (f.0, e) (omega arith) in
      nearest_found runways x best rises proper (record { one_of = (b.place, rw all at b.looked_at, b.here); first = λ k d l. b.first k d (rw all l) })
