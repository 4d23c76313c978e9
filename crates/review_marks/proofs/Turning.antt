-- The book as its marks are worked out one by one.
use Rattle.std.proofs.Common.{◌≡◌, refl, sym, ap, ◌∙◌, subst, arith, ℕ, zero, suc, ◌+◌, ◌-◌, ◌==◌, ◌<◌, ◌≤◌, nat_eq, Bool, true, false, ◌||◌, cond, nat_le, if◌then◌else◌, List, [], ◌∷◌, ◌++◌, length, take, drop, Option, Some, None, IfSome, slice_get, slice_set, slice_index_or}
use Rattle.std.proofs.lemmas.Grind.{common_steps}
use Rattle.std.specs.Option.{option_map}
use mathlib.Core.Bool.{beq}
use Rattle.std.proofs.lemmas.Option.{slice_get-get_or}
use Rattle.airfields.specs.declared.airfield.Airfield.{Airfield}
use Rattle.oe_findings.specs.List.{findings_of}
use Rattle.review_marks.specs.Books.{row_at, joined, row_marked_as, changed_place, with_mark, with_marks, differs, IsExact, IsExactRow}
use Rattle.review_marks.specs.Shares.{AirfieldChange, concerns, concerns_row}
use Rattle.review_marks.specs.Turns.{Leads, row_after_change, row_after_change_if, by_mark, among, IsTurnedTo, ClimbsTo, HasReached, concerned_count}
use Rattle.review_marks.specs.declared.row.Row.{Row}
use Rattle.review_marks.specs.declared.change.Mark.{Mark}
use Rattle.review_marks.proofs.Unconcerned.{unconcerned}

pub beq_same : (a b : Bool) → beq a b ≡ true → a ≡ b
beq_same true true h = refl
beq_same true false h = absurd (cc (h))
beq_same false true h = absurd (cc (h))
beq_same false false h = refl

map_same : (o : Option Row) → o ≡ option_map (λ r. r) o
map_same None = refl
map_same (Some r) = refl

-- ---- a mark is put

pub eq_suc : (k j : ℕ) → nat_eq (suc k) (suc j) ≡ nat_eq k j
eq_suc k j = by_eq (nat_eq k j) refl
  where
    by_eq : (b : Bool) → nat_eq k j ≡ b → nat_eq (suc k) (suc j) ≡ b
    by_eq true h = grind (arith, common_steps, h)
    by_eq false h = grind (arith, common_steps, h)

pub zero_suc : (j : ℕ) → nat_eq 0 (suc j) ≡ false
zero_suc j = grind (arith, common_steps)

pub suc_zero : (k : ℕ) → nat_eq (suc k) 0 ≡ false
suc_zero k = grind (arith, common_steps)

kept_head : (o : Option Row) (rows : List (Option Row)) (k : ℕ) (f : Row → Row) (v : Option (Option Row)) → changed_place (o ∷ rows) (suc k) f v ≡ o ∷ changed_place rows k f v
kept_head o rows k f None = refl
kept_head o rows k f (Some p) = refl

apart_from : (b : Bool) (f : Row → Row) (o : Option Row) → b ≡ false → o ≡ option_map (λ r. cond b (f r) r) o
apart_from true f o h = absurd (cc (h))
apart_from false f o h = map_same o

placed : (rows : List (Option Row)) (f : Row → Row) (k j : ℕ) → joined (slice_get (changed_place rows k f (slice_get rows k)) j) ≡ option_map (λ r. cond (nat_eq k j) (f r) r) (joined (slice_get rows j))
placed [] f k j = refl
placed (o ∷ rows) f zero zero = refl
placed (o ∷ rows) f zero (suc j) = apart_from (nat_eq 0 (suc j)) f (joined (slice_get rows j)) (zero_suc j)
placed (o ∷ rows) f (suc k) zero = ap (λ (xs : List (Option Row)). joined (slice_get xs 0)) (kept_head o rows k f (slice_get rows k)) ∙ apart_from (nat_eq (suc k) 0) f o (suc_zero k)
placed (o ∷ rows) f (suc k) (suc j) =
    ap (λ (xs : List (Option Row)). joined (slice_get xs (suc j))) (kept_head o rows k f (slice_get rows k)) ∙ placed rows f k j
    ∙ ap (λ (b : Bool). option_map (λ r. cond b (f r) r) (joined (slice_get rows j))) (sym (eq_suc k j))

pub by_places : (c n : ℕ) → (c == 0) ≡ false → (n == 0) ≡ false → nat_eq (c - 1) (n - 1) ≡ nat_eq c n
by_places c n h k = by_eq (nat_eq c n) refl
  where
    by_eq : (b : Bool) → nat_eq c n ≡ b → nat_eq (c - 1) (n - 1) ≡ b
    by_eq true e = grind (arith, common_steps, e)
    by_eq false e = grind (arith, common_steps, e, h, k)

pub apart : (c n : ℕ) → (c == 0) ≡ true → (n == 0) ≡ false → nat_eq c n ≡ false
apart c n h k = grind (arith, common_steps, h, k)

marked_by : (m : Mark) (rows : List (Option Row)) (n : ℕ) (b d : Bool) → (m.case == 0) ≡ b → (n == 0) ≡ d
    → cond d None (joined (slice_get (cond b rows (changed_place rows (m.case - 1) (row_marked_as m.marked) (slice_get rows (m.case - 1)))) (n - 1)))
    ≡ option_map (λ r. cond (nat_eq m.case n) (row_marked_as m.marked r) r) (cond d None (joined (slice_get rows (n - 1))))
marked_by m rows n b true h k = refl
marked_by m rows n true false h k =
    map_same (joined (slice_get rows (n - 1))) ∙ ap (λ (e : Bool). option_map (λ r. cond e (row_marked_as m.marked r) r) (joined (slice_get rows (n - 1)))) (sym (apart m.case n h k))
marked_by m rows n false false h k =
    placed rows (row_marked_as m.marked) (m.case - 1) (n - 1) ∙ ap (λ (e : Bool). option_map (λ r. cond e (row_marked_as m.marked r) r) (joined (slice_get rows (n - 1)))) (by_places m.case n h k)

-- a mark is put at its place
pub put_mark : (m : Mark) (rows : List (Option Row)) (o new : Option Row) → (m.case ≡ 0 → ⊥) → m.case - 1 < length rows → o ≡ slice_index_or rows (m.case - 1) o → new ≡ option_map (row_marked_as m.marked) o
    → slice_set rows (m.case - 1) new ≡ with_mark m rows
put_mark m rows o new h short e put =
    let not_zero : (m.case == 0) ≡ false = grind (arith, common_steps, h) in
    let there : slice_get rows (m.case - 1) ≡ Some o = slice_get-get_or rows (m.case - 1) o short ∙ ap Some (sym e) in
    ap (slice_set rows (m.case - 1)) put ∙ ap (changed_place rows (m.case - 1) (row_marked_as m.marked)) (sym there)
    ∙ ap (λ (b : Bool). cond b rows (changed_place rows (m.case - 1) (row_marked_as m.marked) (slice_get rows (m.case - 1)))) (sym not_zero)

-- the row of a case after a mark
pub marked_row : (m : Mark) (rows : List (Option Row)) (n : ℕ) → row_at (with_mark m rows) n ≡ option_map (λ r. cond (nat_eq m.case n) (row_marked_as m.marked r) r) (row_at rows n)
marked_row m rows n = marked_by m rows n (m.case == 0) (n == 0) refl refl

pub one_more : (ms : List Mark) (m : Mark) (rows : List (Option Row)) → with_marks (ms ++ m ∷ []) rows ≡ with_mark m (with_marks ms rows)
one_more [] m rows = refl
one_more (x ∷ ms) m rows = one_more ms m (with_mark x rows)

-- ---- numbers among others

pub among_more : (ks : List ℕ) (k n : ℕ) → among (ks ++ k ∷ []) n ≡ (among ks n || nat_eq k n)
among_more [] k n = or_false (nat_eq k n)
  where
    or_false : (b : Bool) → (b || false) ≡ b
    or_false true = refl
    or_false false = refl
among_more (j ∷ ks) k n = ap (λ (b : Bool). nat_eq j n || b) (among_more ks k n) ∙ regroup (nat_eq j n) (among ks n) (nat_eq k n)
  where
    regroup : (a b d : Bool) → (a || (b || d)) ≡ ((a || b) || d)
    regroup true b d = refl
    regroup false b d = refl

pub same_number : (x y : ℕ) → nat_eq x y ≡ true → x ≡ y
same_number x y h = grind (arith, common_steps, h)

-- ---- marks are worked out

abbrev pub with_found : List Mark → Option Mark → List Mark
with_found ms None = ms
with_found ms (Some m) = ms ++ m ∷ []

module _ (airfields : List Airfield) (c : AirfieldChange) (rows : List (Option Row)) where
  pub turned_none : IsTurnedTo airfields c rows [] []
  turned_none n = map_same (row_at rows n)

  marked_turned : (r : Row) (x a b : Bool) → row_marked_as x (cond a (if b then row_marked_as (differs r.stored (findings_of airfields r.filing)) r else r) r) ≡ row_marked_as x r
  marked_turned r x true true = refl
  marked_turned r x true false = refl
  marked_turned r x false b = refl

  any_true : (b : Bool) → (b || true) ≡ true
  any_true true = refl
  any_true false = refl

  any_false : (b : Bool) → (b || false) ≡ b
  any_false true = refl
  any_false false = refl

  -- of one case, by whether it is the one whose mark was worked out
  one_none : (a b : Bool) (o : Option Row) → ((r : Row) → b ≡ true → o ≡ Some r → r ≡ row_after_change airfields c r) → option_map (row_after_change_if a airfields c) o ≡ option_map (row_after_change_if (a || b) airfields c) o
  one_none a b None h = refl
  one_none true b (Some r) h = refl
  one_none false true (Some r) h = ap Some (h r refl refl)
  one_none false false (Some r) h = refl

  one_some : (x a b : Bool) (o : Option Row) → ((r : Row) → b ≡ true → o ≡ Some r → row_marked_as x r ≡ row_after_change airfields c r)
      → option_map (λ r. cond b (row_marked_as x r) r) (option_map (row_after_change_if a airfields c) o) ≡ option_map (row_after_change_if (a || b) airfields c) o
  one_some x a b None h = refl
  one_some x a true (Some r) h =
      ap Some (marked_turned r x a (concerns c r.filing) ∙ h r refl refl) ∙ ap (λ (e : Bool). Some (row_after_change_if e airfields c r)) (sym (any_true a))
  one_some x a false (Some r) h = ap (λ (e : Bool). Some (row_after_change_if e airfields c r)) (sym (any_false a))

  pub turned_on : (ms : List Mark) (ks : List ℕ) (k : ℕ) (o : Option Mark) → IsTurnedTo airfields c rows ms ks → IfSome o (λ m. m.case ≡ k) → ((r : Row) → row_at rows k ≡ Some r → by_mark o r ≡ row_after_change airfields c r)
      → IsTurnedTo airfields c rows (with_found ms o) (ks ++ k ∷ [])
  turned_on ms ks k None h at turns n =
      h n ∙ one_none (among ks n) (nat_eq k n) (row_at rows n) (λ r e s. turns r (ap (row_at rows) (same_number k n e) ∙ s))
      ∙ ap (λ (b : Bool). option_map (row_after_change_if b airfields c) (row_at rows n)) (sym (among_more ks k n))
  turned_on ms ks k (Some m) h at turns n =
      ap (λ (xs : List (Option Row)). row_at xs n) (one_more ms m rows) ∙ marked_row m (with_marks ms rows) n
      ∙ ap (λ (j : ℕ). option_map (λ r. cond (nat_eq j n) (row_marked_as m.marked r) r) (row_at (with_marks ms rows) n)) at
      ∙ ap (option_map (λ r. cond (nat_eq k n) (row_marked_as m.marked r) r)) (h n)
      ∙ one_some m.marked (among ks n) (nat_eq k n) (row_at rows n) (λ r e s. turns r (ap (row_at rows) (same_number k n e) ∙ s))
      ∙ ap (λ (b : Bool). option_map (row_after_change_if b airfields c) (row_at rows n)) (sym (among_more ks k n))

  pub not_concerned : (r : Row) → concerns c r.filing ≡ false → r ≡ row_after_change airfields c r
  not_concerned r h = ap (λ (b : Bool). if b then row_marked_as (differs r.stored (findings_of airfields r.filing)) r else r) (sym h)

  concerned : (r : Row) → concerns c r.filing ≡ true → row_marked_as (differs r.stored (findings_of airfields r.filing)) r ≡ row_after_change airfields c r
  concerned r h = ap (λ (b : Bool). if b then row_marked_as (differs r.stored (findings_of airfields r.filing)) r else r) (sym h)

  -- a case that is concerned is turned by its mark, and where its mark is that already, it is turned as it is
  pub turned_to : (r : Row) (m : Bool) → concerns c r.filing ≡ true → m ≡ differs r.stored (findings_of airfields r.filing) → row_marked_as m r ≡ row_after_change airfields c r
  turned_to r m h e = ap (λ (x : Bool). row_marked_as x r) e ∙ concerned r h

  pub turned_same : (r : Row) (m : Bool) → concerns c r.filing ≡ true → m ≡ differs r.stored (findings_of airfields r.filing) → m ≡ r.marked → r ≡ row_after_change airfields c r
  turned_same r m h e same = ap (λ (x : Bool). row_marked_as x r) (sym same) ∙ turned_to r m h e

  all_by : (b : Bool) (o : Option Row) → ((r : Row) → o ≡ Some r → concerns c r.filing ≡ true → b ≡ true) → option_map (row_after_change_if b airfields c) o ≡ option_map (row_after_change airfields c) o
  all_by true o h = refl
  all_by false None h = refl
  all_by false (Some r) h = ap Some (not_concerned r (other (concerns c r.filing) (h r refl)))
    where
      other : (b : Bool) → (b ≡ true → false ≡ true) → b ≡ false
      other true h = absurd (cc (h refl))
      other false h = refl

  -- where all that the change concerns are among them, all are turned
  pub turned_all : (ms : List Mark) (ks : List ℕ) → ((n : ℕ) (r : Row) → row_at rows n ≡ Some r → concerns c r.filing ≡ true → among ks n ≡ true) → IsTurnedTo airfields c rows ms ks
      → (n : ℕ) → row_at (with_marks ms rows) n ≡ option_map (row_after_change airfields c) (row_at rows n)
  turned_all ms ks all h n = h n ∙ all_by (among ks n) (row_at rows n) (all n)

  -- and the marks are exact, where they were exact over the airfields before
  turned_exact : (before : List Airfield) (b : Bool) (r : Row) → Leads before airfields c → concerns c r.filing ≡ b → IsExactRow before r → IsExactRow airfields (if b then row_marked_as (differs r.stored (findings_of airfields r.filing)) r else r)
  turned_exact before true r l h e = refl
  turned_exact before false r l h e = e ∙ ap (differs r.stored) (unconcerned before airfields c r.filing l h)

  one_exact : (before : List Airfield) (o : Option Row) → Leads before airfields c → IfSome o (IsExactRow before) → IfSome (option_map (row_after_change airfields c) o) (IsExactRow airfields)
  one_exact before None l e = tt
  one_exact before (Some r) l e = turned_exact before (concerns c r.filing) r l refl e

  pub exact_after : (before : List Airfield) (new : List (Option Row)) → Leads before airfields c → ((n : ℕ) → row_at new n ≡ option_map (row_after_change airfields c) (row_at rows n)) → IsExact before rows → IsExact airfields new
  exact_after before new l turns e n = subst (λ (o : Option Row). IfSome o (IsExactRow airfields)) (sym (turns n)) (one_exact before (row_at rows n) l (e n))

-- ---- the numbers that were reached

module _ (c : AirfieldChange) (rows : List (Option Row)) where
  pub reached_none : HasReached c rows [] 0
  reached_none n r le at is = absurd (none n (n == 0) refl (omega (arith, le)) at)
    where
      none : (n : ℕ) (d : Bool) → (n == 0) ≡ d → n ≡ 0 → cond d None (joined (slice_get rows (n - 1))) ≡ Some r → ⊥
      none n true e z at = cc (at)
      none n false e z at = (let f : (n == 0) ≡ true = grind (arith, common_steps, z) in cc (e, f))

  by_top : (n top : ℕ) → n ≤ top + 1 → (P : Type 0) → (n ≤ top → P) → (n ≡ top + 1 → P) → P
  by_top n top le P f g = step (nat_le n top) refl
    where
      step : (b : Bool) → nat_le n top ≡ b → P
      step true e = f (grind (arith, common_steps, e))
      step false e = g (grind (arith, common_steps, e, le))

  or_left : (a b : Bool) → a ≡ true → (a || b) ≡ true
  or_left a b h = rw h refl

  or_right : (a b : Bool) → b ≡ true → (a || b) ≡ true
  or_right true b h = refl
  or_right false b h = h

  itself : (k : ℕ) → nat_eq k k ≡ true
  itself k = grind (arith, common_steps)

  -- one more, which is among them or which the change does not concern
  pub reached_put : (ns : List ℕ) (top : ℕ) → HasReached c rows ns top → HasReached c rows (ns ++ (top + 1) ∷ []) (top + 1)
  reached_put ns top h n r le at is =
      among_more ns (top + 1) n ∙ by_top n top le ((among ns n || nat_eq (top + 1) n) ≡ true) (λ m. or_left (among ns n) _ (h n r m at is))
      (λ e. or_right (among ns n) _ (ap (nat_eq (top + 1)) e ∙ itself (top + 1)))

  pub reached_skip : (ns : List ℕ) (top : ℕ) → HasReached c rows ns top → ((r : Row) → row_at rows (top + 1) ≡ Some r → concerns c r.filing ≡ false) → HasReached c rows ns (top + 1)
  reached_skip ns top h not n r le at is =
      by_top n top le (among ns n ≡ true) (λ m. h n r m at is) (λ e. absurd (let f : concerns c r.filing ≡ false = not r (ap (row_at rows) (sym e) ∙ at) in cc (f, is)))

-- ---- numbers that climb

pub climbs_more : (b : ℕ) (ns : List ℕ) (top : ℕ) → ClimbsTo b ns top → ClimbsTo b ns (top + 1)
climbs_more b [] top h = omega (arith, h)
climbs_more b (n ∷ ns) top h = (h.0, climbs_more n ns top h.1)

pub climbs_on : (b : ℕ) (ns : List ℕ) (top : ℕ) → ClimbsTo b ns top → ClimbsTo b (ns ++ (top + 1) ∷ []) (top + 1)
climbs_on b [] top h = (omega (arith, h), omega arith)
climbs_on b (n ∷ ns) top h = (h.0, climbs_on n ns top h.1)

-- ---- the count of steps

module _ (c : AirfieldChange) where
  pub count_on : (rows : List (Option Row)) (b j : ℕ) → b ≤ j → concerned_count c (take b rows) + cond (concerns_row c (joined (slice_get rows j))) 1 0 ≤ concerned_count c (take (suc j) rows)
  count_on [] zero j le = omega arith
  count_on [] (suc b) j le = omega arith
  count_on (o ∷ rows) zero zero le = omega arith
  count_on (o ∷ rows) zero (suc j) le = omega (arith, count_on rows zero j (omega arith))
  count_on (o ∷ rows) (suc b) zero le = absurd (omega (arith, le))
  count_on (o ∷ rows) (suc b) (suc j) le = omega (arith, count_on rows b j (omega (arith, le)))

  pub count_all : (rows : List (Option Row)) (b : ℕ) → concerned_count c (take b rows) ≤ concerned_count c rows
  count_all [] zero = omega arith
  count_all [] (suc b) = omega arith
  count_all (o ∷ rows) zero = omega arith
  count_all (o ∷ rows) (suc b) = omega (arith, count_all rows b)

pub row_suc : (rows : List (Option Row)) (j : ℕ) → row_at rows (suc j) ≡ joined (slice_get rows j)
row_suc rows j =
    let some : (suc j == 0) ≡ false = grind (arith, common_steps) in
    let place : suc j - 1 ≡ j = omega arith in
    ap (λ (b : Bool). cond b None (joined (slice_get rows (suc j - 1)))) some ∙ ap (λ (i : ℕ). joined (slice_get rows i)) place

-- the count up to a number, where one case was looked at between
pub count_to : (c : AirfieldChange) (rows : List (Option Row)) (b k : ℕ) → b < k → concerned_count c (take b rows) + cond (concerns_row c (row_at rows k)) 1 0 ≤ concerned_count c (take k rows)
count_to c rows b zero h = absurd (omega (arith, h))
count_to c rows b (suc j) h =
    subst (λ (o : Option Row). concerned_count c (take b rows) + cond (concerns_row c o) 1 0 ≤ concerned_count c (take (suc j) rows)) (sym (row_suc rows j)) (count_on c rows b j (omega (arith, h)))

-- ---- the next of the numbers

next_at : (ns : List ℕ) (i x : ℕ) → i < length ns → x ≡ slice_index_or ns i x → (take (suc i) ns ≡ take i ns ++ x ∷ []) × (drop i ns ≡ x ∷ drop (suc i) ns)
next_at [] i x h e = absurd (omega (arith, h))
next_at (n ∷ ns) zero x h e = (λ i. sym e i ∷ [], λ i. sym e i ∷ ns)
next_at (n ∷ ns) (suc i) x h e = let r = next_at ns i x (omega (arith, h)) e in (ap (λ zs. n ∷ zs) r.0, r.1)

all_taken : (ns : List ℕ) (i : ℕ) → length ns ≤ i → take i ns ≡ ns
all_taken [] zero h = refl
all_taken [] (suc i) h = refl
all_taken (n ∷ ns) zero h = absurd (omega (arith, h))
all_taken (n ∷ ns) (suc i) h = ap (λ zs. n ∷ zs) (all_taken ns i (omega (arith, h)))

-- how far the numbers were gone through, and the steps that this took
pub record IsAt (c : AirfieldChange) (rows : List (Option Row)) (rest : List ℕ) (start steps : ℕ) : Type 0 where
  pub last : ℕ
  pub climbs : ClimbsTo last rest (length rows)
  pub taken : steps ≤ start + concerned_count c (take last rows)

pub step_on : (c : AirfieldChange) (rows : List (Option Row)) (ns : List ℕ) (i x start steps after : ℕ) → i < length ns → x ≡ slice_index_or ns i x → IsAt c rows (drop i ns) start steps
    → after ≤ steps + cond (concerns_row c (row_at rows x)) 1 0 → IsAt c rows (drop (suc i) ns) start after
step_on c rows ns i x start steps after short is at more =
    let next = (next_at ns i x short is).1 in
    let climbs : ClimbsTo at.last (x ∷ drop (suc i) ns) (length rows) = subst (λ (zs : List ℕ). ClimbsTo at.last zs (length rows)) next at.climbs in
    record { last = x; climbs = climbs.1; taken = omega (arith, at.taken, more, count_to c rows at.last x climbs.0) }

pub steps_all : (c : AirfieldChange) (rows : List (Option Row)) (rest : List ℕ) (start steps : ℕ) → IsAt c rows rest start steps → steps ≤ start + concerned_count c rows
steps_all c rows rest start steps at = omega (arith, at.taken, count_all c rows at.last)

pub turned_next : (airfields : List Airfield) (c : AirfieldChange) (rows : List (Option Row)) (ms : List Mark) (ns : List ℕ) (i x : ℕ) → i < length ns → x ≡ slice_index_or ns i x
    → IsTurnedTo airfields c rows ms (take i ns ++ x ∷ []) → IsTurnedTo airfields c rows ms (take (suc i) ns)
turned_next airfields c rows ms ns i x short is h = subst (λ (ks : List ℕ). IsTurnedTo airfields c rows ms ks) (sym (next_at ns i x short is).0) h

row_there : (rows : List (Option Row)) (n : ℕ) (r : Row) (b : Bool) → nat_le n (length rows) ≡ b → row_at rows n ≡ Some r → n ≤ length rows
row_there rows n r true h at = grind (arith, common_steps, h)
row_there rows n r false h at = absurd (let none : row_at rows n ≡ None = beyond rows n (n == 0) refl (grind (arith, common_steps, h)) in cc (none, at))
  where
    past : (rows : List (Option Row)) (i : ℕ) → length rows ≤ i → joined (slice_get rows i) ≡ None
    past [] i h = refl
    past (o ∷ rows) zero h = absurd (omega (arith, h))
    past (o ∷ rows) (suc i) h = past rows i (omega (arith, h))

    beyond : (rows : List (Option Row)) (n : ℕ) (d : Bool) → (n == 0) ≡ d → length rows < n → cond d None (joined (slice_get rows (n - 1))) ≡ None
    beyond rows n true e h = refl
    beyond rows n false e h = past rows (n - 1) (omega (arith, h))

pub turned_done : (airfields : List Airfield) (c : AirfieldChange) (rows : List (Option Row)) (ms : List Mark) (ns : List ℕ) (i : ℕ) → length ns ≤ i → HasReached c rows ns (length rows)
    → IsTurnedTo airfields c rows ms (take i ns) → (n : ℕ) → row_at (with_marks ms rows) n ≡ option_map (row_after_change airfields c) (row_at rows n)
turned_done airfields c rows ms ns i done all h =
    turned_all airfields c rows ms ns (λ n r at on. all n r (row_there rows n r (nat_le n (length rows)) refl at) at on) (subst (λ (ks : List ℕ). IsTurnedTo airfields c rows ms ks) (all_taken ns i done) h)
