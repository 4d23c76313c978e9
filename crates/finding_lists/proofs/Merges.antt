-- The findings of two runs of airfields as one list.
use Rattle.std.proofs.Common.{arith, ℕ, ℤ, zero, suc, ◌≡◌, ◌<◌, ◌+◌, ◌^◌, ◌-◌, ◌||◌, min, List, [], ◌∷◌, ◌++◌, take, length, get_or, Option, Some, None, Bool, true, false, not, cond, if◌then◌else◌, refl, sym, ◌∙◌, ap, append_assoc}
use Rattle.std.specs.List.{All, filter, flat_map, insert, list_any}
use Rattle.std.specs.Option.{option_map, option_to_list}
use Rattle.std.specs.Ordering.{is_le}
use Rattle.std.proofs.lemmas.Cmp.{nat_list_cmp_total, tied_itself}
use Rattle.std.proofs.lemmas.List.{append-nil, length-append, take_more}
use Rattle.std.proofs.lemmas.List.Elements.{All-nil, All-cons, All-head, All-tail, All-append, All-filter, All-weaker}
use Rattle.std.specs.declared.cmp.Ordering.TheVariants.{Less}
use Rattle.ordered_list.specs.Ordered.{Rises}
use Rattle.ordered_list.proofs.Orders.{above}
use Rattle.airfields.specs.Names.{name_cmp}
use Rattle.finding_lists.specs.Orders.{is_up_to, stays_before, put_in_order, merged_list}
use Rattle.finding_lists.specs.Verdicts.{is_notice, asks_notice, is_obstruction, tally_of}
use Rattle.finding_lists.specs.declared.finding.Finding.{Finding}
use Rattle.finding_lists.specs.declared.finding.Rule.{Rule}
use Rattle.finding_lists.specs.declared.finding.Rule.TheVariants as rules
use Rattle.finding_lists.specs.declared.finding.SurfaceKey.{SurfaceKey}
use Rattle.finding_lists.specs.declared.verdict.Verdict.{Verdict}

-- ---- one entry

put_by_test : (x y : Finding) (ys : List Finding) (b : Bool) → stays_before y x ≡ b → put_in_order x (y ∷ ys) ≡ (if b then y ∷ put_in_order x ys else x ∷ y ∷ ys)
put_by_test x y ys b e = ap (λ (t : Bool). if t then y ∷ put_in_order x ys else x ∷ y ∷ ys) e

put_behind : (x y : Finding) (ys : List Finding) → stays_before y x ≡ true → put_in_order x (y ∷ ys) ≡ y ∷ put_in_order x ys
put_behind x y ys e = put_by_test x y ys true e

put_before : (x y : Finding) (ys : List Finding) → stays_before y x ≡ false → put_in_order x (y ∷ ys) ≡ x ∷ y ∷ ys
put_before x y ys e = put_by_test x y ys false e

-- an insertion behind entries that stay before x, where the next one, if there is one, does not
pub put_at : (x d : Finding) (ys : List Finding) (i : ℕ) → All (λ y. stays_before y x ≡ true) (take i ys) → (i < length ys → stays_before (get_or ys i d) x ≡ false) → insert ys i x ≡ put_in_order x ys
put_at x d [] zero before next = refl
put_at x d [] (suc i) before next = refl
put_at x d (y ∷ ys) zero before next = sym (put_before x y ys (next (omega arith)))
put_at x d (y ∷ ys) (suc i) before next =
    ap (λ zs. y ∷ zs) (put_at x d ys i (All-tail (λ z. stays_before z x ≡ true) y (take i ys) before) (λ l. next (omega (arith, l))))
    ∙ sym (put_behind x y ys (All-head (λ z. stays_before z x ≡ true) y (take i ys) before))

-- entries that stay before x, and then entries that do not
pub put_between : (x : Finding) (front back : List Finding) → All (λ y. stays_before y x ≡ true) front → All (λ y. stays_before y x ≡ false) back → put_in_order x (front ++ back) ≡ front ++ x ∷ back
put_between x [] [] p q = refl
put_between x [] (y ∷ ys) p q = put_before x y ys (All-head (λ z. stays_before z x ≡ false) y ys q)
put_between x (y ∷ ys) back p q =
    put_behind x y (ys ++ back) (All-head (λ z. stays_before z x ≡ true) y ys p)
    ∙ ap (λ zs. y ∷ zs) (put_between x ys back (All-tail (λ z. stays_before z x ≡ true) y ys p) q)

length_step : (x y : Finding) (ys : List Finding) (b : Bool) → length (put_in_order x ys) ≡ length ys + 1 → length (if b then y ∷ put_in_order x ys else x ∷ y ∷ ys) ≡ length ys + 2
length_step x y ys true h = omega (arith, h)
length_step x y ys false h = omega arith

length_put : (x : Finding) (ys : List Finding) → length (put_in_order x ys) ≡ length ys + 1
length_put x [] = omega arith
length_put x (y ∷ ys) = omega (arith, length_step x y ys (stays_before y x) (length_put x ys))

-- ---- all entries of a second list

pub merged_append : (list xs ys : List Finding) → merged_list list (xs ++ ys) ≡ merged_list (merged_list list xs) ys
merged_append list [] ys = refl
merged_append list (x ∷ xs) ys = merged_append (put_in_order x list) xs ys

-- one entry more
pub merged_next : (list more : List Finding) (i : ℕ) (x : Finding) → i < length more → x ≡ get_or more i x → merged_list list (take (i + 1) more) ≡ put_in_order x (merged_list list (take i more))
merged_next list more i x l e =
    ap (merged_list list) (take_more more i x l ∙ ap (λ y. take i more ++ y ∷ []) (sym e)) ∙ merged_append list (take i more) (x ∷ [])

merged_length : (list more : List Finding) → length (merged_list list more) ≡ length list + length more
merged_length list [] = omega arith
merged_length list (x ∷ xs) = omega (arith, merged_length (put_in_order x list) xs, length_put x list)

-- ---- what the entries come to, whatever their order

swapped : (a b d : Bool) → (a || (b || d)) ≡ (b || (a || d))
swapped true true d = refl
swapped true false d = refl
swapped false true d = refl
swapped false false d = refl

any_front : (test : Finding → Bool) (x : Finding) (ys zs : List Finding) → list_any test (ys ++ x ∷ zs) ≡ list_any test (x ∷ (ys ++ zs))
any_front test x [] zs = refl
any_front test x (y ∷ ys) zs = ap (λ (b : Bool). test y || b) (any_front test x ys zs) ∙ swapped (test y) (test x) (list_any test (ys ++ zs))

any_step : (test : Finding → Bool) (x y : Finding) (ys zs : List Finding) (b : Bool) → list_any test (put_in_order x ys ++ zs) ≡ list_any test (ys ++ x ∷ zs)
    → list_any test ((if b then y ∷ put_in_order x ys else x ∷ y ∷ ys) ++ zs) ≡ list_any test ((y ∷ ys) ++ x ∷ zs)
any_step test x y ys zs true h = ap (λ (b : Bool). test y || b) h
any_step test x y ys zs false h = sym (any_front test x (y ∷ ys) zs)

any_put : (test : Finding → Bool) (x : Finding) (ys zs : List Finding) → list_any test (put_in_order x ys ++ zs) ≡ list_any test (ys ++ x ∷ zs)
any_put test x [] zs = refl
any_put test x (y ∷ ys) zs = any_step test x y ys zs (stays_before y x) (any_put test x ys zs)

any_merged : (test : Finding → Bool) (list more : List Finding) → list_any test (merged_list list more) ≡ list_any test (list ++ more)
any_merged test list [] = ap (list_any test) (sym (append-nil list))
any_merged test list (x ∷ xs) = any_merged test (put_in_order x list) xs ∙ any_put test x list xs

abbrev tally : Bool → Bool → ℕ → Verdict
tally notice obstruction entries = record { notice = notice; obstruction = obstruction; entries = min entries (2 ^ 32 - 1) }

pub tally_merged : (list more : List Finding) → tally_of (merged_list list more) ≡ tally_of (list ++ more)
tally_merged list more =
    let all = merged_list list more in
    let both = list ++ more in
    ap (λ (b : Bool). tally b (is_obstruction all) (length all)) (any_merged (λ f. is_notice f.rule) list more)
    ∙ ap (λ (b : Bool). tally (asks_notice both) b (length all)) (any_merged (λ f. not (is_notice f.rule)) list more)
    ∙ ap (λ (n : ℕ). tally (asks_notice both) (is_obstruction both) n) (merged_length list more ∙ sym (length-append list more))
