-- The entries of a list as fields.
use Rattle.std.proofs.Common.{ℕ, ◌≡◌, ◌<◌, ◌^◌, List, [], ◌∷◌, ◌++◌, All, Result, Ok, Err, OnOk, map, length, refl, ap, sym, ◌∙◌, append_assoc, append-nil}
use Rattle.std.proofs.lemmas.Fmt.{decimal_injective}
use Rattle.std.proofs.lemmas.List.Elements.{All-nil, All-cons, All-append, All-head, All-tail}
use Rattle.std.specs.Fmt.{decimal}
use Rattle.finding_lists.specs.declared.finding.Finding.{Finding}
use Rattle.wire_values.specs.Commas.{joined, with_commas}
use Rattle.wire_replies.specs.Entries.{entry_text, entries_text, list_text}
use Rattle.row_cases.specs.Entries.{IsEntry, IsList, list_fields}
use Rattle.row_cases.proofs.OneEntry.{one_list}

entries_fields : (list : List Finding) → entries_text list ≡ with_commas (map entry_text list)
entries_fields [] = refl
entries_fields (f ∷ fs) = ap (λ t. (44 ∷ entry_text f) ++ t) (entries_fields fs)

pub list_text_fields : (list : List Finding) → list_text list ≡ with_commas (list_fields list)
list_text_fields list = ap (λ t. 44 ∷ (decimal (length list) ++ t)) (entries_fields list)

-- fields behind others

pub with_commas_append : (xs ys : List (List ℕ)) → with_commas (xs ++ ys) ≡ with_commas xs ++ with_commas ys
with_commas_append [] ys = refl
with_commas_append (x ∷ xs) ys = ap (λ t. (44 ∷ x) ++ t) (with_commas_append xs ys) ∙ sym (append_assoc (44 ∷ x) (with_commas xs) (with_commas ys))

pub joined_append : (x : List ℕ) (xs ys : List (List ℕ)) → joined (x ∷ (xs ++ ys)) ≡ joined (x ∷ xs) ++ with_commas ys
joined_append x xs ys = ap (λ t. x ++ t) (with_commas_append xs ys) ∙ sym (append_assoc x (with_commas xs) (with_commas ys))

-- three texts, one behind the other
pub three_texts : {T E : Type 0} (r : Result T E) (old first second third x y z whole : List ℕ) → first ≡ old ++ x → second ≡ first ++ y → OnOk r (third ≡ second ++ z)
    → whole ≡ (x ++ y) ++ z → OnOk r (third ≡ old ++ whole)
three_texts (Ok v) old first second third x y z whole e f g w =
    g ∙ ap (λ t. t ++ z) (f ∙ ap (λ t. t ++ y) e ∙ append_assoc old x y) ∙ append_assoc old (x ++ y) z ∙ ap (λ t. old ++ t) (sym w)
three_texts (Err v) old first second third x y z whole e f g w = tt

-- ---- entries that are read one after the other

entry_behind : (list : List Finding) (f : Finding) (rest : List (List ℕ)) → map entry_text list ++ entry_text f ∷ rest ≡ map entry_text (list ++ f ∷ []) ++ rest
entry_behind [] f rest = refl
entry_behind (g ∷ gs) f rest = ap (λ t. entry_text g ∷ t) (entry_behind gs f rest)

pub one_more_entry : (whole old new : List (List ℕ)) (list : List Finding) (f : Finding) (text : List ℕ) → whole ≡ map entry_text list ++ old → old ≡ text ∷ new → text ≡ entry_text f
    → whole ≡ map entry_text (list ++ f ∷ []) ++ new
one_more_entry whole old new list f text e o t = e ∙ ap (λ r. map entry_text list ++ r) (o ∙ ap (λ x. x ∷ new) t) ∙ entry_behind list f new

pub one_more_whole : (list : List Finding) (f : Finding) → All IsEntry list → IsEntry f → All IsEntry (list ++ f ∷ [])
one_more_whole list f h k = All-append IsEntry list (f ∷ []) h (All-cons IsEntry f [] k (All-nil IsEntry))

pub all_read : (whole old : List (List ℕ)) (list : List Finding) → whole ≡ map entry_text list ++ old → old ≡ [] → whole ≡ map entry_text list
all_read whole old list e o = e ∙ ap (λ r. map entry_text list ++ r) o ∙ append-nil (map entry_text list)

heads : {x y : List ℕ} {xs ys : List (List ℕ)} → x ∷ xs ≡ y ∷ ys → (x ≡ y) × (xs ≡ ys)
heads e = (cc, cc)

-- a text that is no entry stands in no list
no_list : (list m : List Finding) (text : List ℕ) (rest : List (List ℕ)) → ((f : Finding) → IsEntry f → text ≡ entry_text f → ⊥) → All IsEntry m
    → map entry_text list ++ text ∷ rest ≡ map entry_text m → ⊥
no_list [] [] text rest misses h e = cc
no_list [] (g ∷ gs) text rest misses h e = misses g (All-head IsEntry g gs h) (heads e).0
no_list (f ∷ fs) [] text rest misses h e = cc
no_list (f ∷ fs) (g ∷ gs) text rest misses h e = no_list fs gs text rest misses (All-tail IsEntry g gs h) (heads e).1

pub not_read : (whole old new : List (List ℕ)) (list m : List Finding) (text : List ℕ) → whole ≡ map entry_text list ++ old → old ≡ text ∷ new
    → ((f : Finding) → IsEntry f → text ≡ entry_text f → ⊥) → All IsEntry m → whole ≡ map entry_text m → ⊥
not_read whole old new list m text e o misses h is = no_list list m text new misses h (ap (λ r. map entry_text list ++ r) (sym o) ∙ sym e ∙ is)

-- the count of a list
pub counted : (whole old : List (List ℕ)) (count : ℕ) (list m : List Finding) → whole ≡ decimal count ∷ old → count < 2 ^ 64 → old ≡ map entry_text list → All IsEntry list → IsList m
    → whole ≡ list_fields m → length list ≡ count
counted whole old count list m e small o h k is =
    let both = heads (sym e ∙ is) in
    let same = one_list list m h k.entries (sym o ∙ both.1) in
    ap length same ∙ sym (decimal_injective count (length m) small k.many both.0)
