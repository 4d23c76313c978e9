-- The rows of accepted requests, after one was put among them.
use Rattle.std.proofs.Common.{◌≡◌, ◌≢◌, refl, sym, ap, ◌∙◌, ℕ, zero, suc, List, [], ◌∷◌, Option, Some, None, Bool, true, false, cond, ◌&&◌, nat_eq, slice_get, slice_set, replicate}
use Rattle.std.specs.Option.{option_map}
use Rattle.std.specs.Cmp.Lexicographic.{pointwise, same_text}
use Rattle.std.proofs.lemmas.Bool.{and_parts}
use Rattle.std.proofs.lemmas.Slice.Eq.{bytes_eq-Decides}
use Rattle.wire_values.specs.Words.{IsWord}
use Rattle.desk_machine.specs.States.{entry_of}
use Rattle.desk_machine.specs.declared.entry.Entry.{Entry}
use Rattle.row_receipts.specs.Receipts.{receipt_key}
use Rattle.desk_tables.specs.Tables.{Found, AreReceipts, ReceiptName, HasCaller, key_of, entry_row, receipt_found}
use Rattle.desk_tables.proofs.Named.{IsPutAt, named_put}
use Rattle.desk_tables.proofs.Receipts.{one_receipt_name}
use Rattle.desk_tables.specs.Parts.{entries_of}

made_name : List ℕ → List ℕ → ReceiptName
made_name caller key = record { caller = caller; key = key }

abbrev is_of : Entry → ReceiptName → Bool
is_of e n = pointwise nat_eq e.change.caller n.caller && pointwise nat_eq e.change.key n.key

abbrev name_of : Entry → ReceiptName
name_of e = record { caller = e.change.caller; key = e.change.key }

abbrev placed : List (Option Entry) → ℕ → Entry → List (Option Entry)
placed requests i e = slice_set requests i (Some e)

same_name : (e : Entry) (n : ReceiptName) → is_of e n ≡ true → name_of e ≡ n
unfolding made_name
same_name e n h =
    let parts = and_parts (pointwise nat_eq e.change.caller n.caller) (pointwise nat_eq e.change.key n.key) h in
    let caller = same_text e.change.caller n.caller (sym parts.0) in
    let key = same_text e.change.key n.key (sym parts.1) in
    ap (λ c. made_name c e.change.key) caller ∙ ap (made_name n.caller) key

itself : (xs : List ℕ) → pointwise nat_eq xs xs ≡ true
itself xs = (bytes_eq-Decides xs xs).1 refl

is_its_own : (e : Entry) → is_of e (name_of e) ≡ true
is_its_own e = ap (λ b. b && pointwise nat_eq e.change.key e.change.key) (itself e.change.caller) ∙ itself e.change.key

-- ---- an entry in a free place

not_found : (n : ReceiptName) (e : Entry) (requests : List (Option Entry)) (i : ℕ) → slice_get requests i ≡ Some None → is_of e n ≡ false
    → entry_of n.caller n.key (entries_of (placed requests i e)) ≡ entry_of n.caller n.key (entries_of requests)
not_found n e [] i free h = absurd (cc (free))
not_found n e (None ∷ os) zero free h = ap (λ b. cond b (Some e) (entry_of n.caller n.key (entries_of os))) h
not_found n e (Some d ∷ os) zero free h = absurd (cc (free))
not_found n e (None ∷ os) (suc i) free h = not_found n e os i free h
not_found n e (Some d ∷ os) (suc i) free h = ap (cond (is_of d n) (Some d)) (not_found n e os i free h)

passed : (b : Bool) (d e : Entry) (old new : Option Entry) → cond b (Some d) old ≡ None → (old ≡ None → new ≡ Some e) → cond b (Some d) new ≡ Some e
passed true d e old new none rest = absurd (cc (none))
passed false d e old new none rest = rest none

found_now : (e : Entry) (requests : List (Option Entry)) (i : ℕ) → slice_get requests i ≡ Some None → entry_of e.change.caller e.change.key (entries_of requests) ≡ None
    → entry_of e.change.caller e.change.key (entries_of (placed requests i e)) ≡ Some e
found_now e [] i free none = absurd (cc (free))
found_now e (None ∷ os) zero free none = ap (λ b. cond b (Some e) (entry_of e.change.caller e.change.key (entries_of os))) (is_its_own e)
found_now e (Some d ∷ os) zero free none = absurd (cc (free))
found_now e (None ∷ os) (suc i) free none = found_now e os i free none
found_now e (Some d ∷ os) (suc i) free none = passed (is_of d (name_of e)) d e _ _ none (λ rest. found_now e os i free rest)

no_entry : (o : Option Entry) → option_map entry_row o ≡ None → o ≡ None
no_entry None h = refl
no_entry (Some e) h = absurd (cc (h))

other_entry : (n : ReceiptName) (e : Entry) (requests : List (Option Entry)) (i : ℕ) (b : Bool) → is_of e n ≡ b → slice_get requests i ≡ Some None → n ≢ name_of e
    → receipt_found (entries_of (placed requests i e)) n ≡ receipt_found (entries_of requests) n
other_entry n e requests i true h free apart = absurd (apart (sym (same_name e n h)))
other_entry n e requests i false h free apart = ap (option_map entry_row) (not_found n e requests i free h)

pub request_put : (requests : List (Option Entry)) (i : ℕ) (e : Entry) (old new : Found) → AreReceipts (entries_of requests) old → IsWord e.change.caller → slice_get requests i ≡ Some None
    → old (receipt_key e.change.caller e.change.key) ≡ None → IsPutAt (receipt_key e.change.caller e.change.key) (Some (entry_row e)) old new → AreReceipts (entries_of (slice_set requests i (Some e))) new
request_put requests i e old new are word free nothing put =
    let none : entry_of e.change.caller e.change.key (entries_of requests) ≡ None =
    no_entry (entry_of e.change.caller e.change.key (entries_of requests)) (sym (are.there (name_of e) word) ∙ nothing) in
    named_put HasCaller key_of (receipt_found (entries_of requests)) (receipt_found (entries_of (placed requests i e))) old new (name_of e) one_receipt_name are word
    (record { here = put.here ∙ sym (ap (option_map entry_row) (found_now e requests i free none)); elsewhere = put.elsewhere })
    (λ m h apart. other_entry m e requests i (is_of e m) refl free apart)

-- before the first is put there is none
pub no_entries : (count : ℕ) → entries_of (replicate count None) ≡ []
no_entries zero = refl
no_entries (suc count) = no_entries count
