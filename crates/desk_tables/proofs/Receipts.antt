-- The rows of accepted requests, after one more.
use Rattle.std.proofs.Common.{◌≡◌, ◌≢◌, refl, sym, ap, ◌∙◌, ℕ, List, [], ◌∷◌, ◌++◌, Option, Some, None, Bool, true, false, cond, ◌&&◌, nat_eq}
use Rattle.std.specs.Option.{option_map}
use Rattle.std.specs.Cmp.Lexicographic.{pointwise, same_text}
use Rattle.std.proofs.lemmas.Bool.{and_parts}
use Rattle.std.proofs.lemmas.Slice.Eq.{bytes_eq-Decides}
use Rattle.wire_values.specs.Words.{IsWord}
use Rattle.desk_machine.specs.States.{entry_of}
use Rattle.desk_machine.specs.declared.entry.Entry.{Entry}
use Rattle.row_receipts.specs.Receipts.{receipt_key}
use Rattle.desk_tables.specs.Tables.{Found, AreReceipts, ReceiptName, HasCaller, key_of, entry_row, receipt_found}
use Rattle.desk_tables.proofs.Named.{IsPutAt, HasOneName, named_put}
use Rattle.desk_tables.proofs.Split.{split_at, word_without_space}

made_name : List ℕ → List ℕ → ReceiptName
made_name caller key = record { caller = caller; key = key }

pub one_receipt_name : HasOneName HasCaller key_of
unfolding made_name
one_receipt_name m n h k e =
    let parts = split_at 32 m.caller n.caller m.key n.key (word_without_space m.caller h) (word_without_space n.caller k) e in
    ap (λ c. made_name c m.key) parts.0 ∙ ap (made_name n.caller) parts.1

abbrev is_of : Entry → ReceiptName → Bool
is_of e n = pointwise nat_eq e.change.caller n.caller && pointwise nat_eq e.change.key n.key

abbrev name_of : Entry → ReceiptName
name_of e = record { caller = e.change.caller; key = e.change.key }

abbrev more : Bool → Entry → Option Entry → Option Entry
more b e None = cond b (Some e) None
more b e (Some d) = Some d

more_by : (b c : Bool) (d e : Entry) (old next : Option Entry) → next ≡ more c e old → cond b (Some d) next ≡ more c e (cond b (Some d) old)
more_by true c d e old next h = refl
more_by false c d e old next h = h

found_more : (n : ReceiptName) (es : List Entry) (e : Entry) → entry_of n.caller n.key (es ++ e ∷ []) ≡ more (is_of e n) e (entry_of n.caller n.key es)
found_more n [] e = refl
found_more n (d ∷ es) e = more_by (is_of d n) (is_of e n) d e _ _ (found_more n es e)

no_more : (e : Entry) (o : Option Entry) → more false e o ≡ o
no_more e None = refl
no_more e (Some d) = refl

same_name : (e : Entry) (n : ReceiptName) → is_of e n ≡ true → name_of e ≡ n
unfolding made_name
same_name e n h =
    let parts = and_parts (pointwise nat_eq e.change.caller n.caller) (pointwise nat_eq e.change.key n.key) h in
    let caller = same_text e.change.caller n.caller (sym parts.0) in
    let key = same_text e.change.key n.key (sym parts.1) in
    ap (λ c. made_name c e.change.key) caller ∙ ap (made_name n.caller) key

other_entry : (es : List Entry) (e : Entry) (n : ReceiptName) (b : Bool) → is_of e n ≡ b → n ≢ name_of e → receipt_found (es ++ e ∷ []) n ≡ receipt_found es n
other_entry es e n true h apart = absurd (apart (sym (same_name e n h)))
other_entry es e n false h apart = ap (option_map entry_row) (found_more n es e ∙ ap (λ b. more b e (entry_of n.caller n.key es)) h ∙ no_more e (entry_of n.caller n.key es))

itself : (xs : List ℕ) → pointwise nat_eq xs xs ≡ true
itself xs = (bytes_eq-Decides xs xs).1 refl

pub receipt_put : (es : List Entry) (e : Entry) (old new : Found) → AreReceipts es old → IsWord e.change.caller → entry_of e.change.caller e.change.key es ≡ None
    → IsPutAt (receipt_key e.change.caller e.change.key) (Some (entry_row e)) old new → AreReceipts (es ++ e ∷ []) new
receipt_put es e old new are word free put =
    let same : is_of e (name_of e) ≡ true = ap (λ b. b && pointwise nat_eq e.change.key e.change.key) (itself e.change.caller) ∙ itself e.change.key in
    named_put HasCaller key_of (receipt_found es) (receipt_found (es ++ e ∷ [])) old new (name_of e) one_receipt_name are word
    (record {
      here = put.here ∙ sym (ap (option_map entry_row) (found_more (name_of e) es e ∙ ap (λ b. more b e (entry_of e.change.caller e.change.key es)) same ∙ ap (more true e) free));
      elsewhere = put.elsewhere;
    })
    (λ m h apart. other_entry es e m (is_of e m) refl apart)
