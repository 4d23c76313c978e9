use Rattle.std.proofs.Common.{◌≡◌, refl, sym, ap, ◌∙◌, Some, subst, slice_get}
use Rattle.std.proofs.lemmas.Option.{slice_get_read}
use Rattle.std.proofs.lemmas.Result.{on_ok_weaker}
use Rattle.std.specs.BTreeMap.{Updates, get}
use Rattle.desk_receipts.specs.declared.receipt_key.ReceiptKey.{ReceiptKey}
use Rattle.desk_receipts.specs.contracts.receipt_key.ReceiptKeyOrd.TheImpl as keys
use Rattle.desk_receipts.proofs.Indexing.{indexed_next, indexed_again}
use Rattle.desk_receipts.proofs.receipts.remember_first.Goals as goal

pub returns-in-Some : goal.returns-in-Some
returns-in-Some c =
    let e = c.index-entries-place.result in
    let at : slice_get c.args.entries.now c.args.place ≡ Some e = slice_get_read c.args.entries.now _ c.args.place e refl c.requires.there c.index-entries-place.is in
    indexed_again c.args.places.now c.args.entries.now c.args.place c.in-Some.field-0.now e at c.requires.before
    (ap (get keys.ghosts.cmp c.args.places.now) (sym c.key_of-key.ensures) ∙ sym c.in-Some.ensures.value)

pub returns-in-None : goal.returns-in-None
returns-in-None c =
    let e = c.index-entries-place.result in
    let at : slice_get c.args.entries.now c.args.place ≡ Some e = slice_get_read c.args.entries.now _ c.args.place e refl c.requires.there c.index-entries-place.is in
    let free = ap (get keys.ghosts.cmp c.args.places.now) (sym c.key_of-key.ensures) ∙ sym c.in-None.ensures.value in
    on_ok_weaker c.remember.result
    (λ put. indexed_next c.args.places.now c.remember.new.places c.args.entries.now c.args.place e at c.requires.before free
    (subst (λ (k : ReceiptKey). Updates keys.ghosts.cmp c.args.places.now c.remember.new.places k (Some c.args.place)) c.key_of-key.ensures put))
    c.remember.ensures.put
