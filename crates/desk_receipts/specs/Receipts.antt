-- Finding entries by caller and key.
use Rattle.std.specs.Prelude.{◌≡◌, ◌<◌, ℕ, List, length, slice_get, IfSome}
use Rattle.std.specs.BTreeMap.{BTreeMap, get}
use Rattle.determination_dates.specs.Computed.{with_some}
use Rattle.desk_machine.specs.declared.entry.Entry.{Entry}
use Rattle.desk_machine.specs.States.{entry_of}
use Rattle.desk_receipts.specs.declared.receipt_key.ReceiptKey.{ReceiptKey}
use Rattle.desk_receipts.specs.contracts.receipt_key.ReceiptKeyOrd.TheImpl as keys

-- the map holds the index of the entry of each caller and key
pub record IsIndex (places : BTreeMap ReceiptKey ℕ) (entries : List Entry) : Type 0 where
  pub found : (k : ReceiptKey) → entry_of k.caller k.key entries ≡ with_some (get keys.ghosts.cmp places k) (slice_get entries)
  pub below : (k : ReceiptKey) → IfSome (get keys.ghosts.cmp places k) (λ i. i < length entries)
