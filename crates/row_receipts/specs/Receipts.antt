-- The rows of accepted requests.
use Rattle.std.specs.Prelude.{ℕ, ◌^◌, ◌<◌, ◌≡◌, ◌==◌, false, List, ◌++◌, All, codes}
use Rattle.std.specs.Fmt.{decimal}
use Rattle.wire_values.specs.Commas.{joined}
use Rattle.wire_requests.specs.Changes.{Asked}
use Rattle.wire_requests.specs.Limits.{IsChangeRecord}
use Rattle.wire_requests.specs.Spellings.{change_spelling}
use Rattle.wire_replies.specs.Outcomes.{outcome_text}
use Rattle.case_records.specs.declared.outcome.Outcome.{Outcome}
use Rattle.row_receipts.specs.Kinds.{CanLeadTo}
use Rattle.row_receipts.specs.declared.receipt.ReceiptRow.{ReceiptRow}

-- the caller, a space, and the key
abbrev pub receipt_key : List ℕ → List ℕ → List ℕ
receipt_key caller key = caller ++ (codes " " ++ key)

-- the entry number, the record of the request, and its reply without number and publication, each on its own line
abbrev pub receipt_row : ℕ → Asked → Outcome → List ℕ
receipt_row number asked outcome = decimal number ++ (codes "\n" ++ (joined (change_spelling asked) ++ (codes "\n" ++ outcome_text outcome)))

-- key and row are the texts of this request, with an outcome that it can have
pub record IsReceiptRow (key row : List ℕ) (v : ReceiptRow) : Type 0 where
  pub key_is : key ≡ receipt_key v.change.caller v.change.key
  pub row_is : row ≡ receipt_row v.number v.change v.outcome
  pub numbered : v.number < 2 ^ 64
  pub recorded : IsChangeRecord v.change
  pub led : CanLeadTo v.change.act v.outcome

-- ---- for proofs alone

-- a text without a line feed
abbrev pub IsLine : List ℕ → Type 0
IsLine text = All (λ b. (b == 10) ≡ false) text
