-- The lines of rows.
use Rattle.std.proofs.Common.{arith, ℕ, ◌≡◌, ◌≢◌, ◌^◌, ◌<◌, Option, None, List, ◌∷◌, ◌++◌, sym, subst, ◌∙◌}
use Rattle.std.specs.Fmt.{decimal}
use Rattle.std.proofs.lemmas.Fmt.{decimal_injective}
use Rattle.case_requests.specs.declared.act.Act.{Act}
use Rattle.case_records.specs.declared.outcome.Outcome.{Outcome}
use Rattle.wire_values.specs.Commas.{joined}
use Rattle.wire_requests.specs.Changes.{Asked}
use Rattle.wire_requests.specs.Limits.{IsValidAct}
use Rattle.wire_requests.specs.Spellings.{change_spelling}
use Rattle.wire_replies.specs.Outcomes.{outcome_text}
use Rattle.row_receipts.specs.Kinds.{CanLeadTo, Reads}
use Rattle.row_receipts.proofs.NumberFacts.{decimal_without}
use Rattle.row_receipts.specs.Receipts.{IsReceiptRow, IsLine}
use Rattle.row_receipts.specs.declared.receipt.ReceiptRow.{ReceiptRow}
use Rattle.row_receipts.proofs.CutFacts.{one_cut}
use Rattle.row_receipts.proofs.ChangeFacts.{one_change, record_line}

pub number_line : (n : ℕ) → n < 2 ^ 64 → IsLine (decimal n)
number_line n h = decimal_without 10 (omega arith) n h

-- three lines are those of a row
pub record AreLines (number request outcome : List ℕ) (v : ReceiptRow) : Type 0 where
  pub number_is : number ≡ decimal v.number
  pub request_is : request ≡ joined (change_spelling v.change)
  pub outcome_is : outcome ≡ outcome_text v.outcome

pub lines_are : (key row number request outcome : List ℕ) (v : ReceiptRow) → row ≡ number ++ 10 ∷ (request ++ 10 ∷ outcome) → IsLine number → IsLine request → IsReceiptRow key row v
    → AreLines number request outcome v
lines_are key row number request outcome v e h k is =
    let first = one_cut number (decimal v.number) (request ++ 10 ∷ outcome) (joined (change_spelling v.change) ++ 10 ∷ outcome_text v.outcome) h (number_line v.number is.numbered) (sym e ∙ is.row_is) in
    let second = one_cut request (joined (change_spelling v.change)) outcome (outcome_text v.outcome) k (record_line v.change is.recorded) first.behind_is in
    record { number_is = first.line_is; request_is = second.line_is; outcome_is = second.behind_is }

-- a text that tells no outcome of an act
pub no_outcome : (act : Act) (text : List ℕ) (read : Option Outcome) → read ≡ None → Reads (CanLeadTo act) text read → (v : Outcome) → CanLeadTo act v → text ≢ outcome_text v
no_outcome act text read none h = subst (Reads (CanLeadTo act) text) none h

made_row : ℕ → Asked → Outcome → ReceiptRow
made_row number change outcome = record { number = number; change = change; outcome = outcome }

same_row : (a b : ReceiptRow) → a.number ≡ b.number → a.change ≡ b.change → a.outcome ≡ b.outcome → made_row a.number a.change a.outcome ≡ made_row b.number b.change b.outcome
same_row a b n c o = cc

abbrev OneOutcome : Type 0
OneOutcome = (act : Act) (a b : Outcome) → IsValidAct act → CanLeadTo act a → CanLeadTo act b → outcome_text a ≡ outcome_text b → a ≡ b

pub one_receipt : OneOutcome → (key row : List ℕ) (a b : ReceiptRow) → IsReceiptRow key row a → IsReceiptRow key row b → a ≡ b
unfolding made_row
one_receipt one key row a b h k =
    let lines = lines_are key row _ _ _ b h.row_is (number_line a.number h.numbered) (record_line a.change h.recorded) k in
    let changes : a.change ≡ b.change = one_change a.change b.change h.recorded k.recorded lines.request_is in
    let led = subst (λ (c : Asked). CanLeadTo c.act b.outcome) (sym changes) k.led in
    let valid : IsValidAct a.change.act = (let r = h.recorded in r.valid) in
    same_row a b (decimal_injective a.number b.number h.numbered k.numbered lines.number_is) changes (one a.change.act a.outcome b.outcome valid h.led led lines.outcome_is)
