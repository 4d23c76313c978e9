-- For proofs alone: the texts of determinations, issued by a determination or by a revision.
use Rattle.std.specs.Prelude.{◌≡◌, ◌<◌, ◌^◌, ℕ, List, Option}
use Rattle.jiff_core.specs.declared.civil.date.Date.{Date}
use Rattle.determination_dates.specs.Days.{IsLimited}
use Rattle.determination_dates.specs.declared.determination.Decision.{Decision}
use Rattle.finding_lists.specs.declared.finding.Finding.{Finding}
use Rattle.wire_values.specs.Words.{IsAnyLimited}
use Rattle.wire_replies.specs.Outcomes.{determined_text}
use Rattle.row_cases.specs.Entries.{IsList}

-- the values of a determination are within their limits
pub record AreIssued (n last : ℕ) (issued : Date) (deadline effective expiry : Option Date) : Type 0 where
  pub number : n < 2 ^ 32
  pub last_small : last < 2 ^ 64
  pub issued_in : IsLimited issued
  pub deadline_in : IsAnyLimited deadline
  pub effective_in : IsAnyLimited effective
  pub expiry_in : IsAnyLimited expiry

-- the text is that of a determination of this case, issued by an act of this form
pub record IsIssuance (form : List ℕ) (n : ℕ) (text : List ℕ) : Type 0 where
  pub decision : Decision
  pub last : ℕ
  pub issued : Date
  pub deadline : Option Date
  pub effective : Option Date
  pub expiry : Option Date
  pub list : List Finding
  pub are : AreIssued n last issued deadline effective expiry
  pub listed : IsList list
  pub is : text ≡ determined_text form n decision last issued deadline effective expiry list
