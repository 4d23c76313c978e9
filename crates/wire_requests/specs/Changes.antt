-- Changes as contracts see them.
use Rattle.std.specs.Prelude.{ℕ, List}
use Rattle.case_requests.specs.declared.act.Act.{Act}

-- the caller, the key and the content of a change
pub record Asked : Type 0 where
  pub caller : List ℕ
  pub key : List ℕ
  pub act : Act
