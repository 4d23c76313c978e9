-- For proofs alone: a head that is held, and the request that is returned when its body is held too.
use Rattle.std.specs.Prelude.{ℕ, ◌≡◌, ◌≤◌, ◌+◌, List, length, take, drop}
use Rattle.httparse.specs.Grammar.{RequestHead, ReadsRequest, print_request}
use Rattle.http_messages.specs.declared.decision.TheConstants.{HEAD_LIMIT, MOST_FIELDS}
use Rattle.http_messages.specs.declared.said.Head.{Head}
use Rattle.http_messages.specs.declared.request.Incoming.{Incoming}
use Rattle.http_messages.specs.declared.request.Incoming.TheVariants as incoming
use Rattle.http_messages.specs.Said.{Says}

-- the held bytes begin with this head, which is within the limits
pub record HoldsHead (bytes : List ℕ) (head : RequestHead) (len : ℕ) : Type 0 where
  pub reads : ReadsRequest bytes head (drop len bytes)
  pub len_is : len ≡ length (print_request head)
  pub few : length head.fields ≤ MOST_FIELDS
  pub small : len ≤ HEAD_LIMIT

-- the held bytes begin with a head of this meaning
abbrev pub HoldsSaid : List ℕ → Head → ℕ → Type 0
HoldsSaid bytes said len = (head : RequestHead) × HoldsHead bytes head len × Says said head

-- the request consists of the head and the body after it, and the bytes after that stay held
abbrev pub IsGiven : Head → List ℕ → ℕ → Incoming → List ℕ → Type 0
IsGiven said old len (incoming.Request method target body close) new =
    (method ≡ said.method) × (target ≡ said.target) × (body ≡ drop len (take (len + said.size) old))
    × (close ≡ said.close) × (new ≡ drop (len + said.size) old)
IsGiven said old len incoming.Closed new = ⊥
IsGiven said old len incoming.Truncated new = ⊥
IsGiven said old len (incoming.Refused status) new = ⊥
IsGiven said old len incoming.ReadFault new = ⊥
IsGiven said old len incoming.Long new = ⊥
IsGiven said old len incoming.NoMemory new = Unit {0}
