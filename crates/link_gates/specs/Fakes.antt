-- The gate over memory and its ports: the links they tell, and the calls at which they fail.
use Rattle.std.specs.Prelude.{ℕ, ◌≡◌, Bool, List, map, Option, Some}
use Rattle.oe_http.specs.Fakes.{next_call, is_listed}
use Rattle.link_gates.specs.declared.fake_gate.FakePort.{FakePort}
use Rattle.link_gates.specs.declared.fake_gate.FakeGate.{FakeGate}

-- the lists of links, one for each port to come
abbrev pub lists_of : {L : Type 0} → FakeGate L → List (List L)
lists_of g = map (λ list. list.items) g.lists.items

-- a new gate, which fails at these calls, and whose ports fail at this one
abbrev pub IsFreshGate : {L : Type 0} → FakeGate L → List ℕ → Option ℕ → Type 0
IsFreshGate g fail next_fail = (g.fail.items ≡ fail) × (g.next_fail ≡ next_fail) × (g.calls ≡ 0) × (g.faults ≡ 0)

-- a new port, which fails at this call
abbrev pub IsFreshPort : {L : Type 0} → FakePort L → Option ℕ → Type 0
IsFreshPort p next_fail = (p.next_fail ≡ next_fail) × (p.calls ≡ 0) × (p.faults ≡ 0)

-- one call more of `next` was made, and the one that fails is the same
pub record IsCountedPort {L : Type 0} (old new : FakePort L) : Type 0 where
  pub calls : new.calls ≡ next_call old.calls
  pub next_fail : new.next_fail ≡ old.next_fail

-- one call more was made, and those that fail are the same
pub record IsCountedGate {L : Type 0} (old new : FakeGate L) : Type 0 where
  pub calls : new.calls ≡ next_call old.calls
  pub fail : new.fail ≡ old.fail
  pub next_fail : new.next_fail ≡ old.next_fail

-- a port's next call of `next` fails: it is the listed one
abbrev pub FailsNext : {L : Type 0} → FakePort L → Type 0
FailsNext p = p.next_fail ≡ Some (next_call p.calls)

-- whether a gate's next call fails: where it is listed
abbrev pub fails_call : {L : Type 0} → FakeGate L → Bool
fails_call g = is_listed g.fail.items g.calls
