-- What the streams over memory have left and hold.
use Rattle.std.specs.Prelude.{ℕ, ◌+◌, ◌-◌, ◌^◌, ◌||◌, min, Bool, nat_eq, nat_lt, List, length, drop, ◌≡◌}
use Rattle.std.specs.List.{list_any}
use Rattle.oe_http.specs.declared.fakes.FakeSource.{FakeSource}
use Rattle.oe_http.specs.declared.fakes.FakeSink.{FakeSink}

-- the bytes not yet read from a source
abbrev pub bytes_left : FakeSource → List ℕ
bytes_left s = drop s.at s.bytes

-- the bytes written to a sink
abbrev pub bytes_held : FakeSink → List ℕ
bytes_held s = s.bytes.items

-- a new source, with these limits
abbrev pub IsFreshSource : FakeSource → ℕ → List ℕ → Type 0
IsFreshSource s most fail = (s.most ≡ most) × (s.fail.items ≡ fail) × (s.calls ≡ 0) × (s.faults ≡ 0)

-- a new sink, with these limits
abbrev pub IsFreshSink : FakeSink → ℕ → List ℕ → Type 0
IsFreshSink s room fail = (s.room ≡ room) × (s.fail.items ≡ fail) × (s.calls ≡ 0) × (s.faults ≡ 0)

-- the number of the next call; the count stands at the end of its type
abbrev pub next_call : ℕ → ℕ
next_call calls = min (calls + 1) (2 ^ 64 - 1)

-- whether the next call is listed
abbrev pub is_listed : List ℕ → ℕ → Bool
is_listed fail calls = list_any (λ n. nat_eq n (next_call calls)) fail

-- one read more was made, and the limits are the same
pub record IsCountedSource (old new : FakeSource) : Type 0 where
  pub calls : new.calls ≡ next_call old.calls
  pub fail : new.fail ≡ old.fail
  pub most : new.most ≡ old.most

-- one write more was made, and the limits are the same
pub record IsCountedSink (old new : FakeSink) : Type 0 where
  pub calls : new.calls ≡ next_call old.calls
  pub fail : new.fail ≡ old.fail
  pub room : new.room ≡ old.room

-- whether the next read fails: where it is listed
abbrev pub fails_read : FakeSource → Bool
fails_read s = is_listed s.fail.items s.calls

-- whether the next write fails, of so many bytes: where it is listed, or there is no room for them
abbrev pub fails_write : FakeSink → ℕ → Bool
fails_write s count = nat_lt s.room (length s.bytes.items + count) || is_listed s.fail.items s.calls
