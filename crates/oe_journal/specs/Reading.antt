-- What bytes spell, read from left to right.
use Rattle.std.specs.Prelude.{◌≡◌, ℕ, zero, suc, List, [], ◌∷◌, length, take, drop, Option, Some, None, Result, Ok, Err, nat_lt, ◌==◌, if◌then◌else◌}
use Rattle.std.specs.Int.{w64, from_be_bytes}
use Rattle.std.specs.Str.{is_utf8}
use Rattle.oe_keeper.specs.declared.change.Table.{Table}
use Rattle.oe_keeper.specs.declared.change.Table.TheVariants.{Airfield, Runway, Desk, Filing, Receipt}
use Rattle.oe_keeper.specs.declared.change.RowChange.{RowChange}
use Rattle.oe_keeper.specs.declared.change.RowChange.TheVariants.{Put, Remove}
use Rattle.oe_journal.specs.declared.error.ReadError.{ReadError}
use Rattle.oe_journal.specs.declared.error.ReadError.TheVariants as errors

infixl 10 ◌>>=◌
abbrev pub ◌>>=◌ : {A B : Type 0} → Option A → (A → Option B) → Option B
(Some x) >>= f = f x
None >>= f = None

-- What a function returned, seen by view, is what reading gives, unless memory ran out.
abbrev pub Fails : {Y : Type 0} → ReadError → Option Y → Type 0
Fails errors.Memory read = Unit {0}
Fails errors.Malformed read = read ≡ None

abbrev pub Gives : {X Y : Type 0} → (X → Y) → Result X ReadError → Option Y → Type 0
Gives view (Ok x) read = read ≡ Some (view x)
Gives view (Err e) read = Fails e read

-- what is so where the bytes were refused
abbrev pub IfMalformed : {X : Type 0} → Result X ReadError → Type 0 → Type 0
IfMalformed (Ok x) P = Unit {0}
IfMalformed (Err errors.Memory) P = Unit {0}
IfMalformed (Err errors.Malformed) P = P

-- A field is a value and the bytes after it.
abbrev pub number_at : List ℕ → Option (ℕ × List ℕ)
number_at bytes = if nat_lt (length bytes) 8 then None else Some (from_be_bytes w64 (take 8 bytes), drop 8 bytes)

abbrev pub utf8_at : List ℕ → Option (List ℕ)
utf8_at bytes = if is_utf8 bytes then Some bytes else None

unfoldable pub text_at : List ℕ → Option (List ℕ × List ℕ)
text_at bytes = do
  n ← number_at bytes
  if nat_lt (length n.1) n.0 then None else (do
    text ← utf8_at (take n.0 n.1)
    Some (text, drop n.0 n.1))

abbrev pub table_at : ℕ → Option Table
table_at zero = Some Airfield
table_at (suc zero) = Some Runway
table_at (suc (suc zero)) = Some Desk
table_at (suc (suc (suc zero))) = Some Filing
table_at (suc (suc (suc (suc zero)))) = Some Receipt
table_at (suc (suc (suc (suc (suc n))))) = None

-- the rest of a put, and of a removal
unfoldable pub put_at : ℕ → List ℕ → Option (RowChange × List ℕ)
put_at place bytes = do
  table ← table_at place
  key ← text_at bytes
  row ← text_at key.1
  Some (Put table key.0 row.0, row.1)

unfoldable pub removal_at : ℕ → List ℕ → Option (RowChange × List ℕ)
removal_at place bytes = do
  table ← table_at place
  key ← text_at bytes
  Some (Remove table key.0, key.1)

unfoldable pub change_at : List ℕ → Option (RowChange × List ℕ)
change_at (letter ∷ place ∷ rest) = if letter == 80 then put_at place rest else if letter == 82 then removal_at place rest else None
change_at rest = None

-- at most n changes, all of the bytes
unfoldable pub changes_within : ℕ → List ℕ → Option (List RowChange)
changes_within n [] = Some []
changes_within zero (b ∷ rest) = None
changes_within (suc n) (b ∷ rest) = do
  first ← change_at (b ∷ rest)
  others ← changes_within n first.1
  Some (first.0 ∷ others)

-- all of the bytes; no change is spelled by no bytes, so this is enough
abbrev pub changes_of : List ℕ → Option (List RowChange)
changes_of bytes = changes_within (length bytes) bytes
