-- The canonical line of a request: its fields with a comma between each two.
use Rattle.std.proofs.Common.{arith, ℕ, ◌*◌, ◌≤◌, ◌≡◌, true, List, [], ◌∷◌, Some, length, All, length-append}
use Rattle.std.specs.List.{flat_map}
use Rattle.std.proofs.lemmas.Bool.Decides.{nat_tests}
use Rattle.std.proofs.lemmas.List.Elements.{All-head, All-tail, All-weaker}
use Rattle.record_fields.specs.Fields.{IsOrdinary, one_record}
use Rattle.record_fields.proofs.PlainFacts.{one_record_joined}
use Rattle.wire_values.specs.Commas.{joined}
use Rattle.wire_values.specs.Plainness.{is_field_byte, IsShortField}
use Rattle.wire_requests.specs.Forms.{shape_of}
use Rattle.wire_requests.specs.Changes.{Asked}
use Rattle.wire_requests.specs.Spellings.{change_spelling}
use Rattle.wire_requests.specs.Limits.{IsChangeRecord}
use Rattle.wire_requests.specs.declared.request.Request.TheVariants as requests
use Rattle.wire_requests.specs.Requests.{spelling, form_of, IsGood, IsRecord}
use Rattle.wire_requests.specs.declared.request.Request.{Request}
use Rattle.wire_requests.proofs.FormFacts.{short_shape}
use Rattle.wire_cursor.proofs.ShapeLaws.{fields_short, as_many}
use Rattle.wire_requests.proofs.RequestFacts.{form_usual}

ordinary_byte : (b : ℕ) → is_field_byte b ≡ true → IsOrdinary b
ordinary_byte b e =
    let low : 45 ≤ b = grind (arith, nat_tests) in
    let high : b ≤ 122 = grind (arith, nat_tests) in
    ((grind (arith, nat_tests), grind (arith, nat_tests), grind (arith, nat_tests), grind (arith, nat_tests)), grind (arith, nat_tests))

ordinary : (field : List ℕ) → IsShortField field → All IsOrdinary field
ordinary field h = All-weaker (λ b. is_field_byte b ≡ true) IsOrdinary ordinary_byte field h.bytes

-- each of the fields takes at most 16 bytes and a comma
joined_length : (fields : List (List ℕ)) → All IsShortField fields → length (flat_map (λ f. 44 ∷ f) fields) ≤ 17 * length fields
joined_length [] h = omega arith
joined_length (f ∷ fs) h =
    let first = All-head IsShortField f fs h in
    omega (arith, first.most, length-append f (flat_map (λ f. 44 ∷ f) fs), joined_length fs (All-tail IsShortField f fs h))

-- short and plain fields are the record of their canonical line
record IsLineOf (fields : List (List ℕ)) : Type 0 where
  short : length (joined fields) ≤ 17 * length fields
  one : one_record (joined fields) ≡ Some fields

line_of : (fields : List (List ℕ)) → 1 ≤ length fields → All IsShortField fields → IsLineOf fields
line_of [] some h = absurd (omega arith)
line_of (f ∷ fs) some h =
    let first = All-head IsShortField f fs h in
    let rest = All-tail IsShortField f fs h in
    record {
      short = omega (arith, first.most, length-append f (flat_map (λ f. 44 ∷ f) fs), joined_length fs rest);
      one = one_record_joined f fs first.least (ordinary f first) (All-weaker IsShortField (All IsOrdinary) ordinary fs rest);
    }

pub canonical : (r : Request) → IsGood r → IsRecord (joined (spelling r)) r
canonical r good =
    let shape = shape_of (form_of r) in
    let many = as_many shape [] (spelling r) good.shape in
    let few = short_shape (form_of r) in
    let line = line_of (spelling r) (omega (arith, many)) (fields_short shape (form_usual (form_of r)) [] (spelling r) good.shape) in
    record { short = omega (arith, line.short, many, few); fields = line.one; good = good }

-- the same of a change that has a record
pub canonical_change : (c : Asked) (line : List ℕ) → IsChangeRecord c → line ≡ joined (change_spelling c) → IsRecord line (requests.Change c)
canonical_change c line h e = rw e (canonical (requests.Change c) (record { valid = h.valid; shape = h.shape }))
