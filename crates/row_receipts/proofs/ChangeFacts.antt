-- Requests and their records.
use Rattle.std.proofs.Common.{arith, ℕ, ◌≡◌, ◌==◌, false, List, [], ◌∷◌, ◌++◌, All, refl}
use Rattle.std.proofs.lemmas.List.Elements.{All-nil, All-cons, All-append, All-head, All-tail}
use Rattle.wire_values.specs.Commas.{joined, with_commas}
use Rattle.wire_values.specs.Plainness.{IsShortField}
use Rattle.wire_cursor.proofs.ShapeLaws.{fields_short}
use Rattle.wire_requests.specs.Changes.{Asked}
use Rattle.wire_requests.specs.Forms.{shape_of}
use Rattle.wire_requests.specs.Limits.{IsChangeRecord}
use Rattle.wire_requests.specs.Requests.{IsRecord}
use Rattle.wire_requests.specs.Spellings.{act_form, change_spelling}
use Rattle.wire_requests.specs.declared.form.Form.TheVariants as forms
use Rattle.wire_requests.specs.declared.request.Request.TheVariants as requests
use Rattle.wire_requests.proofs.LineFacts.{canonical_change}
use Rattle.wire_requests.proofs.OneReading.{same}
use Rattle.wire_requests.proofs.RequestFacts.{form_usual}
use Rattle.row_register.proofs.FieldShapes.{unmarked}
use Rattle.row_receipts.specs.Receipts.{IsLine}

-- ---- a change is known by its record

change_same : {c d : Asked} → requests.Change c ≡ requests.Change d → c ≡ d
change_same e = cc

-- a line is the record of one change
pub one_recorded : (line : List ℕ) (c d : Asked) → IsRecord line (requests.Change c) → IsChangeRecord d → line ≡ joined (change_spelling d) → c ≡ d
one_recorded line c d is h e = change_same (same line (requests.Change c) (requests.Change d) is (canonical_change d line h e))

pub one_change : (c d : Asked) → IsChangeRecord c → IsChangeRecord d → joined (change_spelling c) ≡ joined (change_spelling d) → c ≡ d
one_change c d h k e = one_recorded (joined (change_spelling c)) c d (canonical_change c (joined (change_spelling c)) h refl) k e

-- ---- a record is one line

more_line : (fields : List (List ℕ)) → All IsShortField fields → IsLine (with_commas fields)
more_line [] h = All-nil (λ b. (b == 10) ≡ false)
more_line (f ∷ fs) h =
    All-cons (λ b. (b == 10) ≡ false) 44 (f ++ with_commas fs) refl
    (All-append (λ b. (b == 10) ≡ false) f (with_commas fs) (unmarked 10 (omega arith) f (All-head IsShortField f fs h)) (more_line fs (All-tail IsShortField f fs h)))

fields_line : (fields : List (List ℕ)) → All IsShortField fields → IsLine (joined fields)
fields_line [] h = All-nil (λ b. (b == 10) ≡ false)
fields_line (f ∷ fs) h =
    All-append (λ b. (b == 10) ≡ false) f (with_commas fs) (unmarked 10 (omega arith) f (All-head IsShortField f fs h)) (more_line fs (All-tail IsShortField f fs h))

pub record_line : (c : Asked) → IsChangeRecord c → IsLine (joined (change_spelling c))
record_line c h =
    let form = forms.Act (act_form c.act) in
    fields_line (change_spelling c) (fields_short (shape_of form) (form_usual form) [] (change_spelling c) h.shape)
