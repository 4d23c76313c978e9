-- Each line is the record of one request, or leaves the forms at one field.
use Rattle.std.proofs.Common.{arith, ℕ, ◌-◌, ◌<◌, ◌≤◌, ◌≡◌, ◌≢◌, ◌⊎◌, List, [], ◌∷◌, Option, Some, None, length, take, ap, sym, subst, ◌∙◌, refl, inl, inr}
use Rattle.std.proofs.lemmas.Bool.{cases_lt}
use Rattle.std.proofs.lemmas.List.{take-take}
use Rattle.grid_exact.specs.declared.text.TheConstants.{LINE_LIMIT}
use Rattle.record_fields.specs.Fields.{one_record}
use Rattle.record_fields.proofs.PlainFacts.{no_record}
use Rattle.wire_values.proofs.Decisions.{same_text}
use Rattle.wire_requests.specs.Forms.{form_word, shape_of, FirstWrong, NoForm, InForm}
use Rattle.wire_requests.specs.Requests.{spelling, IsGood, IsRecord, IsMalformed, Long, Empty, NotOne, Wrong}
use Rattle.wire_requests.specs.declared.form.Form.{Form}
use Rattle.wire_requests.specs.declared.request.Request.{Request}
use Rattle.wire_requests.proofs.FormLaw.{first_without}
use Rattle.wire_cursor.proofs.ShapeLaws.{shape_or_bad}
use Rattle.wire_requests.proofs.RequestFacts.{form_usual, request_of, is_good}
use Rattle.wire_requests.proofs.OneRequest.{form_named, form_again, one_request}

-- ---- never both, and never two

-- the fields of a line that is one record
one_list : (line : List ℕ) (f g : List (List ℕ)) → one_record line ≡ Some f → one_record line ≡ Some g → f ≡ g
one_list line f g p q = let e : Some f ≡ Some g = sym p ∙ q in cc

none_of_some : (line : List ℕ) (f : List (List ℕ)) → one_record line ≡ None → one_record line ≡ Some f → ⊥
none_of_some line f p q = let e : None ≡ Some f = sym p ∙ q in cc

empty_none : (line : List ℕ) → line ≡ [] → one_record line ≡ None
empty_none line e = no_record line (ap length e)

pub apart : (line : List ℕ) (r : Request) (field : ℕ) → IsRecord line r → IsMalformed line field → ⊥
apart line r field p (Long lt e) = absurd (let h = p.short in omega arith)
apart line r field p (Empty e f) = none_of_some line (spelling r) (empty_none line e) p.fields
apart line r field p (NotOne le some none e) = none_of_some line (spelling r) none p.fields
apart line r field p (Wrong le fields e w) = (first_without fields field w).none r p.good (ap (take field) (one_list line (spelling r) fields p.fields e))

-- no field before the first that no request has is such a field
not_before : (fields : List (List ℕ)) (n m : ℕ) → FirstWrong fields n → FirstWrong fields m → n < m → ⊥
not_before fields n m p q lt =
    let a = first_without fields n p in
    let b = first_without fields m q in
    let e : take n (take (m - 1) (spelling b.request)) ≡ take n (take (m - 1) fields) = ap (take n) b.same in
    a.none b.request b.good (sym (take-take n (m - 1) (spelling b.request) (omega arith)) ∙ e ∙ take-take n (m - 1) fields (omega arith))

one_wrong : (fields : List (List ℕ)) (n m : ℕ) → FirstWrong fields n → FirstWrong fields m → n ≡ m
one_wrong fields n m p q = elim (cases_lt n m) as (λ _. n ≡ m) [
  | inl lt ↦ absurd (not_before fields n m p q lt)
  | inr le ↦ elim (cases_lt m n) as (λ _. n ≡ m) [
    | inl lt ↦ absurd (not_before fields m n q p lt)
    | inr le' ↦ omega arith
  ]
]

-- the kinds of malformed lines exclude each other
pub once : (line : List ℕ) (a b : ℕ) → IsMalformed line a → IsMalformed line b → a ≡ b
once line a b (Long l e) (Long m f) = e ∙ sym f
once line a b (Long l e) (Empty z f) = absurd (let n : length line ≡ 0 = ap length z in omega arith)
once line a b (Long l e) (NotOne le some none f) = absurd (omega arith)
once line a b (Long l e) (Wrong le fields f w) = absurd (omega arith)
once line a b (Empty z e) (Long m f) = absurd (let n : length line ≡ 0 = ap length z in omega arith)
once line a b (Empty z e) (Empty y f) = e ∙ sym f
once line a b (Empty z e) (NotOne le some none f) = absurd (some z)
once line a b (Empty z e) (Wrong le fields f w) = absurd (none_of_some line fields (empty_none line z) f)
once line a b (NotOne le some none e) (Long m f) = absurd (omega arith)
once line a b (NotOne le some none e) (Empty y f) = absurd (some y)
once line a b (NotOne le some none e) (NotOne le' some' none' f) = e ∙ sym f
once line a b (NotOne le some none e) (Wrong le' fields f w) = absurd (none_of_some line fields none f)
once line a b (Wrong le fields e w) (Long m f) = absurd (omega arith)
once line a b (Wrong le fields e w) (Empty y f) = absurd (none_of_some line fields (empty_none line y) e)
once line a b (Wrong le fields e w) (NotOne le' some none f) = absurd (none_of_some line fields none e)
once line a b (Wrong le fields e w) (Wrong le' g f v) = one_wrong fields a b w (subst (λ l. FirstWrong l b) (one_list line g fields f e) v)

pub same : (line : List ℕ) (r s : Request) → IsRecord line r → IsRecord line s → r ≡ s
same line r s p q = one_request r s p.good q.good (one_list line (spelling r) (spelling s) p.fields q.fields)

-- ---- and always one

-- the fields are those of a good request, or there is a first wrong one
abbrev ReadFields : List (List ℕ) → Type 0
ReadFields fields = ((r : Request) × (fields ≡ spelling r) × IsGood r) ⊎ ((n : ℕ) × FirstWrong fields n)

in_form : (form : Form) (first : List ℕ) (others : List (List ℕ)) → first ≡ form_word form → ReadFields (first ∷ others)
in_form form first others e =
    elim (shape_or_bad (shape_of form) (form_usual form) [] (first ∷ others) 1) as (λ _. ReadFields (first ∷ others)) [
      | inl h ↦ let r = request_of form (first ∷ others) h in inl (r.request, r.fields_are, is_good form (first ∷ others) r h)
      | inr bad ↦ inr (bad.0, InForm form e bad.1)
    ]

-- a first field that is not the word of the form that it would name is that of no form
no_word : (first : List ℕ) → (first ≢ form_word (form_named first)) → (form : Form) → first ≢ form_word form
no_word first other form e = other (e ∙ ap form_word (sym (ap form_named e ∙ form_again form)))

read_fields : (fields : List (List ℕ)) → ReadFields fields
read_fields [] = inr (1, NoForm (λ form b. b) refl)
read_fields (first ∷ others) = elim (same_text first (form_word (form_named first))) as (λ _. ReadFields (first ∷ others)) [
  | inl e ↦ in_form (form_named first) first others e
  | inr other ↦ inr (1, NoForm (no_word first other) refl)
]

-- the line is the record of a request, or malformed at a field
abbrev pub HasReading : List ℕ → Type 0
HasReading line = ((r : Request) × IsRecord line r) ⊎ ((field : ℕ) × IsMalformed line field)

read_record : (line : List ℕ) → length line ≤ LINE_LIMIT → line ≢ [] → (record' : Option (List (List ℕ))) → one_record line ≡ record' → HasReading line
read_record line le some None e = inr (0, NotOne le some e refl)
read_record line le some (Some fields) e = elim (read_fields fields) as (λ _. HasReading line) [
  | inl h ↦ inl (h.0, record { short = le; fields = e ∙ ap Some h.1; good = h.2 })
  | inr w ↦ inr (w.0, Wrong le fields e w.1)
]

pub has_reading : (line : List ℕ) → HasReading line
has_reading line = elim (cases_lt LINE_LIMIT (length line)) as (λ _. HasReading line) [
  | inl lt ↦ inr (0, Long lt refl)
  | inr le ↦ elim (same_text line []) as (λ _. HasReading line) [
    | inl e ↦ inr (1, Empty e refl)
    | inr some ↦ read_record line le some (one_record line) refl
  ]
]
