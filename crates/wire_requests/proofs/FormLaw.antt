-- The first wrong field is the first that no request with the same earlier fields has.
use Rattle.std.proofs.Common.{arith, ℕ, suc, ◌-◌, ◌≡◌, ◌≢◌, List, [], ◌∷◌, take, refl, ap, sym, subst, ◌∙◌}
use Rattle.wire_cursor.specs.Shape.{HasShape}
use Rattle.wire_requests.specs.Forms.{form_word, shape_of, BeginsWith, FirstWrong, NoForm, InForm}
use Rattle.wire_requests.specs.Requests.{spelling, form_of, IsGood, IsFirstWithout}
use Rattle.wire_requests.specs.declared.form.Form.{Form}
use Rattle.wire_requests.specs.declared.form.Form.TheVariants as forms
use Rattle.wire_requests.specs.declared.request.Request.{Request}
use Rattle.wire_cursor.proofs.ShapeLaws.{BadAt, place_of, no_shape, Values, texts, texts_shape, examples, completed}
use Rattle.wire_requests.proofs.RequestFacts.{form_usual, request_of, is_good}
use Rattle.wire_requests.proofs.OneRequest.{begins, one_form}

-- fields that are the same so far begin with the same word
same_word : (word : List ℕ) (xs ys : List (List ℕ)) (k : ℕ) → BeginsWith word xs → take (suc k) xs ≡ take (suc k) ys → BeginsWith word ys
same_word word [] ys k b e = absurd b
same_word word (x ∷ xs) [] k b e = absurd (cc)
same_word word (x ∷ xs) (y ∷ ys) k b e = let same : x ≡ y = cc in sym same ∙ b

one_word : (v w : List ℕ) (xs : List (List ℕ)) → BeginsWith v xs → BeginsWith w xs → v ≡ w
one_word v w [] b c = absurd b
one_word v w (x ∷ xs) b c = sym b ∙ c

-- no good request has the same fields up to a bad one
none_in_form : (form : Form) (fields : List (List ℕ)) (k : ℕ) → BeginsWith (form_word form) fields → BadAt (shape_of form) [] fields k
    → (r : Request) → IsGood r → take (suc k) (spelling r) ≢ take (suc k) fields
none_in_form form fields k f b r good e =
    let named : BeginsWith (form_word (form_of r)) fields = same_word (form_word (form_of r)) (spelling r) fields k (begins r) e in
    let form_is : form_of r ≡ form = one_form (form_of r) form (one_word (form_word (form_of r)) (form_word form) fields named f) in
    no_shape (shape_of form) [] (spelling r) fields k (subst (λ g. HasShape (shape_of g) [] (spelling r)) form_is good.shape) b e

-- the request of a form that has these values
record Example (form : Form) (v : Values [] (shape_of form)) : Type 0 where
  request : Request
  good : IsGood request
  fields_are : texts [] (shape_of form) v ≡ spelling request

example_of : (form : Form) (v : Values [] (shape_of form)) → Example form v
example_of form v =
    let h = texts_shape [] (shape_of form) v in
    let r = request_of form (texts [] (shape_of form) v) h in
    record { request = r.request; good = is_good form (texts [] (shape_of form) v) r h; fields_are = r.fields_are }

without_at : (fields : List (List ℕ)) (n k : ℕ) (r : Request) → n ≡ suc k → IsGood r → take k (spelling r) ≡ take k fields
    → ((s : Request) → IsGood s → take (suc k) (spelling s) ≢ take (suc k) fields) → IsFirstWithout fields n
without_at fields n k r e good same none =
    let before : n - 1 ≡ k = omega (arith, e) in
    record { request = r; good = good; same = rw before same; none = λ s g. rw e (none s g) }

pub first_without : (fields : List (List ℕ)) (n : ℕ) → FirstWrong fields n → IsFirstWithout fields n
first_without fields n (InForm form f b) =
    let p = place_of (shape_of form) [] fields 1 n b in
    let v = completed (shape_of form) (form_usual form) [] fields p.0 p.2 in
    let x = example_of form v.0 in
    without_at fields n p.0 x.request (omega (arith, p.1)) x.good (ap (take p.0) (sym x.fields_are) ∙ v.1) (none_in_form form fields p.0 f p.2)
first_without fields n (NoForm h one) =
    let x = example_of forms.Screen (examples [] (shape_of forms.Screen) (form_usual forms.Screen)) in
    without_at fields n 0 x.request (omega (arith, one)) x.good refl (λ s g e. h (form_of s) (same_word (form_word (form_of s)) (spelling s) fields 0 (begins s) e))
