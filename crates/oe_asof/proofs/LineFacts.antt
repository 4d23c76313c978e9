-- What the first wrong field of a question is.
use Rattle.std.proofs.Common.{◌≡◌, ℕ, ◌+◌, List, [], ◌∷◌, refl, ap, sym, ◌∙◌, subst, inl, inr, Result, IfErr}
use Rattle.std.specs.Result.{IsErrAnd}
use Rattle.std.proofs.lemmas.Result.{err_from_is_err_and}
use Rattle.std.specs.Prelude.{ℤ, pos, ◌≤ℤ◌, neg_ℤ}
use Rattle.std.specs.Fmt.{decimal}
use Rattle.whole_number.specs.declared.whole.TheConstants.{NUMBER_LIMIT}
use Rattle.grid_exact.specs.declared.point.TheConstants.{COORDINATE_LIMIT}
use Rattle.wire_values.specs.Wanted.{Wanted, Between}
use Rattle.wire_cursor.specs.Shape.{FirstBad, IsBad, Place, beginning}
use Rattle.wire_cursor.specs.Groups.{site_shape}
use Rattle.wire_cursor.specs.declared.cursor.BadField.{BadField}
use Rattle.wire_requests.specs.Forms.{FirstWrong, InForm, form_word}
use Rattle.wire_requests.specs.declared.form.Form.TheVariants as forms
use Rattle.oe_asof.specs.Lines.{HasNumber}

-- fields that are counted from one more
shifted : (shape : List Wanted) (before : List ℕ) (fields : List (List ℕ)) (number n : ℕ) → FirstBad shape before fields number n → FirstBad shape before fields (number + 1) (n + 1)
shifted [] before [] number n h = absurd h
shifted [] before (f ∷ fs) number n h = ap (λ k. k + 1) h
shifted (w ∷ more) before [] number n h = ap (λ k. k + 1) h
shifted (w ∷ more) before (f ∷ fs) number n (inl (fits, rest)) = inl (fits, shifted more f fs (number + 1) n rest)
shifted (w ∷ more) before (f ∷ fs) number n (inr (misfit, e)) = inr (misfit, ap (λ k. k + 1) e)

-- the first of which is a number, whatever stands before it
after_number : (low high : ℤ) (more : List Wanted) (before other : List ℕ) (fields : List (List ℕ)) (number n : ℕ) → FirstBad (Between low high ∷ more) before fields number n
    → FirstBad (Between low high ∷ more) other fields (number + 1) (n + 1)
after_number low high more before other [] number n h = ap (λ k. k + 1) h
after_number low high more before other (f ∷ fs) number n (inl (fits, rest)) = inl (fits, shifted more f fs (number + 1) n rest)
after_number low high more before other (f ∷ fs) number n (inr (misfit, e)) = inr (misfit, ap (λ k. k + 1) e)

abbrev without_first : List Wanted → List Wanted
without_first [] = []
without_first (w ∷ more) = more

-- a wrong field of a structure is one of its screening
pub site_wrong : (fields : List (List ℕ)) (a : Place) (n m : ℕ) → a ≡ beginning fields → IsBad site_shape a n → m ≡ n + 1 → FirstWrong (form_word forms.Screen ∷ fields) m
site_wrong fields a n m at bad e =
    let first = subst (λ p. IsBad site_shape p n) at bad in
    subst (λ k. FirstWrong (form_word forms.Screen ∷ fields) k) (sym e) (InForm forms.Screen refl (inl (refl, after_number (neg_ℤ COORDINATE_LIMIT) COORDINATE_LIMIT (without_first site_shape) [] (form_word forms.Screen) fields 1 n first.first)))

pub wrong_out : {T : Type 0} (fields : List (List ℕ)) (r : Result T BadField) (q : BadField) → IsErrAnd r (λ e. e ≡ q) → FirstWrong fields (q.before + 2) → IfErr r (λ b. FirstWrong fields (b.before + 2))
wrong_out fields r q e h = let p = err_from_is_err_and r e in rw (p.1, p.2) h

-- the number stands behind the first field
pub numbered : (fields behind others : List (List ℕ)) (first text : List ℕ) (number : ℕ) → fields ≡ first ∷ behind → behind ≡ text ∷ others → text ≡ decimal number → pos number ≤ℤ NUMBER_LIMIT
    → HasNumber fields number others
numbered fields behind others first text number a b e small = record {
  first = first;
  fields_are = a ∙ ap (λ (l : List (List ℕ)). first ∷ l) (b ∙ ap (λ (t : List ℕ). t ∷ others) e);
  small = small;
}
