-- What a session does is what it is seen to do through a map of its states.
use Rattle.std.proofs.Common.{inl, inr, ap, ℕ, List, [], ◌∷◌, Option, Some, None}
use Rattle.std.specs.Str.Lines.{lines}
use Rattle.oe_http.specs.Machine.{Runs, Starts, Step}
use Rattle.oe_http.specs.Session.{Answered, AnsweredFront, AnsweredRead, Begun, Replied}

-- each step is seen as one where this holds of its first state, and then it holds of its last
module _ {S T : Type 0} (step : Step S) (outer : Step T) (seen : S → T) (Holds : S → Type 0)
    (is_seen : (s t : S) (line text : List ℕ) → Holds s → step s line text t → outer (seen s) line text (seen t))
    (holds_on : (s t : S) (line text : List ℕ) → Holds s → step s line text t → Holds t) where
  runs : (more : List (List ℕ)) (s t : S) (text : List ℕ) → Holds s → Runs step s more text t → Runs outer (seen s) more text (seen t)
  runs [] s t text holds h = (h.0, ap seen h.1)
  runs (line ∷ more) s t text holds (reply, rest, next, is, on, e) =
      (reply, rest, seen next, is_seen s next line reply holds is, runs more next t rest (holds_on s next line reply holds is) on, e)

  starts : (more : List (List ℕ)) (s : S) (text : List ℕ) → Holds s → Starts step s more text → Starts outer (seen s) more text
  starts [] s text holds h = h
  starts (line ∷ more) s text holds (inl e) = inl e
  starts (line ∷ more) s text holds (inr (inl (reply, rest, next, is, e))) = inr (inl (reply, rest, seen next, is_seen s next line reply holds is, e))
  starts (line ∷ more) s text holds (inr (inr (reply, rest, next, is, on, e))) =
      inr (inr (reply, rest, seen next, is_seen s next line reply holds is, starts more next rest (holds_on s next line reply holds is) on, e))

  replied : (s t : S) (all : List (List ℕ)) (x y : Option (List ℕ)) → Holds s → Replied step s t all x y → Replied outer (seen s) (seen t) all x y
  replied s t all x y holds h = record { text = h.text; appends = h.appends; runs = runs all s t h.text holds h.runs }

  pub answered : (s t : S) (input x y : Option (List ℕ)) → Holds s → Answered step s t input x y → Answered outer (seen s) (seen t) input x y
  answered s t None x y holds h = tt
  answered s t (Some input) x y holds h = replied s t (lines input) x y holds h

  pub front : (s : S) (input x y : Option (List ℕ)) → Holds s → AnsweredFront step s input x y → AnsweredFront outer (seen s) input x y
  front s None x y holds h = tt
  front s (Some input) x y holds (done, more, now, split, r) = (done, more, seen now, split, replied s now done x y holds r)

  pub read : (s t : S) (input left x y : Option (List ℕ)) → Holds s → AnsweredRead step s t input left x y → AnsweredRead outer (seen s) (seen t) input left x y
  read s t None left x y holds h = tt
  read s t (Some input) None x y holds h = absurd h
  read s t (Some input) (Some left) x y holds (done, part, split, is_plain, r) = (done, part, split, is_plain, replied s t done x y holds r)

  pub begun : (s : S) (input x y : Option (List ℕ)) → Holds s → Begun step s input x y → Begun outer (seen s) input x y
  begun s None x y holds h = tt
  begun s (Some input) x y holds (text, appends, on) = (text, appends, starts (lines input) s text holds on)
