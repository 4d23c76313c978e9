-- Sessions over a state of which the replies see a part: the same sessions over the part.
use Rattle.std.proofs.Common.{ℕ, List, [], ◌∷◌, Option, Some, None, ap, inl, inr}
use Rattle.link_gates.specs.Serving.{Meets, Serves, SessionOf, WorksOff}
use Rattle.oe_http.specs.declared.session.Ended.{Ended}
use Rattle.oe_http.specs.declared.session.Ended.TheVariants as endings
use Rattle.http_session.specs.Machine.{Exchange, Runs, Step}
use Rattle.http_session.specs.Endings.{BeginsNext, CarriesOut, Ends, EndsSo, Served}

module _ {A B : Type 0} (part : A → B) (step : Step B) where
  abbrev over : Step A
  over s asked reply t = step (part s) asked reply (part t)

  runs : (s : A) (stream : List ℕ) (es : List Exchange) (t : A) (left : List ℕ) → Runs over s stream es t left → Runs step (part s) stream es (part t) left
  runs s stream [] t left p = (ap part p.0, p.1)
  runs s stream (e ∷ es) t left p = (part p.0, p.1, p.2, p.3, runs p.0 p.1 es t left p.4)

  served : (s : A) (stream : List ℕ) (es : List Exchange) (t : A) (left : List ℕ) → Served over s stream es t left → Served step (part s) stream es (part t) left
  served s stream es t left p = record { ran = runs s stream es t left p.ran; opens = p.opens }

  begins : (s : A) (stream text : List ℕ) → BeginsNext over s stream text → BeginsNext step (part s) stream text
  begins s stream text p = elim p [
    | inl x ↦ inl (x.0, part x.1, x.2, x.3, x.4, x.5)
    | inr y ↦ inr y
  ]

  ends : (ended : Ended) (s t : A) (stream : List ℕ) (Wrote : List ℕ → Type 0) → Ends over ended s t stream Wrote → Ends step ended (part s) (part t) stream Wrote
  ends endings.Closed s t stream Wrote p = (p.0, p.1, runs s stream p.0 t p.1 p.2, p.3, p.4)
  ends endings.Truncated s t stream Wrote p = (p.0, p.1, served s stream p.0 t p.1 p.2, p.3, p.4)
  ends (endings.Refused status) s t stream Wrote p = (p.0, p.1, served s stream p.0 t p.1 p.2, p.3, p.4)
  ends endings.ReadFault s t stream Wrote p = (p.0, p.1, served s stream p.0 t p.1 p.2, p.3)
  ends endings.Long s t stream Wrote p = (p.0, p.1, served s stream p.0 t p.1 p.2, p.3)
  ends endings.WriteFault s t stream Wrote p = (p.0, p.1, p.2, part p.3, served s stream p.0 p.3 p.1 p.4, begins p.3 p.1 p.2 p.5, p.6)
  ends endings.NoMemory s t stream Wrote p = (p.0, p.1, p.2, part p.3, served s stream p.0 p.3 p.1 p.4, p.5, p.6)

  ends_so : (ended : Ended) (s t : A) (stream held_old held_new : Option (List ℕ)) → EndsSo over ended s t stream held_old held_new
      → EndsSo step ended (part s) (part t) stream held_old held_new
  ends_so ended s t None held_old held_new p = tt
  ends_so ended s t (Some stream) held_old held_new p = ends ended s t stream _ p

  carries : (s t : A) (stream : Option (List ℕ)) → CarriesOut over s t stream → CarriesOut step (part s) (part t) stream
  carries s t None p = tt
  carries s t (Some stream) p = (p.0, p.1, runs s stream p.0 t p.1 p.2, p.3)

  session_of : (ended : Ended) (s t : A) (left_old left_new held_old held_new : Option (List ℕ)) (read_old read_new write_old write_new : ℕ)
      → SessionOf over ended s t left_old left_new held_old held_new read_old read_new write_old write_new
      → SessionOf step ended (part s) (part t) left_old left_new held_old held_new read_old read_new write_old write_new
  session_of ended s t left_old left_new held_old held_new read_old read_new write_old write_new p = record {
    ends = ends_so ended s t left_old held_old held_new p.ends;
    carried = carries s t left_old p.carried;
    causes = p.causes;
  }

-- the same of what a worker did
module _ {A B Link : Type 0} (part : A → B) (whole : Meets A Link) (seen : Meets B Link)
    (same : (s : A) (x : Link) (ended : Ended) (t : A) (y : Link) → whole s x ended t y → seen (part s) x ended (part t) y) where
  serves : (s : A) (xs : List Link) (bs : List (Link × Ended)) (t : A) → Serves whole s xs bs t → Serves seen (part s) xs bs (part t)
  serves s [] [] t p = ap part p
  serves s [] (b ∷ bs) t p = p
  serves s (x ∷ xs) [] t p = p
  serves s (x ∷ xs) (b ∷ bs) t p = (part p.0, same s x b.1 p.0 b.0 p.1, serves p.0 xs bs t p.2)

  pub works : (s t : A) (left_old left_new : Option (List Link)) (given_old given_new : Option (List (Link × Ended))) (count : ℕ)
      → WorksOff whole s t left_old left_new given_old given_new count → WorksOff seen (part s) (part t) left_old left_new given_old given_new count
  works s t left_old left_new given_old given_new count p = record {
    took = p.took;
    back = p.back;
    takes = p.takes;
    gives = p.gives;
    serves = serves s p.took p.back t p.serves;
    counted = p.counted;
  }

module _ {A B Link : Type 0} (part : A → B) (step : Step B) (left held : Link → Option (List ℕ)) (reads writes : Link → ℕ) where
  -- what a worker did, of the part that the replies see
  pub works_on_part : (s t : A) (left_old left_new : Option (List Link)) (given_old given_new : Option (List (Link × Ended))) (count : ℕ)
      → WorksOff (λ s x ended t y. SessionOf (λ s asked reply t. step (part s) asked reply (part t)) ended s t (left x) (left y) (held x) (held y) (reads x) (reads y) (writes x) (writes y))
      s t left_old left_new given_old given_new count
      → WorksOff (λ s x ended t y. SessionOf step ended s t (left x) (left y) (held x) (held y) (reads x) (reads y) (writes x) (writes y))
      (part s) (part t) left_old left_new given_old given_new count
  works_on_part = works part
      (λ s x ended t y. SessionOf (λ s asked reply t. step (part s) asked reply (part t)) ended s t (left x) (left y) (held x) (held y) (reads x) (reads y) (writes x) (writes y))
      (λ s x ended t y. SessionOf step ended s t (left x) (left y) (held x) (held y) (reads x) (reads y) (writes x) (writes y))
      (λ s x ended t y p. session_of part step ended s t (left x) (left y) (held x) (held y) (reads x) (reads y) (writes x) (writes y) p)
