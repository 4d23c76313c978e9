-- A reader takes the fields of a record one after the other.
use Rattle.std.proofs.Common.{ℕ, ◌≡◌, List, [], ◌∷◌, ◌++◌, ap, sym, subst, ◌∙◌, inl, inr, append-nil, append_assoc}
use Rattle.wire_values.specs.Wanted.{Wanted, Fits}
use Rattle.wire_cursor.specs.Shape.{HasShape, FirstBad, Place, Steps, Took, Stops, IsBad}

-- ---- one field

-- the field is as wanted
took_field : (w : Wanted) (text : List ℕ) (old new : Place) → Steps text old new → Fits w old.before text → Took (w ∷ []) (text ∷ []) old new
took_field w text old new s fits = record {
  read = s.rest;
  fits = λ more h. rw s.rest (fits, subst (λ b. HasShape more b new.rest) s.before h);
  bad = λ more n h. rw s.rest (inl (fits, rw s.number at (subst (λ b. FirstBad more b new.rest new.number n) s.before h)));
}

pub took_one : (w : Wanted) (text spelled : List ℕ) (old new : Place) → Steps text old new → text ≡ spelled → Fits w old.before spelled → Took (w ∷ []) (spelled ∷ []) old new
took_one w text spelled old new s e fits = took_field w spelled old new (subst (λ t. Steps t old new) e s) fits

-- the field is not as wanted
pub stops_at : (w : Wanted) (text : List ℕ) (old new : Place) (n : ℕ) → Steps text old new → (Fits w old.before text → ⊥) → n ≡ old.number → Stops (w ∷ []) old n
stops_at w text old new n s misfit e = record { first = λ more. rw s.rest (inr (misfit, e)) }

-- the field is wanting
pub stops_short : (w : Wanted) (old : Place) (n : ℕ) → old.rest ≡ [] → n ≡ old.number → Stops (w ∷ []) old n
stops_short w old n none e = record { first = λ more. rw none e }

-- a field is one too many
pub too_many : (text : List ℕ) (old new : Place) (n : ℕ) → Steps text old new → n ≡ old.number → IsBad [] old n
too_many text old new n s e = record { first = rw s.rest e }

pub ruleset taking = (took_one, stops_at, stops_short, too_many)

-- ---- several fields

-- what is taken after some fields is taken after all before them
pub Took_then : (ws vs : List Wanted) (xs ys : List (List ℕ)) (a b c : Place) → Took ws xs a b → Took vs ys b c → Took (ws ++ vs) (xs ++ ys) a c
Took_then ws vs xs ys a b c p q = record {
  read = p.read ∙ ap (λ r. xs ++ r) q.read ∙ sym (append_assoc xs ys c.rest);
  fits = λ more h. rw (append_assoc ws vs more) (p.fits (vs ++ more) (q.fits more h));
  bad = λ more n h. rw (append_assoc ws vs more) (p.bad (vs ++ more) n (q.bad more n h));
}

-- where the reader stops after some fields
pub Took_stops : (ws vs : List Wanted) (xs : List (List ℕ)) (a b : Place) (n : ℕ) → Took ws xs a b → Stops vs b n → Stops (ws ++ vs) a n
Took_stops ws vs xs a b n p q = record { first = λ more. rw (append_assoc ws vs more) (p.bad (vs ++ more) n (q.first more)) }

-- where it stops, whatever is wanted after
pub Stops_before : (ws vs : List Wanted) (a : Place) (n : ℕ) → Stops ws a n → Stops (ws ++ vs) a n
Stops_before ws vs a n p = record { first = λ more. rw (append_assoc ws vs more) (p.first (vs ++ more)) }

-- the same where one, two or four fields are taken at once
pub took_1 : {w : Wanted} {x : List ℕ} {ws : List Wanted} {xs : List (List ℕ)} {a b c : Place} → Took (w ∷ []) (x ∷ []) a b → Took ws xs b c → Took (w ∷ ws) (x ∷ xs) a c
took_1 p q = Took_then _ _ _ _ _ _ _ p q

pub took_2 : {v w : Wanted} {x y : List ℕ} {ws : List Wanted} {xs : List (List ℕ)} {a b c : Place}
    → Took (v ∷ w ∷ []) (x ∷ y ∷ []) a b → Took ws xs b c → Took (v ∷ w ∷ ws) (x ∷ y ∷ xs) a c
took_2 p q = Took_then _ _ _ _ _ _ _ p q

pub took_4 : {t u v w : Wanted} {x y z s : List ℕ} {ws : List Wanted} {xs : List (List ℕ)} {a b c : Place}
    → Took (t ∷ u ∷ v ∷ w ∷ []) (x ∷ y ∷ z ∷ s ∷ []) a b → Took ws xs b c → Took (t ∷ u ∷ v ∷ w ∷ ws) (x ∷ y ∷ z ∷ s ∷ xs) a c
took_4 p q = Took_then _ _ _ _ _ _ _ p q

pub past_1 : {w : Wanted} {x : List ℕ} {ws : List Wanted} {a b : Place} {n : ℕ} → Took (w ∷ []) (x ∷ []) a b → Stops ws b n → Stops (w ∷ ws) a n
past_1 p q = Took_stops _ _ _ _ _ _ p q

pub past_2 : {v w : Wanted} {x y : List ℕ} {ws : List Wanted} {a b : Place} {n : ℕ} → Took (v ∷ w ∷ []) (x ∷ y ∷ []) a b → Stops ws b n → Stops (v ∷ w ∷ ws) a n
past_2 p q = Took_stops _ _ _ _ _ _ p q

pub past_4 : {t u v w : Wanted} {x y z s : List ℕ} {ws : List Wanted} {a b : Place} {n : ℕ}
    → Took (t ∷ u ∷ v ∷ w ∷ []) (x ∷ y ∷ z ∷ s ∷ []) a b → Stops ws b n → Stops (t ∷ u ∷ v ∷ w ∷ ws) a n
past_4 p q = Took_stops _ _ _ _ _ _ p q

pub in_1 : {w : Wanted} {ws : List Wanted} {a : Place} {n : ℕ} → Stops (w ∷ []) a n → Stops (w ∷ ws) a n
in_1 p = Stops_before _ _ _ _ p

pub in_2 : {v w : Wanted} {ws : List Wanted} {a : Place} {n : ℕ} → Stops (v ∷ w ∷ []) a n → Stops (v ∷ w ∷ ws) a n
in_2 p = Stops_before _ _ _ _ p

pub in_4 : {t u v w : Wanted} {ws : List Wanted} {a : Place} {n : ℕ} → Stops (t ∷ u ∷ v ∷ w ∷ []) a n → Stops (t ∷ u ∷ v ∷ w ∷ ws) a n
in_4 p = Stops_before _ _ _ _ p

-- ---- all fields

-- the first bad field, where no more is wanted
pub bad_here : {ws : List Wanted} {a : Place} {n : ℕ} → Stops ws a n → IsBad ws a n
bad_here {ws} {a} {n} p = record { first = subst (λ l. FirstBad l a.before a.rest a.number n) (append-nil ws) (p.first []) }

-- the same where fields were taken before
pub bad_after : {ws : List Wanted} {xs : List (List ℕ)} {a b : Place} {n : ℕ} → Took ws xs a b → IsBad [] b n → IsBad ws a n
bad_after {ws} {xs} {a} {b} {n} p q = record { first = subst (λ l. FirstBad l a.before a.rest a.number n) (append-nil ws) (p.bad [] n q.first) }

-- the fields that were taken are all that were left
pub record AllTook (ws : List Wanted) (xs : List (List ℕ)) (a : Place) : Type 0 where
  pub read : a.rest ≡ xs
  pub shape : HasShape ws a.before xs

pub all_took : {ws : List Wanted} {xs : List (List ℕ)} {a b : Place} → Took ws xs a b → b.rest ≡ [] → AllTook ws xs a
all_took {ws} {xs} {a} {b} p none =
    let read : a.rest ≡ xs = p.read ∙ ap (λ r. xs ++ r) none ∙ append-nil xs in
    let nothing : HasShape [] b.before b.rest = rw none tt in
    record {
      read = read;
      shape = subst (λ r. HasShape ws a.before r) read (subst (λ l. HasShape l a.before a.rest) (append-nil ws) (p.fits [] nothing));
    }
