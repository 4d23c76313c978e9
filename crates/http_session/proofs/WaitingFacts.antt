-- Responses that wait to be written: what was written and what waits, taken as one text.
use Rattle.std.proofs.Common.{arith, ap, ◌≡◌, ◌⊎◌, inl, inr, ℕ, List, [], ◌∷◌, ◌++◌, length, length-append, drop, get_or, Option, Some, None, refl, sym, ◌∙◌, subst, append_assoc, append-nil}
use Rattle.std.specs.Io.KnownBytes.{Appends, append_known}
use Rattle.oe_http.specs.Written.{Sent}
use Rattle.oe_http.proofs.SentFacts.{appends_on}
use Rattle.http_session.specs.Endings.{WroteFront}

-- of two fronts of a text one is a front of the other
pub fronts : (a b r s : List ℕ) → a ++ b ≡ r ++ s → ((c : List ℕ) × (r ≡ a ++ c)) ⊎ ((c : List ℕ) × (a ≡ r ++ c) × (s ≡ c ++ b))
fronts [] b r s e = inl (r, refl)
fronts (x ∷ a) b [] s e = inr (x ∷ a, refl, sym e)
fronts (x ∷ a) b (y ∷ r) s e =
    let head : x ≡ y = ap (λ l. get_or l 0 0) e in
    elim (fronts a b r s (ap (drop 1) e)) as (λ _. ((c : List ℕ) × (y ∷ r ≡ (x ∷ a) ++ c)) ⊎ ((c : List ℕ) × (x ∷ a ≡ (y ∷ r) ++ c) × (s ≡ c ++ b))) [
      | inl p ↦ inl (p.0, rw (head, p.1) refl)
      | inr p ↦ inr (p.0, rw (head, p.1) refl, p.2)
    ]

-- ---- one write after another

pub sent_then : (h k m : Option (List ℕ)) (p q r : List ℕ) → Sent h k p q → Sent k m q r → Sent h m p r
sent_then h k m p q r s t = record {
  front = s.front ++ t.front;
  appends = appends_on h k m s.front t.front s.appends t.appends;
  split = s.split ∙ ap (λ (x : List ℕ). s.front ++ x) t.split ∙ sym (append_assoc s.front t.front r);
}

-- with a text behind
pub sent_more : (h k : Option (List ℕ)) (p q text : List ℕ) → Sent h k p q → Sent h k (p ++ text) (q ++ text)
sent_more h k p q text s = record { front = s.front; appends = s.appends; split = ap (λ (x : List ℕ). x ++ text) s.split ∙ append_assoc s.front q text }

-- what waited was written, and a text behind it
pub sent_behind : (h k m : Option (List ℕ)) (w text rest : List ℕ) → Sent h k w [] → Sent k m text rest → Sent h m (w ++ text) rest
sent_behind h k m w text rest s t = sent_then h k m (w ++ text) text rest (sent_more h k w [] text s) t

pub front_behind : (h k m : Option (List ℕ)) (w text : List ℕ) → Sent h k w [] → ((rest : List ℕ) × Sent k m text rest) → (rest : List ℕ) × Sent h m (w ++ text) rest
front_behind h k m w text s (rest, t) = (rest, sent_behind h k m w text rest s t)

pub front_more : (h k : Option (List ℕ)) (w text : List ℕ) → WroteFront h k w → (rest : List ℕ) × Sent h k (w ++ text) rest
front_more h k w text (some, (rest, s)) = (rest ++ text, sent_more h k w rest text s)

pub front_then : (h k m : Option (List ℕ)) (w v : List ℕ) → Sent h k w v → WroteFront k m v → WroteFront h m w
front_then h k m w v s (some, (rest, t)) = (omega (arith, some, ap length s.split, length-append s.front v), (rest, sent_then h k m w v rest s t))

-- ---- what was written and what waits

pub waits_more : (h : Option (List ℕ)) (w text : List ℕ) → Appends (append_known h w) (append_known h (w ++ text)) text
waits_more None w text = tt
waits_more (Some hs) w text = sym (append_assoc hs w text)

pub appends_behind : (h m : Option (List ℕ)) (w c : List ℕ) → Appends h m (w ++ c) → Appends (append_known h w) m c
appends_behind None m w c a = tt
appends_behind (Some hs) None w c a = a
appends_behind (Some hs) (Some ms) w c a = a ∙ sym (append_assoc hs w c)

pub sent_last : (h m : Option (List ℕ)) (w text : List ℕ) → Sent h m (w ++ text) [] → Sent (append_known h w) m text []
sent_last h m w text s = record {
  front = text;
  appends = appends_behind h m w text (subst (λ (t : List ℕ). Appends h m t) (sym (s.split ∙ append-nil s.front)) s.appends);
  split = sym (append-nil text);
}

-- what is appended to the second is appended to the first
abbrev pub Reaches : Option (List ℕ) → Option (List ℕ) → Type 0
Reaches g k = (m : Option (List ℕ)) (text : List ℕ) → Appends k m text → Appends g m text

pub reach_moved : (h k : Option (List ℕ)) (p q : List ℕ) → Sent h k p q → Reaches (append_known h p) (append_known k q)
reach_moved None k p q s = λ m text a. tt
reach_moved (Some hs) None p q s = absurd s.appends
reach_moved (Some hs) (Some ks) p q s =
    let e : ks ++ q ≡ hs ++ p = ap (λ (x : List ℕ). x ++ q) s.appends ∙ append_assoc hs s.front q ∙ ap (λ (x : List ℕ). hs ++ x) (sym s.split) in
    λ m text a. subst (λ (x : List ℕ). Appends (Some x) m text) e a

pub reach_done : (h k : Option (List ℕ)) (p : List ℕ) → Sent h k p [] → Reaches (append_known h p) k
reach_done None k p s = λ m text a. tt
reach_done (Some hs) None p s = absurd s.appends
reach_done (Some hs) (Some ks) p s =
    let e : ks ≡ hs ++ p = s.appends ∙ ap (λ (x : List ℕ). hs ++ x) (sym (s.split ∙ append-nil s.front)) in
    λ m text a. subst (λ (x : List ℕ). Appends (Some x) m text) e a

pub reach_nothing : (h : Option (List ℕ)) → Reaches h (append_known h [])
reach_nothing None = λ m text a. tt
reach_nothing (Some hs) = λ m text a. subst (λ (x : List ℕ). Appends (Some x) m text) (append-nil hs) a

pub sent_reached : (g k m : Option (List ℕ)) (text rest : List ℕ) → Reaches g k → Sent k m text rest → Sent g m text rest
sent_reached g k m text rest r s = record { front = s.front; appends = r m s.front s.appends; split = s.split }
