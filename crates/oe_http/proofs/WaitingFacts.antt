-- Replies that wait to be written: what was written and what waits, taken as one text.
use Rattle.std.proofs.Common.{ap, ◌≡◌, ◌<◌, ◌⊎◌, inl, inr, ℕ, List, [], ◌∷◌, ◌++◌, take, drop, get_or, length, Option, Some, None, refl, sym, ◌∙◌, subst, append_assoc, append-nil}
use Rattle.std.proofs.lemmas.List.{append_cancel_left}
use Rattle.std.proofs.Math.Seq.{take-append_seam}
use Rattle.std.specs.Str.Lines.{lines}
use Rattle.grid_exact.specs.Texts.{Extends}
use Rattle.std.specs.Io.KnownBytes.{Appends, append_known}
use Rattle.grid_exact.specs.declared.text.TheConstants.{LINE_LIMIT}
use Rattle.oe_http.specs.Written.{Sent}
use Rattle.oe_http.specs.Lines.{GivesLine}
use Rattle.oe_http.specs.declared.lines.Next.TheVariants as next
use Rattle.oe_http.proofs.SentFacts.{appends_none, appends_on}
use Rattle.oe_http.specs.Machine.{Step, Runs, Starts}
use Rattle.oe_http.specs.Session.{Begun, CarriedOut, CarriesOut}
use Rattle.oe_http.specs.Replies.{GoesOn, RepliesNext}
use Rattle.oe_http.proofs.SessionFacts.{Underway, runs_on, runs_one, underway_start, underway_stop, fell_none, fell_more, took_more}

front_nil : (a b : List ℕ) → a ++ b ≡ [] → a ≡ []
front_nil [] b e = refl
front_nil (x ∷ a) b e = absurd (cc)

-- of two fronts of a text one is a front of the other
fronts : (a b r s : List ℕ) → a ++ b ≡ r ++ s → ((c : List ℕ) × (r ≡ a ++ c)) ⊎ ((c : List ℕ) × (a ≡ r ++ c) × (s ≡ c ++ b))
fronts [] b r s e = inl (r, refl)
fronts (x ∷ a) b [] s e = inr (x ∷ a, refl, sym e)
fronts (x ∷ a) b (y ∷ r) s e =
    let head : x ≡ y = ap (λ l. get_or l 0 0) e in
    elim (fronts a b r s (ap (drop 1) e)) as (λ _. ((c : List ℕ) × (y ∷ r ≡ (x ∷ a) ++ c)) ⊎ ((c : List ℕ) × (x ∷ a ≡ (y ∷ r) ++ c) × (s ≡ c ++ b))) [
      | inl p ↦ inl (p.0, rw (head, p.1) refl)
      | inr p ↦ inr (p.0, rw (head, p.1) refl, p.2)
    ]

-- a front of a beginning is a beginning
starts_front : {St : Type 0} (step : Step St) (s : St) (ls : List (List ℕ)) (a b : List ℕ) → Starts step s ls (a ++ b) → Starts step s ls a
starts_front step s [] a b h = front_nil a b h
starts_front step s (l ∷ ls) a b (inl h) = inl (front_nil a b h)
starts_front step s (l ∷ ls) a b (inr (inl h)) = inr (inl (h.0, b ++ h.1, h.2, h.3, h.4 ∙ append_assoc a b h.1))
starts_front step s (l ∷ ls) a b (inr (inr h)) =
    elim (fronts a b h.0 h.1 h.5) as (λ _. Starts step s (l ∷ ls) a) [
      | inl p ↦ inr (inl (h.0, p.0, h.2, h.3, p.1))
      | inr p ↦ inr (inr (h.0, p.0, h.2, h.3, starts_front step h.2 ls p.0 b (subst (Starts step h.2 ls) p.2 h.4), p.1))
    ]

-- what was written is a beginning, if that with what waits is
begun_front : {St : Type 0} (step : Step St) (s : St) (x h k : Option (List ℕ)) (sent rest : List ℕ) → Appends h k sent → Begun step s x h (append_known k rest) → Begun step s x h k
begun_front step s None h k sent rest a b = tt
begun_front step s (Some xs) None k sent rest a b = ([], tt, starts_front step s (lines xs) [] b.0 b.2)
begun_front step s (Some xs) (Some hs) None sent rest a b = absurd a
begun_front step s (Some xs) (Some hs) (Some ks) sent rest a b =
    let e : b.0 ≡ sent ++ rest = append_cancel_left hs b.0 (sent ++ rest) (sym b.1 ∙ ap (λ t. t ++ rest) a ∙ append_assoc hs sent rest) in
    (sent, a, starts_front step s (lines xs) sent rest (subst (Starts step s (lines xs)) e b.2))

-- what waited was written, or a front of it
waits_less : (k m : Option (List ℕ)) (text rest : List ℕ) → Sent k m text rest → (P : Option (List ℕ) → Type 0) → P (append_known k text) → ((ks : List ℕ) → P None → P (Some ks)) → P (append_known m rest)
waits_less None None text rest s P p none = p
waits_less None (Some ms) text rest s P p none = none _ p
waits_less (Some ks) None text rest s P p none = absurd s.appends
waits_less (Some ks) (Some ms) text rest s P p none = subst (λ t. P (Some t)) (ap (λ t. ks ++ t) s.split ∙ sym (append_assoc ks s.front rest) ∙ ap (λ t. t ++ rest) (sym s.appends)) p

-- what is whole of some texts and a part of one more
whole_of : (old new : List ℕ) (whole : ℕ) → Extends old new → whole ≡ length old → take whole new ≡ old
whole_of old new whole h e = rw (e, h.grown) (take-append_seam old h.part)

-- it was written, or a front of it
pub sent_whole : (k m : Option (List ℕ)) (old new bytes rest : List ℕ) (whole : ℕ) → Extends old new → bytes ≡ new → whole ≡ length old
    → Sent k m (take whole bytes) rest → Sent k m old rest
sent_whole k m old new bytes rest whole h e f s = rw (← whole_of old new whole h f, ← e) s

-- something was written since the start
abbrev pub Grown : Option (List ℕ) → Option (List ℕ) → Type 0
Grown h k = (sent : List ℕ) × Appends h k sent

pub grown_start : (h : Option (List ℕ)) → Grown h h
grown_start h = ([], appends_none h)

pub grown_moved : (h k m : Option (List ℕ)) (p q : List ℕ) → Grown h k → Sent k m p q → Grown h m
grown_moved h k m p q g s = (g.0 ++ s.front, appends_on h k m g.0 s.front g.1 s.appends)

underway_known : {St : Type 0} (step : Step St) (a b : St) (x y h : Option (List ℕ)) (ks : List ℕ) → Underway step a b x y h None → Underway step a b x y h (Some ks)
underway_known step a b None y h ks u = tt
underway_known step a b (Some xs) None h ks u = absurd u
underway_known step a b (Some xs) (Some ys) None ks u = record { done = u.done; split = u.split; replied = record { text = u.replied.text; appends = tt; runs = u.replied.runs } }
underway_known step a b (Some xs) (Some ys) (Some hs) ks u = absurd u.replied.appends

pub underway_moved : {St : Type 0} (step : Step St) (a b : St) (x y h k m : Option (List ℕ)) (p q : List ℕ)
    → Underway step a b x y h (append_known k p) → Sent k m p q → Underway step a b x y h (append_known m q)
underway_moved step a b x y h k m p q u s = waits_less k m p q s (Underway step a b x y h) u (underway_known step a b x y h)

pub begun_now : {St : Type 0} (step : Step St) (a b : St) (x y h k : Option (List ℕ)) (p : List ℕ)
    → Underway step a b x y h (append_known k p) → Grown h k → Begun step a x h k
begun_now step a b x y h k p u g = begun_front step a x h k g.0 p g.1 (underway_stop step a b x y h (append_known k p) u)

pub begun_moved : {St : Type 0} (step : Step St) (a b : St) (x y h k m : Option (List ℕ)) (p rest : List ℕ)
    → Underway step a b x y h (append_known k p) → Grown h k → Sent k m p rest → Begun step a x h m
begun_moved step a b x y h k m p rest u g s = begun_now step a b x y h m rest (underway_moved step a b x y h k m p rest u s) (grown_moved h k m p rest g s)

-- these lines took the state on, and a beginning of their replies was written
record CarriedTo {St : Type 0} (step : Step St) (a b : St) (xs : List ℕ) (left : List (List ℕ)) (h k : Option (List ℕ)) : Type 0 where
  done : List (List ℕ)
  first : lines xs ≡ done ++ left
  written : List ℕ
  rest : List ℕ
  runs : Runs step a done (written ++ rest) b
  appends : Appends h k written

carried_to : {St : Type 0} (step : Step St) (a b : St) (xs ys : List ℕ) (h k : Option (List ℕ)) (p : List ℕ)
    → Underway step a b (Some xs) (Some ys) h (append_known k p) → Grown h k → CarriedTo step a b xs (lines ys) h k
carried_to step a b xs ys None k p u g = record {
  done = u.done;
  first = u.split;
  written = [];
  rest = u.replied.text;
  runs = u.replied.runs;
  appends = tt;
}
carried_to step a b xs ys (Some hs) None p u g = absurd g.1
carried_to step a b xs ys (Some hs) (Some ks) p u g =
    let e : u.replied.text ≡ g.0 ++ p = append_cancel_left hs u.replied.text (g.0 ++ p) (sym u.replied.appends ∙ ap (λ t. t ++ p) g.1 ∙ append_assoc hs g.0 p) in
    record {
      done = u.done;
      first = u.split;
      written = g.0;
      rest = p;
      runs = subst (λ t. Runs step a u.done t b) e u.replied.runs;
      appends = g.1;
    }

carried_on : {St : Type 0} (step : Step St) (a b c : St) (xs ys : List ℕ) (h k : Option (List ℕ))
    → CarriedTo step a b xs (lines ys) h k → GoesOn step b c (Some ys) → CarriedOut step a c xs h k
carried_on step a b c xs ys h k t (inl e) = record {
  done = t.done;
  more = lines ys;
  first = t.first;
  written = t.written;
  rest = t.rest;
  runs = rw e t.runs;
  appends = t.appends;
}
carried_on step a b c xs ys h k t (inr g) = record {
  done = t.done ++ g.0 ∷ [];
  more = g.2;
  first = t.first ∙ ap (λ ls. t.done ++ ls) g.3 ∙ sym (append_assoc t.done (g.0 ∷ []) g.2);
  written = t.written;
  rest = t.rest ++ g.1;
  runs = subst (λ text. Runs step a (t.done ++ g.0 ∷ []) text c) (append_assoc t.written t.rest g.1)
      (runs_on step a b c t.done (g.0 ∷ []) (t.written ++ t.rest) g.1 t.runs (runs_one step b c g.0 g.1 g.4));
  appends = t.appends;
}

pub goes_on : {St : Type 0} (step : Step St) (b c : St) (y : Option (List ℕ)) → c ≡ b → GoesOn step b c y
goes_on step b c None e = tt
goes_on step b c (Some ys) e = inl e

carried_more : {St : Type 0} (step : Step St) (a b c : St) (x y h k : Option (List ℕ)) (p : List ℕ)
    → Underway step a b x y h (append_known k p) → Grown h k → GoesOn step b c y → CarriesOut step a c x h k
carried_more step a b c None y h k p u g m = tt
carried_more step a b c (Some xs) None h k p u g m = absurd u
carried_more step a b c (Some xs) (Some ys) h k p u g m = carried_on step a b c xs ys h k (carried_to step a b xs ys h k p u g) m

-- however a session ends
pub carried_moved : {St : Type 0} (step : Step St) (a b c : St) (x y h k m : Option (List ℕ)) (p rest : List ℕ)
    → Underway step a b x y h (append_known k p) → Grown h k → Sent k m p rest → GoesOn step b c y → CarriesOut step a c x h m
carried_moved step a b c x y h k m p rest u g s w =
    carried_more step a b c x y h m rest (underway_moved step a b x y h k m p rest u s) (grown_moved h k m p rest g s) w

-- where nothing waits, that is what was written
underway_empty : {St : Type 0} (step : Step St) (a b : St) (x y h k : Option (List ℕ)) → Underway step a b x y h (append_known k []) → Underway step a b x y h k
underway_empty step a b x y h None u = u
underway_empty step a b x y h (Some ks) u = subst (λ t. Underway step a b x y h (Some t)) (append-nil ks) u

-- what waited was written
pub underway_sent : {St : Type 0} (step : Step St) (a b : St) (x y h k m : Option (List ℕ)) (p : List ℕ)
    → Underway step a b x y h (append_known k p) → Sent k m p [] → Underway step a b x y h m
underway_sent step a b x y h k m p u s = underway_empty step a b x y h m (underway_moved step a b x y h k m p [] u s)

-- a reply waits after the others
waits_more : (k : Option (List ℕ)) (old new reply : List ℕ) → new ≡ old ++ reply → Appends (append_known k old) (append_known k new) reply
waits_more None old new reply e = tt
waits_more (Some ks) old new reply e = rw e (sym (append_assoc ks old reply))

pub replies_whole : {St : Type 0} (step : Step St) (a b : St) (x y : Option (List ℕ)) (line old new text : List ℕ)
    → GivesLine x y next.Whole line → step a line text b → new ≡ old ++ text → RepliesNext step a b x y old new
replies_whole step a b None y line old new text g s e k = tt
replies_whole step a b (Some xs) None line old new text g s e k = absurd g
replies_whole step a b (Some xs) (Some ys) line old new text g s e k = (line, text, g.0, s, waits_more k old new text e)

pub replies_long : {St : Type 0} (step : Step St) (a b : St) (x y : Option (List ℕ)) (line old new text : List ℕ)
    → GivesLine x y next.TooLong line → ((long : List ℕ) → LINE_LIMIT < length long → step a long text b) → new ≡ old ++ text
    → RepliesNext step a b x y old new
replies_long step a b None y line old new text g s e k = tt
replies_long step a b (Some xs) None line old new text g s e k = absurd g
replies_long step a b (Some xs) (Some ys) line old new text g s e k = (g.0, text, g.1, s g.0 g.2, waits_more k old new text e)

-- a line that is too long was read, and its reply is not there whole
pub goes_long : {St : Type 0} (step : Step St) (a b : St) (x y : Option (List ℕ)) (line text : List ℕ)
    → GivesLine x y next.TooLong line → ((long : List ℕ) → LINE_LIMIT < length long → step a long text b) → GoesOn step a b x
goes_long step a b None y line text g s = tt
goes_long step a b (Some xs) None line text g s = absurd g
goes_long step a b (Some xs) (Some ys) line text g s = inr (g.0, text, lines ys, g.1, s g.0 g.2)

-- what a session's clauses follow from
pub ruleset session_facts = (underway_start, fell_none, took_more, fell_more, begun_now, begun_moved)
