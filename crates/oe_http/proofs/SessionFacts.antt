-- A session, line by line.
use Rattle.std.proofs.Common.{ap, arith, ◌≡◌, ◌≤◌, ◌-◌, inl, inr, ℕ, List, [], ◌∷◌, ◌++◌, Option, Some, None, refl, sym, ◌∙◌, subst, append_assoc, append-nil}
use Rattle.std.specs.Str.Lines.{lines}
use Rattle.oe_http.specs.Pending.{Pending, unread_bytes, FellBy}
use Rattle.oe_http.specs.Lines.{TakesPart}
use Rattle.oe_http.proofs.SentFacts.{appends_none, appends_on}
use Rattle.oe_http.specs.Machine.{Step, Runs, Starts}
use Rattle.oe_http.specs.Session.{Replied, Answered, AnsweredFront, AnsweredRead, Begun, TookAtLeast, ReadToEnd}
use Rattle.oe_http.specs.Replies.{RepliesOne, EndsRead}

-- runs, one after another
pub runs_on : {St : Type 0} (step : Step St) (a b c : St) (done more : List (List ℕ)) (t u : List ℕ)
    → Runs step a done t b → Runs step b more u c → Runs step a (done ++ more) (t ++ u) c
runs_on step a b c [] more t u r q = rw r.0 (subst (λ s. Runs step s more u c) r.1 q)
runs_on step a b c (l ∷ done) more t u r q =
    (r.0, r.1 ++ u, r.2, r.3, runs_on step r.2 b c done more r.1 u r.4 q, ap (λ x. x ++ u) r.5 ∙ append_assoc r.0 r.1 u)

starts_on : {St : Type 0} (step : Step St) (a b : St) (done more : List (List ℕ)) (t u : List ℕ)
    → Runs step a done t b → Starts step b more u → Starts step a (done ++ more) (t ++ u)
starts_on step a b [] more t u r q = rw r.0 (subst (λ s. Starts step s more u) r.1 q)
starts_on step a b (l ∷ done) more t u r q =
    inr (inr (r.0, r.1 ++ u, r.2, r.3, starts_on step r.2 b done more r.1 u r.4 q, ap (λ x. x ++ u) r.5 ∙ append_assoc r.0 r.1 u))

pub runs_one : {St : Type 0} (step : Step St) (a b : St) (line reply : List ℕ) → step a line reply b → Runs step a (line ∷ []) reply b
runs_one step a b line reply s = (reply, [], b, s, (refl, refl), sym (append-nil reply))

starts_none : {St : Type 0} (step : Step St) (s : St) (ls : List (List ℕ)) → Starts step s ls []
starts_none step s [] = refl
starts_none step s (l ∷ ls) = inl refl

-- the lines so far have their replies, and these lines and those still to come are all
pub record MidRun {St : Type 0} (step : Step St) (start now : St) (xs ys : List ℕ) (before after : Option (List ℕ)) : Type 0 where
  pub done : List (List ℕ)
  pub split : lines xs ≡ done ++ lines ys
  pub replied : Replied step start now done before after

-- the same, where the streams tell
abbrev pub Underway : {St : Type 0} → Step St → St → St → Option (List ℕ) → Option (List ℕ) → Option (List ℕ) → Option (List ℕ) → Type 0
Underway step start now None y h k = Unit {0}
Underway step start now (Some xs) None h k = ⊥
Underway step start now (Some xs) (Some ys) h k = MidRun step start now xs ys h k

pub underway_start : {St : Type 0} (step : Step St) (s : St) (p : Pending) (x h : Option (List ℕ)) → p.bytes ≡ [] → Underway step s s x (unread_bytes p x) h h
underway_start step s p None h e = tt
underway_start step s p (Some xs) h e = rw e (record { done = []; split = refl; replied = record { text = []; appends = appends_none h; runs = (refl, refl) } })

pub underway_on : {St : Type 0} (step : Step St) (a b c : St) (x y z h k m : Option (List ℕ))
    → Underway step a b x y h k → RepliesOne step b c y z k m → Underway step a c x z h m
underway_on step a b c None y z h k m u r = tt
underway_on step a b c (Some xs) None z h k m u r = absurd u
underway_on step a b c (Some xs) (Some ys) None h k m u r = absurd r
underway_on step a b c (Some xs) (Some ys) (Some zs) h k m u r = record {
  done = u.done ++ r.0 ∷ [];
  split = u.split ∙ ap (λ ls. u.done ++ ls) r.2 ∙ sym (append_assoc u.done (r.0 ∷ []) (lines zs));
  replied = record {
    text = u.replied.text ++ r.1;
    appends = appends_on h k m u.replied.text r.1 u.replied.appends r.4;
    runs = runs_on step a b c u.done (r.0 ∷ []) u.replied.text r.1 u.replied.runs (runs_one step b c r.0 r.1 r.3);
  };
}

pub underway_end : {St : Type 0} (step : Step St) (a b : St) (x y z h k : Option (List ℕ))
    → Underway step a b x y h k → EndsRead y z → Answered step a b x h k
underway_end step a b None y z h k u e = tt
underway_end step a b (Some xs) None z h k u e = absurd u
underway_end step a b (Some xs) (Some ys) None h k u e = absurd e
underway_end step a b (Some xs) (Some ys) (Some zs) h k u e =
    let all : lines xs ≡ u.done = u.split ∙ ap (λ t. u.done ++ lines t) e.0 ∙ append-nil u.done in
    rw all u.replied

pub underway_stop : {St : Type 0} (step : Step St) (a b : St) (x y h k : Option (List ℕ)) → Underway step a b x y h k → Begun step a x h k
underway_stop step a b None y h k u = tt
underway_stop step a b (Some xs) None h k u = absurd u
underway_stop step a b (Some xs) (Some ys) h k u =
    let r = u.replied in
    (r.text ++ [], rw (append-nil r.text) r.appends, rw u.split (starts_on step a b u.done (lines ys) r.text [] r.runs (starts_none step b (lines ys))))

pub underway_front : {St : Type 0} (step : Step St) (a b : St) (x y h k : Option (List ℕ)) → Underway step a b x y h k → AnsweredFront step a x h k
underway_front step a b None y h k u = tt
underway_front step a b (Some xs) None h k u = absurd u
underway_front step a b (Some xs) (Some ys) h k u = (u.done, lines ys, b, u.split, u.replied)

pub underway_read : {St : Type 0} (step : Step St) (a b : St) (x y z h k : Option (List ℕ))
    → Underway step a b x y h k → TakesPart y z → AnsweredRead step a b x z h k
underway_read step a b None y z h k u p = tt
underway_read step a b (Some xs) None z h k u p = absurd u
underway_read step a b (Some xs) (Some ys) None h k u p = absurd p.1
underway_read step a b (Some xs) (Some ys) (Some zs) h k u p = (u.done, p.0, u.split ∙ ap (λ t. u.done ++ lines t) p.1, p.2, u.replied)

pub fell_more : (x y z : Option (List ℕ)) (b c : ℕ) → FellBy b x y → b ≤ c → FellBy (c - b) y z → FellBy c x z
fell_more None y z b c p q r = tt
fell_more (Some xs) None z b c p q r = absurd p
fell_more (Some xs) (Some ys) None b c p q r = absurd r
fell_more (Some xs) (Some ys) (Some zs) b c p q r = omega arith

pub fell_none : (x : Option (List ℕ)) → FellBy 0 x x
fell_none None = tt
fell_none (Some xs) = omega arith

pub took_more : (x y : Option (List ℕ)) (n b : ℕ) → FellBy b x y → n ≤ b → TookAtLeast n x y
took_more None y n b p q = tt
took_more (Some xs) None n b p q = absurd p
took_more (Some xs) (Some ys) n b p q = omega arith

nothing_left : (p zs : List ℕ) → p ++ zs ≡ [] → zs ≡ []
nothing_left [] zs e = e
nothing_left (b ∷ p) zs e = absurd (cc)

pub read_to_end : {St : Type 0} (step : Step St) (a b : St) (x y h k z : Option (List ℕ)) (p : Pending)
    → Underway step a b x y h k → EndsRead y (unread_bytes p z) → ReadToEnd x z
read_to_end step a b None y h k z p u e = tt
read_to_end step a b (Some xs) None h k z p u e = absurd u
read_to_end step a b (Some xs) (Some ys) h k None p u e = absurd e
read_to_end step a b (Some xs) (Some ys) h k (Some zs) p u e = ap Some (nothing_left p.bytes zs e.1)
