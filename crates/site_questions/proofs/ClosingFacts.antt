-- A session of ways, and the way that its lines have left.
use Rattle.std.proofs.Common.{◌≡◌, ◌≢◌, ◌⊎◌, inl, inr, subst, ap, ℕ, List, [], ◌∷◌, ◌++◌, Option, Some, None, Result, Ok, Err, false, refl, sym, ◌∙◌, append-nil}
use Rattle.std.specs.Io.KnownBytes.{Appends}
use Rattle.std.specs.Result.{OnOk, is_err}
use Rattle.std.specs.Str.Lines.{lines}
use Rattle.oe_http.proofs.SentFacts.{appends_on, appends_none}
use Rattle.oe_http.specs.Machine.{Runs, Starts}
use Rattle.oe_http.specs.Session.{Answered, AnsweredFront, Begun}
use Rattle.oe_http.specs.declared.session.Ended.{Ended}
use Rattle.oe_http.specs.declared.session.Ended.TheVariants as endings
use Rattle.oe_http.specs.Written.{Sent}
use Rattle.airfields.specs.Sites.{Site}
use Rattle.site_questions.specs.Ways.{Survey, WayStep, way_end}
use Rattle.site_questions.specs.WaySessions.{closing, WaysAnswered, WaysBegun, Closes}

-- all lines were replied to, and the way that they left was told
pub answered_whole : (before end after : Survey) (input x y z : Option (List ℕ)) (last : List ℕ) → Answered WayStep before end input x y
    → Runs WayStep end (closing end.way) last after → Appends y z last → WaysAnswered before input x z
answered_whole before end after None x y z last a c s = tt
answered_whole before end after (Some input) x y z last a c s =
    (a.text ++ last, appends_on x y z a.text last a.appends s, record { replies = a.text; last = last; end = end; after = after; runs = a.runs; closes = c; text_is = refl })

-- a beginning of the replies is one of the texts of the whole session
pub begun_lines : (before : Survey) (input x y : Option (List ℕ)) → Begun WayStep before input x y → WaysBegun before input x y
begun_lines before None x y b = tt
begun_lines before (Some input) x y b = (b.0, b.1, inl b.2)

-- all lines were replied to, and a beginning of the text of the way that they left was written
pub begun_closing : (before end : Survey) (input x y z : Option (List ℕ)) (rest : List ℕ) → Answered WayStep before end input x y
    → Starts WayStep end (closing end.way) rest → Appends y z rest → WaysBegun before input x z
begun_closing before end None x y z rest a c s = tt
begun_closing before end (Some input) x y z rest a c s =
    (a.text ++ rest, appends_on x y z a.text rest a.appends s, inr (record { replies = a.text; rest = rest; end = end; runs = a.runs; starts = c; text_is = refl }))

-- where nothing of that text was written, the lines have their replies
pub front_closing : (before end : Survey) (input x y z : Option (List ℕ)) → Answered WayStep before end input x y → Appends y z [] → AnsweredFront WayStep before input x z
front_closing before end None x y z a s = tt
front_closing before end (Some input) x y z a s =
    (lines input, [], end, sym (append-nil (lines input)), record { text = a.text ++ []; appends = appends_on x y z a.text [] a.appends s; runs = rw append-nil a.runs })

closing_some : (way : List Site) → way ≢ [] → closing way ≡ way_end ∷ []
closing_some [] some = absurd (some refl)
closing_some (site ∷ way) some = refl

-- a way without stations has no text
pub closes_none : (end : Survey) (x : Option (List ℕ)) → end.way ≡ [] → Closes end endings.Closed x x
closes_none end x e =
    let none : closing end.way ≡ [] = ap closing e in
    record {
      closed = λ _. ([], end, subst (λ (l : List (List ℕ)). Runs WayStep end l [] end) (sym none) (refl, refl), appends_none x);
      begun = ([], subst (λ (l : List (List ℕ)). Starts WayStep end l []) (sym none) refl, appends_none x);
      memory = λ f. absurd (cc f);
      ways = inl refl;
    }

-- the text of a way was written
pub closes_whole : (end after : Survey) (reply text : List ℕ) (x y : Option (List ℕ)) → end.way ≢ [] → WayStep end way_end reply after → text ≡ reply → Sent x y text []
    → Closes end endings.Closed x y
closes_whole end after reply text x y some step e sent =
    let one : closing end.way ≡ way_end ∷ [] = closing_some end.way some in
    let front : sent.front ≡ reply = sym (append-nil sent.front) ∙ sym sent.split ∙ e in
    let all : Appends x y reply = subst (λ (t : List ℕ). Appends x y t) front sent.appends in
    record {
      closed = λ _. (reply, after, subst (λ (l : List (List ℕ)). Runs WayStep end l reply after) (sym one) (reply, [], after, step, (refl, refl), sym (append-nil reply)), all);
      begun = (reply, subst (λ (l : List (List ℕ)). Starts WayStep end l reply) (sym one) (inr (inl (reply, [], after, step, sym (append-nil reply)))), all);
      memory = λ f. absurd (cc f);
      ways = inl refl;
    }

-- a beginning of the text of a way was written
pub closes_cut : (end after : Survey) (reply text rest : List ℕ) (x y : Option (List ℕ)) → end.way ≢ [] → WayStep end way_end reply after → text ≡ reply → Sent x y text rest
    → Closes end endings.WriteFault x y
closes_cut end after reply text rest x y some step e sent =
    let one : closing end.way ≡ way_end ∷ [] = closing_some end.way some in
    record {
      closed = λ f. absurd (cc f);
      begun = (
        sent.front,
        subst (λ (l : List (List ℕ)). Starts WayStep end l sent.front) (sym one) (inr (inl (reply, rest, after, step, sym e ∙ sent.split))),
        sent.appends,
      );
      memory = λ f. absurd (cc f);
      ways = inr (inl refl);
    }

-- what a call that answered Ok ensures
pub from_ok : {A E P : Type 0} (r : Result A E) → is_err r ≡ false → OnOk r P → P
from_ok (Ok x) e p = p
from_ok (Err x) e p = absurd (cc e)

-- a way ends without a fault of the input
pub no_fault : (e : Ended) → (e ≡ endings.Closed) ⊎ (e ≡ endings.WriteFault) ⊎ (e ≡ endings.NoMemory) → (e ≡ endings.ReadFault) ⊎ (e ≡ endings.Long) → ⊥
no_fault e (inl a) (inl b) = absurd (cc (a, b))
no_fault e (inl a) (inr b) = absurd (cc (a, b))
no_fault e (inr (inl a)) (inl b) = absurd (cc (a, b))
no_fault e (inr (inl a)) (inr b) = absurd (cc (a, b))
no_fault e (inr (inr a)) (inl b) = absurd (cc (a, b))
no_fault e (inr (inr a)) (inr b) = absurd (cc (a, b))
