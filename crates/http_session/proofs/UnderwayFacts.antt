-- A session under way: what is written from here on is the end of what it writes.
use Rattle.std.proofs.Common.{arith, ◌≡◌, inl, inr, ℕ, List, [], ◌++◌, Option, Some, None}
use Rattle.std.specs.Io.KnownBytes.{append_known, prepend_known}
use Rattle.oe_http.specs.Written.{Sent}
use Rattle.http_session.specs.Machine.{Step, exchange_text}
use Rattle.http_session.specs.Endings.{EndsSo, Goes, Stops, WroteFront}
use Rattle.http_session.proofs.WaitingFacts.{reach_moved, reach_nothing, sent_then, front_then}
use Rattle.http_session.proofs.SessionFacts.{any_after, ends_more, ends_reached, stops_write}
use Rattle.oe_http.specs.declared.session.Ended.{Ended}
use Rattle.oe_http.specs.declared.session.Ended.TheVariants as endings

pub record Underway {St : Type 0} (step : Step St) (start now : St) (x y h k : Option (List ℕ)) (w : List ℕ) : Type 0 where
  -- once what waits is written
  pub on : (ended : Ended) (t : St) (m : Option (List ℕ)) → EndsSo step ended now t y (append_known k w) m → EndsSo step ended start t x h m
  -- where it cannot be written whole
  pub cut : (t : St) (m : Option (List ℕ)) → WroteFront k m w → EndsSo step endings.WriteFault start t x h m

start_on : {St : Type 0} (step : Step St) (s : St) (x h : Option (List ℕ)) (ended : Ended) (t : St) (m : Option (List ℕ))
    → EndsSo step ended s t (prepend_known [] x) (append_known h []) m → EndsSo step ended s t x h m
start_on step s None h ended t m r = tt
start_on step s (Some xs) h ended t m r = ends_reached step ended s t (Some xs) h (append_known h []) m (reach_nothing h) r

pub underway_start : {St : Type 0} (step : Step St) (s : St) (p w : List ℕ) (x h : Option (List ℕ)) → p ≡ [] → w ≡ []
    → Underway step s s x (prepend_known p x) h h w
underway_start step s p w x h e f = rw (e, f) (record {
  on = start_on step s x h;
  cut = λ t m c. absurd (omega (arith, c.0));
})

-- what waited was written, or a front of it
pub underway_sent : {St : Type 0} (step : Step St) (start now : St) (x y h k m : Option (List ℕ)) (w v : List ℕ)
    → Underway step start now x y h k w → Sent k m w v → Underway step start now x y h m v
underway_sent step start now x y h k m w v u s = record {
  on = λ ended t n r. u.on ended t n (ends_reached step ended now t y (append_known k w) (append_known m v) n (reach_moved k m w v s) r);
  cut = λ t n c. u.cut t n (front_then k m n w v s c);
}

-- how a session under way stops
pub underway_stops : {St : Type 0} (step : Step St) (ended : Ended) (start now end : St) (x y h k m : Option (List ℕ)) (w : List ℕ)
    → Underway step start now x y h k w → Stops step ended now end y k m w → EndsSo step ended start end x h m
underway_stops step ended start now end x y h k m w u (inl e) = u.on ended end m e
underway_stops step ended start now end x y h k m w u (inr (e, c)) = rw e (u.cut end m c)

goes_cut : {St : Type 0} (step : Step St) (a b : St) (x y h k m : Option (List ℕ)) (w v : List ℕ)
    → Goes step a b x y h k w v → WroteFront k m v → Stops step endings.WriteFault a b x h m w
goes_cut step a b None y h k m w v o c = inl tt
goes_cut step a b (Some xs) None h k m w v o c = absurd o
goes_cut step a b (Some xs) (Some ys) h k m w v (e, f, i, s, t) (some, (rest, c)) =
    stops_write step a b (Some xs) (Some ys) h m w e.asked e.close e.reply rest i s (sent_then h k m (w ++ exchange_text e) v rest t c)

-- one request more
pub underway_goes : {St : Type 0} (step : Step St) (start a b : St) (x y z h k m : Option (List ℕ)) (w v : List ℕ)
    → Underway step start a x y h k w → Goes step a b y z k m w v → Underway step start b x z h m v
underway_goes step start a b x y z h k m w v u g = record {
  on = λ ended t n r. u.on ended t n (ends_more step ended a b t y z k m n w v g r);
  cut = λ t n c. any_after step start b t x h n (underway_stops step endings.WriteFault start a b x y h k n w u (goes_cut step a b y z k m n w v g c));
}
