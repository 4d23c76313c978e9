-- A session, request by request.
use Rattle.std.proofs.Common.{codes, ap, ◌≡◌, ◌<◌, ◌⊎◌, inl, inr, arith, ℕ, Bool, true, false, List, [], ◌∷◌, ◌++◌, length, Option, Some, None, refl, sym, ◌∙◌, subst, append_assoc, append-nil}
use Rattle.std.proofs.lemmas.List.Elements.{All-nil, All-cons}
use Rattle.std.specs.Fmt.{digits}
use Rattle.std.specs.Io.KnownBytes.{Appends, append_known}
use Rattle.oe_http.specs.Written.{Sent}
use Rattle.oe_http.proofs.SentFacts.{appends_none, appends_on, sent_start}
use Rattle.http_messages.specs.Messages.{GivesMessage, Turns}
use Rattle.http_messages.specs.declared.request.Incoming.{Incoming}
use Rattle.http_messages.specs.declared.request.Incoming.TheVariants as incoming
use Rattle.http_messages.specs.declared.status.TheConstants.{NO_MEMORY}
use Rattle.http_session.specs.Machine.{Asked, Asks, Reply, Step, Exchange, texts, exchange_text, reply_text, refusal_text, StaysOpen, ClosesAtLast}
use Rattle.http_session.specs.Endings.{Served, Ends, EndsSo, Finishes, GivesUp, Goes, IsRequest, RefusesSo, Stops}
use Rattle.http_session.proofs.WaitingFacts.{Reaches, reach_moved, reach_done, waits_more, appends_behind, sent_then, sent_more, sent_last, sent_reached, front_then, fronts}
use Rattle.oe_http.specs.declared.session.Ended.{Ended}
use Rattle.oe_http.specs.declared.session.Ended.TheVariants as endings

-- ---- an exchange before the others

pub opens_none : StaysOpen []
opens_none = All-nil (λ (x : Exchange). x.close ≡ false)

pub opens_more : (e : Exchange) (es : List Exchange) → e.close ≡ false → StaysOpen es → StaysOpen (e ∷ es)
opens_more e es c o = All-cons (λ (x : Exchange). x.close ≡ false) e es c o

closes_more : (e : Exchange) (es : List Exchange) → e.close ≡ false → ClosesAtLast es → ClosesAtLast (e ∷ es)
closes_more e es c x = record {
  front = e ∷ x.front;
  last = x.last;
  parts = ap (λ (t : List Exchange). e ∷ t) x.parts;
  opens = opens_more e x.front c x.opens;
  closes = x.closes;
}

served_none : {St : Type 0} (step : Step St) (s : St) (xs : List ℕ) → Served step s xs [] s xs
served_none step s xs = record { ran = (refl, refl); opens = opens_none }

served_more : {St : Type 0} (step : Step St) (a b c : St) (xs ys zs : List ℕ) (e : Exchange) (es : List Exchange)
    → e.close ≡ false → Asks xs e.asked e.close ys → step a e.asked e.reply b → Served step b ys es c zs → Served step a xs (e ∷ es) c zs
served_more step a b c xs ys zs e es f m s r = record { ran = (b, ys, m, s, r.ran); opens = opens_more e es f r.opens }

appends_part : (h k m : Option (List ℕ)) (text rest part : List ℕ) → Appends h k text → Appends k m (rest ++ part) → Appends h m ((text ++ rest) ++ part)
appends_part h k m text rest part w a = subst (λ (t : List ℕ). Appends h m t) (sym (append_assoc text rest part)) (appends_on h k m text (rest ++ part) w a)

known_more : {St : Type 0} (step : Step St) (ended : Ended) (a b c : St) (xs ys : List ℕ) (h k m : Option (List ℕ)) (e : Exchange)
    → e.close ≡ false → Asks xs e.asked e.close ys → step a e.asked e.reply b → Appends h k (exchange_text e)
    → Ends step ended b c ys (λ t. Appends k m t) → Ends step ended a c xs (λ t. Appends h m t)
known_more step endings.Closed a b c xs ys h k m e f i s w (es, zs, ran, inl (opens, none), wrote) =
    (e ∷ es, zs, (b, ys, i, s, ran), inl (opens_more e es f opens, none), appends_on h k m (exchange_text e) (texts es) w wrote)
known_more step endings.Closed a b c xs ys h k m e f i s w (es, zs, ran, inr closes, wrote) =
    (e ∷ es, zs, (b, ys, i, s, ran), inr (closes_more e es f closes), appends_on h k m (exchange_text e) (texts es) w wrote)
known_more step endings.Truncated a b c xs ys h k m e f i s w (es, zs, served, cut, wrote) =
    (e ∷ es, zs, served_more step a b c xs ys zs e es f i s served, cut, appends_on h k m (exchange_text e) (texts es) w wrote)
known_more step (endings.Refused n) a b c xs ys h k m e f i s w (es, zs, served, refused, wrote) =
    (e ∷ es, zs, served_more step a b c xs ys zs e es f i s served, refused, appends_part h k m (exchange_text e) (texts es) (refusal_text n) w wrote)
known_more step endings.ReadFault a b c xs ys h k m e f i s w (es, zs, served, wrote) =
    (e ∷ es, zs, served_more step a b c xs ys zs e es f i s served, appends_on h k m (exchange_text e) (texts es) w wrote)
known_more step endings.Long a b c xs ys h k m e f i s w (es, zs, served, wrote) =
    (e ∷ es, zs, served_more step a b c xs ys zs e es f i s served, appends_on h k m (exchange_text e) (texts es) w wrote)
known_more step endings.WriteFault a b c xs ys h k m e f i s w (es, zs, part, now, served, begins, wrote) =
    (e ∷ es, zs, part, now, served_more step a b now xs ys zs e es f i s served, begins, appends_part h k m (exchange_text e) (texts es) part w wrote)
known_more step endings.NoMemory a b c xs ys h k m e f i s w (es, zs, part, now, served, begins, wrote) =
    (e ∷ es, zs, part, now, served_more step a b now xs ys zs e es f i s served, begins, appends_part h k m (exchange_text e) (texts es) part w wrote)

-- what is appended to what was written before is appended to that
ends_map : {St : Type 0} (step : Step St) (ended : Ended) (a b : St) (xs : List ℕ) (V W : List ℕ → Type 0) → ((t : List ℕ) → V t → W t)
    → Ends step ended a b xs V → Ends step ended a b xs W
ends_map step endings.Closed a b xs V W f (es, zs, ran, closed, wrote) = (es, zs, ran, closed, f (texts es) wrote)
ends_map step endings.Truncated a b xs V W f (es, zs, served, cut, wrote) = (es, zs, served, cut, f (texts es) wrote)
ends_map step (endings.Refused n) a b xs V W f (es, zs, served, refused, wrote) = (es, zs, served, refused, f (texts es ++ refusal_text n) wrote)
ends_map step endings.ReadFault a b xs V W f (es, zs, served, wrote) = (es, zs, served, f (texts es) wrote)
ends_map step endings.Long a b xs V W f (es, zs, served, wrote) = (es, zs, served, f (texts es) wrote)
ends_map step endings.WriteFault a b xs V W f (es, zs, part, now, served, begins, wrote) = (es, zs, part, now, served, begins, f (texts es ++ part) wrote)
ends_map step endings.NoMemory a b xs V W f (es, zs, part, now, served, begins, wrote) = (es, zs, part, now, served, begins, f (texts es ++ part) wrote)

pub ends_reached : {St : Type 0} (step : Step St) (ended : Ended) (a b : St) (x g k m : Option (List ℕ)) → Reaches g k
    → EndsSo step ended a b x k m → EndsSo step ended a b x g m
ends_reached step ended a b None g k m r e = tt
ends_reached step ended a b (Some xs) g k m r e = ends_map step ended a b xs (λ (t : List ℕ). Appends k m t) (λ (t : List ℕ). Appends g m t) (r m) e

-- what is written from the next message on, with its response before it
pub ends_more : {St : Type 0} (step : Step St) (ended : Ended) (a b c : St) (x y h k m : Option (List ℕ)) (w v : List ℕ)
    → Goes step a b x y h k w v → EndsSo step ended b c y (append_known k v) m → EndsSo step ended a c x (append_known h w) m
ends_more step ended a b c None y h k m w v o r = tt
ends_more step ended a b c (Some xs) None h k m w v o r = absurd o
ends_more step ended a b c (Some xs) (Some ys) h k m w v o r =
    let text = exchange_text o.0 in
    known_more step ended a b c xs ys (append_known h w) (append_known h (w ++ text)) m o.0 o.1 o.2 o.3 (waits_more h w text)
    (ends_reached step ended b c (Some ys) (append_known h (w ++ text)) (append_known k v) m (reach_moved h k (w ++ text) v o.4) r)

-- at a fault of writing the later state is free
pub any_after : {St : Type 0} (step : Step St) (a b c : St) (x h m : Option (List ℕ)) → EndsSo step endings.WriteFault a b x h m → EndsSo step endings.WriteFault a c x h m
any_after step a b c None h m e = tt
any_after step a b c (Some xs) h m e = e

-- ---- one message

pub turns_down : (before after : ℕ) (i : Incoming) → Turns before after i → IsRequest i → after < before
turns_down before after (incoming.Request method target body close) t r = t
turns_down before after incoming.Closed t r = absurd r
turns_down before after incoming.Truncated t r = absurd r
turns_down before after (incoming.Refused status) t r = absurd r
turns_down before after incoming.ReadFault t r = absurd r
turns_down before after incoming.Long t r = absurd r
turns_down before after incoming.NoMemory t r = absurd r

pub goes_on : {St : Type 0} (step : Step St) (a b : St) (x y h k : Option (List ℕ)) (w v : List ℕ) (asked : Asked) (close : Bool) (reply : Reply)
    → close ≡ false → GivesMessage x y (incoming.Request asked.method asked.target asked.body close) → step a asked reply b
    → Sent h k (w ++ reply_text reply close) v → Goes step a b x y h k w v
goes_on step a b None y h k w v asked close reply f o s t = tt
goes_on step a b (Some xs) None h k w v asked close reply f o s t = absurd o
goes_on step a b (Some xs) (Some ys) h k w v asked close reply f o s t = (record { asked = asked; close = close; reply = reply }, f, o, s, t)

sent_only : (h k : Option (List ℕ)) (text : List ℕ) → Sent h k text [] → Appends h k text
sent_only h k text s = subst (λ (t : List ℕ). Appends h k t) (sym (s.split ∙ append-nil s.front)) s.appends

ends_close : {St : Type 0} (step : Step St) (a b : St) (x y h k : Option (List ℕ)) (asked : Asked) (close : Bool) (reply : Reply)
    → close ≡ true → GivesMessage x y (incoming.Request asked.method asked.target asked.body close) → step a asked reply b → Sent h k (reply_text reply close) []
    → EndsSo step endings.Closed a b x h k
ends_close step a b None y h k asked close reply f o s t = tt
ends_close step a b (Some xs) None h k asked close reply f o s t = absurd o
ends_close step a b (Some xs) (Some ys) h k asked close reply f o s t =
    let e : Exchange = record { asked = asked; close = close; reply = reply } in (
      e ∷ [],
      ys,
      (b, ys, o, s, (refl, refl)),
      inr (record { front = []; last = e; parts = refl; opens = opens_none; closes = f }),
      subst (λ (w : List ℕ). Appends h k w) (sym (append-nil (exchange_text e))) (sent_only h k (exchange_text e) t),
    )

ends_write : {St : Type 0} (step : Step St) (a b : St) (x y h k : Option (List ℕ)) (asked : Asked) (close : Bool) (reply : Reply) (rest : List ℕ)
    → GivesMessage x y (incoming.Request asked.method asked.target asked.body close) → step a asked reply b → Sent h k (reply_text reply close) rest
    → EndsSo step endings.WriteFault a b x h k
ends_write step a b None y h k asked close reply rest o s t = tt
ends_write step a b (Some xs) None h k asked close reply rest o s t = absurd o
ends_write step a b (Some xs) (Some ys) h k asked close reply rest o s t =
    ([], xs, t.front, a, served_none step a xs, inl (record { asked = asked; close = close; reply = reply }, b, ys, o, s, (rest, t.split)), t.appends)

ends_closed : {St : Type 0} (step : Step St) (a : St) (x y h : Option (List ℕ)) → GivesMessage x y incoming.Closed → EndsSo step endings.Closed a a x h h
ends_closed step a None y h o = tt
ends_closed step a (Some xs) None h o = absurd o
ends_closed step a (Some xs) (Some ys) h o = ([], xs, (refl, refl), inl (opens_none, o.0), appends_none h)

ends_truncated : {St : Type 0} (step : Step St) (a : St) (x y h : Option (List ℕ)) → GivesMessage x y incoming.Truncated → EndsSo step endings.Truncated a a x h h
ends_truncated step a None y h o = tt
ends_truncated step a (Some xs) None h o = absurd o
ends_truncated step a (Some xs) (Some ys) h o = ([], xs, served_none step a xs, o, appends_none h)

refused_whole : {St : Type 0} (step : Step St) (a : St) (x y h k : Option (List ℕ)) (status : ℕ)
    → GivesMessage x y (incoming.Refused status) → Sent h k (refusal_text status) [] → EndsSo step (endings.Refused status) a a x h k
refused_whole step a None y h k status o s = tt
refused_whole step a (Some xs) None h k status o s = absurd o
refused_whole step a (Some xs) (Some ys) h k status o s = ([], xs, served_none step a xs, o, sent_only h k (refusal_text status) s)

refused_write : {St : Type 0} (step : Step St) (a : St) (x y h k : Option (List ℕ)) (status : ℕ) (rest : List ℕ)
    → GivesMessage x y (incoming.Refused status) → Sent h k (refusal_text status) rest → EndsSo step endings.WriteFault a a x h k
refused_write step a None y h k status rest o s = tt
refused_write step a (Some xs) None h k status rest o s = absurd o
refused_write step a (Some xs) (Some ys) h k status rest o s = ([], xs, s.front, a, served_none step a xs, inr (status, o, (rest, s.split)), s.appends)

ends_read : {St : Type 0} (step : Step St) (a : St) (x h : Option (List ℕ)) → EndsSo step endings.ReadFault a a x h h
ends_read step a None h = tt
ends_read step a (Some xs) h = ([], xs, served_none step a xs, appends_none h)

ends_long : {St : Type 0} (step : Step St) (a : St) (x h : Option (List ℕ)) → EndsSo step endings.Long a a x h h
ends_long step a None h = tt
ends_long step a (Some xs) h = ([], xs, served_none step a xs, appends_none h)

ends_memory : {St : Type 0} (step : Step St) (a b : St) (x h k : Option (List ℕ)) (rest : List ℕ)
    → Sent h k (refusal_text NO_MEMORY) rest → EndsSo step endings.NoMemory a b x h k
ends_memory step a b None h k rest t = tt
ends_memory step a b (Some xs) h k rest t = ([], xs, t.front, a, served_none step a xs, (rest, t.split), t.appends)

-- ---- how a session stops

-- a front of what waits and of one response more: a front of what waits, or all of it and a front of the response
cut_at : {St : Type 0} (step : Step St) (a b : St) (x h m : Option (List ℕ)) (w text rest front : List ℕ) → 0 < length w
    → ((p q : Option (List ℕ)) (r : List ℕ) → Sent p q text r → EndsSo step endings.WriteFault a b x p q) → Appends h m front
    → ((c : List ℕ) × (w ≡ front ++ c)) ⊎ ((c : List ℕ) × (front ≡ w ++ c) × (text ≡ c ++ rest)) → Stops step endings.WriteFault a b x h m w
cut_at step a b x h m w text rest front some f s (inl (c, e)) = inr (refl, (some, (c, record { front = front; appends = s; split = e })))
cut_at step a b x h m w text rest front some f s (inr (c, e, g)) =
    inl (f (append_known h w) m rest (record { front = c; appends = appends_behind h m w c (subst (λ (t : List ℕ). Appends h m t) e s); split = g }))

stops_cut : {St : Type 0} (step : Step St) (a b : St) (x h m : Option (List ℕ)) (w text rest : List ℕ)
    → ((p q : Option (List ℕ)) (r : List ℕ) → Sent p q text r → EndsSo step endings.WriteFault a b x p q)
    → Sent h m (w ++ text) rest → Stops step endings.WriteFault a b x h m w
stops_cut step a b x h m [] text rest f s =
    inl (f (append_known h []) m rest (record { front = s.front; appends = appends_behind h m [] s.front s.appends; split = s.split }))
stops_cut step a b x h m (c ∷ w) text rest f s =
    cut_at step a b x h m (c ∷ w) text rest s.front (omega arith) f s.appends (fronts s.front rest (c ∷ w) text (sym s.split))

pub stops_write : {St : Type 0} (step : Step St) (a b : St) (x y h k : Option (List ℕ)) (w : List ℕ) (asked : Asked) (close : Bool) (reply : Reply) (rest : List ℕ)
    → GivesMessage x y (incoming.Request asked.method asked.target asked.body close) → step a asked reply b → Sent h k (w ++ reply_text reply close) rest
    → Stops step endings.WriteFault a b x h k w
stops_write step a b x y h k w asked close reply rest o s t =
    stops_cut step a b x h k w (reply_text reply close) rest (λ p q r u. ends_write step a b x y p q asked close reply r o s u) t

pub stops_close : {St : Type 0} (step : Step St) (ended : Ended) (a b : St) (x y h k m : Option (List ℕ)) (w v : List ℕ) (asked : Asked) (close : Bool) (reply : Reply)
    → close ≡ true → GivesMessage x y (incoming.Request asked.method asked.target asked.body close) → step a asked reply b
    → Sent h k (w ++ reply_text reply close) v → Finishes endings.Closed ended k m v → Stops step ended a b x h m w
stops_close step ended a b x y h k m w v asked close reply f o s t (inl (e, u)) =
    let text = reply_text reply close in
    rw e (inl (ends_close step a b x y (append_known h w) m asked close reply f o s (sent_last h m w text (sent_then h k m (w ++ text) v [] t u))))
stops_close step ended a b x y h k m w v asked close reply f o s t (inr (e, (some, (rest, u)))) =
    rw e (stops_write step a b x y h m w asked close reply rest o s (sent_then h k m (w ++ reply_text reply close) v rest t u))

pub stops_memory : {St : Type 0} (step : Step St) (ended : Ended) (a b : St) (x h k m : Option (List ℕ)) (w v : List ℕ)
    → Sent h k w v → GivesUp ended k m v → Stops step ended a b x h m w
stops_memory step endings.NoMemory a b x h k m w v s (rest, t) =
    inl (ends_reached step endings.NoMemory a b x (append_known h w) (append_known k v) m (reach_moved h k w v s) (ends_memory step a b x (append_known k v) m rest t))
stops_memory step endings.WriteFault a b x h k m w v s t = inr (refl, front_then h k m w v s t)
stops_memory step endings.Closed a b x h k m w v s t = absurd t
stops_memory step endings.Truncated a b x h k m w v s t = absurd t
stops_memory step (endings.Refused n) a b x h k m w v s t = absurd t
stops_memory step endings.ReadFault a b x h k m w v s t = absurd t
stops_memory step endings.Long a b x h k m w v s t = absurd t

pub stops_wanting : {St : Type 0} (step : Step St) (ended : Ended) (a b : St) (x h k : Option (List ℕ)) (w : List ℕ)
    → GivesUp ended h k w → Stops step ended a b x h k w
stops_wanting step ended a b x h k w t = stops_memory step ended a b x h h k w w (sent_start h w) t

stops_finished : {St : Type 0} (step : Step St) (wanted ended : Ended) (a : St) (x h k : Option (List ℕ)) (w : List ℕ)
    → ((p : Option (List ℕ)) → EndsSo step wanted a a x p p) → Finishes wanted ended h k w → Stops step ended a a x h k w
stops_finished step wanted ended a x h k w f (inl (e, s)) = rw e (inl (ends_reached step wanted a a x (append_known h w) k k (reach_done h k w s) (f k)))
stops_finished step wanted ended a x h k w f (inr (e, s)) = rw e (inr (refl, s))

pub stops_closed : {St : Type 0} (step : Step St) (ended : Ended) (a : St) (x y h k : Option (List ℕ)) (w : List ℕ)
    → GivesMessage x y incoming.Closed → Finishes endings.Closed ended h k w → Stops step ended a a x h k w
stops_closed step ended a x y h k w o t = stops_finished step endings.Closed ended a x h k w (λ p. ends_closed step a x y p o) t

pub stops_truncated : {St : Type 0} (step : Step St) (ended : Ended) (a : St) (x y h k : Option (List ℕ)) (w : List ℕ)
    → GivesMessage x y incoming.Truncated → Finishes endings.Truncated ended h k w → Stops step ended a a x h k w
stops_truncated step ended a x y h k w o t = stops_finished step endings.Truncated ended a x h k w (λ p. ends_truncated step a x y p o) t

pub stops_read : {St : Type 0} (step : Step St) (ended : Ended) (a : St) (x h k : Option (List ℕ)) (w : List ℕ)
    → Finishes endings.ReadFault ended h k w → Stops step ended a a x h k w
stops_read step ended a x h k w t = stops_finished step endings.ReadFault ended a x h k w (λ p. ends_read step a x p) t

pub stops_long : {St : Type 0} (step : Step St) (ended : Ended) (a : St) (x h k : Option (List ℕ)) (w : List ℕ)
    → Finishes endings.Long ended h k w → Stops step ended a a x h k w
stops_long step ended a x h k w t = stops_finished step endings.Long ended a x h k w (λ p. ends_long step a x p) t

pub stops_refused : {St : Type 0} (step : Step St) (ended : Ended) (a : St) (x y h k : Option (List ℕ)) (w : List ℕ) (status : ℕ)
    → GivesMessage x y (incoming.Refused status) → RefusesSo ended status h k w → Stops step ended a a x h k w
stops_refused step (endings.Refused told) a x y h k w status o (e, s) =
    rw e (inl (refused_whole step a x y (append_known h w) k status o (sent_last h k w (refusal_text status) s)))
stops_refused step endings.WriteFault a x y h k w status o (rest, s) =
    stops_cut step a a x h k w (refusal_text status) rest (λ p q r u. refused_write step a x y p q status r o u) s
stops_refused step endings.NoMemory a x y h k w status o (rest, s) = inl (ends_memory step a a x (append_known h w) k rest s)
stops_refused step endings.Closed a x y h k w status o r = absurd r
stops_refused step endings.Truncated a x y h k w status o r = absurd r
stops_refused step endings.ReadFault a x y h k w status o r = absurd r
stops_refused step endings.Long a x y h k w status o r = absurd r

-- ---- a refusal

pub refuses_finished : (status : ℕ) (ended : Ended) (h k m : Option (List ℕ)) (w v : List ℕ) → Sent h k (w ++ refusal_text status) v
    → Finishes (endings.Refused status) ended k m v → RefusesSo ended status h m w
refuses_finished status ended h k m w v s (inl (e, t)) = rw e (refl, sent_then h k m (w ++ refusal_text status) v [] s t)
refuses_finished status ended h k m w v s (inr (e, (some, (rest, t)))) = rw e (rest, sent_then h k m (w ++ refusal_text status) v rest s t)

pub refuses_memory : (status : ℕ) (ended : Ended) (h k m : Option (List ℕ)) (w v : List ℕ) → Sent h k w v → GivesUp ended k m v → RefusesSo ended status h m w
refuses_memory status endings.NoMemory h k m w v s (rest, t) =
    (rest, sent_reached (append_known h w) (append_known k v) m (refusal_text NO_MEMORY) rest (reach_moved h k w v s) t)
refuses_memory status endings.WriteFault h k m w v s (some, (rest, t)) =
    (rest ++ refusal_text status, sent_more h m w rest (refusal_text status) (sent_then h k m w v rest s t))
refuses_memory status endings.Closed h k m w v s t = absurd t
refuses_memory status endings.Truncated h k m w v s t = absurd t
refuses_memory status (endings.Refused n) h k m w v s t = absurd t
refuses_memory status endings.ReadFault h k m w v s t = absurd t
refuses_memory status endings.Long h k m w v s t = absurd t

-- ---- texts

-- the response of want of memory, written out
pub wanting_text : codes "HTTP/1.1 507 Insufficient Storage\r\nContent-Type: text/plain\r\nContent-Length: 0\r\nConnection: close\r\n\r\n" ≡ refusal_text NO_MEMORY
unfolding digits
wanting_text = refl

pub wanting_sent : (h k : Option (List ℕ)) (rest : List ℕ)
    → Sent h k (codes "HTTP/1.1 507 Insufficient Storage\r\nContent-Type: text/plain\r\nContent-Length: 0\r\nConnection: close\r\n\r\n") rest
    → (r : List ℕ) × Sent h k (refusal_text NO_MEMORY) r
wanting_sent h k rest s = (rest, record { front = s.front; appends = s.appends; split = sym wanting_text ∙ s.split })
