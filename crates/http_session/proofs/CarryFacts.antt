-- The requests that a session carried out, however it ends.
use Rattle.std.proofs.Common.{◌≡◌, ◌⊎◌, inl, inr, ℕ, Bool, List, [], ◌∷◌, ◌++◌, Option, Some, None, refl}
use Rattle.std.specs.Io.KnownBytes.{prepend_known}
use Rattle.http_messages.specs.Messages.{GivesMessage}
use Rattle.http_messages.specs.declared.request.Incoming.TheVariants as incoming
use Rattle.std.specs.Prelude.{false, true}
use Rattle.http_session.specs.Machine.{Asked, Asks, Reply, Step, Exchange, Runs, StaysOpen, ClosesAtLast}
use Rattle.http_session.proofs.SessionFacts.{opens_none, opens_more}
use Rattle.http_session.specs.Endings.{CarriesOut, Goes, GoesFurther, RunsTo}
use Rattle.std.proofs.lemmas.List.Elements.{All-append}

runs_further : {St : Type 0} (step : Step St) (a b c : St) (xs ys zs : List ℕ) (es : List Exchange) (e : Exchange)
    → Runs step a xs es b ys → Asks ys e.asked e.close zs → step b e.asked e.reply c → Runs step a xs (es ++ e ∷ []) c zs
runs_further step a b c xs ys zs [] e r q s = rw (r.0, r.1) (c, zs, q, s, (refl, refl))
runs_further step a b c xs ys zs (d ∷ es) e (next, mid, asks, made, more) q s =
    (next, mid, asks, made, runs_further step next b c mid ys zs es e more q s)

opens_on : (es : List Exchange) (e : Exchange) → e.close ≡ false → StaysOpen es → StaysOpen (es ++ e ∷ [])
opens_on es e c o = All-append (λ (x : Exchange). x.close ≡ false) es (e ∷ []) o (opens_more e [] c opens_none)

pub runs_start : {St : Type 0} (step : Step St) (s : St) (p : List ℕ) (x : Option (List ℕ)) → p ≡ [] → RunsTo step s s x (prepend_known p x)
runs_start step s p None e = tt
runs_start step s p (Some xs) e = rw e ([], record { ran = (refl, refl); opens = opens_none })

-- one request more
pub runs_goes : {St : Type 0} (step : Step St) (a b c : St) (x y z h k : Option (List ℕ)) (w v : List ℕ)
    → RunsTo step a b x y → Goes step b c y z h k w v → RunsTo step a c x z
runs_goes step a b c None y z h k w v r g = tt
runs_goes step a b c (Some xs) None z h k w v r g = absurd r
runs_goes step a b c (Some xs) (Some ys) None h k w v r g = absurd g
runs_goes step a b c (Some xs) (Some ys) (Some zs) h k w v (es, r) (e, on, asks, made, sent) =
    (es ++ e ∷ [], record { ran = runs_further step a b c xs ys zs es e r.ran asks made; opens = opens_on es e on r.opens })

ends_at : (es : List Exchange) (e : Exchange) (b : Bool) → e.close ≡ b → StaysOpen es → StaysOpen (es ++ e ∷ []) ⊎ ClosesAtLast (es ++ e ∷ [])
ends_at es e false c o = inl (opens_on es e c o)
ends_at es e true c o = inr (record { front = es; last = e; parts = refl; opens = o; closes = c })

-- where the session ends
pub runs_out : {St : Type 0} (step : Step St) (a b c : St) (x y : Option (List ℕ)) → RunsTo step a b x y → GoesFurther step b c y → CarriesOut step a c x
runs_out step a b c None y r g = tt
runs_out step a b c (Some xs) None r g = absurd r
runs_out step a b c (Some xs) (Some ys) (es, r) (inl e) = (es, ys, rw e r.ran, inl r.opens)
runs_out step a b c (Some xs) (Some ys) (es, r) (inr (e, zs, asks, made)) =
    (es ++ e ∷ [], zs, runs_further step a b c xs ys zs es e r.ran asks made, ends_at es e e.close refl r.opens)

pub stays : {St : Type 0} (step : Step St) (a : St) (x : Option (List ℕ)) → GoesFurther step a a x
stays step a None = tt
stays step a (Some xs) = inl refl

-- a request whose reply may not be there whole
pub takes : {St : Type 0} (step : Step St) (a b : St) (x y : Option (List ℕ)) (asked : Asked) (close : Bool)
    → GivesMessage x y (incoming.Request asked.method asked.target asked.body close) → (b ≡ a) ⊎ ((reply : Reply) × step a asked reply b)
    → GoesFurther step a b x
takes step a b None y asked close o m = tt
takes step a b (Some xs) None asked close o m = absurd o
takes step a b (Some xs) (Some ys) asked close o (inl e) = inl e
takes step a b (Some xs) (Some ys) asked close o (inr (reply, made)) =
    inr (record { asked = asked; close = close; reply = reply }, ys, o, made)
