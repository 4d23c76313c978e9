-- A session that ended before its first line was read.
use Rattle.std.proofs.Common.{◌≡◌, ◌⊎◌, refl, inl, inr, ℕ, List, [], ◌∷◌, Option, Some, None}
use Rattle.std.specs.Str.Lines.{lines}
use Rattle.oe_http.proofs.SentFacts.{appends_none}
use Rattle.oe_http.specs.Machine.{Step, Starts}
use Rattle.oe_http.specs.Session.{AnsweredFront, Begun}
use Rattle.oe_http.specs.declared.session.Ended.TheVariants as endings
use Rattle.oe_asof.specs.Sessions.{SessionOf}

no_fault : (endings.NoMemory ≡ endings.ReadFault) ⊎ (endings.NoMemory ≡ endings.Long) → ⊥
no_fault (inl e) = absurd (cc (e))
no_fault (inr e) = absurd (cc (e))

module _ {S : Type 0} (step : Step S) (opened : S) (held : Option (List ℕ)) where
  starts : (all : List (List ℕ)) → Starts step opened all []
  starts [] = refl
  starts (line ∷ more) = inl refl

  begun : (input : Option (List ℕ)) → Begun step opened input held held
  begun None = tt
  begun (Some input) = ([], appends_none held, starts (lines input))

  front : (input : Option (List ℕ)) → AnsweredFront step opened input held held
  front None = tt
  front (Some input) = ([], lines input, opened, refl, record { text = []; appends = appends_none held; runs = (refl, refl) })

  -- memory was wanting
  pub unopened : (input : Option (List ℕ)) → SessionOf step opened endings.NoMemory input input held held
  unopened input = record {
    closed = λ e. absurd (cc (e));
    begun = begun input;
    written = (
      opened,
      record {
        read_to_end = λ e. absurd (cc (e));
        whole = λ e. absurd (no_fault e);
        memory = λ e. front input;
      },
    );
  }
