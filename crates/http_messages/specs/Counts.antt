-- For proofs alone: the number of fields with a name, and the code's types against the definition's.
use Rattle.std.specs.Prelude.{ℕ, ◌≡◌, ◌≤◌, List, [], ◌∷◌}
use Rattle.httparse.specs.Spans.{header_bytes}
use Rattle.httparse.specs.declared.spans.HeaderSpan.{HeaderSpan}
use Rattle.http_messages.specs.declared.frame.Framing.{Framing}
use Rattle.http_messages.specs.declared.frame.Framing.TheVariants as framings
use Rattle.http_messages.specs.Frames.{Frame, Body, Refused}
use Rattle.http_messages.specs.declared.frame.TheConstants.{BODY_LIMIT}
use Rattle.http_messages.specs.declared.frame.Count.{Count}
use Rattle.http_messages.specs.declared.frame.Count.TheVariants as counts

-- the number of values of a name: none, one, or several
abbrev pub Counts : List ℕ → List (List ℕ) → Count → Type 0
Counts bytes values counts.Nothing = values ≡ []
Counts bytes values (counts.Once h) = values ≡ (header_bytes bytes h).1 ∷ []
Counts bytes values counts.Often = (v w : List ℕ) × (more : List (List ℕ)) × (values ≡ v ∷ w ∷ more)

-- a fact on the only field, where there is just one
abbrev pub IfOnce : Count → (HeaderSpan → Type 0) → Type 0
IfOnce counts.Nothing P = Unit {0}
IfOnce (counts.Once h) P = P h
IfOnce counts.Often P = Unit {0}

-- the code's result is the definition's
abbrev pub IsFrame : Framing → Frame → Type 0
IsFrame (framings.Body n) (Body m) = n ≡ m
IsFrame (framings.Refused n) (Refused m) = n ≡ m
IsFrame (framings.Body n) (Refused m) = ⊥
IsFrame (framings.Refused n) (Body m) = ⊥

-- a body within the limit
abbrev pub IsSmall : Framing → Type 0
IsSmall (framings.Body n) = n ≤ BODY_LIMIT
IsSmall (framings.Refused n) = Unit {0}
