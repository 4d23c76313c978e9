-- When a request's bytes are a whole head, and when they are refused before that.
use Rattle.std.specs.Prelude.{ℕ, ◌≡◌, ◌≢◌, ◌≤◌, ◌<◌, ◌⊎◌, List, [], ◌∷◌, ◌++◌, length}
use Rattle.std.specs.List.{flat_map}
use Rattle.httparse.specs.Grammar.{RequestHead, IsRequestHead, ReadsRequest, EndsInTarget, print_blank, print_version, print_end, print_field}
use Rattle.httparse.specs.Spans.{IsRequestAt, IsRequestWithin}
use Rattle.httparse.specs.declared.spans.HeaderSpan.{HeaderSpan}
use Rattle.http_messages.specs.declared.decision.TheConstants.{HEAD_LIMIT, MOST_FIELDS}
use Rattle.http_messages.specs.declared.decision.Decision.{Decision}
use Rattle.http_messages.specs.declared.decision.Decision.TheVariants as decision

-- the bytes are this head, and nothing follows
abbrev pub IsHead : List ℕ → RequestHead → Type 0
IsHead bytes head = ReadsRequest bytes head []

-- a head's bytes without the empty line that ends it
abbrev pub open_head : RequestHead → List ℕ
open_head h =
    print_blank h.blank
    ++ h.method ++ 32 ∷ h.target ++ 32 ∷ print_version h.minor ++ print_end h.line_end
    ++ flat_map print_field h.fields

-- after their start line the bytes have the greatest number of whole fields, and then a byte other than CR and LF
pub record IsCrowded (bytes : List ℕ) : Type 0 where
  pub head : RequestHead
  pub byte : ℕ
  pub good : IsRequestHead head
  pub full : length head.fields ≡ MOST_FIELDS
  pub no_return : byte ≢ 13
  pub no_feed : byte ≢ 10
  pub bytes_are : bytes ≡ open_head head ++ byte ∷ []

-- a whole head with at most the greatest number of fields
abbrev pub IsGood : List ℕ → Type 0
IsGood bytes = (h : RequestHead) × IsHead bytes h × (length h.fields ≤ MOST_FIELDS)

-- the greatest number of fields and the beginning of a further one, or the greatest size without a whole head
abbrev pub IsTooLarge : List ℕ → Type 0
IsTooLarge bytes = IsCrowded bytes ⊎ ((length bytes ≡ HEAD_LIMIT) × (IsGood bytes → ⊥))

-- no continuation of the bytes is a head, and they do not end inside the target
pub record IsHopeless (bytes : List ℕ) : Type 0 where
  pub never : (more : List ℕ) (h : RequestHead) → IsHead (bytes ++ more) h → ⊥
  pub past_target : EndsInTarget bytes → ⊥

-- a prefix of the bytes is too large, and no shorter one was hopeless or a good head
pub record RefusesLarge (bytes : List ℕ) : Type 0 where
  pub front : List ℕ
  pub rest : List ℕ
  pub parts : bytes ≡ front ++ rest
  pub large : IsTooLarge front
  pub first : (q r : List ℕ) → front ≡ q ++ r → 0 < length r → (IsHopeless q → ⊥) × (IsGood q → ⊥)

-- a prefix of the bytes is hopeless, and neither it nor a shorter one is too large or a good head
pub record RefusesMalformed (bytes : List ℕ) : Type 0 where
  pub front : List ℕ
  pub rest : List ℕ
  pub parts : bytes ≡ front ++ rest
  pub hopeless : IsHopeless front
  pub first : (q r : List ℕ) → front ≡ q ++ r → (IsTooLarge q → ⊥) × (IsGood q → ⊥)

-- no prefix of the bytes is decided yet
pub record IsOpen (bytes : List ℕ) : Type 0 where
  pub none : (q r : List ℕ) → bytes ≡ q ++ r → (IsTooLarge q → ⊥) × (IsHopeless q → ⊥) × (IsGood q → ⊥)

-- the decision on the bytes of a head
abbrev pub Decides : List ℕ → List HeaderSpan → Decision → Type 0
Decides bytes headers (decision.Whole spans) =
    IsRequestWithin bytes headers spans
    × ((h : RequestHead) × IsRequestAt bytes headers spans h × (length h.fields ≤ MOST_FIELDS) × (spans.len ≤ HEAD_LIMIT))
Decides bytes headers decision.Wanting = IsOpen bytes
Decides bytes headers decision.TooLarge = RefusesLarge bytes
Decides bytes headers decision.Malformed = RefusesMalformed bytes

-- the bytes are refused with this decision
abbrev pub Refuses : List ℕ → Decision → Type 0
Refuses bytes decision.TooLarge = RefusesLarge bytes
Refuses bytes decision.Malformed = RefusesMalformed bytes
Refuses bytes decision.Wanting = ⊥
Refuses bytes (decision.Whole spans) = ⊥
