-- The exchanges of a session of HTTP, with any replies to its requests.
use Rattle.std.specs.Prelude.{ℕ, ◌≡◌, Bool, true, false, All, List, [], ◌∷◌, ◌++◌, Option, None}
use Rattle.std.specs.List.{flat_map}
use Rattle.http_messages.specs.Messages.{IsMessage}
use Rattle.http_messages.specs.Responses.{response_text}

-- the content of a request
pub record Asked : Type 0 where
  pub method : List ℕ
  pub target : List ℕ
  pub body : List ℕ

-- the reply to it; `allow` gives the method of a route with another method
pub record Reply : Type 0 where
  pub status : ℕ
  pub allow : Option Bool
  pub body : List ℕ

-- a state, a request, the reply to it and the state after it
abbrev pub Step : Type 0 → Type 1
Step St = St → Asked → Reply → St → Type 0

-- a request and its reply; `close` says that the request asks to end the session
pub record Exchange : Type 0 where
  pub asked : Asked
  pub close : Bool
  pub reply : Reply

-- a stream begins with this request, and these bytes come after it
abbrev pub Asks : List ℕ → Asked → Bool → List ℕ → Type 0
Asks stream asked close left = IsMessage stream asked.method asked.target asked.body close left

-- the bytes of a reply
abbrev pub reply_text : Reply → Bool → List ℕ
reply_text reply close = response_text reply.status reply.allow reply.body close

-- the response to a request
abbrev pub exchange_text : Exchange → List ℕ
exchange_text e = reply_text e.reply e.close

-- all responses, in order
abbrev pub texts : List Exchange → List ℕ
texts es = flat_map exchange_text es

-- the response to a refused request
abbrev pub refusal_text : ℕ → List ℕ
refusal_text status = response_text status None [] true

-- the requests are those at the front of a stream, in order, these bytes come after them, and the replies take one state to another
abbrev pub Runs : {St : Type 0} → Step St → St → List ℕ → List Exchange → St → List ℕ → Type 0
Runs step before stream [] after left = (before ≡ after) × (stream ≡ left)
Runs {St} step before stream (e ∷ es) after left =
    (next : St) × (mid : List ℕ) × Asks stream e.asked e.close mid × step before e.asked e.reply next × Runs step next mid es after left

-- none of the requests asks to end the session
abbrev pub StaysOpen : List Exchange → Type 0
StaysOpen es = All (λ e. e.close ≡ false) es

-- only the last of the requests asks to end the session
pub record ClosesAtLast (es : List Exchange) : Type 0 where
  pub front : List Exchange
  pub last : Exchange
  pub parts : es ≡ front ++ last ∷ []
  pub opens : StaysOpen front
  pub closes : last.close ≡ true
