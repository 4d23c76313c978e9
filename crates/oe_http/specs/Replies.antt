-- For proofs alone: one turn of a session's loop.
use Rattle.std.specs.Prelude.{ℕ, List, [], ◌∷◌, ◌≡◌, ◌≢◌, ◌⊎◌, Bool, true, false, Option, Some, None, Result, Ok, Err}
use Rattle.std.specs.Io.KnownBytes.{Appends, append_known}
use Rattle.std.specs.Str.Lines.{lines}
use Rattle.grid_exact.specs.Texts.{Extends}
use Rattle.oe_http.specs.Lines.{TakesPart}
use Rattle.oe_http.specs.declared.lines.ReadError.{ReadError}
use Rattle.oe_http.specs.declared.lines.ReadError.TheVariants as errors
use Rattle.oe_http.specs.Machine.{Step}
use Rattle.oe_http.specs.declared.session.Ended.{Ended}
use Rattle.oe_http.specs.declared.session.Ended.TheVariants as endings

-- the ending of a session after an error of reading
abbrev pub ending_of : ReadError → Ended
ending_of errors.Failed = endings.ReadFault
ending_of errors.InputLong = endings.Long
ending_of errors.NoMemory = endings.NoMemory

-- one line was taken, and its reply appended to the output, where both ends are known
abbrev pub RepliesOne : {St : Type 0} → Step St → St → St → Option (List ℕ) → Option (List ℕ) → Option (List ℕ) → Option (List ℕ) → Type 0
RepliesOne step before after None now held_old held_new = Unit {0}
RepliesOne step before after (Some xs) None held_old held_new = ⊥
RepliesOne step before after (Some xs) (Some ys) held_old held_new =
    (line reply : List ℕ) × (lines xs ≡ line ∷ lines ys) × step before line reply after × Appends held_old held_new reply

-- as above, with the reply appended to the waiting ones, whatever was written before
abbrev pub RepliesNext : {St : Type 0} → Step St → St → St → Option (List ℕ) → Option (List ℕ) → List ℕ → List ℕ → Type 0
RepliesNext step before after unread_old unread_new waiting_old waiting_new =
    (k : Option (List ℕ)) → RepliesOne step before after unread_old unread_new (append_known k waiting_old) (append_known k waiting_new)

-- no line was left
abbrev pub EndsRead : Option (List ℕ) → Option (List ℕ) → Type 0
EndsRead None now = Unit {0}
EndsRead (Some xs) None = ⊥
EndsRead (Some xs) (Some ys) = (xs ≡ []) × (ys ≡ [])

-- the state stays, or the next line took it further
abbrev pub GoesOn : {St : Type 0} → Step St → St → St → Option (List ℕ) → Type 0
GoesOn step before after None = Unit {0}
GoesOn step before after (Some xs) =
    (after ≡ before) ⊎ ((line reply : List ℕ) × (more : List (List ℕ)) × (lines xs ≡ line ∷ more) × step before line reply after)

-- a line and its reply, no line, or an error; after an error the waiting replies are unchanged, before a part of the next one
abbrev pub Replies : {St : Type 0} → Step St → St → St → Option (List ℕ) → Option (List ℕ) → Option (List ℕ) → List ℕ → List ℕ → Result Bool ReadError → Type 0
Replies step before after unread_old unread_new left waiting_old waiting_new (Ok true) = RepliesNext step before after unread_old unread_new waiting_old waiting_new
Replies step before after unread_old unread_new left waiting_old waiting_new (Ok false) =
    EndsRead unread_old unread_new × (waiting_new ≡ waiting_old) × (after ≡ before)
Replies step before after unread_old unread_new left waiting_old waiting_new (Err e) =
    Extends waiting_old waiting_new × (e ≢ errors.NoMemory → TakesPart unread_old left × (after ≡ before)) × GoesOn step before after unread_old
