-- The length of a request's body, from the fields of its head.
use Rattle.std.specs.Prelude.{ℕ, ◌&&◌, ◌||◌, ◌==◌, Bool, List, [], ◌∷◌, length, codes, if◌then◌else◌, nat_lt, nat_le, map, bytes_eq}
use Rattle.std.specs.List.{list_any, list_all}
use Rattle.std.specs.Char.{is_ascii_digit}
use Rattle.std.specs.Str.Parse.{digits_value}
use Rattle.httparse.specs.Grammar.{RequestHead}
use Rattle.std.specs.Str.{str_eq_ignore_ascii_case}
use Rattle.httparse.specs.Spans.{name_and_value}
use Rattle.http_messages.specs.declared.frame.TheConstants.{BODY_LIMIT, MOST_DIGITS}
use Rattle.http_messages.specs.declared.status.TheConstants.{BODY_TOO_LARGE, LENGTH_WANTED, MALFORMED, NO_TRANSFER_ENCODING}

-- a name and a value
abbrev pub Pair : Type 0
Pair = List ℕ × List ℕ

-- the size of a body, or the status of a refusal
pub data Frame : Type 0 where
  Body Refused : ℕ → Frame

-- one digit or more, up to the greatest number of digits in a length
abbrev pub is_length : List ℕ → Bool
is_length v = nat_lt 0 (length v) && nat_le (length v) MOST_DIGITS && list_all is_ascii_digit v

-- the frame from a request's only Content-Length
abbrev pub by_length : List ℕ → Frame
by_length v = if is_length v then (if nat_lt BODY_LIMIT (digits_value 10 v) then Refused BODY_TOO_LARGE else Body
    (digits_value 10 v)) else Refused MALFORMED

-- the frame from all its values of Content-Length
abbrev pub by_lengths : Bool → List (List ℕ) → Frame
by_lengths is_post [] = if is_post then Refused LENGTH_WANTED else Body 0
by_lengths is_post (v ∷ []) = by_length v
by_lengths is_post (v ∷ w ∷ more) = Refused MALFORMED

-- the field has this name, ignoring case
abbrev pub is_called : List ℕ → Pair → Bool
is_called name p = str_eq_ignore_ascii_case p.0 name

-- the values of the fields of this name
abbrev pub values : List ℕ → List Pair → List (List ℕ)
values name [] = []
values name (p ∷ ps) = if is_called name p then p.1 ∷ values name ps else values name ps

-- the frame from a head's method and its fields
abbrev pub frame : Bool → List Pair → Frame
frame is_post fields =
    if list_any (is_called (codes "transfer-encoding")) fields then Refused NO_TRANSFER_ENCODING
    else by_lengths is_post (values (codes "content-length") fields)

-- the field is `Connection: close`, ignoring case
abbrev pub is_close : Pair → Bool
is_close p = is_called (codes "connection") p && str_eq_ignore_ascii_case p.1 (codes "close")

-- a request after which its session ends: one of HTTP/1.0, or one with `Connection: close`
abbrev pub asks_close : RequestHead → Bool
asks_close h = h.minor == 0 || list_any is_close (map name_and_value h.fields)

-- a request's own frame
abbrev pub frame_of : RequestHead → Frame
frame_of h = frame (bytes_eq h.method (codes "POST")) (map name_and_value h.fields)
