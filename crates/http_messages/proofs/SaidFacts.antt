-- What the spans of a head say of its request.
use Rattle.std.proofs.Common.{◌≡◌, ◌≤◌, ◌||◌, ◌==◌, ℕ, List, [], ◌∷◌, length, take, map, All, sym, ap, ◌∙◌, subst, arith, codes, bytes_eq}
use Rattle.std.specs.List.{list_any}
use Rattle.std.proofs.lemmas.List.Elements.{All-nil, All-cons, All-head, All-tail}
use Rattle.httparse.specs.Grammar.{RequestHead}
use Rattle.httparse.specs.Spans.{IsHeaderWithin, IsRequestAt, IsRequestWithin, header_bytes, name_and_value, span_bytes}
use Rattle.httparse.specs.declared.spans.HeaderSpan.{HeaderSpan}
use Rattle.httparse.specs.declared.spans.RequestSpans.{RequestSpans}
use Rattle.http_messages.specs.declared.frame.Framing.{Framing}
use Rattle.http_messages.specs.declared.frame.Framing.TheVariants as framings
use Rattle.http_messages.specs.declared.said.Head.{Head}
use Rattle.http_messages.specs.Counts.{IsFrame}
use Rattle.http_messages.specs.Frames.{Frame, Body, Refused, Pair, frame, frame_of, is_close, asks_close}
use Rattle.http_messages.specs.Said.{Says}

wider : (n m : ℕ) → n ≤ m → (hs : List HeaderSpan) → All (IsHeaderWithin n) hs → All (IsHeaderWithin m) hs
wider n m less [] all = All-nil _
wider n m less (h ∷ hs) all =
    let one : IsHeaderWithin n h = All-head (IsHeaderWithin n) h hs all in
    All-cons (IsHeaderWithin m) h hs ((one.0.0, omega (arith, one.0.1, less)), (one.1.0, omega (arith, one.1.1, less)))
    (wider n m less hs (All-tail (IsHeaderWithin n) h hs all))

-- the fields of a head lie in its bytes
pub fields_fit : (bytes : List ℕ) (headers : List HeaderSpan) (spans : RequestSpans) → IsRequestWithin bytes headers spans
    → All (IsHeaderWithin (length bytes)) (take spans.headers headers)
fields_fit bytes headers spans within = wider spans.len (length bytes) within.section.len_fits _ within.section.headers_fit

-- the frame of the spans is the frame of the head
pub framed : (bytes : List ℕ) (headers : List HeaderSpan) (spans : RequestSpans) (head : RequestHead) → IsRequestAt bytes headers spans head
    → (r : Framing) → IsFrame r (frame (bytes_eq (span_bytes bytes spans.method) (codes "POST")) (map (header_bytes bytes)
    (take spans.headers headers)))
    → IsFrame r (frame_of head)
framed bytes headers spans head at r x =
    subst (λ (m : List ℕ). IsFrame r (frame (bytes_eq m (codes "POST")) (map name_and_value head.fields))) at.method
    (subst (λ (ps : List Pair). IsFrame r (frame (bytes_eq (span_bytes bytes spans.method) (codes "POST")) ps)) at.fields x)

-- and so are the fields that ask for an end
pub closes_is : (bytes : List ℕ) (headers : List HeaderSpan) (spans : RequestSpans) (head : RequestHead) → IsRequestAt bytes headers spans head
    → (spans.version == 0 || list_any is_close (map (header_bytes bytes) (take spans.headers headers))) ≡ asks_close head
closes_is bytes headers spans head at =
    ap (λ (n : ℕ). n == 0 || list_any is_close (map (header_bytes bytes) (take spans.headers headers))) at.version
    ∙ ap (λ (ps : List Pair). head.minor == 0 || list_any is_close ps) at.fields

framed_body : (f : Frame) (n : ℕ) → IsFrame (framings.Body n) f → f ≡ Body n
framed_body (Body m) n x = ap Body (sym x)
framed_body (Refused m) n x = absurd x

pub framed_refused : (f : Frame) (n : ℕ) → IsFrame (framings.Refused n) f → f ≡ Refused n
framed_refused (Body m) n x = absurd x
framed_refused (Refused m) n x = ap Refused (sym x)

pub says : (bytes : List ℕ) (headers : List HeaderSpan) (spans : RequestSpans) (head : RequestHead) (said : Head)
    → IsRequestAt bytes headers spans head
    → said.method ≡ span_bytes bytes spans.method → said.target ≡ span_bytes bytes spans.path → IsFrame (framings.Body said.size) (frame_of head)
    → said.close ≡ asks_close head → Says said head
says bytes headers spans head said at method target framed close =
    record { method_is = method ∙ at.method; target_is = target ∙ at.path; framed = framed_body (frame_of head) said.size framed; close_is = close }
