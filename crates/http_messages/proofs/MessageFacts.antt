-- What a stream begins with, by the bytes of it that are held.
use Rattle.std.proofs.Common.{◌≡◌, ◌+◌, ◌-◌, ◌<◌, ◌≤◌, ℕ, List, [], ◌∷◌, ◌++◌, length, take, drop, refl, sym, ap, ◌∙◌, subst, arith, append_assoc, append-nil, inl, inr, length-append, length-take, length-drop, take-append-drop, Option, Some, None}
use Rattle.std.proofs.lemmas.List.{drop-append-le}
use Rattle.std.specs.Io.KnownBytes.{Keeps, IsAtEnd, prepend_known}
use Rattle.httparse.specs.Grammar.{RequestHead, LineEnd, crlf, lf, print_end, print_request}
use Rattle.httparse.specs.Spans.{IsRequestAt}
use Rattle.httparse.specs.declared.spans.HeaderSpan.{HeaderSpan}
use Rattle.httparse.specs.declared.spans.RequestSpans.{RequestSpans}
use Rattle.httparse.proofs.GrammarLemmas.{ReadsRequest-append}
use Rattle.http_messages.specs.Heads.{IsOpen, open_head, RefusesLarge, RefusesMalformed}
use Rattle.http_messages.specs.declared.decision.TheConstants.{HEAD_LIMIT, MOST_FIELDS}
use Rattle.http_messages.proofs.HeadFacts.{print_open, refuses_more, malformed_more}
use Rattle.http_messages.specs.declared.said.Head.{Head}
use Rattle.http_messages.specs.declared.request.Incoming.{Incoming}
use Rattle.http_messages.specs.declared.request.Incoming.TheVariants as incoming
use Rattle.http_messages.specs.declared.status.TheConstants.{HEAD_TOO_LARGE, MALFORMED}
use Rattle.http_messages.specs.Frames.{Frame, Body, Refused, frame_of}
use Rattle.http_messages.specs.Given.{HoldsHead, HoldsSaid, IsGiven}
use Rattle.http_messages.specs.Said.{SaysOr}
use Rattle.http_messages.specs.declared.said.HeadRead.TheVariants as reads
use Rattle.http_messages.specs.Messages.{BeginsWith, Comes, GivesMessage, IsBroken, IsCut, Turns}

-- a read before changes nothing of what comes
pub gives_on : (x y z : Option (List ℕ)) (i : Incoming) → Keeps x y → GivesMessage y z i → GivesMessage x z i
gives_on None y z i kept gives = tt
gives_on (Some xs) None z i kept gives = absurd kept
gives_on (Some xs) (Some ys) None i kept gives = gives
gives_on (Some xs) (Some ys) (Some zs) i kept gives = subst (λ (t : List ℕ). Comes t i zs) kept gives

-- of a stream that is not read on nothing is said
pub gives_broken : (x z : Option (List ℕ)) (i : Incoming) → IsBroken i → GivesMessage x z i
gives_broken None z i broken = tt
gives_broken (Some xs) None i broken = broken
gives_broken (Some xs) (Some ys) incoming.ReadFault broken = tt
gives_broken (Some xs) (Some ys) incoming.Long broken = tt
gives_broken (Some xs) (Some ys) incoming.NoMemory broken = tt
gives_broken (Some xs) (Some ys) (incoming.Request method target body close) broken = absurd broken
gives_broken (Some xs) (Some ys) incoming.Closed broken = absurd broken
gives_broken (Some xs) (Some ys) incoming.Truncated broken = absurd broken
gives_broken (Some xs) (Some ys) (incoming.Refused status) broken = absurd broken

pub gives_large : (held : List ℕ) (left : Option (List ℕ)) → RefusesLarge held
    → GivesMessage (prepend_known held left) (prepend_known held left) (incoming.Refused HEAD_TOO_LARGE)
gives_large held None large = tt
gives_large held (Some xs) large = inl (refl, refuses_more held xs large)

pub gives_malformed : (held : List ℕ) (left : Option (List ℕ)) → RefusesMalformed held
    → GivesMessage (prepend_known held left) (prepend_known held left) (incoming.Refused MALFORMED)
gives_malformed held None malformed = tt
gives_malformed held (Some xs) malformed = inr (inl (refl, malformed_more held xs malformed))

pub gives_closed : (held : List ℕ) (left : Option (List ℕ)) → IsAtEnd left → length held ≡ 0
    → GivesMessage (prepend_known held left) (prepend_known held left) incoming.Closed
gives_closed held None end empty = tt
gives_closed [] (Some xs) end empty = (end, end)
gives_closed (b ∷ held) (Some xs) end empty = absurd (omega (arith, empty))

pub gives_truncated : (held : List ℕ) (left : Option (List ℕ)) → IsAtEnd left → 0 < length held → IsOpen held
    → GivesMessage (prepend_known held left) (prepend_known held left) incoming.Truncated
gives_truncated held None end some opened = tt
gives_truncated held (Some xs) end some opened =
    (omega (arith, some, length-append held xs), inl (subst IsOpen (sym (ap (λ (t : List ℕ). held ++ t) end ∙ append-nil held)) opened))

-- the head that is held is the stream's
begins : (held : List ℕ) (head : RequestHead) (len : ℕ) (xs : List ℕ) (frame : Frame) → HoldsHead held head len → frame_of head ≡ frame
    → BeginsWith (held ++ xs) head (drop len held ++ xs) frame
begins held head len xs frame x framed = record {
  reads = ReadsRequest-append held head (drop len held) xs x.reads;
  few = x.few;
  small = omega (arith, x.small, x.len_is);
  framed = framed;
}

-- it lies in the bytes that are held
inside : (held : List ℕ) (head : RequestHead) (len : ℕ) → HoldsHead held head len → len ≤ length held
inside held head len x = omega (arith, x.len_is, ap length x.reads.1, length-append (print_request head) (drop len held))

-- a head has a byte at least
pub head_some : (head : RequestHead) → 0 < length (print_request head)
head_some head = omega (arith, ap length (print_open head), length-append (open_head head) (print_end head.last), ended head.last)
  where
    ended : (last : LineEnd) → 0 < length (print_end last)
    ended crlf = omega arith
    ended lf = omega arith

some_byte : (held : List ℕ) (head : RequestHead) (len : ℕ) → HoldsHead held head len → 0 < len
some_byte held head len x = omega (arith, x.len_is, head_some head)

-- a parse says that a head is held
pub holds : (bytes : List ℕ) (headers : List HeaderSpan) (spans : RequestSpans) (head : RequestHead) → IsRequestAt bytes headers spans head
    → length head.fields ≤ MOST_FIELDS → spans.len ≤ HEAD_LIMIT → HoldsHead bytes head spans.len
holds bytes headers spans head at few small = record { reads = at.reads; len_is = at.len; few = few; small = small }

-- and that a head is held that says what was read of it
pub holds_said : (bytes : List ℕ) (headers : List HeaderSpan) (spans : RequestSpans) (said : Head) → ((head : RequestHead)
    → IsRequestAt bytes headers spans head → SaysOr (reads.Head said) head)
    → (x : (head : RequestHead) × IsRequestAt bytes headers spans head × (length head.fields ≤ MOST_FIELDS) × (spans.len ≤ HEAD_LIMIT))
    → HoldsSaid bytes said spans.len
holds_said bytes headers spans said says x = (x.0, holds bytes headers spans x.0 x.1 x.2 x.3, says x.0 x.1)

-- what stands behind it, after more reads
behind : (held more xs ys : List ℕ) (len : ℕ) → len ≤ length held → len ≤ length more → more ++ ys ≡ held ++ xs
    → drop len held ++ xs ≡ drop len more ++ ys
behind held more xs ys len in_held in_more same =
    sym (drop-append-le len held xs in_held) ∙ ap (drop len) (sym same) ∙ drop-append-le len more ys in_more

-- the bytes behind a head are its body and what follows
parts : (more : List ℕ) (len size : ℕ) → len + size ≤ length more → drop len more ≡ drop len (take (len + size) more) ++ drop (len + size) more
parts more len size fits =
    ap (drop len) (sym (take-append-drop (len + size) more))
    ∙ drop-append-le len (take (len + size) more) (drop (len + size) more) (omega (arith, length-take (len + size) more))

pub gives_request : (held more after : List ℕ) (left still : Option (List ℕ)) (said : Head) (len : ℕ) (i : Incoming) → HoldsSaid held said len
    → Keeps (prepend_known held left) (prepend_known more still) → len + said.size ≤ length more → IsGiven said more len i after
    → GivesMessage (prepend_known held left) (prepend_known after still) i
gives_request held more after None still said len i x kept fits given = tt
gives_request held more after (Some xs) None said len i x kept fits given = absurd kept
gives_request held more after (Some xs) (Some ys) said len incoming.NoMemory x kept fits given = tt
gives_request held more after (Some xs) (Some ys) said len incoming.Closed x kept fits given = absurd given
gives_request held more after (Some xs) (Some ys) said len incoming.Truncated x kept fits given = absurd given
gives_request held more after (Some xs) (Some ys) said len (incoming.Refused status) x kept fits given = absurd given
gives_request held more after (Some xs) (Some ys) said len incoming.ReadFault x kept fits given = absurd given
gives_request held more after (Some xs) (Some ys) said len incoming.Long x kept fits given = absurd given
gives_request held more after (Some xs) (Some ys) said len (incoming.Request method target body close) x kept fits given =
    let size : said.size ≡ length body = omega (
      arith,
      ap length given.2,
      length-drop len (take (len + said.size) more),
      length-take
          (len + said.size) more,
      fits,
    ) in
    let rest : drop len held ++ xs ≡ body ++ (after ++ ys) =
    behind held more xs ys len (inside held x.0 len x.1) (omega (arith, fits)) kept
    ∙ ap (λ (t : List ℕ). t ++ ys) (parts more len said.size fits ∙ rw (given.2, given.4) refl) ∙ append_assoc body after ys in
    record {
      head = x.0;
      begins = subst (λ (t : List ℕ). BeginsWith (held ++ xs) x.0 t (Body (length body))) rest
          (begins held x.0 len xs (Body (length body)) x.1 (x.2.framed ∙ ap Body size));
      method_is = given.0 ∙ x.2.method_is;
      target_is = given.1 ∙ x.2.target_is;
      close_is = given.3 ∙ x.2.close_is;
    }

pub gives_cut : (held more : List ℕ) (left still : Option (List ℕ)) (said : Head) (len : ℕ) → HoldsSaid held said len
    → Keeps (prepend_known held left) (prepend_known more still) → IsAtEnd still → length more < len + said.size
    → GivesMessage (prepend_known held left) (prepend_known more still) incoming.Truncated
gives_cut held more None still said len x kept end short = tt
gives_cut held more (Some xs) None said len x kept end short = absurd kept
gives_cut held more (Some xs) (Some ys) said len x kept end short =
    let whole : length held + length xs ≡ length more =
    omega (arith, length-append held xs, length-append more ys, ap length kept, ap length end) in
    let some : 0 < len = some_byte held x.0 len x.1 in (
      omega (arith, length-append held xs, inside held x.0 len x.1, some),
      inr (record {
        head = x.0;
        rest = drop len held ++ xs;
        size = said.size;
        begins = begins held x.0 len xs (Body said.size) x.1 x.2.framed;
        short = omega (arith, length-append (drop len held) xs, length-drop len held, inside held x.0 len x.1, whole, short);
      }),
    )

-- a body is not held whole
pub cut_body : (held : List ℕ) (said : Head) (len : ℕ) → HoldsSaid held said len → length held < len + said.size → IsCut held
cut_body held said len x short = inr (record {
  head = x.0;
  rest = drop len held;
  size = said.size;
  begins = subst (λ (t : List ℕ). BeginsWith t x.0 (drop len held) (Body said.size)) (append-nil held)
      (subst (λ (t : List ℕ). BeginsWith (held ++ []) x.0 t (Body said.size)) (append-nil (drop len held)) (begins held x.0 len [] (Body said.size) x.1 x.2.framed));
  short = omega (arith, length-drop len held, inside held x.0 len x.1, short);
})

pub gives_refused : (bytes : List ℕ) (headers : List HeaderSpan) (spans : RequestSpans) (left : Option (List ℕ)) (status : ℕ)
    → ((head : RequestHead) → IsRequestAt bytes headers spans head → SaysOr (reads.Refused status) head)
    → (x : (head : RequestHead) × IsRequestAt bytes headers spans head × (length head.fields ≤ MOST_FIELDS) × (spans.len ≤ HEAD_LIMIT))
    → GivesMessage (prepend_known bytes left) (prepend_known bytes left) (incoming.Refused status)
gives_refused bytes headers spans None status says x = tt
gives_refused bytes headers spans (Some xs) status says x =
    inr (inr (
      x.0,
      drop spans.len bytes ++ xs,
      begins bytes x.0 spans.len xs (Refused status) (holds bytes headers spans x.0 x.1 x.2 x.3)
          (says x.0 x.1),
    ))

-- a request takes a byte at least of those that are still handed out
pub turns_request : (held more after : List ℕ) (before now most : ℕ) (said : Head) (len : ℕ) (i : Incoming) → HoldsSaid held said len
    → length more + before ≡ length held + now → before ≤ now → now ≤ most → len + said.size ≤ length more → IsGiven said more len i after
    → Turns (length held + (most - before)) (length after + (most - now)) i
turns_request held more after before now most said len incoming.NoMemory x balance later limit fits given = tt
turns_request held more after before now most said len incoming.Closed x balance later limit fits given = tt
turns_request held more after before now most said len incoming.Truncated x balance later limit fits given = tt
turns_request held more after before now most said len (incoming.Refused status) x balance later limit fits given = tt
turns_request held more after before now most said len incoming.ReadFault x balance later limit fits given = tt
turns_request held more after before now most said len incoming.Long x balance later limit fits given = tt
turns_request held more after before now most said len (incoming.Request method target body close) x balance later limit fits given =
    let some : 0 < len = some_byte held x.0 len x.1 in
    omega (arith, some, balance, later, limit, fits, ap length given.4, length-drop (len + said.size) more)

pub turns_broken : (before after : ℕ) (i : Incoming) → IsBroken i → Turns before after i
turns_broken before after incoming.ReadFault broken = tt
turns_broken before after incoming.Long broken = tt
turns_broken before after incoming.NoMemory broken = tt
turns_broken before after (incoming.Request method target body close) broken = absurd broken
turns_broken before after incoming.Closed broken = tt
turns_broken before after incoming.Truncated broken = tt
turns_broken before after (incoming.Refused status) broken = tt

-- and so it does where reads came before
pub turns_on : (before between after : ℕ) (i : Incoming) → between ≤ before → Turns between after i → Turns before after i
turns_on before between after (incoming.Request method target body close) most turns = omega (arith, most, turns)
turns_on before between after incoming.Closed most turns = tt
turns_on before between after incoming.Truncated most turns = tt
turns_on before between after (incoming.Refused status) most turns = tt
turns_on before between after incoming.ReadFault most turns = tt
turns_on before between after incoming.Long most turns = tt
turns_on before between after incoming.NoMemory most turns = tt

pub same_most : (held more : List ℕ) (before now most : ℕ) → length more + before ≡ length held + now → before ≤ now → now ≤ most
    → length more + (most - now) ≤ length held + (most - before)
same_most held more before now most balance later limit = omega (arith, balance, later, limit)
