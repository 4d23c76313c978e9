-- Facts on whole heads, heads that are cut short, and refusals.
use Rattle.std.proofs.Common.{◌≡◌, ◌≢◌, ℕ, ◌-◌, ◌<◌, ◌≤◌, ◌⊎◌, true, false, List, [], ◌∷◌, ◌++◌, length, take, drop, All, refl, sym, ap, ◌∙◌, subst, arith, append_assoc, append-nil, inl, inr, length-append, length-take, length-drop, take-append-drop}
use Rattle.std.specs.Prelude.{IsTrue}
use Rattle.std.specs.List.{flat_map}
use Rattle.std.proofs.lemmas.List.{nil_from_length}
use Rattle.std.proofs.lemmas.List.Elements.{All-nil, All-cons, All-head, All-tail, All-push}
use Rattle.std.proofs.lemmas.Str.{IsUtf8-from_ascii}
use Rattle.std.proofs.lemmas.Str.Ascii.{IsAscii-cons, IsAscii-nil}
use Rattle.std.proofs.lemmas.Grind.{flat_map-append}
use Rattle.std.proofs.lemmas.Bool.{false≢true}
use Rattle.httparse.specs.Grammar.{RequestHead, IsRequestHead, ReadsRequest, EndsInTarget, HasNoRequest, NeverHasRequest, MayBecomeRequest, Field, IsField, AllPass, is_uri_byte, is_token_byte, IsToken, LineEnd, crlf, lf, print_request, print_blank, print_version, print_end, print_field, print_section}
use Rattle.httparse.specs.Pieces.{RequestStart, Section, is_newline}
use Rattle.httparse.specs.Spans.{RequestExceeds}
use Rattle.httparse.proofs.GrammarLemmas.{cons-append, request_tree, request_pieces, print_request-append, ReadsRequest-append}
use Rattle.httparse.proofs.PieceLemmas.{RequestStart_deterministic, Section_skip, Stops_token, token_is_no_newline, print_field-append}
use Rattle.http_messages.specs.Heads.{IsHead, open_head, IsCrowded, IsTooLarge, IsHopeless, IsGood, RefusesLarge, RefusesMalformed, IsOpen}
use Rattle.http_messages.specs.declared.decision.TheConstants.{HEAD_LIMIT, MOST_FIELDS}

-- lists

-- a front that leaves a byte is a front of the list without its last byte
pub front_of_push : (q r x : List ℕ) (b : ℕ) → q ++ r ≡ x ++ b ∷ [] → 0 < length r → (u : List ℕ) × (q ++ u ≡ x)
front_of_push [] r x b e some = (x, refl)
front_of_push (c ∷ q) r [] b e some = absurd (omega (arith, ap length e, length-append q r))
front_of_push (c ∷ q) r (y ∷ x) b e some =
    let tail : q ++ r ≡ x ++ b ∷ [] = cc in
    let head : c ≡ y = cc in
    let more = front_of_push q r x b tail some in
    (more.0, rw (head, more.1) refl)

-- two fronts of a list: one begins the other
pub two_fronts : (q r x y : List ℕ) → q ++ r ≡ x ++ y
    → ((u : List ℕ) × (q ≡ x ++ u) × (u ++ r ≡ y)) ⊎ ((u : List ℕ) × (q ++ u ≡ x))
two_fronts [] r x y e = inr (x, refl)
two_fronts (c ∷ q) r [] y e = inl (c ∷ q, refl, e)
two_fronts (c ∷ q) r (z ∷ x) y e = step (two_fronts q r x y (cc)) (cc)
  where
    step : ((u : List ℕ) × (q ≡ x ++ u) × (u ++ r ≡ y)) ⊎ ((u : List ℕ) × (q ++ u ≡ x)) → c ≡ z
        → ((u : List ℕ) × (c ∷ q ≡ (z ∷ x) ++ u) × (u ++ r ≡ y)) ⊎ ((u : List ℕ) × ((c ∷ q) ++ u ≡ z ∷ x))
    step (inl h) same = inl (h.0, rw (same, h.1) refl, h.2)
    step (inr h) same = inr (h.0, rw (same, h.1) refl)

-- what stands in front of a last byte, where something stands between
pub before_last : (f x y : List ℕ) (b c : ℕ) → f ++ c ∷ [] ≡ x ++ b ∷ y → 0 < length y → (s : List ℕ) × (f ≡ x ++ b ∷ s)
before_last [] [] y b c e some = absurd (omega (arith, ap length e))
before_last [] (z ∷ x) y b c e some = absurd (omega (arith, ap length e, length-append x (b ∷ y)))
before_last (d ∷ f) [] y b c e some = (f, cc)
before_last (d ∷ f) (z ∷ x) y b c e some =
    let tail : f ++ c ∷ [] ≡ x ++ b ∷ y = cc in
    let head : d ≡ z = cc in
    let more = before_last f x y b c tail some in
    (more.0, rw (head, more.1) refl)

-- heads and their open part

pub print_open : (h : RequestHead) → print_request h ≡ open_head h ++ print_end h.last
unfolding print_request
print_open h =
    regroup (print_blank h.blank) h.method h.target (print_version h.minor) (print_end h.line_end)
    (flat_map print_field h.fields) (print_end h.last)
  where
    regroup : (a b c d e f g : List ℕ)
        → a ++ b ++ 32 ∷ c ++ 32 ∷ d ++ e ++ (f ++ g) ≡ (a ++ b ++ 32 ∷ c ++ 32 ∷ d ++ e ++ f) ++ g
    regroup a b c d e f g = simp (append_assoc, cons-append)

pub open_head-append : (k : RequestHead) (tail : List ℕ) → open_head k ++ tail
    ≡ print_blank k.blank ++ (k.method ++ 32 ∷ (k.target ++ 32 ∷ (print_version k.minor
    ++ (print_end k.line_end ++ (flat_map print_field k.fields ++ tail)))))
open_head-append k tail =
    regroup (print_blank k.blank) k.method k.target (print_version k.minor) (print_end k.line_end)
    (flat_map print_field k.fields) tail
  where
    regroup : (a b c d e f r : List ℕ)
        → (a ++ b ++ 32 ∷ c ++ 32 ∷ d ++ e ++ f) ++ r ≡ a ++ (b ++ 32 ∷ (c ++ 32 ∷ (d ++ (e ++ (f ++ r)))))
    regroup a b c d e f r = simp (append_assoc, cons-append)

pub open_pieces : (k : RequestHead) (text tail : List ℕ) → IsRequestHead k → text ≡ open_head k ++ tail
    → RequestStart (request_tree k).0 text (flat_map print_field k.fields ++ tail)
open_pieces k text tail good e = (
  _,
  (e ∙ open_head-append k tail, Stops_token k.method _ good.method.0 good.method.1),
  (
    _,
    (good.method.0, good.method.1, refl),
    (
      _,
      ((good.target.0, good.target.1, refl), good.target_text),
      (_, (good.minor, refl), refl),
    ),
  ),
)

no_end : (last : LineEnd) (b : ℕ) (s rest : List ℕ) → b ≢ 13 → b ≢ 10 → b ∷ s ≡ print_end last ++ rest → ⊥
no_end crlf b s rest no_return no_feed e = no_return (cc)
no_end lf b s rest no_return no_feed e = no_feed (cc)

goes_on : (hs : List Field) (last : LineEnd) (b : ℕ) (s rest : List ℕ) → b ≢ 13 → b ≢ 10
    → Section (hs, last) (b ∷ s) rest → 0 < length hs
goes_on [] last b s rest no_return no_feed x = absurd (no_end last b s rest no_return no_feed x.1)
goes_on (h ∷ hs) last b s rest no_return no_feed x = omega arith

-- a head that goes on past the fields of another, with no line end, has more fields
pub goes_past : (h k : RequestHead) (b : ℕ) (s rest : List ℕ) → IsRequestHead h → IsRequestHead k → b ≢ 13 → b ≢ 10
    → print_request h ++ rest ≡ open_head k ++ b ∷ s → length k.fields < length h.fields
goes_past h k b s rest good kgood no_return no_feed e =
    let hp = request_pieces (print_request h ++ rest) h rest (good, refl) in
    let kp = open_pieces k (print_request h ++ rest) (b ∷ s) kgood e in
    let same = RequestStart_deterministic.unique (request_tree h).0 (request_tree k).0 (print_request h ++ rest) hp.0 _ hp.1 kp in
    let section : Section (h.fields, h.last) (flat_map print_field k.fields ++ b ∷ s) rest =
    subst (λ (m : List ℕ). Section (h.fields, h.last) m rest) same.1 hp.2 in
    let skip = Section_skip k.fields h.fields h.last _ (b ∷ s) rest (kgood.fields, refl) section in
    let some = goes_on skip.0 h.last b s rest no_return no_feed skip.2 in
    omega (arith, ap length skip.1, length-append k.fields skip.0)

-- the open part and a line feed are a head
pub closed : RequestHead → RequestHead
closed k = record k { last = lf }

pub closed_is : (k : RequestHead) → IsRequestHead k → IsHead (open_head k ++ 10 ∷ []) (record k { last = lf })
closed_is k good = (
  record { method = good.method; target = good.target; target_text = good.target_text; minor = good.minor; fields = good.fields },
  sym (append-nil _ ∙ print_open (record k { last = lf })),
)

-- what a front of a head is not

pub not_hopeless : (q r : List ℕ) (h : RequestHead) → IsHead (q ++ r) h → IsHopeless q → ⊥
not_hopeless q r h x hopeless = hopeless.never r h x

-- a front of a crowded text is neither hopeless nor good
pub crowded_first : (c : List ℕ) → IsCrowded c → (q r : List ℕ) → c ≡ q ++ r → 0 < length r
    → (IsHopeless q → ⊥) × (IsGood q → ⊥)
crowded_first c crowded q r e some =
    let front = front_of_push q r (open_head crowded.head) crowded.byte (sym e ∙ crowded.bytes_are) some in (
      λ hopeless. hopeless.never (front.0 ++ 10 ∷ []) (record crowded.head { last = lf })
          (subst (λ (t : List ℕ). IsHead t (record crowded.head { last = lf }))
          (sym (ap (λ (t : List ℕ). t ++ 10 ∷ []) front.1) ∙ append_assoc q front.0 (10 ∷ []))
          (closed_is crowded.head crowded.good)),
      λ good.
          let over = goes_past good.0 crowded.head crowded.byte [] r good.1.0 crowded.good crowded.no_return crowded.no_feed
          (ap (λ (t : List ℕ). t ++ r) (sym (append-nil _) ∙ sym good.1.1) ∙ (sym e ∙ crowded.bytes_are)) in
          omega (arith, crowded.full, good.2),
    )

pub crowded_refuses : (bytes q r : List ℕ) → bytes ≡ q ++ r → IsCrowded q → RefusesLarge bytes
crowded_refuses bytes q r e crowded =
    record { front = q; rest = r; parts = e; large = inl crowded; first = crowded_first q crowded }

-- inside the target

All-back : {X : Type 0} (test : X → Type 0) (u r : List X) → All test (u ++ r) → All test r
All-back test [] r all = all
All-back test (b ∷ u) r all = All-back test u r (All-tail test b (u ++ r) all)

-- all of a front pass what all pass
All-front : {X : Type 0} (test : X → Type 0) (u r : List X) → All test (u ++ r) → All test u
All-front test [] r all = All-nil test
All-front test (b ∷ u) r all = All-cons test b u (All-head test b (u ++ r) all) (All-front test u r (All-tail test b (u ++ r) all))

in_method : (blank : List LineEnd) (method q u : List ℕ) → IsToken method → q ++ u ≡ print_blank blank ++ method
    → IsHopeless q → ⊥
in_method blank method q u token e hopeless =
    let tail : List ℕ = 32 ∷ 47 ∷ 32 ∷ (print_version 0 ++ print_end lf ++ print_section [] lf) in
    let h : RequestHead = record { blank = blank; method = method; target = 47 ∷ []; minor = 0; line_end = lf; fields = []; last = lf } in
    hopeless.never (u ++ tail) h (
      record {
        method = token;
        target = (omega arith, All-push (λ v. is_uri_byte v ≡ true) [] 47 (All-nil _) refl);
        target_text = IsUtf8-from_ascii _ (IsAscii-cons 47 [] (omega arith) IsAscii-nil);
        minor = omega arith;
        fields = All-nil _;
      },
      sym (append_assoc q u tail) ∙ ap (λ (t : List ℕ). t ++ tail) e ∙ append_assoc (print_blank blank) method tail
          ∙ sym (print_request-append h []),
    )

in_target : (blank : List LineEnd) (method target q r u : List ℕ) → IsToken method → AllPass is_uri_byte target
    → q ≡ (print_blank blank ++ method) ++ u → u ++ r ≡ 32 ∷ target → IsHopeless q → ⊥
in_target blank method target q r [] token uri e f hopeless =
    in_method blank method q [] token (append-nil q ∙ e ∙ append-nil _) hopeless
in_target blank method target q r (c ∷ u) token uri e f hopeless =
    let space : c ≡ 32 = cc in
    let tail : u ++ r ≡ target = cc in
    hopeless.past_target (
      blank,
      method,
      u,
      token,
      All-front (λ v. IsTrue (is_uri_byte v)) u r (subst (AllPass is_uri_byte) (sym tail) uri),
      e ∙ ap (λ (b : ℕ). (print_blank blank ++ method) ++ b ∷ u) space,
    )

pub target_open : (bytes q r : List ℕ) → EndsInTarget bytes → bytes ≡ q ++ r → IsHopeless q → ⊥
target_open bytes q r x e hopeless =
    cases (two_fronts q r (print_blank x.0 ++ x.1) (32 ∷ x.2) (sym e ∙ x.5))
  where
    cases : ((u : List ℕ) × (q ≡ (print_blank x.0 ++ x.1) ++ u) × (u ++ r ≡ 32 ∷ x.2)) ⊎ ((u : List ℕ) × (q ++ u ≡ print_blank x.0 ++ x.1)) → ⊥
    cases (inl h) = in_target x.0 x.1 x.2 q r h.0 x.3 x.4 h.1 h.2 hopeless
    cases (inr h) = in_method x.0 x.1 q h.0 x.3 h.1 hopeless

-- what a parse says

pub never_now : (bytes : List ℕ) → NeverHasRequest bytes → HasNoRequest bytes
never_now bytes never h rest x = never [] h rest (subst (λ (t : List ℕ). ReadsRequest t h rest) (sym (append-nil bytes)) x)

no_good : (bytes q r : List ℕ) → bytes ≡ q ++ r → HasNoRequest bytes → IsGood q → ⊥
no_good bytes q r e none good =
    none good.0 r (subst (λ (t : List ℕ). ReadsRequest t good.0 r) (sym e) (ReadsRequest-append q good.0 [] r good.1))

not_large : (bytes q r : List ℕ) → bytes ≡ q ++ r → length bytes < HEAD_LIMIT
    → ((q r : List ℕ) → bytes ≡ q ++ r → IsCrowded q → ⊥) → IsTooLarge q → ⊥
not_large bytes q r e short uncrowded (inl crowded) = uncrowded q r e crowded
not_large bytes q r e short uncrowded (inr long) = omega (arith, ap length e, length-append q r, long.0)

may_not_hopeless : (bytes q r : List ℕ) → bytes ≡ q ++ r → MayBecomeRequest bytes → IsHopeless q → ⊥
may_not_hopeless bytes q r e (inl may) hopeless =
    hopeless.never (r ++ may.0) may.1
    (subst (λ (t : List ℕ). IsHead t may.1) (ap (λ (t : List ℕ). t ++ may.0) e ∙ append_assoc q r may.0) may.2)
may_not_hopeless bytes q r e (inr target) hopeless = target_open bytes q r target e hopeless

pub still_open : (bytes : List ℕ) → MayBecomeRequest bytes → HasNoRequest bytes → length bytes < HEAD_LIMIT
    → ((q r : List ℕ) → bytes ≡ q ++ r → IsCrowded q → ⊥) → IsOpen bytes
still_open bytes may none short uncrowded = record {
  none = λ q r e. (not_large bytes q r e short uncrowded, may_not_hopeless bytes q r e may, no_good bytes q r e none);
}

pub open_in_target : (bytes : List ℕ) → EndsInTarget bytes → NeverHasRequest bytes → length bytes < HEAD_LIMIT
    → ((q r : List ℕ) → bytes ≡ q ++ r → IsCrowded q → ⊥) → IsOpen bytes
open_in_target bytes target never short uncrowded = record {
  none = λ q r e. (not_large bytes q r e short uncrowded, target_open bytes q r target e, no_good bytes q r e (never_now bytes never));
}

pub malformed : (bytes : List ℕ) → NeverHasRequest bytes → (EndsInTarget bytes → ⊥) → length bytes < HEAD_LIMIT
    → ((q r : List ℕ) → bytes ≡ q ++ r → IsCrowded q → ⊥) → RefusesMalformed bytes
malformed bytes never past short uncrowded = record {
  front = bytes;
  rest = [];
  parts = sym (append-nil bytes);
  hopeless = record { never = λ more h x. never more h [] x; past_target = past };
  first = λ q r e. (not_large bytes q r e short uncrowded, no_good bytes q r e (never_now bytes never));
}

-- more fields than a head may have

-- a field's line begins with a byte other than CR and LF
first_byte : (name tail : List ℕ) → IsToken name → (b : ℕ) × (y : List ℕ) × (name ++ tail ≡ b ∷ y) × (b ≢ 13) × (b ≢ 10)
first_byte [] tail token = absurd (omega (arith, token.0))
first_byte (n ∷ name) tail token =
    let plain : is_newline n ≡ false = token_is_no_newline n (All-head (λ v. is_token_byte v ≡ true) n name token.1) in (
      n,
      name ++ tail,
      refl,
      λ e. false≢true (sym (subst (λ (v : ℕ). is_newline v ≡ false) e plain)),
      λ e. false≢true (sym (subst (λ (v : ℕ). is_newline v ≡ false) e plain)),
    )

-- the open part of a head with more fields
pub regroup_open : (a b c d e f g : List ℕ)
    → a ++ b ++ 32 ∷ c ++ 32 ∷ d ++ e ++ (f ++ g) ≡ (a ++ b ++ 32 ∷ c ++ 32 ∷ d ++ e ++ f) ++ g
regroup_open a b c d e f g = simp (append_assoc, cons-append)

pub record Over (h : RequestHead) : Type 0 where
  pub head : RequestHead
  pub byte : ℕ
  pub rest : List ℕ
  pub good : IsRequestHead head
  pub full : length head.fields ≡ MOST_FIELDS
  pub no_return : byte ≢ 13
  pub no_feed : byte ≢ 10
  pub opens : open_head h ≡ open_head head ++ byte ∷ rest

over_with : (h : RequestHead) (fs ds : List Field) → IsRequestHead h → h.fields ≡ fs ++ ds → length fs ≡ MOST_FIELDS → 0 < length ds → Over h
over_with h fs [] good e full some = absurd (omega (arith, some))
over_with h fs (d ∷ ds) good e full some =
    let all : All IsField (fs ++ d ∷ ds) = subst (All IsField) e good.fields in
    let one : IsField d = All-head IsField d ds (All-back IsField fs (d ∷ ds) all) in
    let line = first_byte d.name (58 ∷ (d.raw ++ (print_end d.end ++ flat_map print_field ds))) one.name in
    let lines : flat_map print_field h.fields ≡ flat_map print_field fs ++ line.0 ∷ line.1 =
    ap (flat_map print_field) e ∙ flat_map-append print_field fs (d ∷ ds)
    ∙ ap (λ (t : List ℕ). flat_map print_field fs ++ t) (print_field-append d (flat_map print_field ds) ∙ line.2) in
    record {
      head = record h { fields = fs };
      byte = line.0;
      rest = line.1;
      good = record {
        method = good.method;
        target = good.target;
        target_text = good.target_text;
        minor = good.minor;
        fields = All-front IsField fs
            (d ∷ ds) all;
      };
      full = full;
      no_return = line.3;
      no_feed = line.4;
      opens = ap (λ (t : List ℕ). print_blank h.blank ++ h.method ++ 32 ∷ h.target ++ 32 ∷ print_version h.minor ++ print_end h.line_end ++ t) lines
          ∙ regroup_open (print_blank h.blank) h.method h.target (print_version h.minor) (print_end h.line_end) (flat_map print_field fs)
          (line.0 ∷ line.1);
    }

pub over : (h : RequestHead) → IsRequestHead h → MOST_FIELDS < length h.fields → Over h
over h good many =
    over_with h (take MOST_FIELDS h.fields) (drop MOST_FIELDS h.fields) good (sym (take-append-drop MOST_FIELDS h.fields)) (omega
    (arith, length-take MOST_FIELDS h.fields)) (omega (arith, length-drop MOST_FIELDS h.fields))

pub too_many : (bytes : List ℕ) → RequestExceeds MOST_FIELDS bytes → (q r : List ℕ) × (bytes ≡ q ++ r) × IsCrowded q
too_many bytes x =
    let o = over x.3 x.4.0 x.5 in
    let e : x.0 ++ 10 ∷ [] ≡ open_head o.head ++ o.byte ∷ (o.rest ++ print_end x.3.last) =
    x.4.1 ∙ append-nil _ ∙ print_open x.3 ∙ ap (λ (t : List ℕ). t ++ print_end x.3.last) o.opens
    ∙ append_assoc (open_head o.head) (o.byte ∷ o.rest) (print_end x.3.last) in
    let s = before_last x.0 (open_head o.head) (o.rest ++ print_end x.3.last) o.byte 10 e (some_end o.rest x.3.last) in (
      open_head o.head ++ o.byte ∷ [],
      s.0 ++ x.1,
      x.2 ∙ ap (λ (t : List ℕ). t ++ x.1) s.1 ∙ append_assoc (open_head o.head) (o.byte ∷ s.0) x.1
          ∙ sym (append_assoc (open_head o.head) (o.byte ∷ []) (s.0 ++ x.1)),
      record { head = o.head; byte = o.byte; good = o.good; full = o.full; no_return = o.no_return; no_feed = o.no_feed; bytes_are = refl },
    )
  where
    some_end : (t : List ℕ) (last : LineEnd) → 0 < length (t ++ print_end last)
    some_end t crlf = omega (arith, length-append t (13 ∷ 10 ∷ []))
    some_end t lf = omega (arith, length-append t (10 ∷ []))

-- bytes at the limit

pub refuses_more : (bytes more : List ℕ) → RefusesLarge bytes → RefusesLarge (bytes ++ more)
refuses_more bytes more x = record {
  front = x.front;
  rest = x.rest ++ more;
  parts = ap (λ (t : List ℕ). t ++ more) x.parts ∙ append_assoc x.front x.rest more;
  large = x.large;
  first = x.first;
}

pub malformed_more : (bytes more : List ℕ) → RefusesMalformed bytes → RefusesMalformed (bytes ++ more)
malformed_more bytes more x = record {
  front = x.front;
  rest = x.rest ++ more;
  parts = ap (λ (t : List ℕ). t ++ more) x.parts ∙ append_assoc x.front x.rest more;
  hopeless = x.hopeless;
  first = x.first;
}

pub at_limit : (bytes : List ℕ) → HEAD_LIMIT ≤ length bytes → IsOpen (take (HEAD_LIMIT - 1) bytes)
    → ((h : RequestHead) (rest : List ℕ) → ReadsRequest bytes h rest → length h.fields ≤ MOST_FIELDS → length (print_request h) ≤ HEAD_LIMIT → ⊥)
    → RefusesLarge bytes
at_limit bytes long open_front none = record {
  front = take HEAD_LIMIT bytes;
  rest = drop HEAD_LIMIT bytes;
  parts = sym (take-append-drop HEAD_LIMIT bytes);
  large = inr (
    omega (arith, length-take HEAD_LIMIT bytes),
    λ good. none good.0 (drop HEAD_LIMIT bytes)
        (subst (λ (t : List ℕ). ReadsRequest t good.0 (drop HEAD_LIMIT bytes)) (take-append-drop HEAD_LIMIT bytes) (ReadsRequest-append
        (take HEAD_LIMIT bytes) good.0 [] (drop HEAD_LIMIT bytes) good.1))
        good.2 (omega (arith, ap length (good.1.1 ∙ append-nil _), length-take HEAD_LIMIT bytes)),
  );
  first = λ q r e some. let front = shorter q r e some in let x = open_front.none q front.0 front.1 in (x.1, x.2);
}
  where
    cases : (q r : List ℕ) → length q < HEAD_LIMIT
        → ((u : List ℕ) × (q ≡ take (HEAD_LIMIT - 1) bytes ++ u) × (u ++ r ≡ drop (HEAD_LIMIT - 1) bytes)) ⊎ ((u : List ℕ) × (q
        ++ u ≡ take (HEAD_LIMIT - 1) bytes))
        → (s : List ℕ) × (take (HEAD_LIMIT - 1) bytes ≡ q ++ s)
    cases q r few (inl x) = (
      [],
      sym (append-nil _ ∙ x.1 ∙ ap (λ (t : List ℕ). take (HEAD_LIMIT - 1) bytes
          ++ t) (nil_from_length x.0 (omega (
            arith,
            ap length x.1,
            length-append (take (HEAD_LIMIT - 1) bytes) x.0,
            length-take
                (HEAD_LIMIT - 1) bytes,
          ))) ∙ append-nil _),
    )
    cases q r few (inr x) = (x.0, sym x.1)

    shorter : (q r : List ℕ) → take HEAD_LIMIT bytes ≡ q ++ r → 0 < length r → (s : List ℕ) × (take (HEAD_LIMIT - 1) bytes ≡ q ++ s)
    shorter q r e some =
        cases q (r ++ drop HEAD_LIMIT bytes) (omega (arith, ap length e, length-append q r, length-take HEAD_LIMIT bytes))
        (two_fronts q (r ++ drop HEAD_LIMIT bytes) (take (HEAD_LIMIT - 1) bytes) (drop (HEAD_LIMIT - 1) bytes)
        (sym (append_assoc q r (drop HEAD_LIMIT bytes)) ∙ ap (λ (t : List ℕ). t ++ drop HEAD_LIMIT bytes) (sym e)
        ∙ take-append-drop HEAD_LIMIT bytes ∙ sym (take-append-drop (HEAD_LIMIT - 1) bytes)))

-- the same, where the limit of fields is given as a length
pub too_many_at : (room : ℕ) → room ≡ MOST_FIELDS → (bytes : List ℕ) → RequestExceeds room bytes → (q r : List ℕ) × (bytes ≡ q ++ r) × IsCrowded q
too_many_at room is bytes x = too_many bytes (subst (λ (n : ℕ). RequestExceeds n bytes) is x)
