-- Where the lines of a head end.
use Rattle.std.proofs.Common.{◌≡◌, ◌≢◌, ℕ, zero, suc, ◌+◌, ◌-◌, ◌<◌, ◌≤◌, ◌==◌, Bool, true, false, List, [], ◌∷◌, ◌++◌, length, take, drop, slice_index, All, cond, inl, inr, ◌⊎◌, refl, sym, ap, ◌∙◌, subst, arith, append_assoc, append-nil, length-append, get_or-drop}
use Rattle.std.specs.List.{flat_map, count_by}
use Rattle.std.proofs.lemmas.List.{take-append-le, take_all}
use Rattle.std.proofs.lemmas.List.Sums.{sum_by-append, sum_by-take-le}
use Rattle.std.proofs.lemmas.List.Elements.{All-nil, All-cons, All-head, All-tail}
use Rattle.std.proofs.lemmas.Bool.{false≢true, ne_eqb, cases_lt}
use Rattle.httparse.specs.Grammar.{RequestHead, IsRequestHead, Field, IsField, AllPass, is_uri_byte, is_token_byte, is_value_byte, LineEnd, crlf, lf, print_blank, print_version, print_end, print_field}
use Rattle.httparse.specs.Pieces.{Stops, is_newline}
use Rattle.httparse.proofs.PieceLemmas.{Stops_token}
use Rattle.httparse.proofs.GrammarLemmas.{cons-append}
use Rattle.http_messages.specs.Heads.{open_head}
use Rattle.http_messages.specs.Feeds.{is_feed, feeds_before, IsFirstVisible, IsBehind}
use Rattle.http_messages.proofs.HeadFacts.{open_head-append}
use Rattle.http_messages.specs.declared.decision.TheConstants.{MOST_FIELDS}
use Rattle.http_messages.specs.declared.lines.TheConstants.{LINES}

feeds : List ℕ → ℕ
feeds xs = count_by is_feed xs

feeds-append : (a b : List ℕ) → count_by is_feed (a ++ b) ≡ count_by is_feed a + count_by is_feed b
feeds-append a b = sum_by-append _ a b

no_feeds : (test : ℕ → Bool) → test 10 ≡ false → (xs : List ℕ) → AllPass test xs → count_by is_feed xs ≡ 0
no_feeds test fails [] all = refl
no_feeds test fails (x ∷ xs) all =
    let rest = no_feeds test fails xs (All-tail (λ v. test v ≡ true) x xs all) in
    let first : (x == 10) ≡ false = plain x (All-head (λ v. test v ≡ true) x xs all) in
    rw first rest
  where
    plain : (x : ℕ) → test x ≡ true → (x == 10) ≡ false
    plain x passes = ne_eqb x 10 (λ e. false≢true (sym fails ∙ subst (λ (v : ℕ). test v ≡ true) e passes))

token_feed : is_token_byte 10 ≡ false
unfolding is_token_byte
token_feed = refl

end_feeds : (e : LineEnd) → count_by is_feed (print_end e) ≡ 1
end_feeds crlf = refl
end_feeds lf = refl

version_feeds : (minor : ℕ) → minor ≤ 1 → count_by is_feed (print_version minor) ≡ 0
version_feeds zero fits = refl
version_feeds (suc zero) fits = refl
version_feeds (suc (suc n)) fits = absurd (omega arith)

skip : (b : ℕ) (xs : List ℕ) → (b == 10) ≡ false → count_by is_feed (b ∷ xs) ≡ count_by is_feed xs
skip b xs other = rw other refl

field_feeds : (f : Field) → IsField f → count_by is_feed (print_field f) ≡ 1
field_feeds f good =
    omega (
      arith,
      feeds-append (f.name ++ 58 ∷ f.raw) (print_end f.end),
      feeds-append f.name (58 ∷ f.raw),
      skip 58 f.raw refl,
      end_feeds f.end,
      no_feeds is_token_byte token_feed f.name good.name.1,
      no_feeds is_value_byte refl f.raw good.raw,
    )

fields_feeds : (fs : List Field) → All IsField fs → count_by is_feed (flat_map print_field fs) ≡ length fs
fields_feeds [] all = refl
fields_feeds (f ∷ fs) all =
    omega (
      arith,
      feeds-append (print_field f) (flat_map print_field fs),
      field_feeds f (All-head IsField f fs all),
      fields_feeds fs
          (All-tail IsField f fs all),
    )

-- the lines of a head behind its empty lines
abbrev pub body : RequestHead → List ℕ
body h = h.method ++ 32 ∷ (h.target ++ 32 ∷ (print_version h.minor ++ (print_end h.line_end ++ flat_map print_field h.fields)))

pub open_is : (h : RequestHead) (tail : List ℕ) → open_head h ++ tail ≡ print_blank h.blank ++ (body h ++ tail)
open_is h tail = open_head-append h tail ∙ ap (λ (t : List ℕ). print_blank h.blank
    ++ t) (sym (nested h.method h.target (print_version h.minor) (print_end h.line_end) (flat_map print_field h.fields) tail))
  where
    nested : (b c d e f r : List ℕ) → (b ++ 32 ∷ (c ++ 32 ∷ (d ++ (e ++ f)))) ++ r ≡ b ++ 32 ∷ (c ++ 32 ∷ (d ++ (e ++ (f ++ r))))
    nested b c d e f r = simp (append_assoc, cons-append)

body_feeds : (h : RequestHead) → IsRequestHead h → count_by is_feed (body h) ≡ 1 + length h.fields
body_feeds h good =
    let fs = flat_map print_field h.fields in
    let e = print_end h.line_end in
    let v = print_version h.minor in
    omega (
      arith,
      skip 32 (h.target ++ 32 ∷ (v ++ (e ++ fs))) refl,
      skip 32 (v ++ (e ++ fs)) refl,
      feeds-append h.method (32 ∷ (h.target ++ 32 ∷ (v
          ++ (e ++ fs)))),
      feeds-append h.target (32 ∷ (v ++ (e ++ fs))),
      feeds-append v (e ++ fs),
      feeds-append e fs,
      end_feeds h.line_end,
      version_feeds h.minor good.minor,
      fields_feeds h.fields good.fields,
      no_feeds is_token_byte token_feed h.method good.method.1,
      no_feeds is_uri_byte refl h.target good.target.1,
    )

-- the text ends with a line feed
abbrev EndsFed : List ℕ → Type 0
EndsFed text = (w : List ℕ) × (text ≡ w ++ 10 ∷ [])

fed_after : (a b : List ℕ) → EndsFed b → EndsFed (a ++ b)
fed_after a b x = (a ++ x.0, ap (λ (t : List ℕ). a ++ t) x.1 ∙ sym (append_assoc a x.0 (10 ∷ [])))

end_fed : (e : LineEnd) → EndsFed (print_end e)
end_fed crlf = (13 ∷ [], refl)
end_fed lf = ([], refl)

fields_fed : (x : List ℕ) (fs : List Field) → EndsFed x → EndsFed (x ++ flat_map print_field fs)
fields_fed x [] fed = subst EndsFed (sym (append-nil x)) fed
fields_fed x (f ∷ fs) fed =
    subst EndsFed (append_assoc x (print_field f) (flat_map print_field fs))
    (fields_fed (x ++ print_field f) fs (fed_after x (print_field f) (fed_after (f.name ++ 58 ∷ f.raw) (print_end f.end) (end_fed f.end))))

body_fed : (h : RequestHead) → EndsFed (body h)
body_fed h =
    fed_after h.method _ (fed_after (32 ∷ h.target) _ (fed_after (32 ∷ print_version h.minor) _ (fields_fed (print_end h.line_end) h.fields
    (end_fed h.line_end))))

-- where the first visible byte is
pub first_at : (p x : List ℕ) (at : ℕ) → All (λ b. is_newline b ≡ true) p → Stops is_newline x → IsFirstVisible (p ++ x) at → at ≡ length p
first_at [] [] at all stops v = absurd stops
first_at [] (c ∷ x) zero all stops v = refl
first_at [] (c ∷ x) (suc n) all stops v = absurd (false≢true (sym stops ∙ v.earlier 0 (omega arith)))
first_at (c ∷ p) x zero all stops v = absurd (false≢true (sym v.visible ∙ All-head (λ b. is_newline b ≡ true) c p all))
first_at (c ∷ p) x (suc n) all stops v =
    let rest = first_at p x n (All-tail (λ b. is_newline b ≡ true) c p all) stops (record {
      within = omega
          (arith, v.within);
      visible = v.visible;
      earlier = λ k below. v.earlier (suc k) (omega arith);
    }) in
    omega (arith, rest)

pub blank_all : (es : List LineEnd) → All (λ b. is_newline b ≡ true) (print_blank es)
blank_all [] = All-nil _
blank_all (crlf ∷ es) = All-cons (λ b. is_newline b ≡ true) 13 (10 ∷ print_blank es) refl (All-cons (λ b. is_newline b ≡ true) 10
    (print_blank es) refl (blank_all es))
blank_all (lf ∷ es) = All-cons (λ b. is_newline b ≡ true) 10 (print_blank es) refl (blank_all es)

pub start_is : (h : RequestHead) (bytes tail : List ℕ) (at : ℕ) → IsRequestHead h → bytes ≡ open_head h ++ tail → IsFirstVisible bytes at
    → at ≡ length (print_blank h.blank)
start_is h bytes tail at good e v =
    first_at (print_blank h.blank) (body h ++ tail) at (blank_all h.blank)
    (subst (Stops is_newline) (sym (append_assoc h.method _ tail)) (Stops_token h.method _ good.method.0 good.method.1))
    (subst (λ (t : List ℕ). IsFirstVisible t at) (e ∙ open_is h tail) v)

-- the 65th line ends where the open head does
behind_at : (w tail : List ℕ) (at : ℕ) → count_by is_feed (w ++ 10 ∷ []) ≡ LINES → IsBehind ((w ++ 10 ∷ []) ++ tail) at → at ≡ length (w ++ 10 ∷ [])
behind_at w tail at count v =
    cases (cases_lt at (length (w ++ 10 ∷ []))) (cases_lt (length (w ++ 10 ∷ [])) at)
  where
    cases : (at < length (w ++ 10 ∷ [])) ⊎ (length (w ++ 10 ∷ []) ≤ at) → (length (w ++ 10 ∷ []) < at) ⊎ (at ≤ length (w ++ 10 ∷ []))
        → at ≡ length (w ++ 10 ∷ [])
    cases (inl less) q =
        let inside : at ≤ length w = omega (arith, less, length-append w (10 ∷ [])) in
        let front : take at ((w ++ 10 ∷ []) ++ tail) ≡ take at w = take-append-le at (w ++ 10 ∷ []) tail (omega arith)
        ∙ take-append-le at w (10 ∷ []) inside in
        absurd (omega (arith, v.feeds, ap (count_by is_feed) front, sum_by-take-le (λ x. cond (is_feed x) 1 0) w at, feeds-append w (10 ∷ []), count))
    cases (inr more) (inl less) = absurd (v.earlier (length (w ++ 10 ∷ [])) less (ap (count_by is_feed) (take-append-le _ (w
        ++ 10 ∷ []) tail (omega arith) ∙ take_all (length (w ++ 10 ∷ [])) (w ++ 10 ∷ []) (omega arith)) ∙ count))
    cases (inr more) (inr most) = omega arith

pub behind_is : (h : RequestHead) (text tail : List ℕ) (at : ℕ) → IsRequestHead h → length h.fields ≡ MOST_FIELDS → text ≡ body h ++ tail
    → IsBehind text at → at ≡ length (body h)
behind_is h text tail at good full e v =
    let fed = body_fed h in
    behind_at fed.0 tail at (ap (count_by is_feed) (sym fed.1) ∙ body_feeds h good ∙ ap (λ (n : ℕ). 1 + n) full)
    (subst (λ (t : List ℕ). IsBehind t at) (e ∙ ap (λ (t : List ℕ). t ++ tail) fed.1) v) ∙ ap length (sym fed.1)

-- the text behind the empty lines
pub text_behind : (h : RequestHead) (bytes tail : List ℕ) (at : ℕ) → bytes ≡ open_head h ++ tail → at ≡ length (print_blank h.blank)
    → drop at bytes ≡ body h ++ tail
text_behind h bytes tail at e f = rw (f, e ∙ open_is h tail) (drop_front (print_blank h.blank) (body h ++ tail))
  where
    drop_front : (a b : List ℕ) → drop (length a) (a ++ b) ≡ b
    drop_front [] b = refl
    drop_front (x ∷ a) b = drop_front a b

pub open_length : (h : RequestHead) → length (open_head h) ≡ length (print_blank h.blank) + length (body h)
open_length h = omega (
  arith,
  ap length (sym (append-nil (open_head h))
      ∙ open_is h []),
  length-append (print_blank h.blank) (body h ++ []),
  ap length (append-nil (body h)),
)

get_drop : (xs : List ℕ) (n k : ℕ) → slice_index (drop n xs) k ≡ slice_index xs (n + k)
get_drop xs n k = get_or-drop n xs k 0

take_front : (a b : List ℕ) → take (length a) (a ++ b) ≡ a
take_front a b = take-append-le (length a) a b (omega arith) ∙ take_all (length a) a (omega arith)

-- where both searches find a place, it is where the open head ends
pub behind_found : (bytes : List ℕ) (start at : ℕ) → IsFirstVisible bytes start → IsBehind (drop start bytes) at
    → (h : RequestHead) (b : ℕ) (rest : List ℕ) → IsRequestHead h → length h.fields ≡ MOST_FIELDS → bytes ≡ open_head h ++ b ∷ rest
    → start + at ≡ length (open_head h)
behind_found bytes start at first behind h b rest good full e =
    let begin = start_is h bytes (b ∷ rest) start good e first in
    let end = behind_is h (drop start bytes) (b ∷ rest) at good full (text_behind h bytes (b ∷ rest) start e begin) behind in
    omega (arith, begin, end, open_length h)

pub behind_feed : (bytes : List ℕ) (start at : ℕ) → IsBehind (drop start bytes) at → slice_index bytes (start + at - 1) ≡ 10
behind_feed bytes start at v =
    let same : start + (at - 1) ≡ start + at - 1 = omega (arith, v.some) in
    ap (λ (k : ℕ). slice_index bytes k) (sym same) ∙ sym (get_drop bytes start (at - 1)) ∙ v.feed

pub none_behind : (bytes : List ℕ) (start : ℕ) → IsFirstVisible bytes start
    → ((k : ℕ) → k < length (drop start bytes) → feeds_before (drop start bytes) k ≢ LINES)
    → (h : RequestHead) (b : ℕ) (rest : List ℕ) → IsRequestHead h → length h.fields ≡ MOST_FIELDS → bytes ≡ open_head h ++ b ∷ rest → ⊥
none_behind bytes start first none h b rest good full e =
    let begin = start_is h bytes (b ∷ rest) start good e first in
    let text = text_behind h bytes (b ∷ rest) start e begin in
    none (length (body h)) (omega (arith, ap length text, length-append (body h) (b ∷ rest)))
    (ap (λ (t : List ℕ). count_by is_feed (take (length (body h)) t)) text ∙ ap (count_by is_feed) (take_front (body h) (b ∷ rest))
    ∙ body_feeds h good ∙ ap (λ (n : ℕ). 1 + n) full)

none_at : (p x : List ℕ) → Stops is_newline x → ((k : ℕ) → k < length (p ++ x) → is_newline (slice_index (p ++ x) k) ≡ true) → ⊥
none_at [] [] stops none = stops
none_at [] (c ∷ x) stops none = false≢true (sym stops ∙ none 0 (omega arith))
none_at (c ∷ p) x stops none = none_at p x stops (λ k below. none (suc k) (omega (arith, below)))

pub none_visible : (bytes : List ℕ) → ((k : ℕ) → k < length bytes → is_newline (slice_index bytes k) ≡ true)
    → (h : RequestHead) (tail : List ℕ) → IsRequestHead h → bytes ≡ open_head h ++ tail → ⊥
none_visible bytes none h tail good e =
    let same : bytes ≡ print_blank h.blank ++ (body h ++ tail) = e ∙ open_is h tail in
    none_at (print_blank h.blank) (body h ++ tail)
    (subst (Stops is_newline) (sym (append_assoc h.method _ tail)) (Stops_token h.method _ good.method.0 good.method.1))
    (subst (λ (t : List ℕ). (k : ℕ) → k < length t → is_newline (slice_index t k) ≡ true) same none)
