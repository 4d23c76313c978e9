-- What is written behind the bytes of a page, and the digits of numbers.
use Rattle.std.proofs.Common.{◌≡◌, ℕ, zero, suc, Bool, true, ◌&&◌, T, eqb, eqb→eq, eq-zero-or-pos, nat_lt, [], ◌∷◌, get_or, ◌+◌, ◌-◌, ◌*◌, ◌/◌, ◌%◌, ◌^◌, ◌<◌, ◌≤◌, List, ◌++◌, length, take, drop, refl, ap, sym, ◌∙◌, subst, inl, inr, arith, length-append, length-drop, append_assoc, take_all, take-take}
use Rattle.std.proofs.Math.Seq.{take-append-add}
use Rattle.std.proofs.lemmas.Bool.Decides.{nat_tests}
use Rattle.std.proofs.lemmas.List.{flat_map_more, take-append-le, length-take-le, take-append-drop, take_more}
use Rattle.std.proofs.lemmas.List.Elements.{All-head, All-tail}
use Rattle.std.proofs.lemmas.List.Sums.{AllPass-from_list_all}
use Rattle.std.proofs.lemmas.Str.{IsUtf8-from_ascii}
use Rattle.std.proofs.lemmas.Str.Ascii.{IsAscii-nil, IsAscii-cons}
use Rattle.std.specs.List.{flat_map, list_all, AllPass}
use Rattle.std.specs.Str.{IsAscii, IsUtf8}
use Rattle.wire_replies.specs.Pages.{is_seven_bit, pair_text}
use Rattle.wire_replies.specs.declared.page.TheConstants.{PAIRS}
use lib.Ieee.Fits.{and_l, and_r}
use Rattle.std.proofs.lemmas.Fmt.{decimal_digit, decimal_step}
use Rattle.std.specs.Fmt.{decimal}
use borrow.Rule.Slice.PartMut.{put_mid, post_of}

-- the first bytes after a part was written behind `a` of them, of which `n` count
pub put_behind : (a k n : ℕ) (bytes part : List ℕ) → a ≤ length bytes → n ≤ length part → take (a + n) (put_mid a k bytes part) ≡ take a bytes ++ take n part
put_behind a k n bytes part fits few =
    let front : length (take a bytes) ≡ a = length-take-le a bytes fits in
    subst (λ (m : ℕ). take (m + n) (put_mid a k bytes part) ≡ take a bytes ++ take n part) front
    (take-append-add (take a bytes) (part ++ post_of a k bytes) n ∙ ap (λ (t : List ℕ). take a bytes ++ t) (take-append-le n part (post_of a k bytes) few))

-- the same where a text of four to eight bytes was written by its first four and then by its last four
pub two_parts_behind : (a e k j : ℕ) (bytes text first last : List ℕ) → a ≤ length bytes → 4 ≤ length text → length text ≤ 8 → e ≡ a + length text →
    first ≡ take 4 text → last ≡ drop (length text - 4) text → take e (put_mid (e - 4) j (put_mid a k bytes first) last) ≡ take a bytes ++ text
two_parts_behind a e k j bytes text first last fits least most is front back =
    let n = length text in
    let m = n - 4 in
    let before : a + m ≡ e - 4 = omega arith in
    let behind : (e - 4) + 4 ≡ e = omega arith in
    let long_first : length first ≡ 4 = ap length front ∙ length-take-le 4 text least in
    let long_last : length last ≡ 4 = ap length back ∙ length-drop m text ∙ omega arith in
    let once : take (a + m) (put_mid a k bytes first) ≡ take a bytes ++ take m first = put_behind a k m bytes first fits (omega (arith, long_first)) in
    let long_once : e - 4 ≤ length (put_mid a k bytes first) =
    omega (arith, before, long_first, length-append (take a bytes) (first ++ post_of a k bytes), length-append first (post_of a k bytes), length-take-le a bytes fits) in
    let twice : take ((e - 4) + 4) (put_mid (e - 4) j (put_mid a k bytes first) last) ≡ take (e - 4) (put_mid a k bytes first) ++ take 4 last =
    put_behind (e - 4) j 4 (put_mid a k bytes first) last long_once (omega (arith, long_last)) in
    let whole : take 4 last ≡ drop m text = take_all 4 last (omega (arith, long_last)) ∙ back in
    let part : take m first ≡ take m text = ap (take m) front ∙ take-take m 4 text (omega arith) in
    let start : take (e - 4) (put_mid a k bytes first) ≡ take a bytes ++ take m text =
    subst (λ (i : ℕ). take i (put_mid a k bytes first) ≡ take a bytes ++ take m text) before (once ∙ ap (λ (t : List ℕ). take a bytes ++ t) part) in
    ap (λ (i : ℕ). take i (put_mid (e - 4) j (put_mid a k bytes first) last)) (sym behind) ∙ twice
    ∙ ap (λ (t : List ℕ). t ++ take 4 last) start ∙ ap (λ (t : List ℕ). (take a bytes ++ take m text) ++ t) whole
    ∙ append_assoc (take a bytes) (take m text) (drop m text) ∙ ap (λ (t : List ℕ). take a bytes ++ t) (take-append-drop m text)

-- four items of a list, one by one
pub four_of : (i : ℕ) (xs : List ℕ) → i + 4 ≤ length xs → get_or xs i 0 ∷ get_or xs (i + 1) 0 ∷ get_or xs (i + 2) 0 ∷ get_or xs (i + 3) 0 ∷ [] ≡ take 4 (drop i xs)
four_of zero [] h = absurd (omega arith)
four_of zero (a ∷ []) h = absurd (omega arith)
four_of zero (a ∷ b ∷ []) h = absurd (omega arith)
four_of zero (a ∷ b ∷ c ∷ []) h = absurd (omega arith)
four_of zero (a ∷ b ∷ c ∷ d ∷ xs) h = refl
four_of (suc i) [] h = absurd (omega arith)
four_of (suc i) (x ∷ xs) h =
    let a : suc i + 1 ≡ suc (i + 1) = omega arith in
    let b : suc i + 2 ≡ suc (i + 2) = omega arith in
    let c : suc i + 3 ≡ suc (i + 3) = omega arith in
    rw (a, b, c) (four_of i xs (omega arith))

abbrev are_pairs : ℕ → Bool
are_pairs zero = true
are_pairs (suc p) = (eqb (get_or PAIRS (p * 2) 0) (48 + p / 10) && eqb (get_or PAIRS (p * 2 + 1) 0) (48 + p % 10)) && are_pairs p

pairs_below : (n p : ℕ) → T (are_pairs n) → p < n → (get_or PAIRS (p * 2) 0 ≡ 48 + p / 10) × (get_or PAIRS (p * 2 + 1) 0 ≡ 48 + p % 10)
pairs_below zero p t h = absurd (omega arith)
pairs_below (suc n) p t h =
    elim (eq-zero-or-pos (n - p)) [
      | inl z ↦ let e : p ≡ n = omega arith in let a = and_l _ (are_pairs n) t in rw e (eqb→eq _ _ (and_l _ _ a), eqb→eq _ _ (and_r _ _ a))
      | inr g ↦ pairs_below n p (and_r _ (are_pairs n) t) (omega arith)
    ]

-- the digits that the table of pairs has
pub pairs_at : (p : ℕ) → p < 100 → (get_or PAIRS (p * 2) 0 ≡ 48 + p / 10) × (get_or PAIRS (p * 2 + 1) 0 ≡ 48 + p % 10)
pairs_at p h = pairs_below 100 p tt h

pub one_digit : (n : ℕ) → n < 10 → decimal n ≡ (48 + n) ∷ []
one_digit n h = decimal_digit n h

pub two_digits : (n : ℕ) → 10 ≤ n → n < 100 → decimal n ≡ pair_text n
two_digits n lo hi = rw (decimal_step n lo (omega arith), decimal_digit (n / 10) (omega arith)) refl

pub more_digits : (n : ℕ) → 100 ≤ n → n < 2 ^ 64 → decimal n ≡ decimal (n / 100) ++ pair_text (n % 100)
more_digits n lo hi =
    let a : n / 10 / 10 ≡ n / 100 = omega arith in
    let b : n / 10 % 10 ≡ n % 100 / 10 = omega arith in
    let c : n % 10 ≡ n % 100 % 10 = omega arith in
    rw (decimal_step n (omega arith) hi, decimal_step (n / 10) (omega arith) (omega arith), append_assoc, a, b, ← c) refl

seven_bits : (bs : List ℕ) → AllPass is_seven_bit bs → IsAscii bs
seven_bits [] h = IsAscii-nil
seven_bits (b ∷ bs) h =
    let e : nat_lt b 128 ≡ true = All-head (λ (x : ℕ). is_seven_bit x ≡ true) b bs h in
    IsAscii-cons b bs (grind (arith, nat_tests)) (seven_bits bs (All-tail (λ (x : ℕ). is_seven_bit x ≡ true) b bs h))

-- ASCII bytes are text
pub ascii_text : (bs : List ℕ) → list_all is_seven_bit bs ≡ true → IsUtf8 bs
ascii_text bs e = IsUtf8-from_ascii bs (seven_bits bs (AllPass-from_list_all is_seven_bit bs e))

pub ascii_byte : (b : ℕ) → b < 128 → IsUtf8 (b ∷ [])
ascii_byte b h = IsUtf8-from_ascii (b ∷ []) (IsAscii-cons b [] h IsAscii-nil)

-- the entries of a list with one more, in the text and on the page
pub one_more : {X : Type 0} (f : X → List ℕ) (old known text page more : List ℕ) (list : List X) (i : ℕ) (x : X) → i < length list → x ≡ get_or list i x
    → text ++ page ≡ old ++ (known ++ flat_map f (take i list)) → more ≡ page ++ f x → text ++ more ≡ old ++ (known ++ flat_map f (take (i + 1) list))
one_more f old known text page more list i x within item before added =
    let t : take (i + 1) list ≡ take i list ++ x ∷ [] = take_more list i x within ∙ ap (λ y. take i list ++ y ∷ []) (sym item) in
    ap (λ (p : List ℕ). text ++ p) added ∙ sym (append_assoc text page (f x)) ∙ ap (λ (p : List ℕ). p ++ f x) before
    ∙ append_assoc old (known ++ flat_map f (take i list)) (f x)
    ∙ ap (λ (p : List ℕ). old ++ p) (flat_map_more f known (take i list) x ∙ ap (λ ys. known ++ flat_map f ys) (sym t))
