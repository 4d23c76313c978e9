-- Digits and the number that they spell.
use Rattle.std.proofs.Common.{arith, ℕ, zero, suc, subst, drop, ℤ, pos, negsuc, ◌+◌, ◌-◌, ◌*◌, ◌<◌, ◌≤◌, ◌≡◌, ◌≢◌, List, [], ◌∷◌, take, length, get_or, refl, sym, ◌∙◌, ap, length-take}
use Rattle.std.specs.Str.Parse.{AllDigits, digits_value}
use Rattle.std.specs.Char.{digit_value}
use Rattle.std.specs.Fmt.{decimal}
use Rattle.std.proofs.lemmas.Int.{ints}
use Rattle.std.proofs.lemmas.Int.Digits.{digits_more, digits_value_more}
use Rattle.std.proofs.lemmas.List.{take_all}
use Rattle.whole_number.specs.Whole.{Spells}
use Rattle.std.proofs.lemmas.Str.{digit_value_digit}
use Rattle.std.proofs.lemmas.Str.Parse.{IsNumeralModel, numerals_by_value, tells_digits, digits_value_short, digit_from_value}
use Rattle.std.proofs.lemmas.Fmt.{decimal-digits_value, digits_decimal, length-decimal-le, first_decimal, decimal_digit, decimal_nonempty, decimal_injective}

own : IsNumeralModel (AllDigits 10) (digits_value 10)
own = numerals_by_value (AllDigits 10) tells_digits

pub is_digit : (c : ℕ) → 48 ≤ c → c ≤ 57 → (digit_value c < 10) × (c - 48 ≡ digit_value c)
is_digit c low high = let e = digit_value_digit c (low, high) in (omega (arith, e), omega (arith, e))

pub no_digit : (c : ℕ) → digit_value c < 10 → (48 ≤ c) × (c ≤ 57)
no_digit c h = digit_from_value c h

-- fewer than nine digits leave room for one more
pub value_bound : (ds : List ℕ) → AllDigits 10 ds → length ds ≤ 8 → digits_value 10 ds < 100000000
value_bound ds p l = digits_value_short own ds 8 p l

pub spells : (ds : List ℕ) → AllDigits 10 ds → 0 < length ds → length ds ≤ 9 → get_or ds 0 0 ≢ 48 → (ds ≡ decimal (digits_value 10 ds)) × (digits_value 10 ds < 1000000000)
spells ds p some short lead =
    let b = digits_value_short own ds 9 p short in
    (sym (decimal-digits_value own ds p some (λ e. absurd (lead e)) (omega (arith, b))), b)

pub digits_of_decimal : (n : ℕ) → n < 1000000000 → AllDigits 10 (decimal n) × (length (decimal n) ≤ 9)
digits_of_decimal n h = (digits_decimal own n (omega (arith, h)), length-decimal-le 9 n (omega arith) h (omega (arith, h)))

pub all_taken : (ds : List ℕ) (i v : ℕ) → length ds ≤ i → AllDigits 10 (take i ds) → v ≡ digits_value 10 (take i ds) → AllDigits 10 ds × (v ≡ digits_value 10 ds)
all_taken ds i v le p e = let t = take_all i ds le in (subst (AllDigits 10) t p, e ∙ ap (digits_value 10) t)

pub digit_at : (ds : List ℕ) (i : ℕ) → i < length ds → AllDigits 10 ds → digit_value (get_or ds i 0) < 10
digit_at [] i lt p = absurd (omega (arith, lt))
digit_at (c ∷ cs) zero lt p = p.0
digit_at (c ∷ cs) (suc i) lt p = digit_at cs i (omega (arith, lt)) p.1

-- there is room for one more digit
pub room : (ds : List ℕ) (i v : ℕ) → AllDigits 10 (take i ds) → v ≡ digits_value 10 (take i ds) → i < length ds → length ds ≤ 9 → v < 100000000
room ds i v p e lt short = let b = value_bound (take i ds) p (omega (arith, length-take i ds, lt, short)) in omega (arith, b, e)

pub one_more : (ds : List ℕ) (i v d : ℕ) → AllDigits 10 (take i ds) → v ≡ digits_value 10 (take i ds) → i < length ds → digit_value (get_or ds i 0) < 10 → d ≡ digit_value (get_or ds i 0)
    → AllDigits 10 (take (i + 1) ds) × (v * 10 + d ≡ digits_value 10 (take (i + 1) ds))
one_more ds i v d p e lt small q = (digits_more 10 ds i lt p small, rw (digits_value_more 10 ds i lt, e, q) refl)

pub empty_none : (ds : List ℕ) (n : ℕ) → length ds ≡ 0 → n < 1000000000 → ds ≢ decimal n
empty_none ds n none h e = absurd (omega (arith, none, ap length e, decimal_nonempty n (omega (arith, h))))

-- bytes that begin with a minus spell a negative number
pub minus_of : (ds : List ℕ) (z : ℤ) → Spells (45 ∷ ds) z → (n : ℕ) × (z ≡ negsuc n) × (ds ≡ decimal (suc n)) × (suc n < 1000000000)
minus_of ds (pos n) h = let p = subst (AllDigits 10) (sym h.0) (digits_of_decimal n (omega (arith, ints, h.1))).0 in absurd (omega (arith, p.0))
minus_of ds (negsuc n) h = (n, refl, ap (drop 1) h.0, omega (arith, ints, h.1))

pub not_minus_zero : (ds : List ℕ) → ds ≡ decimal 0 → (z : ℤ) → Spells (45 ∷ ds) z → ⊥
not_minus_zero ds e z h = let m = minus_of ds z h in absurd (omega (arith, decimal_injective 0 (suc m.0) (omega arith) (omega (arith, m.3)) (sym e ∙ m.2)))

pub no_minus : (ds : List ℕ) → ((n : ℕ) → n < 1000000000 → ds ≢ decimal n) → (z : ℤ) → Spells (45 ∷ ds) z → ⊥
no_minus ds f z h = let m = minus_of ds z h in f (suc m.0) m.3 m.2

-- ds begins with a zero
pub spells_zero : (ds : List ℕ) → length ds ≡ 1 → get_or ds 0 0 ≡ 48 → ds ≡ decimal 0
spells_zero [] l e = absurd (omega (arith, l))
spells_zero (d ∷ []) l e = rw (decimal_digit 0 (omega arith)) (ap (λ c. c ∷ []) e)
spells_zero (d ∷ d' ∷ ds) l e = absurd (omega (arith, l))

pub no_lead : (ds : List ℕ) (n : ℕ) → n < 1000000000 → get_or ds 0 0 ≡ 48 → length ds ≢ 1 → ds ≢ decimal n
no_lead ds zero h e l q = l (ap length (q ∙ decimal_digit 0 (omega arith)))
no_lead ds (suc n) h e l q = let f = first_decimal (suc n) (omega arith) (omega (arith, h)) in absurd (omega (arith, e, ap (λ xs. get_or xs 0 0) q, f))
