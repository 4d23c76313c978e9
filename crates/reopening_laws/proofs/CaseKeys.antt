-- The keys of cases rise with their numbers, and a key has one number.
use Rattle.std.proofs.Common.{◌≡◌, sym, ap, ◌∙◌, arith, ℕ, ◌+◌, ◌-◌, ◌*◌, ◌/◌, ◌<◌, ◌≤◌, List, [], ◌∷◌, get_or, inl, inr}
use Rattle.std.specs.Ordering.{nat_cmp, ordering_then}
use Rattle.std.specs.declared.cmp.Ordering.TheVariants.{Less, Equal}
use Rattle.std.specs.Cmp.{nat_cmp_is}
use Rattle.std.specs.Cmp.Lexicographic.{slice_cmp}
use Rattle.std.proofs.lemmas.Bool.{cases_lt}
use Rattle.determination_dates.specs.Text.{last_digit}
use Rattle.row_cases.specs.Cases.{case_key}
use Rattle.oe_keeper.specs.Kept.{key_cmp}

-- texts whose numbers are the same but for the last digit, and the texts after it
rises : (m n : ℕ) (xs ys : List ℕ) → m / 10 ≡ n / 10 → m ≤ n → (m ≡ n → slice_cmp nat_cmp xs ys ≡ Less)
    → slice_cmp nat_cmp (last_digit m ∷ xs) (last_digit n ∷ ys) ≡ Less
rises m n xs ys front l rest = elim (cases_lt m n) [
  | inl below ↦ (let less : last_digit m < last_digit n = omega (arith, front, below) in
      ap (λ o. ordering_then o (slice_cmp nat_cmp xs ys)) (sym (nat_cmp_is (last_digit m) (last_digit n) Less less)))
  | inr above ↦ (let same : m ≡ n = omega (arith, above, l) in
      let digits : last_digit m ≡ last_digit n = ap last_digit same in
      ap (λ o. ordering_then o (slice_cmp nat_cmp xs ys)) (sym (nat_cmp_is (last_digit m) (last_digit n) Equal digits)) ∙ rest same)
]

-- the last digits of a number
abbrev one : ℕ → List ℕ
one n = last_digit n ∷ []

abbrev two : ℕ → List ℕ
two n = last_digit (n / 10) ∷ one n

abbrev three : ℕ → List ℕ
three n = last_digit (n / 100) ∷ two n

abbrev four : ℕ → List ℕ
four n = last_digit (n / 1000) ∷ three n

abbrev five : ℕ → List ℕ
five n = last_digit (n / 10000) ∷ four n

pub keys_rise : (m n : ℕ) → m < n → n < 1000000 → key_cmp (3, case_key m) (3, case_key n) ≡ Less
keys_rise m n l k =
    rises (m / 100000) (n / 100000) (five m) (five n) (omega (arith, l, k)) (omega (arith, l))
    (λ a. rises (m / 10000) (n / 10000) (four m) (four n) (omega (arith, a)) (omega (arith, l))
    (λ b. rises (m / 1000) (n / 1000) (three m) (three n) (omega (arith, b)) (omega (arith, l))
    (λ c. rises (m / 100) (n / 100) (two m) (two n) (omega (arith, c)) (omega (arith, l))
    (λ d. rises (m / 10) (n / 10) (one m) (one n) (omega (arith, d)) (omega (arith, l))
    (λ e. rises m n [] [] e (omega (arith, l)) (λ f. absurd (omega (arith, l, f))))))))

digit_in : List ℕ → ℕ → ℕ
digit_in text i = get_or text i 48 - 48

pub number_in : List ℕ → ℕ
number_in text = digit_in text 0 * 100000 + digit_in text 1 * 10000 + digit_in text 2 * 1000 + digit_in text 3 * 100 + digit_in text 4 * 10 + digit_in text 5

pub number_again : (n : ℕ) → n < 1000000 → number_in (case_key n) ≡ n
unfolding number_in digit_in
number_again n l = omega arith
