-- The keys of cases.
use Rattle.std.proofs.Common.{arith, ℕ, ◌+◌, ◌*◌, ◌/◌, ◌%◌, ◌<◌, ◌≡◌, List, [], ◌∷◌, All, length, get_or, refl, ◌∙◌}
use Rattle.std.specs.Str.{IsUtf8}
use Rattle.std.proofs.lemmas.Str.{IsUtf8-from_ascii}
use Rattle.std.proofs.lemmas.Str.Ascii.{IsAscii-from_all}
use Rattle.std.proofs.lemmas.List.Elements.{All-nil, All-cons}
use Rattle.determination_dates.specs.Text.{last_digit}
use Rattle.wire_requests.specs.Limits.{IsCase}
use Rattle.row_cases.specs.Cases.{case_key}

abbrev AreSmall : List ℕ → Type 0
AreSmall [] = Unit {0}
AreSmall (b ∷ bs) = (b < 128) × AreSmall bs

all_small : (bs : List ℕ) → AreSmall bs → All (λ b. b < 128) bs
all_small [] h = All-nil (λ b. b < 128)
all_small (b ∷ bs) h = All-cons (λ b. b < 128) b bs h.0 (all_small bs h.1)

pub key_utf8 : (n : ℕ) → IsUtf8 (case_key n)
key_utf8 n =
    let small : AreSmall (case_key n) = (omega arith, (omega arith, (omega arith, (omega arith, (omega arith, (omega arith, tt)))))) in
    IsUtf8-from_ascii (case_key n) (IsAscii-from_all (case_key n) (all_small (case_key n) small))

-- six bytes are those at their places
spelt : (bs : List ℕ) → length bs ≡ 6 → bs ≡ get_or bs 0 0 ∷ get_or bs 1 0 ∷ get_or bs 2 0 ∷ get_or bs 3 0 ∷ get_or bs 4 0 ∷ get_or bs 5 0 ∷ []
spelt (a ∷ b ∷ c ∷ d ∷ e ∷ f ∷ []) l = refl
spelt (a ∷ b ∷ c ∷ d ∷ e ∷ f ∷ g ∷ gs) l = absurd (omega (arith, l))
spelt [] l = absurd (omega (arith, l))
spelt (a ∷ []) l = absurd (omega (arith, l))
spelt (a ∷ b ∷ []) l = absurd (omega (arith, l))
spelt (a ∷ b ∷ c ∷ []) l = absurd (omega (arith, l))
spelt (a ∷ b ∷ c ∷ d ∷ []) l = absurd (omega (arith, l))
spelt (a ∷ b ∷ c ∷ d ∷ e ∷ []) l = absurd (omega (arith, l))

-- three bytes are the last digits of a number
abbrev pub AreDigits : ℕ → ℕ → ℕ → ℕ → Type 0
AreDigits a b c n = (a ≡ last_digit (n / 100)) × (b ≡ last_digit (n / 10)) × (c ≡ last_digit n)

pub three : (a b c h t o : ℕ) → h < 10 → t < 10 → o < 10 → a ≡ 48 + h → b ≡ 48 + t → c ≡ 48 + o → AreDigits a b c (h * 100 + t * 10 + o)
three a b c h t o p q r x y z = (omega arith, omega arith, omega arith)

-- the key of a number of six digits: the three first and the three last
pub key_of : (bs : List ℕ) (h l n : ℕ) → n ≡ h * 1000 + l → l < 1000 → length bs ≡ 6 → AreDigits (get_or bs 0 0) (get_or bs 1 0) (get_or bs 2 0) h → AreDigits (get_or bs 3 0) (get_or bs 4 0) (get_or bs 5 0) l
    → bs ≡ case_key n
key_of bs h l n e small long p q =
    let a : get_or bs 0 0 ≡ last_digit (n / 100000) = omega (arith, p.0, e, small) in
    let b : get_or bs 1 0 ≡ last_digit (n / 10000) = omega (arith, p.1, e, small) in
    let c : get_or bs 2 0 ≡ last_digit (n / 1000) = omega (arith, p.2, e, small) in
    let d : get_or bs 3 0 ≡ last_digit (n / 100) = omega (arith, q.0, e, small) in
    let f : get_or bs 4 0 ≡ last_digit (n / 10) = omega (arith, q.1, e, small) in
    let g : get_or bs 5 0 ≡ last_digit n = omega (arith, q.2, e, small) in
    spelt bs long ∙ rw (a, b, c, d, f, g) refl

pub record AreKeyDigits (bs : List ℕ) (n : ℕ) : Type 0 where
  pub long : length bs ≡ 6
  pub high : AreDigits (get_or bs 0 0) (get_or bs 1 0) (get_or bs 2 0) (n / 1000)
  pub low : AreDigits (get_or bs 3 0) (get_or bs 4 0) (get_or bs 5 0) (n % 1000)

pub key_digits : (bs : List ℕ) (n : ℕ) → bs ≡ case_key n → AreKeyDigits bs n
key_digits bs n e = rw e record {
  long = refl;
  high = (omega arith, omega arith, omega arith);
  low = (omega arith, omega arith, omega arith);
}

same_three : (a b c m n : ℕ) → m < 1000 → n < 1000 → AreDigits a b c m → AreDigits a b c n → m ≡ n
same_three a b c m n p q h k = omega (arith, h, k)

pub one_case : (m n : ℕ) → IsCase m → IsCase n → case_key m ≡ case_key n → m ≡ n
one_case m n h k e =
    let p = key_digits (case_key m) m refl in
    let q = key_digits (case_key m) n e in
    let high : m / 1000 ≡ n / 1000 = same_three _ _ _ (m / 1000) (n / 1000) (omega (arith, h)) (omega (arith, k)) p.high q.high in
    let low : m % 1000 ≡ n % 1000 = same_three _ _ _ (m % 1000) (n % 1000) (omega arith) (omega arith) p.low q.low in
    omega (arith, high, low)
