-- Structures that stand in a line as a desk writes them.
use Rattle.std.proofs.Common.{arith, ℕ, zero, suc, ◌+◌, ◌-◌, ◌*◌, ◌<◌, ◌≤◌, ◌≡◌, ◌≢◌, ◌≤ℤ◌, List, [], ◌∷◌, ◌++◌, take, drop, length, get_or, codes, refl, sym, subst, ap, ◌∙◌, length-take, negsuc}
use Rattle.std.specs.Str.Parse.{AllDigits, digits_value}
use Rattle.std.specs.Char.{digit_value}
use Rattle.std.specs.Fmt.{decimal, signed_decimal}
use Rattle.std.proofs.lemmas.Int.Digits.{digits_more, digits_value_more}
use Rattle.std.proofs.lemmas.List.{take-append-drop, drop_more}
use Rattle.std.proofs.lemmas.Str.Parse.{IsNumeralModel, numerals_by_value, tells_digits}
use Rattle.std.proofs.lemmas.Str.{digit_value_digit}
use Rattle.std.proofs.lemmas.Fmt.{decimal-digits_value}
use Rattle.airfields.specs.Sites.{Site}
use Rattle.wire_values.specs.Commas.{joined}
use Rattle.wire_values.proofs.LimitFacts.{limit_of_kind}
use Rattle.wire_cursor.specs.Shape.{HasShape}
use Rattle.wire_cursor.specs.Groups.{site_shape, site_fields, IsValidSite}
use Rattle.wire_requests.specs.Requests.{IsRecord}
use Rattle.wire_requests.specs.declared.request.Request.TheVariants as requests
use Rattle.wire_requests.specs.declared.request.Query.TheVariants as queries
use Rattle.wire_requests.proofs.LineFacts.{canonical}

own : IsNumeralModel (AllDigits 10) (digits_value 10)
own = numerals_by_value (AllDigits 10) tells_digits

pub is_digit : (c : ℕ) → 48 ≤ c → c ≤ 57 → (digit_value c < 10) × (c - 48 ≡ digit_value c)
is_digit c low high = let e = digit_value_digit c (low, high) in (omega (arith, e), omega (arith, e))

pub one_more : (ds : List ℕ) (i v d : ℕ) → AllDigits 10 (take i ds) → v ≡ digits_value 10 (take i ds) → i < length ds → digit_value (get_or ds i 0) < 10 → d ≡ digit_value (get_or ds i 0)
    → AllDigits 10 (take (i + 1) ds) × (v * 10 + d ≡ digits_value 10 (take (i + 1) ds))
one_more ds i v d p e lt small q = (digits_more 10 ds i lt p small, rw (digits_value_more 10 ds i lt, e, q) refl)

-- a text about its comma
pub around : (text : List ℕ) (at : ℕ) → at < length text → get_or text at 0 ≡ 44 → text ≡ take at text ++ 44 ∷ drop (at + 1) text
around text at lt e = sym (take-append-drop at text) ∙ ap (λ t. take at text ++ t) (drop_more text at 0 lt ∙ ap (λ b. b ∷ drop (at + 1) text) e)

first_taken : (ds : List ℕ) (i : ℕ) → 0 < i → get_or (take i ds) 0 0 ≡ get_or ds 0 0
first_taken [] (suc i) some = refl
first_taken (d ∷ ds) (suc i) some = refl
first_taken ds zero some = absurd (omega (arith, some))

one_of : (count n : ℕ) → n ≡ count → 0 < count → (1 < count → ⊥) → n ≡ 1
one_of zero n e some few = absurd (omega (arith, some))
one_of (suc zero) n e some few = e
one_of (suc (suc c)) n e some few = absurd (few (omega arith))

-- the digits before a comma spell a number, unless they begin with a zero
pub spelled : (text : List ℕ) (count v : ℕ) → AllDigits 10 (take count text) → v ≡ digits_value 10 (take count text) → v < 1000000000 → count < length text
    → get_or text count 0 ≡ 44 → 0 < count → (1 < count → get_or text 0 0 ≢ 48) → text ≡ decimal v ++ 44 ∷ drop (count + 1) text
spelled text count v p e small lt comma some lead =
    let ds = take count text in
    let many : length ds ≡ count = omega (arith, length-take count text, lt) in
    let alone : get_or ds 0 0 ≡ 48 → length ds ≡ 1 = λ q. one_of count (length ds) many some (λ m. lead m (sym (first_taken text count some) ∙ q)) in
    around text count lt comma ∙ ap (λ t. t ++ 44 ∷ drop (count + 1) text) (sym (ap decimal e ∙ decimal-digits_value own ds p (omega (arith, many, some)) alone (omega (arith, e, small))))

pub below_zero : (n : ℕ) → 0 < n → 45 ∷ decimal n ≡ signed_decimal (negsuc (n - 1))
below_zero zero some = absurd (omega (arith, some))
below_zero (suc n) some = let e : n ≡ suc n - 1 = omega arith in ap (λ m. signed_decimal (negsuc m)) e

-- a dash before a comma
pub dash : (text : List ℕ) → 2 ≤ length text → get_or text 0 0 ≡ 45 → get_or text 1 0 ≡ 44 → text ≡ codes "-" ++ 44 ∷ drop 2 text
dash [] some e f = absurd (omega (arith, some))
dash (a ∷ []) some e f = absurd (omega (arith, some))
dash (a ∷ b ∷ bs) some e f = rw (e, f) refl

-- a dash alone
pub alone : (text : List ℕ) → length text ≡ 1 → get_or text 0 0 ≡ 45 → text ≡ codes "-"
alone [] one e = absurd (omega (arith, one))
alone (a ∷ []) one e = rw e refl
alone (a ∷ b ∷ bs) one e = absurd (omega (arith, one))

-- each field of a structure is what its form wants there
site_fits : (s : Site) (before : List ℕ) → IsValidSite s → HasShape site_shape before (site_fields s)
site_fits s before h =
    let g = s.at.on_grid in
    let most = subst (λ m. s.mobile ≤ℤ m) (sym (limit_of_kind s.kind)) h.0.mobile_most in (
      (s.at.x, refl, (g.west, g.east)),
      (
        (s.at.y, refl, (g.south, g.north)),
        (
          (s.terrain, refl, (h.0.terrain_least, h.0.terrain_most)),
          (
            (s.height, refl, (h.0.height_least, h.0.height_most)),
            ((s.kind, refl), ((s.mobile, refl, (h.0.mobile_least, most)), ((s.flags, refl), ((s.on, refl, h.1), tt)))),
          ),
        ),
      ),
    )

-- so a structure after the word of a form is a record
pub screening : (s : Site) (line word rest : List ℕ) → line ≡ word ++ 44 ∷ rest → word ≡ codes "screen" → rest ≡ joined (site_fields s) → IsValidSite s → IsRecord line (requests.Query (queries.Screen s))
screening s line word rest e w f h =
    rw (e, w, f) (canonical (requests.Query (queries.Screen s)) (record { valid = h; shape = (refl, site_fits s (codes "screen") h) }))

pub verdict : (s : Site) (line word rest : List ℕ) → line ≡ word ++ 44 ∷ rest → word ≡ codes "verdict" → rest ≡ joined (site_fields s) → IsValidSite s → IsRecord line (requests.Query (queries.Verdict s))
verdict s line word rest e w f h =
    rw (e, w, f) (canonical (requests.Query (queries.Verdict s)) (record { valid = h; shape = (refl, site_fits s (codes "verdict") h) }))
