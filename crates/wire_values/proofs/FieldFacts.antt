-- What fits a wanted field: it can be told whether a text does, such a text is short and plain, and there is one.
use Rattle.std.proofs.Common.{arith, ℕ, suc, ◌<◌, ◌≤◌, ◌^◌, ◌≡◌, ◌≢◌, ◌+◌, ℤ, ◌≤ℤ◌, pos, negsuc, ◌||◌, Bool, true, false, List, [], ◌∷◌, ◌++◌, Option, Some, None, length, All, refl, ap, sym, ◌∙◌, subst, codes, if◌then◌else◌, inl, inr}
use Rattle.std.specs.Prelude.{is_some}
use Rattle.std.specs.List.{list_all}
use Rattle.std.specs.Fmt.{decimal, signed_decimal}
use Rattle.std.specs.Str.{bytes_eq}
use Rattle.std.specs.Str.Parse.{AllDigits}
use Rattle.std.proofs.lemmas.Bool.Decides.{nat_tests}
use Rattle.std.proofs.lemmas.Int.{ints}
use Rattle.std.proofs.lemmas.Fmt.{decimal_nonempty, length-decimal-le}
use Rattle.std.proofs.lemmas.List.Elements.{All-nil, All-cons, All-weaker}
use Rattle.std.proofs.lemmas.List.Sums.{AllPass-from_list_all}
use Rattle.std.proofs.lemmas.Fmt.{digits_decimal}
use Rattle.std.proofs.lemmas.Str.Parse.{digit_from_value}
use Rattle.whole_number.specs.Whole.{HasNineDigits}
use Rattle.runway_classes.specs.declared.ApproachKind.{ApproachKind}
use Rattle.runway_classes.specs.declared.ApproachKind.TheVariants as approaches
use Rattle.airfields.specs.Names.{IsLetterOrDigit, IsRunwayByte, IsFieldId, IsRunwayName}
use Rattle.airfields.specs.declared.category.Category.{Category}
use Rattle.airfields.specs.declared.category.Category.TheVariants as categories
use Rattle.airfields.specs.declared.structure.StructureKind.{StructureKind}
use Rattle.airfields.specs.declared.structure.StructureKind.TheVariants as kinds
use Rattle.airfields.specs.declared.structure.Flags.{Flags}
use Rattle.airfields.specs.declared.filing.TheConstants.{MOBILE_LIMIT}
use Rattle.jiff_core.specs.declared.civil.date.Date.{Date}
use Rattle.determination_dates.specs.Text.{last_digit, year_of, date_text}
use Rattle.case_requests.specs.declared.act.Impact.{Impact}
use Rattle.case_requests.specs.declared.act.Impact.TheVariants as impacts
use Rattle.case_requests.specs.declared.act.Party.{Party}
use Rattle.case_requests.specs.declared.act.Party.TheVariants as parties
use Rattle.wire_values.specs.Words.{IsWordByte, IsWord, category_word, approaches_text, kind_word, marked_text, flag_letters, flags_text, or_dash, name_text, IsAirfieldName, IsBetween, impact_word, party_word, optional_date, IsAnyLimited, report_word}
use Rattle.wire_values.specs.declared.report.ReportKind.{ReportKind}
use Rattle.wire_values.specs.declared.report.ReportKind.TheVariants as reports
use Rattle.wire_values.specs.Wanted.{Wanted, Fits, mobile_limit, is_granted, Spelled, Between, Counted, Choice, FieldIdWanted, RunwayNameWanted, WordWanted, CategoryWanted, ApproachesWanted, KindWanted, MobileWanted, FlagsWanted, AirfieldWanted, DateWanted, OptionalDateWanted, CompletionWanted, ImpactWanted, PartyWanted, ReportWanted}
use Rattle.wire_values.specs.Plainness.{is_field_byte, IsShortField, IsUsual}
use Rattle.wire_values.proofs.Decisions.{Decided, decided_by, both_decided, either_decided, same_text, le_decided, same_decided, whole_le_decided, all_decided, spelling_decided}
use Rattle.wire_values.proofs.ApproachFacts.{approaches_decided}
use Rattle.wire_values.proofs.Named.{own, category_named, category_again, kind_named, kind_again, impact_named, impact_again, party_named, party_again, report_named, report_again, number_named, number_again}
use Rattle.wire_values.proofs.DateNames.{date_decided, optional_decided, completion_decided, a_day, a_day_limited, date_bytes}
use Rattle.wire_values.proofs.LetterFacts.{flags_read, flags_again}
use Rattle.wire_values.proofs.LimitFacts.{between_short}

-- ---- whether a text fits

letter_decided : (b : ℕ) → Decided (IsLetterOrDigit b)
letter_decided b = either_decided (both_decided (le_decided 65 b) (le_decided b 90)) (both_decided (le_decided 48 b) (le_decided b 57))

stroke_decided : (b : ℕ) → Decided (IsRunwayByte b)
stroke_decided b = either_decided (letter_decided b) (same_decided b 47)

word_byte_decided : (b : ℕ) → Decided (IsWordByte b)
word_byte_decided b =
    either_decided (both_decided (le_decided 65 b) (le_decided b 90)) (either_decided (both_decided (le_decided 97 b) (le_decided b 122))
    (either_decided (both_decided (le_decided 48 b) (le_decided b 57)) (either_decided (same_decided b 46) (same_decided b 95))))

-- a text of so many bytes of a kind
sized_decided : {P : ℕ → Type 0} → ((b : ℕ) → Decided (P b)) → (most : ℕ) (text : List ℕ) → Decided ((1 ≤ length text) × ((length text ≤ most) × All P text))
sized_decided each most text = both_decided (le_decided 1 (length text)) (both_decided (le_decided (length text) most) (all_decided each text))

field_id_decided : (text : List ℕ) → Decided (IsFieldId text)
field_id_decided text =
    decided_by (λ h. record { least = h.0; most = h.1.0; bytes = h.1.1 }) (λ (h : IsFieldId text). (h.least, (h.most, h.bytes))) (sized_decided letter_decided _ text)

runway_name_decided : (text : List ℕ) → Decided (IsRunwayName text)
runway_name_decided text =
    decided_by (λ h. record { least = h.0; most = h.1.0; bytes = h.1.1 }) (λ (h : IsRunwayName text). (h.least, (h.most, h.bytes))) (sized_decided stroke_decided _ text)

word_decided : (text : List ℕ) → Decided (IsWord text)
word_decided text =
    decided_by (λ h. record { least = h.0; most = h.1.0; bytes = h.1.1 }) (λ (h : IsWord text). (h.least, (h.most, h.bytes))) (sized_decided word_byte_decided _ text)

-- a whole number within limits of nine digits
number_decided : (low high : ℤ) → HasNineDigits low → HasNineDigits high → (text : List ℕ) → Decided ((z : ℤ) × (text ≡ signed_decimal z) × IsBetween low high z)
number_decided low high p q text =
    let z : ℤ = number_named text in
    let back : (h : (z : ℤ) × (text ≡ signed_decimal z) × IsBetween low high z) → z ≡ h.0 =
    λ h. ap number_named h.1 ∙ number_again h.0 (between_short low high h.0 p q h.2) in
    decided_by (λ (h : (text ≡ signed_decimal z) × ((low ≤ℤ z) × (z ≤ℤ high))). (z, h.0, h.1))
    (λ (h : (z : ℤ) × (text ≡ signed_decimal z) × IsBetween low high z). (h.1 ∙ ap signed_decimal (sym (back h)), subst (IsBetween low high) (sym (back h)) h.2))
    (both_decided (same_text text (signed_decimal z)) (both_decided (whole_le_decided low z) (whole_le_decided z high)))

mobile_short : (b : Bool) → HasNineDigits (if b then MOBILE_LIMIT else pos 0)
mobile_short true = omega (arith, ints)
mobile_short false = omega (arith, ints)

mobile_limit_short : (before : List ℕ) → HasNineDigits (mobile_limit before)
mobile_limit_short before = mobile_short (bytes_eq before (codes "private") || bytes_eq before (codes "water"))

is_name : (text : List ℕ) → ((text ≡ codes "-") → ⊥) → (on : Option (List ℕ)) → text ≡ name_text on → IsAirfieldName on → IsFieldId text
is_name text no_dash None e h = absurd (no_dash e)
is_name text no_dash (Some name) e h = subst IsFieldId (sym e) h

airfield_decided : (text : List ℕ) → Decided ((on : Option (List ℕ)) × (text ≡ name_text on) × IsAirfieldName on)
airfield_decided text = elim (same_text text (codes "-")) [
  | inl e ↦ inl (None, e, tt)
  | inr no_dash ↦ decided_by (λ (h : IsFieldId text). (Some text, refl, h))
      (λ (h : (on : Option (List ℕ)) × (text ≡ name_text on) × IsAirfieldName on). is_name text no_dash h.0 h.1 h.2) (field_id_decided text)
]

-- a count within limits
a_count : (low high : ℕ) (text : List ℕ) (z : ℤ) → text ≡ signed_decimal z → IsBetween (pos low) (pos high) z → (n : ℕ) × (text ≡ decimal n) × (low ≤ n) × (n ≤ high)
a_count low high text (pos n) e h = (n, e, omega (arith, ints, h), omega (arith, ints, h))
a_count low high text (negsuc n) e h = absurd (omega (arith, ints, h))

count_decided : (low high : ℕ) → low ≤ high → high < 1000000000 → (text : List ℕ) → Decided ((n : ℕ) × (text ≡ decimal n) × (low ≤ n) × (n ≤ high))
count_decided low high p q text =
    decided_by (λ (h : (z : ℤ) × (text ≡ signed_decimal z) × IsBetween (pos low) (pos high) z). a_count low high text h.0 h.1 h.2)
    (λ (h : (n : ℕ) × (text ≡ decimal n) × (low ≤ n) × (n ≤ high)). (pos h.0, h.1, (omega (arith, ints, h.2), omega (arith, ints, h.3))))
    (number_decided (pos low) (pos high) (omega (arith, ints, p, q), omega (arith, ints, p, q)) (omega (arith, ints, q), omega (arith, ints, q)) text)

-- one of two words
neither : (word : Bool → List ℕ) (text : List ℕ) → text ≢ word true → text ≢ word false → (b : Bool) → text ≢ word b
neither word text t f true = t
neither word text t f false = f

choice_decided : (word : Bool → List ℕ) (text : List ℕ) → Decided ((b : Bool) × (text ≡ word b))
choice_decided word text = elim (same_text text (word true)) [
  | inl e ↦ inl (true, e)
  | inr t ↦ elim (same_text text (word false)) [ inl e ↦ inl (false, e) | inr f ↦ inr (λ h. neither word text t f h.0 h.1) ]
]

pub fits_decided : (w : Wanted) → IsUsual w → (before text : List ℕ) → Decided (Fits w before text)
fits_decided (Spelled word) u before text = same_text text word
fits_decided (Between low high) u before text = number_decided low high u.0 u.1 text
fits_decided (Counted low high) u before text = count_decided low high u.0 u.1 text
fits_decided (Choice word) u before text = choice_decided word text
fits_decided FieldIdWanted u before text = field_id_decided text
fits_decided RunwayNameWanted u before text = runway_name_decided text
fits_decided WordWanted u before text = word_decided text
fits_decided CategoryWanted u before text = spelling_decided category_word category_named category_again text
fits_decided ApproachesWanted u before text = approaches_decided text
fits_decided KindWanted u before text = spelling_decided kind_word kind_named kind_again text
fits_decided MobileWanted u before text = number_decided (pos 0) (mobile_limit before) (omega (arith, ints)) (mobile_limit_short before) text
fits_decided FlagsWanted u before text = spelling_decided flags_text flags_read flags_again text
fits_decided AirfieldWanted u before text = airfield_decided text
fits_decided DateWanted u before text = date_decided text
fits_decided OptionalDateWanted u before text = optional_decided text
fits_decided CompletionWanted u before text = completion_decided (is_granted before) text
fits_decided ImpactWanted u before text = spelling_decided impact_word impact_named impact_again text
fits_decided PartyWanted u before text = spelling_decided party_word party_named party_again text
fits_decided ReportWanted u before text = spelling_decided report_word report_named report_again text

-- ---- what fits is short and plain

pub short_word : (word : List ℕ) → 1 ≤ length word → length word ≤ 16 → list_all is_field_byte word ≡ true → IsShortField word
short_word word some few e = record { least = some; most = few; bytes = AllPass-from_list_all is_field_byte word e }

letter_plain : (b : ℕ) → IsLetterOrDigit b → is_field_byte b ≡ true
letter_plain b (inl h) = grind (arith, nat_tests, h)
letter_plain b (inr h) = grind (arith, nat_tests, h)

stroke_plain : (b : ℕ) → IsRunwayByte b → is_field_byte b ≡ true
stroke_plain b (inl h) = letter_plain b h
stroke_plain b (inr e) = rw e refl

word_byte_plain : (b : ℕ) → IsWordByte b → is_field_byte b ≡ true
word_byte_plain b (inl h) = grind (arith, nat_tests, h)
word_byte_plain b (inr (inl h)) = grind (arith, nat_tests, h)
word_byte_plain b (inr (inr (inl h))) = grind (arith, nat_tests, h)
word_byte_plain b (inr (inr (inr (inl e)))) = rw e refl
word_byte_plain b (inr (inr (inr (inr e)))) = rw e refl

field_id_short : (text : List ℕ) → IsFieldId text → IsShortField text
field_id_short text h = record { least = h.least; most = omega (arith, h.most); bytes = All-weaker IsLetterOrDigit (λ b. is_field_byte b ≡ true) letter_plain text h.bytes }

category_short : (c : Category) → IsShortField (category_word c)
category_short categories.PublicUse = short_word _ (omega arith) (omega arith) refl
category_short categories.PublicBuilding = short_word _ (omega arith) (omega arith) refl
category_short categories.MilitaryBuilding = short_word _ (omega arith) (omega arith) refl
category_short categories.Federal = short_word _ (omega arith) (omega arith) refl
category_short categories.Dod = short_word _ (omega arith) (omega arith) refl
category_short categories.Procedure = short_word _ (omega arith) (omega arith) refl
category_short categories.OtherPrivate = short_word _ (omega arith) (omega arith) refl

approaches_short : (k : ApproachKind) (p : Option ApproachKind) → IsShortField (approaches_text k p)
approaches_short approaches.Visual None = short_word _ (omega arith) (omega arith) refl
approaches_short approaches.Visual (Some approaches.Visual) = short_word _ (omega arith) (omega arith) refl
approaches_short approaches.Visual (Some approaches.NonprecisionAbove) = short_word _ (omega arith) (omega arith) refl
approaches_short approaches.Visual (Some approaches.NonprecisionLow) = short_word _ (omega arith) (omega arith) refl
approaches_short approaches.Visual (Some approaches.Precision) = short_word _ (omega arith) (omega arith) refl
approaches_short approaches.NonprecisionAbove None = short_word _ (omega arith) (omega arith) refl
approaches_short approaches.NonprecisionAbove (Some approaches.Visual) = short_word _ (omega arith) (omega arith) refl
approaches_short approaches.NonprecisionAbove (Some approaches.NonprecisionAbove) = short_word _ (omega arith) (omega arith) refl
approaches_short approaches.NonprecisionAbove (Some approaches.NonprecisionLow) = short_word _ (omega arith) (omega arith) refl
approaches_short approaches.NonprecisionAbove (Some approaches.Precision) = short_word _ (omega arith) (omega arith) refl
approaches_short approaches.NonprecisionLow None = short_word _ (omega arith) (omega arith) refl
approaches_short approaches.NonprecisionLow (Some approaches.Visual) = short_word _ (omega arith) (omega arith) refl
approaches_short approaches.NonprecisionLow (Some approaches.NonprecisionAbove) = short_word _ (omega arith) (omega arith) refl
approaches_short approaches.NonprecisionLow (Some approaches.NonprecisionLow) = short_word _ (omega arith) (omega arith) refl
approaches_short approaches.NonprecisionLow (Some approaches.Precision) = short_word _ (omega arith) (omega arith) refl
approaches_short approaches.Precision None = short_word _ (omega arith) (omega arith) refl
approaches_short approaches.Precision (Some approaches.Visual) = short_word _ (omega arith) (omega arith) refl
approaches_short approaches.Precision (Some approaches.NonprecisionAbove) = short_word _ (omega arith) (omega arith) refl
approaches_short approaches.Precision (Some approaches.NonprecisionLow) = short_word _ (omega arith) (omega arith) refl
approaches_short approaches.Precision (Some approaches.Precision) = short_word _ (omega arith) (omega arith) refl

kind_short : (k : StructureKind) → IsShortField (kind_word k)
kind_short kinds.Object = short_word _ (omega arith) (omega arith) refl
kind_short kinds.Antenna = short_word _ (omega arith) (omega arith) refl
kind_short kinds.Interstate = short_word _ (omega arith) (omega arith) refl
kind_short kinds.Road = short_word _ (omega arith) (omega arith) refl
kind_short kinds.Private = short_word _ (omega arith) (omega arith) refl
kind_short kinds.Rail = short_word _ (omega arith) (omega arith) refl
kind_short kinds.Water = short_word _ (omega arith) (omega arith) refl

impact_short : (i : Option Impact) → IsShortField (impact_word i)
impact_short None = short_word _ (omega arith) (omega arith) refl
impact_short (Some impacts.NotSubstantial) = short_word _ (omega arith) (omega arith) refl
impact_short (Some impacts.Substantial) = short_word _ (omega arith) (omega arith) refl

party_short : (p : Party) → IsShortField (party_word p)
party_short parties.Sponsor = short_word _ (omega arith) (omega arith) refl
party_short parties.Commenter = short_word _ (omega arith) (omega arith) refl
party_short parties.LateComment = short_word _ (omega arith) (omega arith) refl

report_short : (r : ReportKind) → IsShortField (report_word r)
report_short reports.Review = short_word _ (omega arith) (omega arith) refl
report_short reports.Expiry = short_word _ (omega arith) (omega arith) refl
report_short reports.Airfields = short_word _ (omega arith) (omega arith) refl

choice_short : (word : Bool → List ℕ) → IsShortField (word true) → IsShortField (word false) → (b : Bool) → IsShortField (word b)
choice_short word t f true = t
choice_short word t f false = f

digit_plain : (n : ℕ) → is_field_byte (last_digit n) ≡ true
digit_plain n =
    let low : 45 ≤ last_digit n = omega arith in
    let high : last_digit n ≤ 122 = omega arith in
    grind (arith, nat_tests)

date_short : (d : Date) → IsShortField (date_text d)
date_short d = record { least = omega arith; most = omega arith; bytes = date_bytes (λ b. is_field_byte b ≡ true) digit_plain refl (year_of d.year) d.month d.day }

optional_short : (d : Option Date) → IsShortField (optional_date d)
optional_short None = short_word _ (omega arith) (omega arith) refl
optional_short (Some d) = date_short d

-- letters of flags, not more than `most`
abbrev AreLetters : ℕ → List ℕ → Type 0
AreLetters most letters = (length letters ≤ most) × All (λ b. is_field_byte b ≡ true) letters

marked_letters : (b : Bool) (letter most : ℕ) (others : List ℕ) → is_field_byte letter ≡ true → AreLetters most others → AreLetters (most + 1) (marked_text b (letter ∷ []) others)
marked_letters true letter most others e h = (omega (arith, h.0), All-cons (λ b. is_field_byte b ≡ true) letter others e h.1)
marked_letters false letter most others e h = (omega (arith, h.0), h.1)

letters_short : (letters : List ℕ) → AreLetters 6 letters → IsShortField (or_dash letters)
letters_short [] h = short_word _ (omega arith) (omega arith) refl
letters_short (l ∷ ls) h = record { least = omega arith; most = omega (arith, h.0); bytes = h.1 }

flags_short : (f : Flags) → IsShortField (flags_text f)
flags_short f =
    letters_short (flag_letters f) (marked_letters f.shielded 83 5 _ refl (marked_letters f.device 68 4 _ refl (marked_letters f.other_rule 82 3 _ refl
    (marked_letters f.increases 73 2 _ refl (marked_letters f.controlled 71 1 _ refl (marked_letters f.temporary 84 0 [] refl (omega arith, All-nil (λ b. is_field_byte b ≡ true))))))))

digits_plain : (ds : List ℕ) → AllDigits 10 ds → All (λ b. is_field_byte b ≡ true) ds
digits_plain [] p = All-nil (λ b. is_field_byte b ≡ true)
digits_plain (d ∷ ds) p =
    let h = digit_from_value d p.0 in
    let e : is_field_byte d ≡ true = grind (arith, nat_tests) in
    All-cons (λ b. is_field_byte b ≡ true) d ds e (digits_plain ds p.1)

decimal_short : (n : ℕ) → n < 1000000000 → (1 ≤ length (decimal n)) × ((length (decimal n) ≤ 9) × All (λ b. is_field_byte b ≡ true) (decimal n))
decimal_short n h =
    let small : n < 2 ^ 64 = omega (arith, h) in
    (omega (arith, decimal_nonempty n small), (length-decimal-le 9 n (omega arith) h small, digits_plain (decimal n) (digits_decimal own n small)))

number_short : (z : ℤ) → HasNineDigits z → IsShortField (signed_decimal z)
number_short (pos n) h = let d = decimal_short n (omega (arith, ints, h)) in record { least = d.0; most = omega (arith, d.1.0); bytes = d.1.1 }
number_short (negsuc n) h =
    let d = decimal_short (suc n) (omega (arith, ints, h)) in
    record { least = omega arith; most = omega (arith, d.1.0); bytes = All-cons (λ b. is_field_byte b ≡ true) 45 (decimal (suc n)) refl d.1.1 }

name_short : (on : Option (List ℕ)) → IsAirfieldName on → IsShortField (name_text on)
name_short None h = short_word _ (omega arith) (omega arith) refl
name_short (Some name) h = field_id_short name h

pub fits_short : (w : Wanted) → IsUsual w → (before text : List ℕ) → Fits w before text → IsShortField text
fits_short (Spelled word) u before text e = subst IsShortField (sym e) u
fits_short (Between low high) u before text h = subst IsShortField (sym h.1) (number_short h.0 (between_short low high h.0 u.0 u.1 h.2))
fits_short (Counted low high) u before text h = subst IsShortField (sym h.1) (number_short (pos h.0) (omega (arith, ints), omega (arith, ints, h.3, u.1)))
fits_short (Choice word) u before text h = subst IsShortField (sym h.1) (choice_short word u.0 u.1 h.0)
fits_short FieldIdWanted u before text h = field_id_short text h
fits_short RunwayNameWanted u before text h = record { least = h.least; most = omega (arith, h.most); bytes = All-weaker IsRunwayByte (λ b. is_field_byte b ≡ true) stroke_plain text h.bytes }
fits_short WordWanted u before text h = record { least = h.least; most = h.most; bytes = All-weaker IsWordByte (λ b. is_field_byte b ≡ true) word_byte_plain text h.bytes }
fits_short CategoryWanted u before text h = subst IsShortField (sym h.1) (category_short h.0)
fits_short ApproachesWanted u before text h = subst IsShortField (sym h.2) (approaches_short h.0 h.1)
fits_short KindWanted u before text h = subst IsShortField (sym h.1) (kind_short h.0)
fits_short MobileWanted u before text h =
    subst IsShortField (sym h.1) (number_short h.0 (between_short (pos 0) (mobile_limit before) h.0 (omega (arith, ints)) (mobile_limit_short before) h.2))
fits_short FlagsWanted u before text h = subst IsShortField (sym h.1) (flags_short h.0)
fits_short AirfieldWanted u before text h = subst IsShortField (sym h.1) (name_short h.0 h.2)
fits_short DateWanted u before text h = subst IsShortField (sym h.1) (date_short h.0)
fits_short OptionalDateWanted u before text h = subst IsShortField (sym h.1) (optional_short h.0)
fits_short CompletionWanted u before text h = subst IsShortField (sym h.1) (optional_short h.0)
fits_short ImpactWanted u before text h = subst IsShortField (sym h.1) (impact_short h.0)
fits_short PartyWanted u before text h = subst IsShortField (sym h.1) (party_short h.0)
fits_short ReportWanted u before text h = subst IsShortField (sym h.1) (report_short h.0)

-- ---- there is a text that fits

letter_a : IsLetterOrDigit 65
letter_a = inl (omega arith, omega arith)

no_less : (b : Bool) → pos 0 ≤ℤ (if b then MOBILE_LIMIT else pos 0)
no_less true = omega (arith, ints)
no_less false = omega (arith, ints)

abbrev IsCompletion : Bool → List ℕ → Type 0
IsCompletion granted text = (date : Option Date) × (text ≡ optional_date date) × IsAnyLimited date × (is_some date ≡ granted)

a_completion : (granted : Bool) → (text : List ℕ) × IsCompletion granted text
a_completion true = (date_text a_day, (Some a_day, refl, a_day_limited, refl))
a_completion false = (codes "-", (None, refl, tt, refl))

pub example : (before : List ℕ) (w : Wanted) → IsUsual w → (text : List ℕ) × Fits w before text
example before (Spelled word) u = (word, refl)
example before (Between low high) u = (signed_decimal low, (low, refl, (omega (arith, ints), u.2)))
example before (Counted low high) u = (decimal low, (low, refl, omega arith, u.0))
example before (Choice word) u = (word true, (true, refl))
example before FieldIdWanted u = (65 ∷ [], record { least = omega arith; most = omega arith; bytes = All-cons IsLetterOrDigit 65 [] letter_a (All-nil IsLetterOrDigit) })
example before RunwayNameWanted u = (65 ∷ [], record { least = omega arith; most = omega arith; bytes = All-cons IsRunwayByte 65 [] (inl letter_a) (All-nil IsRunwayByte) })
example before WordWanted u = (65 ∷ [], record { least = omega arith; most = omega arith; bytes = All-cons IsWordByte 65 [] (inl (omega arith, omega arith)) (All-nil IsWordByte) })
example before CategoryWanted u = (category_word categories.PublicUse, (categories.PublicUse, refl))
example before ApproachesWanted u = (approaches_text approaches.Visual None, (approaches.Visual, None, refl))
example before KindWanted u = (kind_word kinds.Object, (kinds.Object, refl))
example before MobileWanted u =
    (signed_decimal (pos 0), (pos 0, refl, (omega (arith, ints), no_less (bytes_eq before (codes "private") || bytes_eq before (codes "water")))))
example before FlagsWanted u =
    (codes "-", (record { shielded = false; device = false; other_rule = false; increases = false; controlled = false; temporary = false }, refl))
example before AirfieldWanted u = (codes "-", (None, refl, tt))
example before DateWanted u = (date_text a_day, (a_day, refl, a_day_limited))
example before OptionalDateWanted u = (codes "-", (None, refl, tt))
example before CompletionWanted u = a_completion (is_granted before)
example before ImpactWanted u = (codes "-", (None, refl))
example before PartyWanted u = (party_word parties.Sponsor, (parties.Sponsor, refl))
example before ReportWanted u = (report_word reports.Review, (reports.Review, refl))
