-- Each value of a field is read back from its spelling, so values of one spelling are one.
use Rattle.std.proofs.Common.{arith, ℕ, suc, ◌<◌, ◌^◌, ◌≡◌, ℤ, pos, negsuc, neg_ℤ, Bool, true, false, List, [], ◌∷◌, Option, Some, None, drop, get_or, refl, ap, sym, ◌∙◌, subst, codes, if◌then◌else◌, inl, inr}
use Rattle.std.specs.Fmt.{decimal, signed_decimal}
use Rattle.std.specs.Str.{bytes_eq}
use Rattle.std.specs.Str.Parse.{AllDigits, digits_value}
use Rattle.std.proofs.lemmas.Bool.Decides.{nat_tests}
use Rattle.std.proofs.lemmas.Int.{ints}
use Rattle.std.proofs.lemmas.Fmt.{digits_value-decimal, digits_decimal}
use Rattle.std.proofs.lemmas.Str.Parse.{IsNumeralModel, numerals_by_value, tells_digits, digit_from_value}
use Rattle.whole_number.specs.Whole.{HasNineDigits}
use Rattle.runway_classes.specs.declared.ApproachKind.{ApproachKind}
use Rattle.runway_classes.specs.declared.ApproachKind.TheVariants as approaches
use Rattle.airfields.specs.Names.{IsFieldId}
use Rattle.airfields.specs.declared.category.Category.{Category}
use Rattle.airfields.specs.declared.category.Category.TheVariants as categories
use Rattle.airfields.specs.declared.structure.StructureKind.{StructureKind}
use Rattle.airfields.specs.declared.structure.StructureKind.TheVariants as kinds
use Rattle.airfields.specs.declared.structure.Flags.{Flags}
use Rattle.case_requests.specs.declared.act.Impact.{Impact}
use Rattle.case_requests.specs.declared.act.Impact.TheVariants as impacts
use Rattle.case_requests.specs.declared.act.Party.{Party}
use Rattle.case_requests.specs.declared.act.Party.TheVariants as parties
use Rattle.wire_values.specs.Letters.{begins_with}
use Rattle.wire_values.specs.Words.{category_word, approach_word, kind_word, flags_text, name_text, IsAirfieldName, impact_word, party_word, report_word}
use Rattle.wire_values.specs.declared.report.ReportKind.{ReportKind}
use Rattle.wire_values.specs.declared.report.ReportKind.TheVariants as reports

-- ---- values of a list of words

pub category_named : List ℕ → Category
category_named word = if bytes_eq word (category_word categories.PublicUse) then categories.PublicUse
    else if bytes_eq word (category_word categories.PublicBuilding) then categories.PublicBuilding
    else if bytes_eq word (category_word categories.MilitaryBuilding) then categories.MilitaryBuilding
    else if bytes_eq word (category_word categories.Federal) then categories.Federal
    else if bytes_eq word (category_word categories.Dod) then categories.Dod
    else if bytes_eq word (category_word categories.Procedure) then categories.Procedure else categories.OtherPrivate

pub category_again : (c : Category) → category_named (category_word c) ≡ c
unfolding category_named
category_again categories.PublicUse = refl
category_again categories.PublicBuilding = refl
category_again categories.MilitaryBuilding = refl
category_again categories.Federal = refl
category_again categories.Dod = refl
category_again categories.Procedure = refl
category_again categories.OtherPrivate = refl

pub approach_named : List ℕ → ApproachKind
approach_named word = if bytes_eq word (approach_word approaches.Visual) then approaches.Visual
    else if bytes_eq word (approach_word approaches.NonprecisionAbove) then approaches.NonprecisionAbove
    else if bytes_eq word (approach_word approaches.NonprecisionLow) then approaches.NonprecisionLow else approaches.Precision

pub approach_again : (k : ApproachKind) → approach_named (approach_word k) ≡ k
unfolding approach_named
approach_again approaches.Visual = refl
approach_again approaches.NonprecisionAbove = refl
approach_again approaches.NonprecisionLow = refl
approach_again approaches.Precision = refl

pub kind_named : List ℕ → StructureKind
kind_named word = if bytes_eq word (kind_word kinds.Object) then kinds.Object
    else if bytes_eq word (kind_word kinds.Antenna) then kinds.Antenna
    else if bytes_eq word (kind_word kinds.Interstate) then kinds.Interstate
    else if bytes_eq word (kind_word kinds.Road) then kinds.Road
    else if bytes_eq word (kind_word kinds.Private) then kinds.Private
    else if bytes_eq word (kind_word kinds.Rail) then kinds.Rail else kinds.Water

pub kind_again : (k : StructureKind) → kind_named (kind_word k) ≡ k
unfolding kind_named
kind_again kinds.Object = refl
kind_again kinds.Antenna = refl
kind_again kinds.Interstate = refl
kind_again kinds.Road = refl
kind_again kinds.Private = refl
kind_again kinds.Rail = refl
kind_again kinds.Water = refl

pub impact_named : List ℕ → Option Impact
impact_named word = if bytes_eq word (impact_word None) then None
    else if bytes_eq word (impact_word (Some impacts.NotSubstantial)) then Some impacts.NotSubstantial else Some impacts.Substantial

pub impact_again : (i : Option Impact) → impact_named (impact_word i) ≡ i
unfolding impact_named
impact_again None = refl
impact_again (Some impacts.NotSubstantial) = refl
impact_again (Some impacts.Substantial) = refl

pub party_named : List ℕ → Party
party_named word = if bytes_eq word (party_word parties.Sponsor) then parties.Sponsor
    else if bytes_eq word (party_word parties.Commenter) then parties.Commenter else parties.LateComment

pub party_again : (p : Party) → party_named (party_word p) ≡ p
unfolding party_named
party_again parties.Sponsor = refl
party_again parties.Commenter = refl
party_again parties.LateComment = refl

pub report_named : List ℕ → ReportKind
report_named word = if bytes_eq word (report_word reports.Review) then reports.Review
    else if bytes_eq word (report_word reports.Expiry) then reports.Expiry else reports.Airfields

pub report_again : (r : ReportKind) → report_named (report_word r) ≡ r
unfolding report_named
report_again reports.Review = refl
report_again reports.Expiry = refl
report_again reports.Airfields = refl

-- ---- whole numbers

pub own : IsNumeralModel (AllDigits 10) (digits_value 10)
own = numerals_by_value (AllDigits 10) tells_digits

pub number_named : List ℕ → ℤ
number_named text = if begins_with 45 text then neg_ℤ (pos (digits_value 10 (drop 1 text))) else pos (digits_value 10 text)

no_minus : (ds : List ℕ) → AllDigits 10 ds → begins_with 45 ds ≡ false
no_minus [] p = refl
no_minus (d ∷ ds) p = let h = digit_from_value d p.0 in grind (arith, nat_tests)

pub number_again : (z : ℤ) → HasNineDigits z → number_named (signed_decimal z) ≡ z
unfolding number_named
number_again (pos n) h =
    let small : n < 2 ^ 64 = omega (arith, ints, h) in
    rw (no_minus (decimal n) (digits_decimal own n small), digits_value-decimal own n small) refl
number_again (negsuc n) h =
    let small : suc n < 2 ^ 64 = omega (arith, ints, h) in
    rw (digits_value-decimal own (suc n) small) refl

-- ---- values of one spelling

one : {T : Type 0} (word : T → List ℕ) (named : List ℕ → T) → ((t : T) → named (word t) ≡ t) → (a b : T) → word a ≡ word b → a ≡ b
one word named again a b e = sym (again a) ∙ ap named e ∙ again b

pub one_category : (a b : Category) → category_word a ≡ category_word b → a ≡ b
one_category = one category_word category_named category_again

pub one_approach : (a b : ApproachKind) → approach_word a ≡ approach_word b → a ≡ b
one_approach = one approach_word approach_named approach_again

-- a value that holds or does not
choice_again : (word : Bool → List ℕ) → bytes_eq (word true) (word true) ≡ true → bytes_eq (word false) (word true) ≡ false → (b : Bool) → bytes_eq (word b) (word true) ≡ b
choice_again word t f true = t
choice_again word t f false = f

pub one_choice : (word : Bool → List ℕ) → bytes_eq (word true) (word true) ≡ true → bytes_eq (word false) (word true) ≡ false → (a b : Bool) → word a ≡ word b → a ≡ b
one_choice word t f = one word (λ w. bytes_eq w (word true)) (choice_again word t f)

pub one_kind : (a b : StructureKind) → kind_word a ≡ kind_word b → a ≡ b
one_kind = one kind_word kind_named kind_again

pub one_impact : (a b : Option Impact) → impact_word a ≡ impact_word b → a ≡ b
one_impact = one impact_word impact_named impact_again

pub one_party : (a b : Party) → party_word a ≡ party_word b → a ≡ b
one_party = one party_word party_named party_again

pub one_report : (a b : ReportKind) → report_word a ≡ report_word b → a ≡ b
one_report = one report_word report_named report_again

pub one_number : (a b : ℤ) → HasNineDigits a → HasNineDigits b → signed_decimal a ≡ signed_decimal b → a ≡ b
one_number a b h k e = sym (number_again a h) ∙ ap number_named e ∙ number_again b k

pub one_count : (m n : ℕ) → m < 1000000000 → n < 1000000000 → decimal m ≡ decimal n → m ≡ n
one_count m n h k e = let same : pos m ≡ pos n = one_number (pos m) (pos n) (omega (arith, ints, h), omega (arith, ints, h)) (omega (arith, ints, k), omega (arith, ints, k)) e in cc

-- the name of an airfield is no dash
dash_is_none : IsFieldId (codes "-") → ⊥
dash_is_none h = elim (h.bytes 0 0 (omega arith)) [ inl p ↦ absurd (omega arith) | inr p ↦ absurd (omega arith) ]

no_dash : (name : List ℕ) → IsFieldId name → name ≡ codes "-" → ⊥
no_dash name h e = dash_is_none (subst IsFieldId e h)

pub one_name : (a b : Option (List ℕ)) → IsAirfieldName a → IsAirfieldName b → name_text a ≡ name_text b → a ≡ b
one_name None None h k e = refl
one_name None (Some b) h k e = absurd (no_dash b k (sym e))
one_name (Some a) None h k e = absurd (no_dash a h e)
one_name (Some a) (Some b) h k e = ap Some e
