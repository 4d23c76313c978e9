-- Numbers within limits.
use Rattle.std.proofs.Common.{arith, w64, ℤ, ℕ, to_z, of_z, subst, pos, negsuc, ◌<ℤ◌, ◌≡◌, ◌≢◌, ◌^◌, ◌<◌, ◌≤◌, List, Some, refl, sym, ◌∙◌, FitsSigned}
use Rattle.std.specs.Fmt.{decimal, signed_decimal}
use Rattle.std.proofs.lemmas.Int.{ints, to_z-of_z}
use Rattle.whole_number.specs.Whole.{HasNineDigits}
use Rattle.airfields.specs.Sites.{greatest_mobile}
use Rattle.airfields.specs.declared.structure.StructureKind.{StructureKind}
use Rattle.airfields.specs.declared.structure.StructureKind.TheVariants as kinds
use Rattle.wire_values.specs.Words.{kind_word, IsBetween}
use Rattle.wire_values.specs.Wanted.{mobile_limit}
use Rattle.wire_values.proofs.Named.{one_number}

pub between_short : (low high z : ℤ) → HasNineDigits low → HasNineDigits high → IsBetween low high z → HasNineDigits z
between_short low high z p q h = omega (arith, ints)

-- a short number is kept whole
pub raw_short : (z : ℤ) → HasNineDigits z → to_z w64 (of_z w64 z) ≡ z
raw_short z h = let f : FitsSigned w64 z = omega (arith, ints) in to_z-of_z w64 z f

-- the limit of a mobile object's height, by the word of a kind
pub limit_of_kind : (k : StructureKind) → mobile_limit (kind_word k) ≡ greatest_mobile k
limit_of_kind kinds.Object = refl
limit_of_kind kinds.Antenna = refl
limit_of_kind kinds.Interstate = refl
limit_of_kind kinds.Road = refl
limit_of_kind kinds.Private = refl
limit_of_kind kinds.Rail = refl
limit_of_kind kinds.Water = refl

pub mobile_short : (k : StructureKind) → HasNineDigits (greatest_mobile k)
mobile_short kinds.Object = omega (arith, ints)
mobile_short kinds.Antenna = omega (arith, ints)
mobile_short kinds.Interstate = omega (arith, ints)
mobile_short kinds.Road = omega (arith, ints)
mobile_short kinds.Private = omega (arith, ints)
mobile_short kinds.Rail = omega (arith, ints)
mobile_short kinds.Water = omega (arith, ints)

-- no number within the limits is spelled where the one that is spelled is beyond them
pub below_limit : (low high z : ℤ) (text : List ℕ) → HasNineDigits low → HasNineDigits high → text ≡ signed_decimal z → HasNineDigits z → z <ℤ low
    → (y : ℤ) → IsBetween low high y → text ≢ signed_decimal y
below_limit low high z text p q e s t y b f =
    let k = one_number z y s (between_short low high y p q b) (sym e ∙ f) in let b' : IsBetween low high z = subst (IsBetween low high) (sym k) b in omega (arith, ints)

pub above_limit : (low high z : ℤ) (text : List ℕ) → HasNineDigits low → HasNineDigits high → text ≡ signed_decimal z → HasNineDigits z → high <ℤ z
    → (y : ℤ) → IsBetween low high y → text ≢ signed_decimal y
above_limit low high z text p q e s t y b f =
    let k = one_number z y s (between_short low high y p q b) (sym e ∙ f) in let b' : IsBetween low high z = subst (IsBetween low high) (sym k) b in omega (arith, ints)

-- no count within the limits is spelled where no number within them is
pub no_count : {low high : ℤ} (least most : ℕ) (text : List ℕ) → low ≡ pos least → high ≡ pos most
    → ((z : ℤ) → IsBetween low high z → text ≢ signed_decimal z) → (n : ℕ) → least ≤ n → n ≤ most → text ≢ decimal n
no_count least most text l m none n h k = none (pos n) (rw l (omega (arith, ints, h)), rw m (omega (arith, ints, k)))
