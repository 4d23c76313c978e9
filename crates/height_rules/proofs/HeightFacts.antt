-- Tops within their limits, and the excess over one height.
use Rattle.std.proofs.Common.{◌≡◌, ℕ, ℤ, pos, ◌+ℤ◌, ◌≤ℤ◌, ◌^◌, ◌≤◌, FitsSigned, w64, to_z, of_z, to_z-of_z, arith, refl, sym, Option, true, false, inl, inr, int_lt, cond}
use Rattle.std.specs.Prelude.{⊤, IfSome}
use Rattle.std.proofs.lemmas.Bool.{cases_Bool}
use Rattle.std.proofs.lemmas.Int.{ints}
use Rattle.grid_exact.specs.Excess.{IsExcess, flat_surface, flat_excess_of}
use Rattle.grid_exact.specs.Level.{IsLevel}
use Rattle.grid_exact.proofs.ExcessLemmas.{flat_excess_of-is, flat_excess-IsExcess}
use Rattle.airfields.specs.Sites.{IsSite, Site, greatest_mobile}
use Rattle.airfields.specs.declared.filing.TheConstants.{MOBILE_LIMIT}
use Rattle.airfields.specs.declared.structure.StructureKind.{StructureKind}
use Rattle.airfields.specs.declared.structure.StructureKind.TheVariants as kinds
use Rattle.height_rules.specs.AboveGround.{height_excess, height_surface, notice_excess, notice_surface}
use Rattle.height_rules.specs.Heights.{allowance_of, notice_top, top_raised_by, standards_top}
use Rattle.height_rules.specs.declared.heights.TheConstants.{PRIVATE_RAISED, TOP_MOST}

-- the sum that the code makes of the ground, the height and an allowance a
pub three_parts : (s : Site) (a : ℤ) → IsSite s → pos 0 ≤ℤ a → a ≤ℤ MOBILE_LIMIT →
    to_z w64 (of_z w64 (to_z w64 (of_z w64 s.terrain) +ℤ to_z w64 (of_z w64 (to_z w64 (of_z w64 s.height) +ℤ to_z w64 (of_z w64 a))))) ≡ s.terrain +ℤ (s.height +ℤ a)
three_parts s a h low high =
    let fg : FitsSigned w64 s.terrain = omega (arith, ints, h.terrain_least, h.terrain_most) in
    let fh : FitsSigned w64 s.height = omega (arith, ints, h.height_least, h.height_most) in
    let fa : FitsSigned w64 a = omega (arith, ints, low, high) in
    let fs : FitsSigned w64 (s.height +ℤ a) = omega (arith, ints, h.height_least, h.height_most, low, high) in
    let ft : FitsSigned w64 (s.terrain +ℤ (s.height +ℤ a)) = omega (arith, ints, h.terrain_least, h.terrain_most, h.height_least, h.height_most, low, high) in
    simp to_z-of_z refl

-- ---- tops
-- a top is not below the ground
pub record IsTop (s : Site) (z : ℤ) : Type 0 where
  pub low : s.terrain ≤ℤ z
  pub high : z ≤ℤ TOP_MOST

pub record IsAllowance (z : ℤ) : Type 0 where
  pub low : pos 0 ≤ℤ z
  pub high : z ≤ℤ MOBILE_LIMIT

raised_size : (k : StructureKind) (m : ℤ) → pos 0 ≤ℤ m → m ≤ℤ greatest_mobile k → IsAllowance (top_raised_by k m)
raised_size kinds.Object m l h = record { low = omega (arith, ints); high = omega (arith, ints) }
raised_size kinds.Antenna m l h = record { low = omega (arith, ints); high = omega (arith, ints) }
raised_size kinds.Interstate m l h = record { low = omega (arith, ints); high = omega (arith, ints) }
raised_size kinds.Road m l h = record { low = omega (arith, ints); high = omega (arith, ints) }
raised_size kinds.Private m l h = elim (cases_Bool (int_lt m PRIVATE_RAISED)) [
  | inl t ↦ rw t (record { low = omega (arith, ints); high = omega (arith, ints) })
  | inr f ↦ rw f (record { low = omega (arith, ints, l); high = omega (arith, ints, h) })
]
raised_size kinds.Rail m l h = record { low = omega (arith, ints); high = omega (arith, ints) }
raised_size kinds.Water m l h = record { low = l; high = h }

pub notice_is_top : (s : Site) → IsSite s → IsTop s (notice_top s)
notice_is_top s h =
    let a : IsAllowance (allowance_of s) = raised_size s.kind s.mobile h.mobile_least h.mobile_most in
    record { low = omega (arith, ints, h.height_least, a.low); high = omega (arith, ints, h.terrain_most, h.height_most, a.high) }

pub standards_is_top : (s : Site) → IsSite s → IsTop s (standards_top s)
standards_is_top s h =
    elim s.flags.controlled as (λ b. IsTop s (cond b (s.terrain +ℤ s.height) (notice_top s))) [
      | true ↦ record { low = omega (arith, ints, h.height_least); high = omega (arith, ints, h.terrain_most, h.height_most) }
      | false ↦ notice_is_top s h
    ]

pub top_level : (s : Site) (z : ℤ) → IsSite s → IsTop s z → IsLevel z
top_level s z h t = record { low = omega (arith, ints, h.terrain_least, t.low); high = omega (arith, ints, t.high) }

-- ---- the excess over one height
pub flat_listed : (height top : ℤ) (r : Option ℕ) → IfSome r (λ e. e ≤ 2 ^ 26) → IsExcess (flat_surface ⊤ height) top r → r ≡ flat_excess_of true height top
flat_listed height top r size h = sym (flat_excess_of-is ⊤ true height top r (λ _. refl) (λ _. tt) size h)

-- over the ground at a site
flat_is : (s : Site) (height top : ℤ) → IsSite s → IsTop s top → pos 0 ≤ℤ height → IsExcess (flat_surface ⊤ (s.terrain +ℤ height)) top (flat_excess_of true (s.terrain +ℤ height) top)
flat_is s height top h t l = flat_excess-IsExcess ⊤ true (s.terrain +ℤ height) top (top_level s top h t) (omega (arith, ints, h.terrain_least, l)) (λ _. refl) (λ _. tt)

pub notice_excess_is : (s : Site) → IsSite s → IsExcess (notice_surface s) (notice_top s) (notice_excess s)
notice_excess_is s h = flat_is s _ (notice_top s) h (notice_is_top s h) (omega (arith, ints))

pub height_excess_is : (s : Site) → IsSite s → IsExcess (height_surface s) (standards_top s) (height_excess s)
height_excess_is s h = flat_is s _ (standards_top s) h (standards_is_top s h) (omega (arith, ints))
