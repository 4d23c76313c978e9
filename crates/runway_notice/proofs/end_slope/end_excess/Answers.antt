use Rattle.std.proofs.Common.{◌≡◌, ◌≤ℤ◌, ℕ, ℤ, Option, true, false, FitsSigned, w64, to_z-of_z, subst}
use Rattle.grid_exact.specs.Excess.{IsExcess, covering_surface}
use Rattle.grid_exact.proofs.ExcessLemmas.{IsExcess-covered}
use Rattle.grid_exact.proofs.TestFacts.{le_in}
use Rattle.runway_notice.specs.Distances.{IsAboveRootOf, IsAtLeastRootOf, run_of}
use Rattle.runway_notice.specs.EndSlopes.{end_surface, whole_fraction}
use Rattle.runway_notice.specs.Slopes.{ratio_of}
use Rattle.runway_notice.proofs.SlopeFacts.{not_over, ratio_rises}
use Rattle.runway_notice.proofs.end_slope.end_excess.Goals as goal

pub returns-then-top-base : goal.returns-then-top-base
returns-then-top-base c =
    let ft : FitsSigned w64 c.args.top = c.ranges.top in
    let fb : FitsSigned w64 c.args.base = c.ranges.base in
    let l : c.args.top ≤ℤ c.args.base = le_in c.args.top c.args.base (simp to_z-of_z at c.if-top-base.true) in
    λ p. not_over (whole_fraction c.args.square) (ratio_of c.args.sub) c.args.base c.args.top (ratio_rises c.args.sub) l p.1

pub returns-then-not-is_in_range : goal.returns-then-not-is_in_range
returns-then-not-is_in_range c =
    λ p. (let t : c.is_in_range.result ≡ true = c.is_in_range.ensures.range.1 p.0 in let f : c.is_in_range.result ≡ false = c.if-not-is_in_range.true in cc)

-- what the search says, of the slope from the end
abbrev IsOver : ℕ → ℤ → ℤ → ℤ → Option ℕ → Type 0
IsOver q ratio base top e = IsExcess (covering_surface (λ z. IsAboveRootOf (whole_fraction q) (run_of ratio base z)) (λ z. IsAtLeastRootOf (whole_fraction q) (run_of ratio base z))) top e

same_slope : (q q' : ℕ) (k k' b b' top : ℤ) (e : Option ℕ) → q ≡ q' → k ≡ k' → b ≡ b' → IsOver q k b top e → IsOver q' k' b' top e
same_slope q q' k k' b b' top e p r s h =
    subst (λ (y : ℤ). IsOver q' k' y top e) s (subst (λ (y : ℤ). IsOver q' y b top e) r (subst (λ (y : ℕ). IsOver y k b top e) p h))

pub returns : goal.returns
returns c =
    let s = c.slope.result in
    let ft : FitsSigned w64 c.args.top = c.ranges.top in
    let fb : FitsSigned w64 c.args.base = c.ranges.base in
    let h : IsOver s.square s.ratio s.base c.args.top c.excess.result = simp to_z-of_z at c.excess.ensures.excess in
    let b : s.base ≡ c.args.base = simp to_z-of_z at c.slope.ensures.base in
    IsExcess-covered (end_surface c.args.sub c.args.base c.args.square) c.args.top c.excess.result (c.is_in_range.ensures.range.0 c.if-not-is_in_range.false)
    (same_slope s.square c.args.square s.ratio (ratio_of c.args.sub) s.base c.args.base c.args.top c.excess.result c.slope.ensures.square c.slope.ensures.ratio b h)
