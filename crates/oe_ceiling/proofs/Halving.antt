-- The search for a ceiling: each test halves what is left.
use Rattle.std.proofs.Common.{◌≡◌, ℕ, ◌+◌, ◌-◌, ◌*◌, ◌^◌, ◌<◌, ◌≤◌, ℤ, pos, ◌+ℤ◌, List, arith, ap, subst, sym, ◌∙◌}
use Rattle.std.proofs.Math.Pow.{pow-add}
use Rattle.std.proofs.lemmas.Int.{ints}
use Rattle.airfields.specs.Sites.{IsSite, Site}
use Rattle.airfields.specs.declared.airfield.Airfield.{Airfield}
use Rattle.oe_ceiling.specs.Ceilings.{IsCeiling, IsClear}
use Rattle.oe_ceiling.specs.Searches.{AreCounted, IsNarrowed}
use Rattle.oe_ceiling.specs.declared.search.TheConstants.{HALVINGS}
use Rattle.oe_ceiling.proofs.Heights.{ceiling_at, met_above}

double : (left : ℕ) → 0 < left → 2 ^ left ≡ 2 ^ (left - 1) + 2 ^ (left - 1)
double left p =
    let e : left ≡ left - 1 + 1 = omega arith in
    let q : 2 ^ left ≡ 2 ^ (left - 1) * 2 ^ 1 = ap (λ (k : ℕ). 2 ^ k) e ∙ pow-add 2 (left - 1) 1 in
    omega (arith, q)

pub at_start : (airfields : List Airfield) (s : Site) → IsSite s → IsClear airfields s (pos 0) → IsNarrowed airfields s HALVINGS (pos 0)
at_start airfields s site clear = record {
  few = omega arith;
  low = omega (arith, ints);
  high = omega (arith, ints);
  clear = clear;
  met = met_above airfields s (pos 0 +ℤ pos (2 ^ HALVINGS)) site (omega (arith, ints));
}

pub upper_half : (airfields : List Airfield) (s : Site) (left step : ℕ) (height : ℤ) → 0 < left → step ≡ 2 ^ (left - 1) → IsNarrowed airfields s left height → IsClear airfields s (height +ℤ pos step) →
    IsNarrowed airfields s (left - 1) (height +ℤ pos step)
upper_half airfields s left step height p e h clear =
    let d = double left p in
    let top : height +ℤ pos (2 ^ left) ≡ height +ℤ pos step +ℤ pos (2 ^ (left - 1)) = omega (arith, ints, d, e) in
    record {
      few = omega (arith, h.few);
      low = omega (arith, ints, h.low);
      high = omega (arith, ints, h.high, top);
      clear = clear;
      met = λ k. h.met (subst (IsClear airfields s) (sym top) k);
    }

pub lower_half : (airfields : List Airfield) (s : Site) (left step : ℕ) (height : ℤ) → 0 < left → step ≡ 2 ^ (left - 1) → IsNarrowed airfields s left height → (IsClear airfields s (height +ℤ pos step) → ⊥) →
    IsNarrowed airfields s (left - 1) height
lower_half airfields s left step height p e h met =
    let d = double left p in
    record {
      few = omega (arith, h.few);
      low = h.low;
      high = omega (arith, ints, h.high, d);
      clear = h.clear;
      met = λ k. met (rw e k);
    }

pub at_end : (airfields : List Airfield) (s : Site) (height : ℤ) → IsNarrowed airfields s 0 height → IsCeiling airfields s height
at_end airfields s height h = ceiling_at airfields s height h.low h.clear h.met

pub one_less : (limit start steps steps' left : ℕ) → 0 < left → steps' ≤ steps + limit → AreCounted limit start steps left → AreCounted limit start steps' (left - 1)
one_less limit start steps steps' left p l h =
    let e : left ≡ left - 1 + 1 = omega arith in
    let c : steps + (left - 1 + 1) * limit ≤ start + HALVINGS * limit = rw (← e) h.counted in
    record { counted = omega (arith, c, l) }
