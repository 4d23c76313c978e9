-- The greatest height without a finding: it is one, and at most 499 feet.
use Rattle.std.proofs.Common.{◌≡◌, ℤ, pos, ◌+ℤ◌, ◌≤ℤ◌, ◌<ℤ◌, arith, true, false, cond, inl, inr, Option, Some, None, List, ◌++◌}
use Rattle.std.specs.Prelude.{IfSome, int_lt}
use Rattle.std.specs.List.{flat_map}
use Rattle.std.proofs.lemmas.Bool.{cases_Bool}
use Rattle.std.proofs.lemmas.Int.{ints, by_lt_z}
use Rattle.grid_exact.proofs.TestFacts.{lt_out}
use Rattle.airfields.specs.Sites.{IsSite, Site}
use Rattle.airfields.specs.declared.airfield.Airfield.{Airfield}
use Rattle.airfields.specs.declared.structure.StructureKind.{StructureKind}
use Rattle.airfields.specs.declared.structure.StructureKind.TheVariants as kinds
use Rattle.height_rules.specs.AboveGround.{height_excess, height_limit}
use Rattle.height_rules.specs.Heights.{allowance_of, notice_top, standards_top, top_raised_by}
use Rattle.height_rules.specs.declared.above_ground.TheConstants.{OBSTRUCTION_HEIGHT}
use Rattle.height_rules.specs.declared.heights.TheConstants.{PRIVATE_RAISED}
use Rattle.finding_lists.specs.declared.finding.Rule.TheVariants as rules
use Rattle.airfield_findings.specs.Entries.{entries, no_key, of_airfield}
use Rattle.oe_findings.specs.List.{notices_if_due}
use Rattle.oe_ceiling.specs.Ceilings.{at_height, IsCeiling, IsCeilingOf, IsClear}
use Rattle.oe_ceiling.proofs.Lowering.{no_excess, no_first}
use Rattle.oe_ceiling.proofs.ListsBelow.{clear_below}

-- ---- above 499 feet there is always a finding
not_lowered : (k : StructureKind) (mobile : ℤ) → pos 0 ≤ℤ mobile → pos 0 ≤ℤ top_raised_by k mobile
not_lowered kinds.Object m l = omega (arith, ints)
not_lowered kinds.Antenna m l = omega (arith, ints)
not_lowered kinds.Interstate m l = omega (arith, ints)
not_lowered kinds.Road m l = omega (arith, ints)
not_lowered kinds.Private m l = elim (cases_Bool (int_lt m PRIVATE_RAISED)) [ inl t ↦ rw t (omega (arith, ints)) | inr f ↦ rw f l ]
not_lowered kinds.Rail m l = omega (arith, ints)
not_lowered kinds.Water m l = l

top_above : (s : Site) (height : ℤ) → IsSite s → (s.terrain +ℤ height) ≤ℤ standards_top (at_height s height)
top_above s height site =
    let a : pos 0 ≤ℤ allowance_of s = not_lowered s.kind s.mobile site.mobile_least in
    elim s.flags.controlled as (λ b. (s.terrain +ℤ height) ≤ℤ cond b (s.terrain +ℤ height) (notice_top (at_height s height))) [
      | true ↦ omega (arith, ints)
      | false ↦ omega (arith, ints, a)
    ]

exceeded : (s : Site) (height : ℤ) → IsSite s → OBSTRUCTION_HEIGHT <ℤ height → height_excess (at_height s height) ≡ None → ⊥
exceeded s height site l h =
    let t : (s.terrain +ℤ height) ≤ℤ standards_top (at_height s height) = top_above s height site in
    let e : int_lt (height_limit s) (standards_top (at_height s height)) ≡ true = lt_out (height_limit s) (standards_top (at_height s height)) (omega (arith, ints, t, l)) in
    let k = rw e at h in cc

pub met_above : (airfields : List Airfield) (s : Site) (height : ℤ) → IsSite s → OBSTRUCTION_HEIGHT <ℤ height → IsClear airfields s height → ⊥
met_above airfields s height site l h =
    let at = at_height s height in
    let first = entries rules.H499 no_key (height_excess at) in
    let middle = flat_map (of_airfield at) airfields in
    exceeded s height site l (no_excess rules.H499 no_key (height_excess at) (no_first first middle (no_first (first ++ middle) (notices_if_due airfields at) h)))

-- ---- by halving
pub ceiling_at : (airfields : List Airfield) (s : Site) (height : ℤ) → pos 0 ≤ℤ height → IsClear airfields s height → (IsClear airfields s (height +ℤ pos 1) → ⊥) → IsCeiling airfields s height
ceiling_at airfields s height low clear met = record {
  not_negative = low;
  clear = clear;
  greatest = λ higher l c. met (clear_below airfields s (height +ℤ pos 1) higher (omega (arith, ints, l)) c);
}

pub at_most : (airfields : List Airfield) (s : Site) (height : ℤ) → IsSite s → IsCeiling airfields s height → height ≤ℤ OBSTRUCTION_HEIGHT
at_most airfields s height site h = by_lt_z OBSTRUCTION_HEIGHT height (λ l. absurd (met_above airfields s height site l h.clear)) (λ l. l)

pub not_negative : (airfields : List Airfield) (s : Site) (o : Option ℤ) → IsCeilingOf airfields s o → IfSome o (λ height. pos 0 ≤ℤ height)
not_negative airfields s None h = tt
not_negative airfields s (Some height) h = h.not_negative
