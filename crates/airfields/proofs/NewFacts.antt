-- A structure with new facts is within the limits of a filing exactly where the facts are.
use Rattle.std.specs.Prelude.{MatchResult}
use Rattle.std.proofs.Common.{◌≡◌, ◌≤ℤ◌, ℤ, pos, w64, to_z, of_z, arith, Result, Ok, Err, FitsSigned}
use Rattle.std.proofs.lemmas.Int.{ints, to_z-of_z}
use Rattle.airfields.specs.Sites.{AreFacts, IsSite, Site, greatest_mobile, revised_site, site}
use Rattle.airfields.specs.declared.structure.StructureKind.{StructureKind}
use Rattle.airfields.specs.declared.structure.StructureKind.TheVariants as kinds

most_mobile : (k : StructureKind) → greatest_mobile k ≤ℤ pos 1000
most_mobile kinds.Object = omega (arith, ints)
most_mobile kinds.Antenna = omega (arith, ints)
most_mobile kinds.Interstate = omega (arith, ints)
most_mobile kinds.Road = omega (arith, ints)
most_mobile kinds.Private = omega (arith, ints)
most_mobile kinds.Rail = omega (arith, ints)
most_mobile kinds.Water = omega (arith, ints)

-- the height of a mobile object is kept whole
pub mobile_whole : (s : Site) → IsSite s → to_z w64 (of_z w64 s.mobile) ≡ s.mobile
mobile_whole s h =
    let f : FitsSigned w64 s.mobile = omega (arith, ints, h.mobile_least, h.mobile_most, most_mobile s.kind) in
    to_z-of_z w64 s.mobile f

pub revised : {E : Type 0} (s : Site) (terrain height : ℤ) (r : Result Site E) → IsSite s
    → MatchResult r (λ f. f ≡ site s.at terrain height s.kind s.mobile s.flags s.on) (λ _. ¬ IsSite (site s.at terrain height s.kind s.mobile s.flags s.on))
    → MatchResult r (λ f. f ≡ revised_site s terrain height) (λ _. ¬ AreFacts terrain height)
revised s terrain height (Ok f) l e = e
revised s terrain height (Err x) l none = λ facts. none (record {
  terrain_least = facts.terrain_least;
  terrain_most = facts.terrain_most;
  height_least = facts.height_least;
  height_most = facts.height_most;
  mobile_least = l.mobile_least;
  mobile_most = l.mobile_most;
})
