-- Groups of fields: they are usual, they tell values, and values of one spelling are one.
use Rattle.std.proofs.Common.{arith, ℕ, ◌≡◌, ◌≤ℤ◌, ℤ, pos, neg_ℤ, List, [], ◌∷◌, Option, Bool, true, false, get_or, refl, ap, subst, ◌∙◌}
use Rattle.std.specs.Fmt.{signed_decimal}
use Rattle.std.proofs.lemmas.Int.{ints}
use lib.Dec.{T}
use lib.Signed.{le_z}
use Rattle.whole_number.specs.Whole.{HasNineDigits}
use Rattle.grid_exact.specs.Grid.{OnGrid}
use Rattle.grid_exact.specs.declared.point.Point.{Point}
use Rattle.grid_exact.specs.declared.point.TheConstants.{COORDINATE_LIMIT}
use Rattle.runway_classes.specs.declared.ApproachKind.{ApproachKind}
use Rattle.airfields.specs.Sites.{Site, IsSite, greatest_mobile}
use Rattle.airfields.specs.declared.limits.TheConstants.{ELEVATION_LEAST, ELEVATION_MOST}
use Rattle.airfields.specs.declared.structure.TheConstants.{HEIGHT_LIMIT}
use Rattle.airfields.specs.declared.structure.StructureKind.{StructureKind}
use Rattle.airfields.specs.declared.structure.Flags.{Flags}
use Rattle.airfields.specs.declared.runway.RunwayEnd.{RunwayEnd}
use Rattle.wire_values.specs.Words.{approaches_text, IsBetween}
use Rattle.wire_values.specs.Wanted.{Wanted, Between, ApproachesWanted, any_number, mobile_limit}
use Rattle.wire_values.specs.Plainness.{IsUsual}
use Rattle.wire_values.proofs.LetterFacts.{one_flags}
use Rattle.wire_values.proofs.LimitFacts.{between_short, mobile_short, limit_of_kind}
use Rattle.wire_values.proofs.ApproachFacts.{one_approaches}
use Rattle.wire_values.proofs.Named.{one_kind, one_number, one_name}
use Rattle.wire_cursor.specs.Groups.{coordinate, ground_wanted, height_wanted, site_shape, site_fields, IsValidSite}
use Rattle.wire_cursor.proofs.ShapeLaws.{AllUsual, Values, texts}

-- ---- the fields of the groups are usual

pub coordinate_usual : IsUsual coordinate
coordinate_usual = (omega (arith, ints), omega (arith, ints), omega (arith, ints))

pub number_usual : IsUsual any_number
number_usual = (omega (arith, ints), omega (arith, ints), omega (arith, ints))

pub terrain_usual : IsUsual ground_wanted
terrain_usual = (omega (arith, ints), omega (arith, ints), omega (arith, ints))

pub height_usual : IsUsual height_wanted
height_usual = (omega (arith, ints), omega (arith, ints), omega (arith, ints))

pub site_usual : AllUsual site_shape
site_usual = (coordinate_usual, (coordinate_usual, (terrain_usual, (height_usual, (tt, (tt, (tt, (tt, tt))))))))

-- those of an end of a runway before others
pub end_usual : (ws : List Wanted) → AllUsual ws → AllUsual (coordinate ∷ coordinate ∷ any_number ∷ ApproachesWanted ∷ ws)
end_usual ws u = (coordinate_usual, (coordinate_usual, (number_usual, (tt, u))))

-- ---- the values of some fields

unfoldable pub place : {x y : ℤ} → IsBetween (neg_ℤ COORDINATE_LIMIT) COORDINATE_LIMIT x → IsBetween (neg_ℤ COORDINATE_LIMIT) COORDINATE_LIMIT y → Point
place {x} {y} h k = record { x = x; y = y; on_grid = record { west = h.0; east = h.1; south = k.0; north = k.1 } }

-- the fields of a structure are those of a site
pub record SiteOf (fields : List (List ℕ)) : Type 0 where
  pub site : Site
  pub fields_are : fields ≡ site_fields site
  pub valid : IsValidSite site

pub site_of : (before : List ℕ) (v : Values before site_shape) → SiteOf (texts before site_shape v)
unfolding place
site_of before x =
    let y = x.1 in
    let terrain = y.1 in
    let height = terrain.1 in
    let kind = height.1 in
    let mobile = kind.1 in
    let flags = mobile.1 in
    let on = flags.1 in
    let most = subst (λ w. mobile.0.1.0 ≤ℤ mobile_limit w) kind.0.1.1 mobile.0.1.2.1 in
    record {
      site = record {
        at = place x.0.1.2 y.0.1.2;
        terrain = terrain.0.1.0;
        height = height.0.1.0;
        kind = kind.0.1.0;
        mobile = mobile.0.1.0;
        flags = flags.0.1.0;
        on = on.0.1.0;
      };
      fields_are = rw (x.0.1.1, y.0.1.1, terrain.0.1.1, height.0.1.1, kind.0.1.1, mobile.0.1.1, flags.0.1.1, on.0.1.1) refl;
      valid = (
        record {
          terrain_least = terrain.0.1.2.0;
          terrain_most = terrain.0.1.2.1;
          height_least = height.0.1.2.0;
          height_most = height.0.1.2.1;
          mobile_least = mobile.0.1.2.0;
          mobile_most = subst (λ m. mobile.0.1.0 ≤ℤ m) (limit_of_kind kind.0.1.0) most;
        },
        on.0.1.2,
      );
    }

-- ---- values of one spelling are one

-- a field of two equal lists
pub at : (i : ℕ) {xs ys : List (List ℕ)} → xs ≡ ys → get_or xs i [] ≡ get_or ys i []
at i e = ap (λ l. get_or l i []) e

-- two proofs of one limit are one
truth_prop : (b : Bool) (p q : T b) → p ≡ q
truth_prop true p q = refl
truth_prop false p q = absurd p

le_prop : (a b : ℤ) (p q : a ≤ℤ b) → p ≡ q
le_prop a b p q = ap (λ (t : T (le_z a b)). let r : a ≤ℤ b = record { le = t } in r) (truth_prop (le_z a b) p.le q.le)

grid_prop : (x y : ℤ) (p q : OnGrid x y) → p ≡ q
grid_prop x y p q = λ i. record {
  west = le_prop _ _ p.west q.west i;
  east = le_prop _ _ p.east q.east i;
  south = le_prop _ _ p.south q.south i;
  north = le_prop _ _ p.north q.north i;
}

made_point : (x y : ℤ) → OnGrid x y → Point
made_point x y g = record { x = x; y = y; on_grid = g }

one_place : (x y u v : ℤ) (g : OnGrid x y) (h : OnGrid u v) → x ≡ u → y ≡ v → made_point x y g ≡ made_point u v h
one_place x y u v g h p q =
    subst (λ u. (h : OnGrid u v) → made_point x y g ≡ made_point u v h) p
    (subst (λ v. (h : OnGrid x v) → made_point x y g ≡ made_point x v h) q (λ h. ap (made_point x y) (grid_prop x y g h))) h

pub one_point : (p q : Point) → signed_decimal p.x ≡ signed_decimal q.x → signed_decimal p.y ≡ signed_decimal q.y → p ≡ q
unfolding made_point
one_point p q e f =
    let px : HasNineDigits p.x = (let g = p.on_grid in omega (arith, ints)) in
    let qx : HasNineDigits q.x = (let g = q.on_grid in omega (arith, ints)) in
    let py : HasNineDigits p.y = (let g = p.on_grid in omega (arith, ints)) in
    let qy : HasNineDigits q.y = (let g = q.on_grid in omega (arith, ints)) in
    one_place p.x p.y q.x q.y p.on_grid q.on_grid (one_number p.x q.x px qx e) (one_number p.y q.y py qy f)

made_site : Point → (terrain height : ℤ) → StructureKind → ℤ → Flags → Option (List ℕ) → Site
made_site at terrain height kind mobile flags on = record { at = at; terrain = terrain; height = height; kind = kind; mobile = mobile; flags = flags; on = on }

same_site : (a b : Site) → a.at ≡ b.at → a.terrain ≡ b.terrain → a.height ≡ b.height → a.kind ≡ b.kind → a.mobile ≡ b.mobile → a.flags ≡ b.flags → a.on ≡ b.on
    → made_site a.at a.terrain a.height a.kind a.mobile a.flags a.on ≡ made_site b.at b.terrain b.height b.kind b.mobile b.flags b.on
same_site a b p t h k m f o = cc

-- the numbers of a structure have nine digits
record HasShortNumbers (s : Site) : Type 0 where
  terrain : HasNineDigits s.terrain
  height : HasNineDigits s.height
  mobile : HasNineDigits s.mobile

short_numbers : (s : Site) → IsSite s → HasShortNumbers s
short_numbers s h = record {
  terrain = omega (arith, ints, h.terrain_least, h.terrain_most);
  height = omega (arith, ints, h.height_least, h.height_most);
  mobile = between_short (pos 0) (greatest_mobile s.kind) s.mobile (omega (arith, ints)) (mobile_short s.kind) (h.mobile_least, h.mobile_most);
}

pub one_site : (a b : Site) → IsValidSite a → IsValidSite b → site_fields a ≡ site_fields b → a ≡ b
unfolding made_site
one_site a b h k e =
    let p = short_numbers a h.0 in
    let q = short_numbers b k.0 in
    same_site a b (one_point a.at b.at (at 0 e) (at 1 e)) (one_number a.terrain b.terrain p.terrain q.terrain (at 2 e))
    (one_number a.height b.height p.height q.height (at 3 e)) (one_kind a.kind b.kind (at 4 e)) (one_number a.mobile b.mobile p.mobile q.mobile (at 5 e))
    (one_flags a.flags b.flags (at 6 e)) (one_name a.on b.on h.1 k.1 (at 7 e))

made_end : Point → ℤ → ApproachKind → Option ApproachKind → RunwayEnd
made_end at z kind planned = record { at = at; z = z; kind = kind; planned = planned }

same_end : (a b : RunwayEnd) → a.at ≡ b.at → a.z ≡ b.z → a.kind ≡ b.kind → a.planned ≡ b.planned → made_end a.at a.z a.kind a.planned ≡ made_end b.at b.z b.kind b.planned
same_end a b p z k l = cc

pub one_end : (a b : RunwayEnd) → HasNineDigits a.z → HasNineDigits b.z → signed_decimal a.at.x ≡ signed_decimal b.at.x → signed_decimal a.at.y ≡ signed_decimal b.at.y
    → signed_decimal a.z ≡ signed_decimal b.z → approaches_text a.kind a.planned ≡ approaches_text b.kind b.planned → a ≡ b
unfolding made_end
one_end a b h k x y z w =
    let kinds = one_approaches a.kind b.kind a.planned b.planned w in
    same_end a b (one_point a.at b.at x y) (one_number a.z b.z h k z) kinds.0 kinds.1
