-- The derived tests of structures, runways and heliports say whether they are one.
use Rattle.std.proofs.Common.{◌≡◌, refl, ap, ℕ, Bool, List, Option, Some, None}
use Rattle.std.specs.Bool.{Decides}
use Rattle.std.specs.Option.{option_eq}
use Rattle.std.specs.Cmp.{booleans_Decides}
use Rattle.std.specs.Cmp.Lexicographic.{bytes_decides}
use Rattle.std.proofs.lemmas.Bool.Decides.{Decides-and, Decides-int_eq, Decides-like}
use denote.Enum.Bare.{same_true, true_same}
use Rattle.grid_exact.proofs.SamePoints.{same_point}
use Rattle.runway_classes.specs.contracts.ApproachKind.{the_type as approach_type}
use Rattle.runway_classes.specs.contracts.ApproachKindPartialEq.TheImpl.{eq-value as approach_eq}
use Rattle.runway_classes.specs.declared.ApproachKind.{ApproachKind}
use Rattle.airfields.specs.contracts.category.Category.{the_type as category_type}
use Rattle.airfields.specs.contracts.category.CategoryPartialEq.TheImpl.{eq-value as category_eq}
use Rattle.airfields.specs.contracts.structure.StructureKind.{the_type as kind_type}
use Rattle.airfields.specs.contracts.structure.FlagsPartialEq.TheImpl.{eq-value as flags_eq}
use Rattle.airfields.specs.contracts.structure.FilingPartialEq.TheImpl as filing
use Rattle.airfields.specs.contracts.names.FieldIdPartialEq.TheImpl.{eq-value as name_eq}
use Rattle.airfields.specs.contracts.runway.RunwayEndPartialEq.TheImpl.{eq-value as end_eq}
use Rattle.airfields.specs.contracts.runway.RunwayPartialEq.TheImpl.{eq-value as runway_eq}
use Rattle.airfields.specs.contracts.airfield.HeliportPartialEq.TheImpl.{eq-value as heliport_eq}
use Rattle.airfields.specs.declared.category.Category.{Category}
use Rattle.airfields.specs.declared.structure.Flags.{Flags}
use Rattle.airfields.specs.declared.runway.RunwayEnd.{RunwayEnd}
use Rattle.airfields.specs.declared.runway.Runway.{Runway}
use Rattle.airfields.specs.declared.airfield.Heliport.{Heliport}
use Rattle.airfields.specs.Sites.{Site}

-- the test of two options says whether they are one, where that of their values does
pub option_same : {A : Type 0} {E : A → A → Bool} → ((x y : A) → Decides (E x y) (x ≡ y)) → (o p : Option A) → Decides (option_eq E o p) (o ≡ p)
option_same h None None = (λ _. refl, λ _. refl)
option_same h None (Some y) = (λ e. cc, λ e. cc)
option_same h (Some x) None = (λ e. cc, λ e. cc)
option_same h (Some x) (Some y) = (λ e. ap Some ((h x y).0 e), λ e. (h x y).1 (let q : x ≡ y = cc in q))

pub same_name : (a b : List ℕ) → Decides (name_eq.it a b) (a ≡ b)
same_name a b = bytes_decides a b

-- ---- structures

one_flags : (a b : Flags) → a.shielded ≡ b.shielded → a.device ≡ b.device → a.other_rule ≡ b.other_rule → a.increases ≡ b.increases → a.controlled ≡ b.controlled → a.temporary ≡ b.temporary → a ≡ b
one_flags a b p q r s t u = λ i. record { shielded = p i; device = q i; other_rule = r i; increases = s i; controlled = t i; temporary = u i }

same_flags : (a b : Flags) → Decides (flags_eq.it a b) (a ≡ b)
same_flags a b =
    Decides-like _ (λ h. one_flags a b h.0 h.1.0 h.1.1.0 h.1.1.1.0 h.1.1.1.1.0 h.1.1.1.1.1)
    (λ e. (ap (λ f. f.shielded) e, (ap (λ f. f.device) e, (ap (λ f. f.other_rule) e, (ap (λ f. f.increases) e, (ap (λ f. f.controlled) e, ap (λ f. f.temporary) e))))))
    (Decides-and _ _ (booleans_Decides a.shielded b.shielded) (Decides-and _ _ (booleans_Decides a.device b.device) (Decides-and _ _ (booleans_Decides a.other_rule b.other_rule)
    (Decides-and _ _ (booleans_Decides a.increases b.increases) (Decides-and _ _ (booleans_Decides a.controlled b.controlled) (booleans_Decides a.temporary b.temporary))))))

one_site : (a b : Site) → a.at ≡ b.at → a.terrain ≡ b.terrain → a.height ≡ b.height → a.kind ≡ b.kind → a.mobile ≡ b.mobile → a.flags ≡ b.flags → a.on ≡ b.on → a ≡ b
one_site a b p t h k m f o = λ i. record { at = p i; terrain = t i; height = h i; kind = k i; mobile = m i; flags = f i; on = o i }

pub same_site : (a b : Site) → Decides (filing.ghosts.eq a b) (a ≡ b)
same_site a b =
    Decides-like _ (λ h. one_site a b h.0 h.1.0 h.1.1.0 h.1.1.1.0 h.1.1.1.1.0 h.1.1.1.1.1.0 h.1.1.1.1.1.1)
    (λ e. (ap (λ s. s.at) e, (ap (λ s. s.terrain) e, (ap (λ s. s.height) e, (ap (λ s. s.kind) e, (ap (λ s. s.mobile) e, (ap (λ s. s.flags) e, ap (λ s. s.on) e)))))))
    (Decides-and _ _ (same_point a.at b.at) (Decides-and _ _ (Decides-int_eq a.terrain b.terrain) (Decides-and _ _ (Decides-int_eq a.height b.height)
    (Decides-and _ _ (same_true kind_type tt a.kind b.kind, true_same kind_type a.kind b.kind) (Decides-and _ _ (Decides-int_eq a.mobile b.mobile)
    (Decides-and _ _ (same_flags a.flags b.flags) (option_same {E = name_eq.it} same_name a.on b.on)))))))

-- ---- runways and heliports

one_end : (a b : RunwayEnd) → a.at ≡ b.at → a.z ≡ b.z → a.kind ≡ b.kind → a.planned ≡ b.planned → a ≡ b
one_end a b p z k l = λ i. record { at = p i; z = z i; kind = k i; planned = l i }

same_kind : (a b : ApproachKind) → Decides (approach_eq.it a b) (a ≡ b)
same_kind a b = (same_true approach_type tt a b, true_same approach_type a b)

same_end : (a b : RunwayEnd) → Decides (end_eq.it a b) (a ≡ b)
same_end a b =
    Decides-like _ (λ h. one_end a b h.0 h.1.0 h.1.1.0 h.1.1.1) (λ e. (ap (λ x. x.at) e, (ap (λ x. x.z) e, (ap (λ x. x.kind) e, ap (λ x. x.planned) e))))
    (Decides-and _ _ (same_point a.at b.at) (Decides-and _ _ (Decides-int_eq a.z b.z)
    (Decides-and _ _ (same_kind a.kind b.kind) (option_same {E = approach_eq.it} same_kind a.planned b.planned))))

one_runway : (a b : Runway) → a.name ≡ b.name → a.utility ≡ b.utility → a.hard ≡ b.hard → a.end1 ≡ b.end1 → a.end2 ≡ b.end2 → a ≡ b
one_runway a b n u h p q = λ i. record { name = n i; utility = u i; hard = h i; end1 = p i; end2 = q i }

pub same_runway : (a b : Runway) → Decides (runway_eq.it a b) (a ≡ b)
same_runway a b =
    Decides-like _ (λ h. one_runway a b h.0 h.1.0 h.1.1.0 h.1.1.1.0 h.1.1.1.1)
    (λ e. (ap (λ x. x.name) e, (ap (λ x. x.utility) e, (ap (λ x. x.hard) e, (ap (λ x. x.end1) e, ap (λ x. x.end2) e)))))
    (Decides-and _ _ (bytes_decides a.name b.name) (Decides-and _ _ (booleans_Decides a.utility b.utility) (Decides-and _ _ (booleans_Decides a.hard b.hard)
    (Decides-and _ _ (same_end a.end1 b.end1) (same_end a.end2 b.end2)))))

one_heliport : (a b : Heliport) → a.id ≡ b.id → a.category ≡ b.category → a.a ≡ b.a → a.b ≡ b.b → a.width ≡ b.width → a.elevation ≡ b.elevation → a ≡ b
one_heliport a b n c p q w z = λ i. record { id = n i; category = c i; a = p i; b = q i; width = w i; elevation = z i }

pub same_category : (a b : Category) → Decides (category_eq.it a b) (a ≡ b)
same_category a b = (same_true category_type tt a b, true_same category_type a b)

pub same_heliport : (a b : Heliport) → Decides (heliport_eq.it a b) (a ≡ b)
same_heliport a b =
    Decides-like _ (λ h. one_heliport a b h.0 h.1.0 h.1.1.0 h.1.1.1.0 h.1.1.1.1.0 h.1.1.1.1.1)
    (λ e. (ap (λ x. x.id) e, (ap (λ x. x.category) e, (ap (λ x. x.a) e, (ap (λ x. x.b) e, (ap (λ x. x.width) e, ap (λ x. x.elevation) e))))))
    (Decides-and _ _ (same_name a.id b.id) (Decides-and _ _ (same_category a.category b.category) (Decides-and _ _ (same_point a.a b.a) (Decides-and _ _ (same_point a.b b.b)
    (Decides-and _ _ (Decides-int_eq a.width b.width) (Decides-int_eq a.elevation b.elevation))))))
