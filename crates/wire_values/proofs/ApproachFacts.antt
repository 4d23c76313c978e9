-- The kinds of approaches of a runway end, read back from their text.
use Rattle.std.proofs.Common.{ℕ, ◌≡◌, ◌≢◌, List, [], ◌∷◌, ◌++◌, Option, Some, None, codes, refl, ap, sym, ◌∙◌, drop, if◌then◌else◌}
use Rattle.std.specs.Prelude.{nat_eq}
use Rattle.runway_classes.specs.declared.ApproachKind.{ApproachKind}
use Rattle.runway_classes.specs.declared.ApproachKind.TheVariants.{Visual, NonprecisionAbove, NonprecisionLow, Precision}
use Rattle.wire_values.specs.Letters.{begins_with}
use Rattle.wire_values.specs.Words.{approach_word, planned_text, approaches_text}
use Rattle.wire_values.specs.Wanted.{Fits, ApproachesWanted}
use Rattle.wire_values.proofs.Decisions.{Decided, decided_by, same_text}
use Rattle.wire_values.proofs.Named.{approach_named, approach_again}

-- ---- the kinds that a text names

-- the kind that it begins with, and what stands behind that kind's word
abbrev pub Front : Type 0
Front = ApproachKind × List ℕ

pub front_of : List ℕ → Front
front_of [] = (Visual, [])
front_of (b ∷ bs) = if nat_eq b 86 then (Visual, bs) else if nat_eq b 80 then (Precision, bs)
    else if begins_with 65 bs then (NonprecisionAbove, drop 1 bs) else (NonprecisionLow, drop 1 bs)

pub planned_named : List ℕ → Option ApproachKind
planned_named [] = None
planned_named (b ∷ bs) = Some (approach_named bs)

-- both kinds
abbrev pub Both : Type 0
Both = ApproachKind × Option ApproachKind

pub both_of : Front → Both
both_of f = (f.0, planned_named f.1)

pub approaches_named : List ℕ → Both
approaches_named text = both_of (front_of text)

pub approaches_again : (k : ApproachKind) (p : Option ApproachKind) → approaches_named (approaches_text k p) ≡ (k, p)
unfolding approaches_named front_of both_of planned_named
approaches_again Visual None = refl
approaches_again NonprecisionAbove None = refl
approaches_again NonprecisionLow None = refl
approaches_again Precision None = refl
approaches_again Visual (Some p) = ap (λ (k : ApproachKind). (Visual, Some k)) (approach_again p)
approaches_again NonprecisionAbove (Some p) = ap (λ (k : ApproachKind). (NonprecisionAbove, Some k)) (approach_again p)
approaches_again NonprecisionLow (Some p) = ap (λ (k : ApproachKind). (NonprecisionLow, Some k)) (approach_again p)
approaches_again Precision (Some p) = ap (λ (k : ApproachKind). (Precision, Some k)) (approach_again p)

-- kinds of one text are one
pub one_approaches : (a b : ApproachKind) (p q : Option ApproachKind) → approaches_text a p ≡ approaches_text b q → (a ≡ b) × (p ≡ q)
one_approaches a b p q e =
    let same : ◌≡◌ {A = Both} (a, p) (b, q) = sym (approaches_again a p) ∙ ap approaches_named e ∙ approaches_again b q in
    (ap (λ (t : Both). t.0) same, ap (λ (t : Both). t.1) same)

pub approaches_decided : (text : List ℕ) → Decided ((kind : ApproachKind) × (planned : Option ApproachKind) × (text ≡ approaches_text kind planned))
approaches_decided text =
    let named : Both = approaches_named text in
    decided_by (λ (e : text ≡ approaches_text named.0 named.1). (named.0, named.1, e))
    (λ (h : (kind : ApproachKind) × (planned : Option ApproachKind) × (text ≡ approaches_text kind planned)).
    h.2 ∙ ap (λ (t : Both). approaches_text t.0 t.1) (sym (ap approaches_named h.2 ∙ approaches_again h.0 h.1)))
    (same_text text (approaches_text named.0 named.1))

-- ---- what names no kinds

pub no_planned : (text : List ℕ) → text ≢ [] → ((k : ApproachKind) → text ≢ codes "/" ++ approach_word k) → (p : Option ApproachKind) → text ≢ planned_text p
no_planned text some none None = some
no_planned text some none (Some k) = none k

-- what stands behind a word is one
one_behind : (k : ApproachKind) (xs ys : List ℕ) → approach_word k ++ xs ≡ approach_word k ++ ys → xs ≡ ys
one_behind Visual xs ys e = cc
one_behind NonprecisionAbove xs ys e = cc
one_behind NonprecisionLow xs ys e = cc
one_behind Precision xs ys e = cc

pub not_behind : (text rest : List ℕ) (k : ApproachKind) → text ≡ approach_word k ++ rest → ((p : Option ApproachKind) → rest ≢ planned_text p)
    → (p : Option ApproachKind) → text ≢ approaches_text k p
not_behind text rest k is none p e = none p (one_behind k rest (planned_text p) (sym is ∙ e))

no_approaches_of : (text : List ℕ) → ((p : Option ApproachKind) → text ≢ approaches_text Visual p) → ((p : Option ApproachKind) → text ≢ approaches_text NonprecisionAbove p)
    → ((p : Option ApproachKind) → text ≢ approaches_text NonprecisionLow p) → ((p : Option ApproachKind) → text ≢ approaches_text Precision p)
    → (k : ApproachKind) (p : Option ApproachKind) → text ≢ approaches_text k p
no_approaches_of text v a l p Visual = v
no_approaches_of text v a l p NonprecisionAbove = a
no_approaches_of text v a l p NonprecisionLow = l
no_approaches_of text v a l p Precision = p

pub no_approaches : (text before : List ℕ) → ((p : Option ApproachKind) → text ≢ approaches_text Visual p) → ((p : Option ApproachKind) → text ≢ approaches_text NonprecisionAbove p)
    → ((p : Option ApproachKind) → text ≢ approaches_text NonprecisionLow p) → ((p : Option ApproachKind) → text ≢ approaches_text Precision p)
    → Fits ApproachesWanted before text → ⊥
no_approaches text before v a l p h = no_approaches_of text v a l p h.0 h.1 h.2
