-- The derived test of two findings says whether they are one.
use Rattle.std.proofs.Common.{◌≡◌, ℕ, List, Option, ap, ◌∙◌}
use Rattle.std.specs.Bool.{Decides}
use Rattle.std.specs.Cmp.Lexicographic.{bytes_decides}
use Rattle.std.proofs.lemmas.Bool.Decides.{Decides-and, Decides-eqb}
use denote.Enum.Bare.{same_true, true_same}
use Rattle.airfields.proofs.SameStructures.{option_same}
use Rattle.airfields.specs.contracts.names.FieldIdPartialEq.TheImpl.{eq-value as field_eq}
use Rattle.airfields.specs.contracts.names.RunwayNamePartialEq.TheImpl.{eq-value as runway_eq}
use Rattle.finding_lists.specs.contracts.finding.FindingPartialEq.TheImpl.{eq-value as finding_eq}
use Rattle.finding_lists.specs.contracts.finding.Rule.{the_type as rule_type}
use Rattle.finding_lists.specs.declared.finding.Finding.{Finding}
use Rattle.finding_lists.specs.declared.finding.Rule.{Rule}

abbrev made : Rule → Option (List ℕ) → Option (List ℕ) → ℕ → ℕ → Finding
made rule field runway part excess = record { rule = rule; key = record { field = field; runway = runway; part = part }; excess = excess }

same_parts : (a b : Finding) → a.rule ≡ b.rule → a.key.field ≡ b.key.field → a.key.runway ≡ b.key.runway → a.key.part ≡ b.key.part → a.excess ≡ b.excess → a ≡ b
same_parts a b p q r s t =
    ap (λ x. made x a.key.field a.key.runway a.key.part a.excess) p ∙ ap (λ x. made b.rule x a.key.runway a.key.part a.excess) q
    ∙ ap (λ x. made b.rule b.key.field x a.key.part a.excess) r ∙ ap (λ x. made b.rule b.key.field b.key.runway x a.excess) s ∙ ap (made b.rule b.key.field b.key.runway b.key.part) t

pub same_finding : (a b : Finding) → Decides (finding_eq.it a b) (a ≡ b)
same_finding a b =
    let name_decides = λ (x y : List ℕ). bytes_decides x y in
    let d = Decides-and _ _ (same_true rule_type tt a.rule b.rule, true_same rule_type a.rule b.rule)
    (Decides-and _ _ (Decides-and _ _ (option_same {E = field_eq.it} name_decides a.key.field b.key.field)
    (Decides-and _ _ (option_same {E = runway_eq.it} name_decides a.key.runway b.key.runway) (Decides-eqb a.key.part b.key.part)))
    (Decides-eqb a.excess b.excess)) in (
      λ e. let h = d.0 e in same_parts a b h.0 h.1.0.0 h.1.0.1.0 h.1.0.1.1 h.1.1,
      λ q. d.1 (ap (λ x. x.rule) q, ((ap (λ x. x.key.field) q, (ap (λ x. x.key.runway) q, ap (λ x. x.key.part) q)), ap (λ x. x.excess) q)),
    )
