-- A finding is known by its entry, and a list by its entries.
use Rattle.std.proofs.Common.{arith, ℕ, ◌≡◌, List, [], ◌∷◌, map, Option, Some, None, All, refl, ap, sym, subst, ◌∙◌}
use Rattle.std.specs.Fmt.{decimal}
use Rattle.std.proofs.lemmas.Fmt.{decimal_injective}
use Rattle.std.proofs.lemmas.List.Elements.{All-head, All-tail}
use Rattle.finding_lists.specs.declared.finding.Rule.{Rule}
use Rattle.finding_lists.specs.declared.finding.SurfaceKey.{SurfaceKey}
use Rattle.finding_lists.specs.declared.finding.Finding.{Finding}
use Rattle.wire_values.specs.Words.{name_text}
use Rattle.wire_cursor.proofs.GroupFacts.{at}
use Rattle.wire_replies.specs.Entries.{airfield_text, surface_text, entry_text}
use Rattle.row_cases.specs.Entries.{extent_of, IsField, IsStrip, IsPart, HasExtent, IsEntry, field_word, surface_word}
use Rattle.row_cases.specs.declared.extent.Extent.{Extent}
use Rattle.row_cases.specs.declared.extent.Extent.TheVariants as extents
use Rattle.row_cases.proofs.RuleFacts.{one_rule, field_by, surface_by}
use Rattle.row_cases.proofs.EntryFacts.{entry_parts, strip_parts}

one_field : (a b : Option (List ℕ)) → IsField a → IsField b → name_text a ≡ name_text b → a ≡ b
one_field None b h k e = absurd h
one_field (Some a) None h k e = absurd k
one_field (Some a) (Some b) h k e = ap Some e

one_strip : (a b : Option (List ℕ)) → IsStrip a → IsStrip b → name_text a ≡ name_text b → a ≡ b
one_strip None b h k e = absurd h
one_strip (Some a) None h k e = absurd k
one_strip (Some a) (Some b) h k e = ap Some e

pub one_part : (least p q : ℕ) → IsPart least p → IsPart least q → decimal p ≡ decimal q → p ≡ q
one_part least p q h k e = decimal_injective p q (omega (arith, h.1)) (omega (arith, k.1)) e

made_key : Option (List ℕ) → Option (List ℕ) → ℕ → SurfaceKey
made_key field runway part = record { field = field; runway = runway; part = part }

same_key : (a b : SurfaceKey) → a.field ≡ b.field → a.runway ≡ b.runway → a.part ≡ b.part → made_key a.field a.runway a.part ≡ made_key b.field b.runway b.part
same_key a b f r p = cc

one_key : (x : Extent) (a b : SurfaceKey) → HasExtent x a → HasExtent x b → field_word x a ≡ field_word x b → surface_word x a ≡ surface_word x b → a ≡ b
unfolding made_key
one_key extents.Nowhere a b h k f s = same_key a b (h.0 ∙ sym k.0) (h.1 ∙ sym k.1) (h.2 ∙ sym k.2)
one_key extents.Whole a b h k f s = same_key a b (one_field a.field b.field h.0 k.0 f) (h.1 ∙ sym k.1) (h.2 ∙ sym k.2)
one_key extents.Strip a b h k f s = same_key a b (one_field a.field b.field h.0 k.0 f) (one_strip a.runway b.runway h.1 k.1 s) (h.2 ∙ sym k.2)
one_key (extents.StripPart least) a b h k f s =
    let parts = sym (strip_parts (surface_word (extents.StripPart least) a) a.runway least a.part h.1 h.2 refl) ∙ strip_parts (surface_word (extents.StripPart least) a) b.runway least b.part k.1 k.2 s in
    same_key a b (one_field a.field b.field h.0 k.0 f) (one_strip a.runway b.runway h.1 k.1 (at 0 parts)) (one_part least a.part b.part h.2 k.2 (at 1 parts))
one_key (extents.PadPart least) a b h k f s =
    same_key a b (one_field a.field b.field h.0 k.0 f) (h.1 ∙ sym k.1) (one_part least a.part b.part h.2 k.2 s)

made_finding : Rule → SurfaceKey → ℕ → Finding
made_finding rule key excess = record { rule = rule; key = key; excess = excess }

same_finding : (a b : Finding) → a.rule ≡ b.rule → a.key ≡ b.key → a.excess ≡ b.excess → made_finding a.rule a.key a.excess ≡ made_finding b.rule b.key b.excess
same_finding a b r k e = cc

-- keys of one rule
of_rule : (r s : Rule) (a b : SurfaceKey) → r ≡ s → HasExtent (extent_of r) a → HasExtent (extent_of s) b → airfield_text r a ≡ airfield_text s b → surface_text r a ≡ surface_text s b → a ≡ b
of_rule r s a b same h k f g =
    let k' : HasExtent (extent_of r) b = subst (λ x. HasExtent (extent_of x) b) (sym same) k in
    let f' : airfield_text r a ≡ airfield_text r b = subst (λ x. airfield_text r a ≡ airfield_text x b) (sym same) f in
    let g' : surface_text r a ≡ surface_text r b = subst (λ x. surface_text r a ≡ surface_text x b) (sym same) g in
    one_key (extent_of r) a b h k' (sym (field_by r a) ∙ f' ∙ field_by r b) (sym (surface_by r a) ∙ g' ∙ surface_by r b)

pub one_entry : (a b : Finding) → IsEntry a → IsEntry b → entry_text a ≡ entry_text b → a ≡ b
unfolding made_finding
one_entry a b h k e =
    let words = sym (entry_parts a h (entry_text a) refl) ∙ entry_parts b k (entry_text a) e in
    let rule = one_rule a.rule b.rule (at 0 words) in
    same_finding a b rule (of_rule a.rule b.rule a.key b.key rule h.place k.place (at 1 words) (at 2 words))
    (decimal_injective a.excess b.excess (omega (arith, h.small)) (omega (arith, k.small)) (at 3 words))

heads : {x y : List ℕ} {xs ys : List (List ℕ)} → x ∷ xs ≡ y ∷ ys → (x ≡ y) × (xs ≡ ys)
heads e = (cc, cc)

pub one_list : (a b : List Finding) → All IsEntry a → All IsEntry b → map entry_text a ≡ map entry_text b → a ≡ b
one_list [] [] h k e = refl
one_list [] (g ∷ gs) h k e = absurd (cc)
one_list (f ∷ fs) [] h k e = absurd (cc)
one_list (f ∷ fs) (g ∷ gs) h k e =
    let both = heads e in
    let first = one_entry f g (All-head IsEntry f fs h) (All-head IsEntry g gs k) both.0 in
    let rest = one_list fs gs (All-tail IsEntry f fs h) (All-tail IsEntry g gs k) both.1 in
    cc
