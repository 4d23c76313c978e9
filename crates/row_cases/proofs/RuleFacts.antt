-- Rules and their words.
use Rattle.std.proofs.Common.{arith, ℕ, ◌≡◌, ◌≢◌, List, codes, refl, ap, sym, ◌∙◌, if◌then◌else◌}
use Rattle.std.specs.Str.{bytes_eq}
use Rattle.finding_lists.specs.declared.finding.Rule.{Rule}
use Rattle.finding_lists.specs.declared.finding.Rule.TheVariants as rules
use Rattle.finding_lists.specs.declared.finding.SurfaceKey.{SurfaceKey}
use Rattle.wire_values.specs.Plainness.{IsShortField}
use Rattle.wire_values.proofs.FieldFacts.{short_word}
use Rattle.wire_replies.specs.Entries.{rule_word, airfield_text, surface_text}
use Rattle.row_cases.specs.Entries.{extent_of, field_word, surface_word}

-- a word that is that of no rule
pub no_rule : (word : List ℕ) → word ≢ codes "17a1" → word ≢ codes "17a2" → word ≢ codes "19a" → word ≢ codes "19b" → word ≢ codes "19c" → word ≢ codes "19d" → word ≢ codes "19e" → word ≢ codes "23p"
    → word ≢ codes "23a" → word ≢ codes "23t" → word ≢ codes "9a" → word ≢ codes "9b1" → word ≢ codes "9b2" → word ≢ codes "9b3" → word ≢ codes "9d" → word ≢ codes "9c-a"
    → word ≢ codes "9c-b1" → word ≢ codes "9c-b2" → word ≢ codes "9c-b3"
    → (rule : Rule) → word ≢ rule_word rule
no_rule word n0 n1 n2 n3 n4 n5 n6 n7 n8 n9 n10 n11 n12 n13 n14 n15 n16 n17 n18 rules.H499 = n0
no_rule word n0 n1 n2 n3 n4 n5 n6 n7 n8 n9 n10 n11 n12 n13 n14 n15 n16 n17 n18 rules.Near = n1
no_rule word n0 n1 n2 n3 n4 n5 n6 n7 n8 n9 n10 n11 n12 n13 n14 n15 n16 n17 n18 rules.Horizontal = n2
no_rule word n0 n1 n2 n3 n4 n5 n6 n7 n8 n9 n10 n11 n12 n13 n14 n15 n16 n17 n18 rules.Conical = n3
no_rule word n0 n1 n2 n3 n4 n5 n6 n7 n8 n9 n10 n11 n12 n13 n14 n15 n16 n17 n18 rules.Primary = n4
no_rule word n0 n1 n2 n3 n4 n5 n6 n7 n8 n9 n10 n11 n12 n13 n14 n15 n16 n17 n18 rules.Approach = n5
no_rule word n0 n1 n2 n3 n4 n5 n6 n7 n8 n9 n10 n11 n12 n13 n14 n15 n16 n17 n18 rules.Transition = n6
no_rule word n0 n1 n2 n3 n4 n5 n6 n7 n8 n9 n10 n11 n12 n13 n14 n15 n16 n17 n18 rules.PadPrimary = n7
no_rule word n0 n1 n2 n3 n4 n5 n6 n7 n8 n9 n10 n11 n12 n13 n14 n15 n16 n17 n18 rules.PadApproach = n8
no_rule word n0 n1 n2 n3 n4 n5 n6 n7 n8 n9 n10 n11 n12 n13 n14 n15 n16 n17 n18 rules.PadTransition = n9
no_rule word n0 n1 n2 n3 n4 n5 n6 n7 n8 n9 n10 n11 n12 n13 n14 n15 n16 n17 n18 rules.NoticeA = n10
no_rule word n0 n1 n2 n3 n4 n5 n6 n7 n8 n9 n10 n11 n12 n13 n14 n15 n16 n17 n18 rules.NoticeB1 = n11
no_rule word n0 n1 n2 n3 n4 n5 n6 n7 n8 n9 n10 n11 n12 n13 n14 n15 n16 n17 n18 rules.NoticeB2 = n12
no_rule word n0 n1 n2 n3 n4 n5 n6 n7 n8 n9 n10 n11 n12 n13 n14 n15 n16 n17 n18 rules.NoticeB3 = n13
no_rule word n0 n1 n2 n3 n4 n5 n6 n7 n8 n9 n10 n11 n12 n13 n14 n15 n16 n17 n18 rules.NoticeD = n14
no_rule word n0 n1 n2 n3 n4 n5 n6 n7 n8 n9 n10 n11 n12 n13 n14 n15 n16 n17 n18 rules.WayA = n15
no_rule word n0 n1 n2 n3 n4 n5 n6 n7 n8 n9 n10 n11 n12 n13 n14 n15 n16 n17 n18 rules.WayB1 = n16
no_rule word n0 n1 n2 n3 n4 n5 n6 n7 n8 n9 n10 n11 n12 n13 n14 n15 n16 n17 n18 rules.WayB2 = n17
no_rule word n0 n1 n2 n3 n4 n5 n6 n7 n8 n9 n10 n11 n12 n13 n14 n15 n16 n17 n18 rules.WayB3 = n18

-- a rule is known by its word

rule_named : List ℕ → Rule
rule_named word = if bytes_eq word (rule_word rules.H499) then rules.H499
    else if bytes_eq word (rule_word rules.Near) then rules.Near
    else if bytes_eq word (rule_word rules.Horizontal) then rules.Horizontal
    else if bytes_eq word (rule_word rules.Conical) then rules.Conical
    else if bytes_eq word (rule_word rules.Primary) then rules.Primary
    else if bytes_eq word (rule_word rules.Approach) then rules.Approach
    else if bytes_eq word (rule_word rules.Transition) then rules.Transition
    else if bytes_eq word (rule_word rules.PadPrimary) then rules.PadPrimary
    else if bytes_eq word (rule_word rules.PadApproach) then rules.PadApproach
    else if bytes_eq word (rule_word rules.PadTransition) then rules.PadTransition
    else if bytes_eq word (rule_word rules.NoticeA) then rules.NoticeA
    else if bytes_eq word (rule_word rules.NoticeB1) then rules.NoticeB1
    else if bytes_eq word (rule_word rules.NoticeB2) then rules.NoticeB2
    else if bytes_eq word (rule_word rules.NoticeB3) then rules.NoticeB3
    else if bytes_eq word (rule_word rules.NoticeD) then rules.NoticeD
    else if bytes_eq word (rule_word rules.WayA) then rules.WayA
    else if bytes_eq word (rule_word rules.WayB1) then rules.WayB1
    else if bytes_eq word (rule_word rules.WayB2) then rules.WayB2 else rules.WayB3

rule_again : (rule : Rule) → rule_named (rule_word rule) ≡ rule
unfolding rule_named
rule_again rules.H499 = refl
rule_again rules.Near = refl
rule_again rules.Horizontal = refl
rule_again rules.Conical = refl
rule_again rules.Primary = refl
rule_again rules.Approach = refl
rule_again rules.Transition = refl
rule_again rules.PadPrimary = refl
rule_again rules.PadApproach = refl
rule_again rules.PadTransition = refl
rule_again rules.NoticeA = refl
rule_again rules.NoticeB1 = refl
rule_again rules.NoticeB2 = refl
rule_again rules.NoticeB3 = refl
rule_again rules.NoticeD = refl
rule_again rules.WayA = refl
rule_again rules.WayB1 = refl
rule_again rules.WayB2 = refl
rule_again rules.WayB3 = refl

pub one_rule : (a b : Rule) → rule_word a ≡ rule_word b → a ≡ b
one_rule a b e = sym (rule_again a) ∙ ap rule_named e ∙ rule_again b

-- the words of rules are short and plain

pub rule_short : (rule : Rule) → IsShortField (rule_word rule)
rule_short rules.H499 = short_word _ (omega arith) (omega arith) refl
rule_short rules.Near = short_word _ (omega arith) (omega arith) refl
rule_short rules.Horizontal = short_word _ (omega arith) (omega arith) refl
rule_short rules.Conical = short_word _ (omega arith) (omega arith) refl
rule_short rules.Primary = short_word _ (omega arith) (omega arith) refl
rule_short rules.Approach = short_word _ (omega arith) (omega arith) refl
rule_short rules.Transition = short_word _ (omega arith) (omega arith) refl
rule_short rules.PadPrimary = short_word _ (omega arith) (omega arith) refl
rule_short rules.PadApproach = short_word _ (omega arith) (omega arith) refl
rule_short rules.PadTransition = short_word _ (omega arith) (omega arith) refl
rule_short rules.NoticeA = short_word _ (omega arith) (omega arith) refl
rule_short rules.NoticeB1 = short_word _ (omega arith) (omega arith) refl
rule_short rules.NoticeB2 = short_word _ (omega arith) (omega arith) refl
rule_short rules.NoticeB3 = short_word _ (omega arith) (omega arith) refl
rule_short rules.NoticeD = short_word _ (omega arith) (omega arith) refl
rule_short rules.WayA = short_word _ (omega arith) (omega arith) refl
rule_short rules.WayB1 = short_word _ (omega arith) (omega arith) refl
rule_short rules.WayB2 = short_word _ (omega arith) (omega arith) refl
rule_short rules.WayB3 = short_word _ (omega arith) (omega arith) refl

-- the airfield and the surface of an entry, by what its rule's key has

pub field_by : (rule : Rule) (key : SurfaceKey) → airfield_text rule key ≡ field_word (extent_of rule) key
field_by rules.H499 key = refl
field_by rules.Near key = refl
field_by rules.Horizontal key = refl
field_by rules.Conical key = refl
field_by rules.Primary key = refl
field_by rules.Approach key = refl
field_by rules.Transition key = refl
field_by rules.PadPrimary key = refl
field_by rules.PadApproach key = refl
field_by rules.PadTransition key = refl
field_by rules.NoticeA key = refl
field_by rules.NoticeB1 key = refl
field_by rules.NoticeB2 key = refl
field_by rules.NoticeB3 key = refl
field_by rules.NoticeD key = refl
field_by rules.WayA key = refl
field_by rules.WayB1 key = refl
field_by rules.WayB2 key = refl
field_by rules.WayB3 key = refl

pub surface_by : (rule : Rule) (key : SurfaceKey) → surface_text rule key ≡ surface_word (extent_of rule) key
surface_by rules.H499 key = refl
surface_by rules.Near key = refl
surface_by rules.Horizontal key = refl
surface_by rules.Conical key = refl
surface_by rules.Primary key = refl
surface_by rules.Approach key = refl
surface_by rules.Transition key = refl
surface_by rules.PadPrimary key = refl
surface_by rules.PadApproach key = refl
surface_by rules.PadTransition key = refl
surface_by rules.NoticeA key = refl
surface_by rules.NoticeB1 key = refl
surface_by rules.NoticeB2 key = refl
surface_by rules.NoticeB3 key = refl
surface_by rules.NoticeD key = refl
surface_by rules.WayA key = refl
surface_by rules.WayB1 key = refl
surface_by rules.WayB2 key = refl
surface_by rules.WayB3 key = refl
