-- Entries and their words.
use Rattle.std.proofs.Common.{arith, ℕ, ◌≡◌, ◌==◌, ◌<◌, ◌^◌, true, false, List, [], ◌∷◌, ◌++◌, Option, Some, None, codes, refl, ap, sym, subst, ◌∙◌, append_assoc}
use Rattle.std.specs.List.{join_with_byte}
use Rattle.std.specs.Fmt.{decimal}
use Rattle.std.proofs.lemmas.List.Elements.{All-nil, All-cons, All-append}
use Rattle.std.proofs.lemmas.List.Splits.{slice_split_at, join_with_byte-slice_split}
use Rattle.airfields.specs.Names.{IsFieldId, IsRunwayName}
use Rattle.finding_lists.specs.declared.finding.SurfaceKey.{SurfaceKey}
use Rattle.finding_lists.specs.declared.finding.Finding.{Finding}
use Rattle.wire_values.specs.Words.{name_text}
use Rattle.wire_values.specs.Wanted.{Fits, FieldIdWanted, RunwayNameWanted}
use Rattle.wire_values.specs.Plainness.{is_field_byte}
use Rattle.wire_values.proofs.FieldFacts.{fits_short, short_word}
use Rattle.wire_replies.specs.Entries.{rule_word, airfield_text, surface_text, entry_text}
use Rattle.row_register.specs.Parts.{parts_of}
use Rattle.row_register.proofs.PartFacts.{only_part, pair_parts, parts_pair}
use Rattle.row_cases.specs.Entries.{extent_of, IsField, IsStrip, IsPart, HasExtent, IsEntry, field_word, surface_word, TellsEntry}
use Rattle.row_cases.specs.declared.extent.Extent.{Extent}
use Rattle.row_cases.specs.declared.extent.Extent.TheVariants as extents
use Rattle.row_cases.proofs.Plain.{Avoids, IsPlainText, plain_avoids, decimal_plain, decimal_undotted, runway_undotted}
use Rattle.row_cases.proofs.RuleFacts.{rule_short, field_by, surface_by}

-- ---- names

pub no_field : (text : List ℕ) → ((before : List ℕ) → Fits FieldIdWanted before text → ⊥) → (field : Option (List ℕ)) → IsField field → text ≡ name_text field → ⊥
no_field text h None f e = f
no_field text h (Some name) f e = h [] (subst IsFieldId (sym e) f)

pub no_strip : (text : List ℕ) → ((before : List ℕ) → Fits RunwayNameWanted before text → ⊥) → (runway : Option (List ℕ)) → IsStrip runway → text ≡ name_text runway → ⊥
no_strip text h None r e = r
no_strip text h (Some name) r e = h [] (subst IsRunwayName (sym e) r)

dash_plain : IsPlainText (codes "-")
dash_plain = (let h = short_word (codes "-") (omega arith) (omega arith) refl in h.bytes)

field_plain : (field : Option (List ℕ)) → IsField field → IsPlainText (name_text field)
field_plain None f = absurd f
field_plain (Some name) f = (let h = fits_short FieldIdWanted tt [] name f in h.bytes)

strip_plain : (runway : Option (List ℕ)) → IsStrip runway → IsPlainText (name_text runway)
strip_plain None r = absurd r
strip_plain (Some name) r = (let h = fits_short RunwayNameWanted tt [] name r in h.bytes)

strip_undotted : (runway : Option (List ℕ)) → IsStrip runway → Avoids 46 (name_text runway)
strip_undotted None r = absurd r
strip_undotted (Some name) r = runway_undotted name r

part_small : (least part : ℕ) → IsPart least part → part < 2 ^ 64
part_small least part h = omega (arith, h.1)

-- ---- a runway and its end or side

pub strip_parts : (text : List ℕ) (runway : Option (List ℕ)) (least part : ℕ) → IsStrip runway → IsPart least part → text ≡ name_text runway ++ codes "." ++ decimal part
    → parts_of 46 text ≡ name_text runway ∷ decimal part ∷ []
strip_parts text runway least part r p e =
    ap (parts_of 46) (e ∙ append_assoc (name_text runway) (codes ".") (decimal part)) ∙ pair_parts 46 (name_text runway) (decimal part) (strip_undotted runway r) (decimal_undotted part (part_small least part p))

dot_plain : IsPlainText (codes ".")
dot_plain = All-cons (λ b. is_field_byte b ≡ true) 46 [] refl (All-nil (λ b. is_field_byte b ≡ true))

strip_part_plain : (runway : Option (List ℕ)) (least part : ℕ) → IsStrip runway → IsPart least part → IsPlainText (name_text runway ++ codes "." ++ decimal part)
strip_part_plain runway least part r p =
    All-append (λ b. is_field_byte b ≡ true) (name_text runway ++ codes ".") (decimal part)
    (All-append (λ b. is_field_byte b ≡ true) (name_text runway) (codes ".") (strip_plain runway r) dot_plain) (decimal_plain part (part_small least part p))

-- and a text with these parts is theirs
pub parts_strip : (text runway : List ℕ) (part : ℕ) → parts_of 46 text ≡ runway ∷ decimal part ∷ [] → text ≡ runway ++ codes "." ++ decimal part
parts_strip text runway part e = parts_pair 46 text runway (decimal part) e ∙ sym (append_assoc runway (codes ".") (decimal part))

-- ---- the words of an entry are plain

field_word_plain : (x : Extent) (key : SurfaceKey) → HasExtent x key → IsPlainText (field_word x key)
field_word_plain extents.Nowhere key h = dash_plain
field_word_plain extents.Whole key h = field_plain key.field h.0
field_word_plain extents.Strip key h = field_plain key.field h.0
field_word_plain (extents.StripPart least) key h = field_plain key.field h.0
field_word_plain (extents.PadPart least) key h = field_plain key.field h.0

surface_word_plain : (x : Extent) (key : SurfaceKey) → HasExtent x key → IsPlainText (surface_word x key)
surface_word_plain extents.Nowhere key h = dash_plain
surface_word_plain extents.Whole key h = dash_plain
surface_word_plain extents.Strip key h = strip_plain key.runway h.1
surface_word_plain (extents.StripPart least) key h = strip_part_plain key.runway least key.part h.1 h.2
surface_word_plain (extents.PadPart least) key h = decimal_plain key.part (part_small least key.part h.2)

pub record ArePlainWords (f : Finding) : Type 0 where
  pub rule : IsPlainText (rule_word f.rule)
  pub field : IsPlainText (airfield_text f.rule f.key)
  pub surface : IsPlainText (surface_text f.rule f.key)
  pub excess : IsPlainText (decimal f.excess)

pub plain_words : (f : Finding) → IsEntry f → ArePlainWords f
plain_words f h = record {
  rule = (let s = rule_short f.rule in s.bytes);
  field = subst IsPlainText (sym (field_by f.rule f.key)) (field_word_plain (extent_of f.rule) f.key h.place);
  surface = subst IsPlainText (sym (surface_by f.rule f.key)) (surface_word_plain (extent_of f.rule) f.key h.place);
  excess = decimal_plain f.excess (omega (arith, h.small));
}

-- ---- four words with a space between each two

spaced : List ℕ → List ℕ → List ℕ → List ℕ → List ℕ
spaced a b c d = a ++ 32 ∷ (b ++ 32 ∷ (c ++ 32 ∷ d))

four_words : (a b c d : List ℕ) → a ++ codes " " ++ (b ++ codes " " ++ c) ++ codes " " ++ d ≡ spaced a b c d
unfolding spaced
four_words a b c d =
    let s = codes " " in
    let p = b ++ s ++ c in
    append_assoc (a ++ s ++ p) s d ∙ append_assoc (a ++ s) p (32 ∷ d) ∙ append_assoc a s (p ++ 32 ∷ d)
    ∙ ap (λ t. a ++ 32 ∷ t) (append_assoc (b ++ s) c (32 ∷ d) ∙ append_assoc b s (c ++ 32 ∷ d))

four_parts : (a b c d : List ℕ) → Avoids 32 a → Avoids 32 b → Avoids 32 c → Avoids 32 d → parts_of 32 (spaced a b c d) ≡ a ∷ b ∷ c ∷ d ∷ []
unfolding spaced
four_parts a b c d p q r s =
    slice_split_at (λ x. x == 32) a 32 (b ++ 32 ∷ (c ++ 32 ∷ d)) p refl
    ∙ ap (λ parts. a ∷ parts) (slice_split_at (λ x. x == 32) b 32 (c ++ 32 ∷ d) q refl
    ∙ ap (λ parts. b ∷ parts) (slice_split_at (λ x. x == 32) c 32 d r refl ∙ ap (λ parts. c ∷ parts) (only_part 32 d s)))

pub entry_parts : (f : Finding) → IsEntry f → (text : List ℕ) → text ≡ entry_text f
    → parts_of 32 text ≡ rule_word f.rule ∷ airfield_text f.rule f.key ∷ surface_text f.rule f.key ∷ decimal f.excess ∷ []
entry_parts f h text e =
    let w = plain_words f h in
    ap (parts_of 32) (e ∙ four_words (rule_word f.rule) (airfield_text f.rule f.key) (surface_text f.rule f.key) (decimal f.excess))
    ∙ four_parts _ _ _ _ (plain_avoids 32 (omega arith) _ w.rule) (plain_avoids 32 (omega arith) _ w.field) (plain_avoids 32 (omega arith) _ w.surface) (plain_avoids 32 (omega arith) _ w.excess)

pub parts_entry : (text a b c d : List ℕ) → parts_of 32 text ≡ a ∷ b ∷ c ∷ d ∷ [] → text ≡ a ++ codes " " ++ (b ++ codes " " ++ c) ++ codes " " ++ d
unfolding spaced
parts_entry text a b c d e = sym (join_with_byte-slice_split 32 text) ∙ ap (join_with_byte 32) e ∙ sym (four_words a b c d)

-- an entry has no comma and no line feed
pub entry_avoids : (c : ℕ) → c < 45 → (32 == c) ≡ false → (f : Finding) → IsEntry f → Avoids c (entry_text f)
unfolding spaced
entry_avoids c low apart f h =
    let w = plain_words f h in
    let P : ℕ → Type 0 = λ b. (b == c) ≡ false in
    let space : (rest : List ℕ) → Avoids c rest → Avoids c (32 ∷ rest) = λ rest k. All-cons P 32 rest apart k in
    subst (Avoids c) (sym (four_words (rule_word f.rule) (airfield_text f.rule f.key) (surface_text f.rule f.key) (decimal f.excess)))
    (All-append P _ _ (plain_avoids c low _ w.rule) (space _ (All-append P _ _ (plain_avoids c low _ w.field) (space _
    (All-append P _ _ (plain_avoids c low _ w.surface) (space _ (plain_avoids c low _ w.excess)))))))

-- ---- what reading tells

pub read_entry : (text a b c d : List ℕ) (f : Finding) → parts_of 32 text ≡ a ∷ b ∷ c ∷ d ∷ [] → TellsEntry a b c d f → text ≡ entry_text f
read_entry text a b c d f e h =
    let k = h.key in
    parts_entry text a b c d e
    ∙ rw (h.rule_is, k.field_is, k.surface_is, h.excess_is, field_by f.rule f.key, surface_by f.rule f.key) refl

pub whole_entry : (a b c d : List ℕ) (f : Finding) → TellsEntry a b c d f → IsEntry f
whole_entry a b c d f h = (let k = h.key in record { place = k.place; level = h.level; small = h.small })

heads : {x y : List ℕ} {xs ys : List (List ℕ)} → x ∷ xs ≡ y ∷ ys → (x ≡ y) × (xs ≡ ys)
heads e = (cc, cc)

pub tells_entry : (text a b c d : List ℕ) (f : Finding) → parts_of 32 text ≡ a ∷ b ∷ c ∷ d ∷ [] → IsEntry f → text ≡ entry_text f → TellsEntry a b c d f
tells_entry text a b c d f e h is =
    let same = sym e ∙ entry_parts f h text is in
    let first = heads same in
    let second = heads first.1 in
    let third = heads second.1 in
    let fourth = heads third.1 in
    record {
      rule_is = first.0;
      key = record { field_is = second.0 ∙ field_by f.rule f.key; surface_is = third.0 ∙ surface_by f.rule f.key; place = h.place };
      excess_is = fourth.0;
      level = h.level;
      small = h.small;
    }
