-- Flags are known by their letters.
use Rattle.std.proofs.Common.{arith, ℕ, ◌≡◌, ◌≢◌, List, [], ◌∷◌, Bool, true, false, get_or, refl, ap, sym, ◌∙◌, codes}
use Rattle.std.specs.Prelude.{nat_eq}
use Rattle.std.proofs.lemmas.Bool.Decides.{nat_tests}
use Rattle.airfields.specs.declared.structure.Flags.{Flags}
use Rattle.wire_values.specs.Words.{marked_text, flag_letters, flags_text, or_dash}
use Rattle.wire_values.specs.Letters.{begins_with, letters_after, has_letter}

-- a letter is found first exactly where its flag stands, where no other is it
record IsSplit (l : ℕ) (b : Bool) (more letters : List ℕ) : Type 0 where
  first : begins_with l letters ≡ b
  rest : letters_after l letters ≡ more

same_letter : (l : ℕ) → nat_eq l l ≡ true
same_letter l = grind (arith, nat_tests)

split_marked : (l : ℕ) (b : Bool) (more : List ℕ) → begins_with l more ≡ false → IsSplit l b more (marked_text b (l ∷ []) more)
split_marked l true more h = let s : nat_eq l l ≡ true = same_letter l in record { first = s; rest = rw s refl }
split_marked l false more h = record { first = h; rest = rw h refl }

-- another letter is not the first
not_first : (k l : ℕ) (b : Bool) (more : List ℕ) → nat_eq l k ≡ false → begins_with k more ≡ false → begins_with k (marked_text b (l ∷ []) more) ≡ false
not_first k l true more d h = d
not_first k l false more d h = h

-- the flags that letters tell, each looked for in its order
pub flags_read : List ℕ → Flags
flags_read text =
    let device = letters_after 83 text in
    let other_rule = letters_after 68 device in
    let increases = letters_after 82 other_rule in
    let controlled = letters_after 73 increases in
    let temporary = letters_after 71 controlled in
    record {
      shielded = begins_with 83 text;
      device = begins_with 68 device;
      other_rule = begins_with 82 other_rule;
      increases = begins_with 73 increases;
      controlled = begins_with 71 controlled;
      temporary = begins_with 84 temporary;
    }

made_flags : (s d r i g t : Bool) → Flags
made_flags s d r i g t = record { shielded = s; device = d; other_rule = r; increases = i; controlled = g; temporary = t }

read_back : (s d r i g t : Bool) → flags_read (flag_letters (made_flags s d r i g t)) ≡ made_flags s d r i g t
unfolding flags_read made_flags
read_back s d r i g t =
    let t' : List ℕ = marked_text t (codes "T") [] in
    let g' : List ℕ = marked_text g (codes "G") t' in
    let i' : List ℕ = marked_text i (codes "I") g' in
    let r' : List ℕ = marked_text r (codes "R") i' in
    let d' : List ℕ = marked_text d (codes "D") r' in
    let six = split_marked 84 t [] refl in
    let five = split_marked 71 g t' (not_first 71 84 t [] refl refl) in
    let four = split_marked 73 i g' (not_first 73 71 g t' refl (not_first 73 84 t [] refl refl)) in
    let three = split_marked 82 r i' (not_first 82 73 i g' refl (not_first 82 71 g t' refl (not_first 82 84 t [] refl refl))) in
    let two = split_marked 68 d r' (not_first 68 82 r i' refl (not_first 68 73 i g' refl (not_first 68 71 g t' refl (not_first 68 84 t [] refl refl)))) in
    let one = split_marked 83 s d' (not_first 83 68 d r' refl (not_first 83 82 r i' refl (not_first 83 73 i g' refl (not_first 83 71 g t' refl (not_first 83 84 t [] refl refl))))) in
    rw (one.rest, two.rest, three.rest, four.rest, five.rest, one.first, two.first, three.first, four.first, five.first, six.first) refl

-- a dash tells no flag
read_dash : (letters : List ℕ) → flags_read (or_dash letters) ≡ flags_read letters
unfolding flags_read
read_dash [] = refl
read_dash (l ∷ ls) = refl

-- flags are read back from their text
pub flags_again : (f : Flags) → flags_read (flags_text f) ≡ f
unfolding made_flags
flags_again f = read_dash (flag_letters f) ∙ read_back f.shielded f.device f.other_rule f.increases f.controlled f.temporary

-- flags of one text are one
pub one_flags : (a b : Flags) → flags_text a ≡ flags_text b → a ≡ b
one_flags a b e = sym (flags_again a) ∙ ap flags_read e ∙ flags_again b

no_letters : (s d r i g t : Bool) → has_letter (made_flags s d r i g t) ≡ false → flag_letters (made_flags s d r i g t) ≡ []
unfolding made_flags
no_letters true _ _ _ _ _ e = absurd (cc)
no_letters false true _ _ _ _ e = absurd (cc)
no_letters false false true _ _ _ e = absurd (cc)
no_letters false false false true _ _ e = absurd (cc)
no_letters false false false false true _ e = absurd (cc)
no_letters false false false false false true e = absurd (cc)
no_letters false false false false false false e = refl

-- where no flag stands, the text is a dash
pub without_letters : (f : Flags) → has_letter f ≡ false → flags_text f ≡ codes "-"
unfolding made_flags
without_letters f e = ap or_dash (no_letters f.shielded f.device f.other_rule f.increases f.controlled f.temporary e)

some_letters : (s d r i g t : Bool) → has_letter (made_flags s d r i g t) ≡ true → or_dash (flag_letters (made_flags s d r i g t)) ≡ flag_letters (made_flags s d r i g t)
unfolding made_flags
some_letters true _ _ _ _ _ e = refl
some_letters false true _ _ _ _ e = refl
some_letters false false true _ _ _ e = refl
some_letters false false false true _ _ e = refl
some_letters false false false false true _ e = refl
some_letters false false false false false true e = refl
some_letters false false false false false false e = absurd (cc)

-- where one stands, the text is the letters
pub with_letters : (f : Flags) → has_letter f ≡ true → flags_text f ≡ flag_letters f
unfolding made_flags
with_letters f e = some_letters f.shielded f.device f.other_rule f.increases f.controlled f.temporary e
