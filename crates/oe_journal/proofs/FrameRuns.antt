-- The frames of a file, one after another, and those of a file with the same front.
use Rattle.std.proofs.Common.{◌≡◌, ◌≢◌, inl, inr, ℕ, zero, suc, ◌+◌, ◌<◌, ◌≤◌, true, false, List, [], ◌∷◌, ◌++◌, length, get_or, take, drop, refl, sym, ap, subst, ◌∙◌, arith, length-drop}
use Rattle.std.specs.Int.{w64, from_be_bytes}
use Rattle.std.proofs.lemmas.Bool.{eqb-true, cases_Bool, and_parts, ltb-true, lt-ltb}
use Rattle.std.proofs.lemmas.List.{take-take, drop-take, drop-drop, get_or-take}
use Rattle.oe_journal.specs.Frames.{size_at, counts, payload, frames_after, extent_after, extent}

pub counts_true : (file : List ℕ) → counts file ≡ true → (get_or file 0 0 ≡ 1) × (9 + size_at file < length file)
unfolding counts
counts_true file h = let both = and_parts _ _ h in (eqb-true _ _ both.0, ltb-true _ _ both.1)

pub counts_is : (file : List ℕ) → get_or file 0 0 ≡ 1 → 9 + size_at file < length file → counts file ≡ true
unfolding counts
counts_is file gate long = rw (gate, lt-ltb _ _ long) refl

pub counts_not : (file : List ℕ) → (counts file ≡ true → ⊥) → counts file ≡ false
counts_not file h = elim (cases_Bool (counts file)) [ inl whole ↦ absurd (h whole) | inr shut ↦ shut ]

pub counts_nil : counts [] ≡ false
unfolding counts
counts_nil = refl

pub closed_gate : (file : List ℕ) → get_or file 0 0 ≢ 1 → counts file ≡ false
closed_gate file shut = counts_not file (λ h. shut (counts_true file h).0)

pub short_file : (file : List ℕ) → length file ≤ 9 → counts file ≡ false
short_file file short = counts_not file (λ h. let long = (counts_true file h).1 in absurd (omega arith))

pub size_same : (c d : List ℕ) → take 8 (drop 1 d) ≡ take 8 (drop 1 c) → size_at d ≡ size_at c
unfolding size_at
size_same c d same = ap (λ (l : List ℕ). from_be_bytes w64 l) same

-- ---- one frame, and the rest

frames_skip : (n at : ℕ) (xs : List ℕ) → frames_after n at xs ≡ frames_after 0 (at + n) (drop n xs)
unfolding frames_after
frames_skip zero at [] = refl
frames_skip (suc n) at [] = refl
frames_skip zero at (b ∷ rest) = let e : at ≡ at + 0 = omega arith in ap (λ (k : ℕ). frames_after 0 k (b ∷ rest)) e
frames_skip (suc n) at (b ∷ rest) = let e : at + 1 + n ≡ at + suc n = omega arith in frames_skip n (at + 1) rest ∙ ap (λ (k : ℕ). frames_after 0 k (drop n rest)) e

frames_step : (at s b : ℕ) (rest : List ℕ) → frames_after (8 + s) (at + 1) rest ≡ frames_after 0 (at + (9 + s)) (drop (9 + s) (b ∷ rest))
frames_step at s b rest =
    let p : at + 1 + (8 + s) ≡ at + (9 + s) = omega arith in
    let e : suc (8 + s) ≡ 9 + s = omega arith in
    let q : drop (8 + s) rest ≡ drop (9 + s) (b ∷ rest) = ap (λ (k : ℕ). drop k (b ∷ rest)) e in
    frames_skip (8 + s) (at + 1) rest ∙ (λ i. frames_after 0 (p i) (q i))

pub frames_counts : (at : ℕ) (file : List ℕ) → counts file ≡ true → frames_after 0 at file ≡ (at, payload file) ∷ frames_after 0 (at + (9 + size_at file)) (drop (9 + size_at file) file)
unfolding frames_after
frames_counts at [] h = absurd (let e = counts_nil in cc)
frames_counts at (b ∷ rest) h = rw h (ap (λ (l : List (ℕ × List ℕ)). (at, payload (b ∷ rest)) ∷ l) (frames_step at (size_at (b ∷ rest)) b rest))

pub frames_closed : (at : ℕ) (file : List ℕ) → counts file ≡ false → frames_after 0 at file ≡ []
unfolding frames_after
frames_closed at [] h = refl
frames_closed at (b ∷ rest) h = rw h refl

extent_skip : (n : ℕ) (xs : List ℕ) → n ≤ length xs → extent_after n xs ≡ n + extent_after 0 (drop n xs)
unfolding extent_after
extent_skip zero [] le = refl
extent_skip (suc n) [] le = absurd (omega arith)
extent_skip zero (b ∷ rest) le = omega arith
extent_skip (suc n) (b ∷ rest) le = let ih = extent_skip n rest (omega arith) in omega arith

extent_step : (s b : ℕ) (rest : List ℕ) → 8 + s ≤ length rest → 1 + extent_after (8 + s) rest ≡ 9 + s + extent_after 0 (drop (9 + s) (b ∷ rest))
extent_step s b rest le =
    let e : suc (8 + s) ≡ 9 + s = omega arith in
    let q : extent_after 0 (drop (8 + s) rest) ≡ extent_after 0 (drop (9 + s) (b ∷ rest)) = ap (λ (k : ℕ). extent_after 0 (drop k (b ∷ rest))) e in
    let ih = extent_skip (8 + s) rest le in
    omega arith

pub extent_counts : (file : List ℕ) → counts file ≡ true → extent file ≡ 9 + size_at file + extent (drop (9 + size_at file) file)
unfolding extent_after
extent_counts [] h = absurd (let e = counts_nil in cc)
extent_counts (b ∷ rest) h = let long = (counts_true (b ∷ rest) h).1 in rw h (extent_step (size_at (b ∷ rest)) b rest (omega arith))

pub extent_closed : (file : List ℕ) → counts file ≡ false → extent file ≡ 0
unfolding extent_after
extent_closed [] h = refl
extent_closed (b ∷ rest) h = rw h refl

-- ---- the end of the frames

pub extent_within : (n : ℕ) (file : List ℕ) → length file ≤ n → 0 < length file → extent file < length file
extent_within zero file le some = absurd (omega arith)
extent_within (suc n) file le some =
    elim (cases_Bool (counts file)) [
      | inr shut ↦ let e = extent_closed file shut in omega arith
      | inl whole ↦
          let long = (counts_true file whole).1 in
          let size = length-drop (9 + size_at file) file in
          let ih = extent_within n (drop (9 + size_at file) file) (omega arith) (omega arith) in
          let e = extent_counts file whole in
          omega arith
    ]

pub counts_no_more : (n : ℕ) (file : List ℕ) → length file ≤ n → counts (drop (extent file) file) ≡ false
counts_no_more zero file le = let size = length-drop (extent file) file in short_file (drop (extent file) file) (omega arith)
counts_no_more (suc n) file le =
    elim (cases_Bool (counts file)) [
      | inr shut ↦ subst (λ (k : ℕ). counts (drop k file) ≡ false) (sym (extent_closed file shut)) shut
      | inl whole ↦
          let long = (counts_true file whole).1 in
          let s = 9 + size_at file in
          let size = length-drop (9 + size_at file) file in
          let ih = counts_no_more n (drop (9 + size_at file) file) (omega arith) in
          subst (λ (k : ℕ). counts (drop k file) ≡ false) (sym (extent_counts file whole)) (subst (λ (l : List ℕ). counts l ≡ false) (drop-drop (extent (drop s file)) s file) ih)
    ]

-- ---- the same front

pub same_part : (m a b : ℕ) (c d : List ℕ) → take m d ≡ take m c → a + b ≤ m → take b (drop a d) ≡ take b (drop a c)
same_part m a b c d same le =
    sym (drop-take a b d) ∙ ap (λ (l : List ℕ). drop a l) (sym (take-take (a + b) m d le) ∙ ap (λ (l : List ℕ). take (a + b) l) same ∙ take-take (a + b) m c le) ∙ drop-take a b c

pub same_first : (m : ℕ) (c d : List ℕ) → take m d ≡ take m c → 0 < m → get_or d 0 0 ≡ get_or c 0 0
same_first m c d same lt = sym (get_or-take m d 0 0 lt) ∙ ap (λ (l : List ℕ). get_or l 0 0) same ∙ get_or-take m c 0 0 lt

pub record GoesOn (at : ℕ) (c d : List ℕ) : Type 0 where
  pub frames_are : frames_after 0 at d ≡ frames_after 0 at c ++ frames_after 0 (at + extent c) (drop (extent c) d)
  pub extent_is : extent d ≡ extent c + extent (drop (extent c) d)

front_closed : (at : ℕ) (c d : List ℕ) → counts c ≡ false → GoesOn at c d
front_closed at c d shut =
    let z = extent_closed c shut in
    let at_is : at ≡ at + extent c = omega arith in
    let behind : d ≡ drop (extent c) d = ap (λ (k : ℕ). drop k d) (sym z) in
    record {
      frames_are = (λ i. frames_after 0 (at_is i) (behind i)) ∙ ap (λ (l : List (ℕ × List ℕ)). l ++ frames_after 0 (at + extent c) (drop (extent c) d)) (sym (frames_closed at c shut));
      extent_is = let q : extent d ≡ extent (drop (extent c) d) = ap extent behind in omega arith;
    }

front_whole : (at : ℕ) (c d : List ℕ) → take (extent c) d ≡ take (extent c) c → (0 < extent c → extent c < length d) → counts c ≡ true
    → ((at_rest : ℕ) (x y : List ℕ) → length x < length c → take (extent x) y ≡ take (extent x) x → (0 < extent x → extent x < length y) → GoesOn at_rest x y) → GoesOn at c d
front_whole at c d same long whole go =
    let fact = counts_true c whole in
    let gate_one = fact.0 in
    let in_c = fact.1 in
    let s = 9 + size_at c in
    let rest = extent (drop s c) in
    let eq : extent c ≡ s + rest = extent_counts c whole in
    let p : take (s + rest) d ≡ take (s + rest) c = subst (λ (k : ℕ). take k d ≡ take k c) eq same in
    let lt : extent c < length d = long (omega arith) in
    let size : size_at d ≡ size_at c = size_same c d (same_part (s + rest) 1 8 c d p (omega arith)) in
    let gate : get_or d 0 0 ≡ get_or c 0 0 = same_first (s + rest) c d p (omega arith) in
    let is_open : counts d ≡ true = counts_is d (gate ∙ gate_one) (omega arith) in
    let pay : payload d ≡ payload c = ap (λ (k : ℕ). take k (drop 9 d)) size ∙ same_part (s + rest) 9 (size_at c) c d p (omega arith) in
    let len_c = length-drop s c in
    let len_d = length-drop s d in
    let ih = go (at + s) (drop s c) (drop s d) (omega arith) (same_part (s + rest) s rest c d p (omega arith)) (λ _. omega arith) in
    let deep : drop rest (drop s d) ≡ drop (extent c) d = drop-drop rest s d ∙ ap (λ (k : ℕ). drop k d) (sym eq) in
    let place : at + s + rest ≡ at + extent c = omega arith in
    record {
      frames_are =
          frames_counts at d is_open
          ∙ (λ i. (at, pay i) ∷ frames_after 0 (at + (9 + size i)) (drop (9 + size i) d))
          ∙ ap (λ (l : List (ℕ × List ℕ)). (at, payload c) ∷ l) (ih.frames_are ∙ (λ i. frames_after 0 (at + s) (drop s c) ++ frames_after 0 (place i) (deep i)))
          ∙ ap (λ (l : List (ℕ × List ℕ)). l ++ frames_after 0 (at + extent c) (drop (extent c) d)) (sym (frames_counts at c whole));
      extent_is =
          let one = extent_counts d is_open in
          let two : extent (drop (9 + size_at d) d) ≡ extent (drop s d) = ap (λ (k : ℕ). extent (drop (9 + k) d)) size in
          let three : extent (drop rest (drop s d)) ≡ extent (drop (extent c) d) = ap extent deep in
          let four = ih.extent_is in
          omega arith;
    }

-- a file whose front is all the frames of another has these frames, and then those of its rest
pub front : (n at : ℕ) (c d : List ℕ) → length c ≤ n → take (extent c) d ≡ take (extent c) c → (0 < extent c → extent c < length d) → GoesOn at c d
front zero at c d le same long = front_closed at c d (short_file c (omega arith))
front (suc n) at c d le same long =
    elim (cases_Bool (counts c)) [
      | inr shut ↦ front_closed at c d shut
      | inl whole ↦ front_whole at c d same long whole (λ at_rest x y lt s l. front n at_rest x y (omega arith) s l)
    ]
