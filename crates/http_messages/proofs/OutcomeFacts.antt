-- No two outcomes hold of the same bytes.
use Rattle.std.proofs.Common.{◌≡◌, ℕ, ◌≤◌, ◌⊎◌, List, [], ◌∷◌, ◌++◌, length, sym, ap, ◌∙◌, subst, arith, append_assoc, append-nil, inl, inr, length-append}
use Rattle.std.proofs.lemmas.List.{nil_from_length}
use Rattle.httparse.specs.Grammar.{RequestHead, ReadsRequest, print_request}
use Rattle.http_messages.specs.Heads.{IsTooLarge, IsGood, RefusesLarge, RefusesMalformed, open_head}
use Rattle.http_messages.proofs.HeadFacts.{two_fronts, goes_past}
use Rattle.http_messages.specs.declared.decision.TheConstants.{HEAD_LIMIT, MOST_FIELDS}

refused_at : (bytes : List ℕ) (x : RefusesLarge bytes) (y : RefusesMalformed bytes)
    → ((u : List ℕ) × (x.front ≡ y.front ++ u) × (u ++ x.rest ≡ y.rest)) ⊎ ((u : List ℕ) × (x.front ++ u ≡ y.front)) → ⊥
refused_at bytes x y (inl ([], e, f)) = (y.first y.front [] (sym (append-nil y.front))).0 (subst IsTooLarge (e ∙ append-nil y.front) x.large)
refused_at bytes x y (inl (b ∷ u, e, f)) = (x.first y.front (b ∷ u) e (omega arith)).0 y.hopeless
refused_at bytes x y (inr (u, e)) = (y.first x.front u (sym e)).0 x.large

pub refused_once : (bytes : List ℕ) → RefusesLarge bytes → RefusesMalformed bytes → ⊥
refused_once bytes x y = refused_at bytes x y (two_fronts x.front x.rest y.front y.rest (sym x.parts ∙ y.parts))

good_front : (h : RequestHead) (bytes rest : List ℕ) → ReadsRequest bytes h rest → length h.fields ≤ MOST_FIELDS → IsGood (print_request h)
good_front h bytes rest reads few = (h, (reads.0, sym (append-nil _)), few)

good_at : (bytes rest : List ℕ) (h : RequestHead) → ReadsRequest bytes h rest → length h.fields ≤ MOST_FIELDS
    → length (print_request h) ≤ HEAD_LIMIT → (x : RefusesLarge bytes)
    → ((u : List ℕ) × (print_request h ≡ x.front ++ u) × (u ++ rest ≡ x.rest)) ⊎ ((u : List ℕ) × (print_request h ++ u ≡ x.front))
    → IsTooLarge x.front → ⊥
good_at bytes rest h reads few small x (inl (u, e, f)) (inl crowded) =
    let over = goes_past h crowded.head crowded.byte u [] reads.0 crowded.good crowded.no_return crowded.no_feed
    (append-nil _ ∙ e ∙ ap (λ (t : List ℕ). t ++ u) crowded.bytes_are ∙ append_assoc (open_head crowded.head) (crowded.byte ∷ []) u) in
    omega (arith, over, crowded.full, few)
good_at bytes rest h reads few small x (inl (u, e, f)) (inr long) =
    let none : u ≡ [] = nil_from_length u (omega (arith, ap length e, length-append x.front u, long.0, small)) in
    long.1 (subst IsGood (e ∙ ap (λ (t : List ℕ). x.front ++ t) none ∙ append-nil x.front) (good_front h bytes rest reads few))
good_at bytes rest h reads few small x (inr ([], e)) (inl crowded) =
    let over = goes_past h crowded.head crowded.byte [] [] reads.0 crowded.good crowded.no_return crowded.no_feed
    (e ∙ crowded.bytes_are) in
    omega (arith, over, crowded.full, few)
good_at bytes rest h reads few small x (inr ([], e)) (inr long) = long.1 (subst IsGood (sym (append-nil _) ∙ e) (good_front h bytes rest reads few))
good_at bytes rest h reads few small x (inr (b ∷ u, e)) large = (x.first (print_request h) (b ∷ u) (sym e) (omega arith)).1
    (good_front h bytes rest reads few)

pub good_not_large : (bytes : List ℕ) (h : RequestHead) (rest : List ℕ) → ReadsRequest bytes h rest → length h.fields ≤ MOST_FIELDS
    → length (print_request h) ≤ HEAD_LIMIT → RefusesLarge bytes → ⊥
good_not_large bytes h rest reads few small x = good_at bytes rest h reads few small x (two_fronts (print_request h) rest x.front x.rest
    (sym reads.1 ∙ x.parts)) x.large

well_at : (bytes rest : List ℕ) (h : RequestHead) → ReadsRequest bytes h rest → length h.fields ≤ MOST_FIELDS → (x : RefusesMalformed bytes)
    → ((u : List ℕ) × (print_request h ≡ x.front ++ u) × (u ++ rest ≡ x.rest)) ⊎ ((u : List ℕ) × (print_request h ++ u ≡ x.front)) → ⊥
well_at bytes rest h reads few x (inl (u, e, f)) = x.hopeless.never u h (reads.0, sym e ∙ sym (append-nil _))
well_at bytes rest h reads few x (inr (u, e)) = (x.first (print_request h) u (sym e)).1 (good_front h bytes rest reads few)

pub good_not_malformed : (bytes : List ℕ) (h : RequestHead) (rest : List ℕ) → ReadsRequest bytes h rest → length h.fields ≤ MOST_FIELDS
    → RefusesMalformed bytes → ⊥
good_not_malformed bytes h rest reads few x = well_at bytes rest h reads few x (two_fronts (print_request h) rest x.front x.rest (sym reads.1
    ∙ x.parts))
