-- What is gathered from airfields that come by one after another.
use Rattle.std.proofs.Common.{◌≡◌, ℕ, zero, suc, ◌+◌, ◌<◌, ◌≤◌, List, [], ◌∷◌, ◌++◌, ◌&&◌, ◌||◌, Bool, true, false, not, refl, sym, ap, ◌∙◌, arith, nat_eq, inl, inr, if◌then◌else◌, ◌⊎◌, get_or}
use Rattle.std.specs.Prelude.{nat_lt}
use Rattle.std.specs.List.{All, filter, flat_map}
use Rattle.std.proofs.lemmas.Bool.{and_parts, cases_Bool, not-true}
use Rattle.std.proofs.lemmas.List.{append-nil, append_assoc}
use Rattle.std.proofs.lemmas.List.Elements.{All-append, All-cons, All-filter, All-head, All-nil, All-tail, All-weaker, filter-append, filter_passes}
use Rattle.grid_exact.specs.declared.point.Point.{Point}
use Rattle.surface_tree.specs.Visits.{all_hits, hit_at, hits}
use Rattle.surface_tree.specs.declared.placed.Plot.{Plot}
use Rattle.surface_tree.proofs.Wholes.{all_hits_at}
use Rattle.airfields.specs.declared.airfield.Airfield.{Airfield}
use Rattle.finding_lists.specs.Orders.{merged_list}
use Rattle.airfield_findings.specs.Prepared.{airfield_of}
use Rattle.finding_lists.specs.declared.finding.Finding.{Finding}
use Rattle.airfield_findings.specs.declared.prepared.Prepared.{Prepared}
use Rattle.finding_lists.proofs.Merges.{merged_append}
use Rattle.oe_findings.specs.Screenings.{gathered_findings, is_small}

abbrev pub plot_of : Prepared → Plot
plot_of p = p.plot

-- ---- one airfield more
pub gathered_more : (f : Airfield → List Finding) (list : List Finding) (items more : List Prepared) → gathered_findings f list (items ++ more) ≡ gathered_findings f (gathered_findings f list items) more
gathered_more f list [] more = refl
gathered_more f list (p ∷ ps) more = gathered_more f (if is_small p then merged_list list (f (airfield_of p)) else list ++ f (airfield_of p)) ps more

small_one : (f : Airfield → List Finding) (list : List Finding) (p : Prepared) → is_small p ≡ true → gathered_findings f list (p ∷ []) ≡ merged_list list (f (airfield_of p))
small_one f list p e = rw e refl

large_one : (f : Airfield → List Finding) (list : List Finding) (p : Prepared) → is_small p ≡ false → gathered_findings f list (p ∷ []) ≡ list ++ f (airfield_of p)
large_one f list p e = rw e refl

pub small_next : (f : Airfield → List Finding) (list : List Finding) (items : List Prepared) (p : Prepared) → is_small p ≡ true → gathered_findings f list (items ++ p ∷ []) ≡ merged_list (gathered_findings f list items) (f (airfield_of p))
small_next f list items p e = gathered_more f list items (p ∷ []) ∙ small_one f (gathered_findings f list items) p e

pub large_next : (f : Airfield → List Finding) (list : List Finding) (items : List Prepared) (p : Prepared) → is_small p ≡ false → gathered_findings f list (items ++ p ∷ []) ≡ gathered_findings f list items ++ f (airfield_of p)
large_next f list items p e = gathered_more f list items (p ∷ []) ∙ large_one f (gathered_findings f list items) p e

-- ---- several of one size
pub all_large : (f : Airfield → List Finding) (list : List Finding) (ps : List Prepared) → All (λ p. is_small p ≡ false) ps → gathered_findings f list ps ≡ list ++ flat_map (λ p. f (airfield_of p)) ps
all_large f list [] h = sym (append-nil list)
all_large f list (p ∷ ps) h =
    let P : Prepared → Type 0 = λ q. is_small q ≡ false in
    rw (All-head P p ps h) (all_large f (list ++ f (airfield_of p)) ps (All-tail P p ps h) ∙ append_assoc list (f (airfield_of p)) (flat_map (λ q. f (airfield_of q)) ps))

pub all_small : (f : Airfield → List Finding) (list : List Finding) (ps : List Prepared) → All (λ p. is_small p ≡ true) ps → gathered_findings f list ps ≡ merged_list list (flat_map (λ p. f (airfield_of p)) ps)
all_small f list [] h = refl
all_small f list (p ∷ ps) h =
    let P : Prepared → Type 0 = λ q. is_small q ≡ true in
    rw (All-head P p ps h) (all_small f (merged_list list (f (airfield_of p))) ps (All-tail P p ps h) ∙ sym (merged_append list (f (airfield_of p)) (flat_map (λ q. f (airfield_of q)) ps)))

-- ---- a visit gives the large ones first

abbrev IsSized : Prepared → Type 0
IsSized p = (p.plot.level ≡ 5) ⊎ (p.plot.level ≡ 7)

abbrev large : Prepared → Bool
large p = not (is_small p)

none_pass : (q : Prepared → Bool) (ps : List Prepared) → All (λ p. q p ≡ false) ps → filter q ps ≡ []
none_pass q [] h = refl
none_pass q (p ∷ ps) h = rw (All-head (λ r. q r ≡ false) p ps h) (none_pass q ps (All-tail (λ r. q r ≡ false) p ps h))

all_pass : (q : Prepared → Bool) (ps : List Prepared) → All (λ p. q p ≡ true) ps → filter q ps ≡ ps
all_pass q [] h = refl
all_pass q (p ∷ ps) h = rw (All-head (λ r. q r ≡ true) p ps h) (ap (λ zs. p ∷ zs) (all_pass q ps (All-tail (λ r. q r ≡ true) p ps h)))

same_level : (n k : ℕ) → nat_eq n k ≡ true → n ≡ k
same_level n k h = grind (arith, h)

module _ (x : Point) (items : List Prepared) (sized : All IsSized items) where
  abbrev own : ℕ → List Prepared
  own k = filter (λ p. hit_at x k (plot_of p)) items

  own_level : (k : ℕ) → All (λ p. (p.plot.level ≡ k) × IsSized p) (own k)
  own_level k i d l =
      let t = and_parts (nat_eq (get_or (own k) i d).plot.level k) _ (filter_passes (λ p. hit_at x k (plot_of p)) items i d l) in
      (same_level (get_or (own k) i d).plot.level k t.0, All-filter (λ p. hit_at x k (plot_of p)) IsSized items sized i d l)

  small_at : (k : ℕ) → k ≤ 5 → All (λ p. is_small p ≡ true) (own k)
  small_at k l = All-weaker (λ p. (p.plot.level ≡ k) × IsSized p) (λ p. is_small p ≡ true) (λ p h. small_of p k l h.0 h.1) (own k) (own_level k) where
    small_of : (p : Prepared) (k : ℕ) → k ≤ 5 → p.plot.level ≡ k → IsSized p → is_small p ≡ true
    small_of p k l e (inl h) = rw h refl
    small_of p k l e (inr h) = absurd (omega (arith, e, h, l))

  large_at : (k : ℕ) → 5 < k → All (λ p. large p ≡ true) (own k)
  large_at k l = All-weaker (λ p. (p.plot.level ≡ k) × IsSized p) (λ p. large p ≡ true) (λ p h. large_of p k l h.0 h.1) (own k) (own_level k) where
    large_of : (p : Prepared) (k : ℕ) → 5 < k → p.plot.level ≡ k → IsSized p → large p ≡ true
    large_of p k l e (inl h) = absurd (omega (arith, e, h, l))
    large_of p k l e (inr h) = rw h refl

  low : (k : ℕ) → k ≤ 5 → All (λ p. is_small p ≡ true) (hits plot_of x k items)
  low zero l = small_at zero l
  low (suc k) l = All-append (λ p. is_small p ≡ true) (own (suc k)) (hits plot_of x k items) (small_at (suc k) l) (low k (omega (arith, l)))

  not_large : (ps : List Prepared) → All (λ p. is_small p ≡ true) ps → filter large ps ++ filter is_small ps ≡ ps
  not_large ps h =
      let n : filter large ps ≡ [] = none_pass large ps (All-weaker (λ p. is_small p ≡ true) (λ p. large p ≡ false) (λ p e. rw e refl) ps h) in
      rw (n, all_pass is_small ps h) refl

  front : (ahead rest : List Prepared) → All (λ p. large p ≡ true) ahead → filter large rest ++ filter is_small rest ≡ rest → filter large (ahead ++ rest) ++ filter is_small (ahead ++ rest) ≡ ahead ++ rest
  front ahead rest h e =
      let n : filter is_small ahead ≡ [] = none_pass is_small ahead (All-weaker (λ p. large p ≡ true) (λ p. is_small p ≡ false) (λ p k. not-true (is_small p) k) ahead h) in
      ap (λ zs. zs ++ filter is_small (ahead ++ rest)) (filter-append large ahead rest ∙ ap (λ zs. zs ++ filter large rest) (all_pass large ahead h))
      ∙ ap (λ zs. (ahead ++ filter large rest) ++ zs) (filter-append is_small ahead rest ∙ ap (λ zs. zs ++ filter is_small rest) n)
      ∙ append_assoc ahead (filter large rest) (filter is_small rest) ∙ ap (λ zs. ahead ++ zs) e

  in_runs : (k : ℕ) → filter large (hits plot_of x k items) ++ filter is_small (hits plot_of x k items) ≡ hits plot_of x k items
  in_runs zero = not_large (hits plot_of x zero items) (low zero (omega arith))
  in_runs (suc k) =
      elim (cases_Bool (nat_lt 5 (suc k))) [
        | inl y ↦ front (own (suc k)) (hits plot_of x k items) (large_at (suc k) (grind (arith, y))) (in_runs k)
        | inr n ↦ not_large (hits plot_of x (suc k) items) (low (suc k) (grind (arith, n)))
      ]

  pub runs_in_order : filter large (all_hits plot_of x items) ++ filter is_small (all_hits plot_of x items) ≡ all_hits plot_of x items
  runs_in_order = rw (sym (all_hits_at plot_of x 14 items refl)) (in_runs 14)
