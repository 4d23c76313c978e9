-- Rows have one reading, and none of those that are read is bad.
use Rattle.std.proofs.Common.{◌≡◌, sym, ap, ◌∙◌, subst, ℕ, zero, suc, List, [], ◌∷◌, Some, slice_get, take}
use Rattle.std.specs.FinMap as maps
use Rattle.std.proofs.lemmas.Option.{same_Some}
use Rattle.oe_keeper.specs.Kept.{Key, Kept}
use Rattle.desk_machine.specs.States.{State}
use Rattle.desk_tables.specs.Values.{Row, IsRowOf}
use Rattle.desk_tables.specs.Parts.{Part, IsNext, Reads, state_of, with_row}
use Rattle.desk_tables.specs.Opening.{IsFirstBad, Opens, is_first, layout_of, renewed, unread_of, with_wanting}
use Rattle.desk_tables.specs.declared.layout.Layout.{Layout}
use Rattle.desk_tables.proofs.RowFacts.{HaveOneValue, one_value}

module _ (one : HaveOneValue) where
  module _ (b : Layout) where
    one_reading : (rows : List Row) (p q t : Part) → Reads b p rows q → Reads b p rows t → q ≡ t
    one_reading [] p q t h k = sym h ∙ k
    one_reading (r ∷ rows) p q t h k =
        let same : h.0 ≡ k.0 = one_value one r h.0 k.0 h.1 k.1 in
        one_reading rows (with_row k.0 p) q t (subst (λ v. Reads b (with_row v p) rows q) same h.3) k.3

    none_bad : (rows : List Row) (i : ℕ) (r : Row) (p q t : Part) → slice_get rows i ≡ Some r → Reads b p (take i rows) t → Reads b p rows q
        → ((v : _) → IsRowOf r v → IsNext b t v → ⊥) → ⊥
    none_bad [] i r p q t at h k bad = absurd (cc (at))
    none_bad (x ∷ rows) zero r p q t at h k bad =
        bad k.0 (subst (λ (y : Row). IsRowOf y k.0) (same_Some x r at) k.1) (subst (λ (u : Part). IsNext b u k.0) h k.2)
    none_bad (x ∷ rows) (suc i) r p q t at h k bad =
        let same : h.0 ≡ k.0 = one_value one x h.0 k.0 h.1 k.1 in
        none_bad rows i r (with_row k.0 p) q t at (subst (λ v. Reads b (with_row v p) (take i rows) t) same h.3) k.3 bad

  pub one_desk : (s t : State) (kept : Kept) → Opens kept s → Opens kept t → s ≡ t
  one_desk s t kept h k =
      let rows = with_wanting (renewed kept) in
      h.state ∙ ap state_of (one_reading (layout_of (is_first kept) rows) (maps.entries rows) (unread_of rows) h.part k.part h.reads k.reads) ∙ sym k.state

  pub no_first_bad : (s : State) (kept : Kept) (k : Key) → Opens kept s → IsFirstBad kept k → ⊥
  no_first_bad s kept k h first =
      let rows = with_wanting (renewed kept) in
      let bad = first.at in
      none_bad (layout_of (is_first kept) rows) (maps.entries rows) first.place_of (k, bad.text) (unread_of rows) h.part bad.part bad.row bad.reads h.reads bad.bad
