use Rattle.std.proofs.Common.{sym, subst, ◌∙◌}
use Rattle.oe_sqlite.specs.Places.{IsBlankAt, IsFoundAt, IsPlacedBy, StaysAt}
use Rattle.oe_sqlite.proofs.Telling.{in_memory, placed_on}
use Rattle.oe_sqlite.specs.declared.place.Place.{Place}
use Rattle.oe_sqlite.proofs.keeper.StoreKeeper.load_untold.Goals as goal
use Rattle.oe_sqlite.proofs.keeper.StoreKeeper.load_untold.Goals.{in-Nowhere+in_ok-opened-in-Nowhere, in_default}

pub invariant_of-self-2 : goal.invariant_of-self-2
invariant_of-self-2 g c = record { held = ∣ c.in_ok-place.ensures.held ∣₁ }

pub returns-clause-file : goal.returns-clause-file
returns-clause-file g c nowhere some =
    let held = g.O.Opens.image c.args.self.now.opener in
    c.in_ok-place.ensures.found held (elim c.match-replace.branch [
      | in-Nowhere+in_ok-opened-in-Nowhere w ↦ subst (λ (p : Place _ _). IsFoundAt held p) (sym w.opened-is) (w.in_ok-opened-in-Nowhere.ensures.file some)
      | in_default w ↦ absurd (w.in_default.not-Nowhere (c.replace.ensures.value ∙ nowhere))
    ])

pub returns-clause-opened : goal.returns-clause-opened
returns-clause-opened g c nowhere =
    placed_on c.args.path c.match-replace.opened c.in_ok-place.place (elim c.match-replace.branch [
      | in-Nowhere+in_ok-opened-in-Nowhere w ↦ subst (λ (p : Place _ _). IsPlacedBy c.args.path p) (sym w.opened-is) w.in_ok-opened-in-Nowhere.ensures.placed
      | in_default w ↦ absurd (w.in_default.not-Nowhere (c.replace.ensures.value ∙ nowhere))
    ]) c.in_ok-place.ensures.placed

pub returns-clause-memory : goal.returns-clause-memory
returns-clause-memory g c nowhere none =
    let placed = elim c.match-replace.branch as (λ _. IsPlacedBy c.args.path c.match-replace.opened) [
      | in-Nowhere+in_ok-opened-in-Nowhere w ↦ subst (λ (p : Place _ _). IsPlacedBy c.args.path p) (sym w.opened-is) w.in_ok-opened-in-Nowhere.ensures.placed
      | in_default w ↦ absurd (w.in_default.not-Nowhere (c.replace.ensures.value ∙ nowhere))
    ] in
    let blank = elim c.match-replace.branch as (λ _. IsBlankAt c.match-replace.opened) [
      | in-Nowhere+in_ok-opened-in-Nowhere w ↦ subst (λ (p : Place _ _). IsBlankAt p) (sym w.opened-is) (w.in_ok-opened-in-Nowhere.ensures.memory none)
      | in_default w ↦ absurd (w.in_default.not-Nowhere (c.replace.ensures.value ∙ nowhere))
    ] in
    let is = c.in_ok-place.ensures.blank blank in
    (is, c.in_ok-place.ensures.memory (in_memory c.args.path c.match-replace.opened none placed) is)

pub returns-clause-placed : goal.returns-clause-placed
returns-clause-placed g c = elim c.match-replace.branch [
  | in-Nowhere+in_ok-opened-in-Nowhere w ↦ subst (λ (p : Place _ _). StaysAt p c.in_ok-place.place) (c.replace.ensures.value) (subst (λ (p : Place _ _). StaysAt p c.in_ok-place.place) (sym w.in-Nowhere.is) tt)
  | in_default w ↦ subst (λ (p : Place _ _). StaysAt p c.in_ok-place.place) (w.opened-is ∙ c.replace.ensures.value) c.in_ok-place.ensures.placed
]
