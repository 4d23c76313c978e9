use Rattle.std.proofs.Common.{◌≡◌, sym, ◌∙◌, List, subst, Bool, MatchBool}
use mathlib.Core.List.{IsPrefix}
use Rattle.tree_versions.proofs.Prefixes.{prefix_self', prefix_trans}
use Rattle.tree_versions.proofs.seat.Seat.current.Goals as goal

pub invariant_of-self-2 : goal.invariant_of-self-2
invariant_of-self-2 g c = (prefix_self' _ _ (c.copy.ensures ∙ sym c.copy-2.ensures), c.self.invariant.1)

pub returns-clause-later : goal.returns-clause-later
returns-clause-later g c =
    let told = c.self.inside.told in
    let seen = c.front.result.now in
    let Q : Bool → Type 0 = λ b. MatchBool b (IsPrefix told seen) (IsPrefix seen told) in
    let covered : IsPrefix told seen = subst Q c.if-not-covers.false c.covers.ensures.begun in
    let same : seen ≡ c.copy.result = c.front.ensures ∙ (sym c.parts-value.ensures.parts.1 ∙ sym c.copy.ensures) in
    let P : List g.row.E.Denot → Type 0 = IsPrefix told in
    let all : IsPrefix told c.copy.result = subst P same covered in (
      rw (← c.self.view_is) (prefix_trans c.self.inside.front told c.copy.result c.self.invariant.0 all),
      rw (← c.self.view_is) all,
    )
