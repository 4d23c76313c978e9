use Rattle.std.proofs.Common.{inl, inr, refl}
use Rattle.std.proofs.Math.Logic.{∥∥₁_elim, ∥∥₁_map}
use Rattle.oe_keeper.specs.Kept.{rows_after_changes}
use Rattle.oe_sqlite.proofs.laws.told_after_crash.Goals as goal

pub returns-in-Ok : goal.returns-in-Ok
returns-in-Ok g c clean nowhere untold found before told sure =
    let image = g.P.Opens.image c.args.next.opener in
    ∥∥₁_elim (c.in_ok-store.ensures.found clean image found) squash₁ (λ it.
    ∥∥₁_map (c.apply-made.ensures.crash before told it.0 it.1) (λ left. elim left [
      | inl old ↦ let now = c.in-Ok.ensures.file nowhere untold refl before (inl (it.0, ∣ it.2 ∣₁, old)) sure in (before, inl refl, now.0, now.1)
      | inr new ↦
          let after = rows_after_changes before c.args.changes.now in
          let now = c.in-Ok.ensures.file nowhere untold refl after (inl (it.0, ∣ it.2 ∣₁, new)) sure in
          (after, inr refl, now.0, now.1)
    ]))
