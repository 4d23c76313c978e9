use Rattle.grid_exact.proofs.Booleans.{not_from_false}
use Rattle.grid_exact.proofs.TestFacts.{same_test}
use Rattle.heliport_surfaces.specs.Notices.{is_within}
use Rattle.heliport_surfaces.specs.Shapes.{gap_shape}
use Rattle.heliport_surfaces.specs.declared.rules.TheConstants.{NOTICE_RANGE}
use Rattle.heliport_surfaces.proofs.Corners.{IsWithin-IsClose}
use Rattle.heliport_surfaces.proofs.NoticeFacts.{within_in, within_out}
use Rattle.heliport_surfaces.proofs.gap.LandingGap.is_near.Goals as goal

pub returns-else-is_close : goal.returns-else-is_close
returns-else-is_close c =
    let g = gap_shape c.args.self.now in
    same_test c.is_close.result (is_within g NOTICE_RANGE)
    (λ t. absurd (cc), λ h. absurd (not_from_false c.is_close.result c.is_close.ensures.1 c.if-is_close.false (IsWithin-IsClose g NOTICE_RANGE h)))
    (within_in g NOTICE_RANGE) (within_out g NOTICE_RANGE)

pub returns-then-is_close : goal.returns-then-is_close
returns-then-is_close c =
    let g = gap_shape c.args.self.now in
    same_test c.is_le.result (is_within g NOTICE_RANGE) (rw c.is_le.ensures c.compare.ensures.within) (within_in g NOTICE_RANGE) (within_out g NOTICE_RANGE)
