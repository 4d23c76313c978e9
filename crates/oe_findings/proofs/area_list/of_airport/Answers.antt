use Rattle.std.proofs.Common.{◌≡◌, ◌++◌, ap, ◌∙◌}
use Rattle.std.specs.Option.{option_to_list}
use Rattle.oe_findings.proofs.OutsideFacts.{airport_left_out}
use Rattle.oe_findings.proofs.area_list.of_airport.Goals as goal

pub returns-clause-outside : goal.returns-clause-outside
returns-clause-outside c =
    let near = c.near_area.result in
    let notice = c.notice_area.result in
    let s = c.in_ok-push_surfaces.ensures in
    let first = c.in_ok-push_some.ensures ∙ ap (λ zs. zs ++ option_to_list near) c.new-areas.ensures.items in
    let second = s.3 ∙ ap (λ zs. zs ++ s.0) first in
    let all : c.push_some-2.new.areas.items ≡ (option_to_list near ++ s.0) ++ option_to_list notice = c.in_ok-push_some-2.ensures ∙ ap (λ zs. zs ++ option_to_list notice) second in
    rw all (airport_left_out c.args.airport.now near notice s.0 c.near_area.ensures.skips s.2 c.notice_area.ensures.skips)
