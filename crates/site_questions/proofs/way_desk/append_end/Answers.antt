use Rattle.std.proofs.Common.{◌≢◌, [], refl}
use Rattle.site_questions.specs.Ways.{NoStation, way_empty}
use Rattle.site_questions.proofs.AnswerFacts.{on_err, on_ok}
use Rattle.site_questions.proofs.WayFacts.{ended, ended_anyhow, has_stations}
use Rattle.site_questions.proofs.way_desk.append_end.Goals as goal

pub returns-clause-ok : goal.returns-clause-ok
returns-clause-ok c =
    let some : c.args.way.now ≢ [] = has_stations c.is_empty.result c.args.way.now c.is_empty.ensures c.if-is_empty.false in
    on_ok c.append_way-told.result (λ told. ended c.args.sky.now c.args.last c.args.way.now c.clear.new.self _ _ some told c.clear.ensures) c.append_way-told.ensures.ok

pub returns-clause-made : goal.returns-clause-made
returns-clause-made c =
    let some : c.args.way.now ≢ [] = has_stations c.is_empty.result c.args.way.now c.is_empty.ensures c.if-is_empty.false in
    on_err c.append_way-told.result (ended_anyhow c.args.sky.now c.args.last c.args.way.now c.clear.new.self some c.clear.ensures)

pub returns-then-is_empty-clause-made : goal.returns-then-is_empty-clause-made
returns-then-is_empty-clause-made c = on_err c.append_text.result (way_empty, NoStation refl (c.is_empty.ensures.0 c.if-is_empty.true) refl refl)
