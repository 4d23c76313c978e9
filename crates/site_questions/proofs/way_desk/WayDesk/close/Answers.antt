use Rattle.std.proofs.Common.{◌≢◌, ◌++◌, [], List, ℕ, ap, ◌∙◌, sym}
use Rattle.site_questions.specs.Ways.{Survey}
use Rattle.site_questions.proofs.WayFacts.{has_stations}
use Rattle.site_questions.proofs.ClosingFacts.{closes_none, closes_whole, closes_cut, from_ok}
use Rattle.site_questions.proofs.way_desk.WayDesk.close.Goals as goal

pub returns-then-is_empty-clause-closes : goal.returns-then-is_empty-clause-closes
returns-then-is_empty-clause-closes g c =
    closes_none c.args.self.now (g.O.Sink.held c.args.output.now) (sym (ap (λ (s : Survey). s.way) c.self.view_is) ∙ c.is_empty.ensures.0 c.if-is_empty.true)

pub returns-in-Ok-clause-closes : goal.returns-in-Ok-clause-closes
returns-in-Ok-clause-closes g c =
    let some : c.args.self.now.way ≢ [] = λ n. has_stations c.is_empty.result c.self.inside.way c.is_empty.ensures c.if-is_empty.false (ap (λ (s : Survey). s.way) c.self.view_is ∙ n) in
    let told = from_ok c.answer.result (sym c.is_err.ensures.value ∙ c.if-is_err.false) c.answer.ensures.reply in
    closes_whole c.args.self.now c.answer.new.self told.0 c.as_bytes.result.now _ _ some told.1
    (c.as_bytes.ensures.value ∙ told.2 ∙ ap (λ (b : List ℕ). b ++ told.0) c.new-text.ensures.bytes) c.in-Ok.ensures.ok

pub returns-clause-closes : goal.returns-clause-closes
returns-clause-closes g c =
    let some : c.args.self.now.way ≢ [] = λ n. has_stations c.is_empty.result c.self.inside.way c.is_empty.ensures c.if-is_empty.false (ap (λ (s : Survey). s.way) c.self.view_is ∙ n) in
    let told = from_ok c.answer.result (sym c.is_err.ensures.value ∙ c.if-is_err.false) c.answer.ensures.reply in
    let cut = c.in-Err.ensures.err in
    closes_cut c.args.self.now c.answer.new.self told.0 c.as_bytes.result.now cut.0 _ _ some told.1
    (c.as_bytes.ensures.value ∙ told.2 ∙ ap (λ (b : List ℕ). b ++ told.0) c.new-text.ensures.bytes) cut.1
