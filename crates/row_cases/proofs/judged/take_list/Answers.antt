use Rattle.std.proofs.Common.{arith, rules, ◌≡◌, List, map, All}
use Rattle.finding_lists.specs.declared.finding.Finding.{Finding}
use Rattle.wire_replies.specs.Entries.{entry_text}
use Rattle.row_cases.specs.Entries.{IsEntry}
use Rattle.row_cases.proofs.Choices.{at_some}
use Rattle.row_cases.proofs.ListFacts.{counted}
use Rattle.row_cases.proofs.judged.take_list.Goals as goal

pub returns-then-len-count-clause-none : goal.returns-then-len-count-clause-none
returns-then-len-count-clause-none c = λ list h e.
    let read = at_some (λ (l : List Finding). c.take_number.new.parts ≡ map entry_text l) _ _ c.in-Some-2.is c.in_ok-list.ensures.took in
    let whole = at_some (λ (l : List Finding). All IsEntry l) _ _ c.in-Some-2.is c.in_ok-list.ensures.whole in
    let same = counted c.args.parts.now _ c.in-Some.count _ list c.in-Some.ensures.took (omega (arith, c.in-Some.ensures.within)) read whole h e in
    search rules
