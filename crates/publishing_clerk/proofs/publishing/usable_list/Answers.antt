use Rattle.std.proofs.Common.{◌≡◌, sym, ap, ◌∙◌, arith, ◌+◌, ◌<◌, ◌≤◌, List, length, Option, Some, None, subst, MatchBool}
use Rattle.std.specs.Prelude.{option_copied}
use mathlib.Core.List.{IsPrefix}
use Rattle.desk_machine.specs.declared.entry.Entry.{Entry}
use Rattle.desk_machine.specs.States.{last_number}
use Rattle.desk_machine.specs.Evaluations.{Given}
use Rattle.desk_machine.specs.Machine.{decide}
use Rattle.tree_versions.proofs.Prefixes.{prefix_length, prefix_trans}
use Rattle.publishing_clerk.specs.Evaluations.{given_as, given_in}
use Rattle.publishing_clerk.proofs.Agreeing.{late_agrees, old_agrees}
use Rattle.publishing_clerk.proofs.Named.{told, begins_by}
use Rattle.publishing_clerk.proofs.Offering.{Version, last_is, published_begins}
use Rattle.publishing_clerk.proofs.publishing.usable_list.Goals as goal

pub returns-then-len-number-clause-given : goal.returns-then-len-number-clause-given
returns-then-len-number-clause-given g c = λ q.
    let base = g.J.Naming.base in
    let s = c.args.clerk.now.state in
    let n = base + length c.args.publisher.now.published in
    let e = c.in-Some.evaluated.now in
    let note : c.tell-note.result ≡ c.args.publisher.now.published = c.tell-note.ensures.note ∙ ap (λ (x : Version). x.published) c.tell-note.ensures.same in
    let front : c.len.result ≡ length e.front = c.len.ensures.count ∙ ap length c.front.ensures in
    let late : n < base + length e.front = omega (arith, c.if-len-number.true, c.number.ensures.number, ap length note, front) in
    let is : given_in base (option_copied c.args.evaluated) ≡ Some (given_as base e) = ap (λ v. given_in base (option_copied v)) c.in-Some.is in
    late_agrees s (last_number s) n q (given_as base e) late ∙ ap (decide s n q) (sym is)

pub list_for_decision-requires-clause-told : goal.list_for_decision-requires-clause-told
list_for_decision-requires-clause-told g c =
    let base = g.J.Naming.base in
    let o = g.J.Opening.opening in
    let k = c.args.clerk.now in
    let p = c.args.publisher.now in
    let e = c.in-Some.evaluated.now in
    let h = c.requires in
    let note : c.tell-note.result ≡ p.published = c.tell-note.ensures.note ∙ ap (λ (x : Version). x.published) c.tell-note.ensures.same in
    let front : c.len.result ≡ length e.front = c.len.ensures.count ∙ ap length c.front.ensures in
    let few : length e.front ≤ length p.published = omega (arith, c.if-len-number.false, c.number.ensures.number, ap length note, front) in
    let P : List Entry × List Entry → Type 0 = λ t. MatchBool c.covers.result (IsPrefix t.0 t.1) (IsPrefix t.1 t.0) in
    let either : P (e.front, p.published) = subst P (λ i. (c.front-3.ensures i, (c.front-2.ensures ∙ note) i)) c.covers.ensures.begun in
    let begins : IsPrefix e.front p.published = begins_by c.covers.result e.front p.published either few in
    let all : IsPrefix e.front k.accepted = prefix_trans e.front p.published k.accepted begins (published_begins o.register k.accepted p h.offers) in
    told c.names_go_on.ensures c.findings_are_told.ensures g.J.Naming.first o k.state k.accepted base e h.named.value h.named.desk c.is_storable.ensures h.goes.entries all c.is_over.ensures

pub returns-clause-given : goal.returns-clause-given
returns-clause-given g c = λ q.
    let base = g.J.Naming.base in
    let o = g.J.Opening.opening in
    let k = c.args.clerk.now in
    let s = k.state in
    let p = c.args.publisher.now in
    let n = base + length p.published in
    let e = c.in-Some.evaluated.now in
    let h = c.requires in
    let note : c.tell-note.result ≡ p.published = c.tell-note.ensures.note ∙ ap (λ (x : Version). x.published) c.tell-note.ensures.same in
    let front : c.len.result ≡ length e.front = c.len.ensures.count ∙ ap length c.front.ensures in
    let few : length e.front ≤ length p.published = omega (arith, c.if-len-number.false, c.number.ensures.number, ap length note, front) in
    let all : length p.published ≤ length k.accepted = prefix_length p.published k.accepted (published_begins o.register k.accepted p h.offers) in
    let last : last_number s ≡ base + length k.accepted = last_is o s base k.accepted h.named.number h.goes.entries in
    let before : base + length e.front ≤ last_number s = omega (arith, few, all, last) in
    let after : base + length e.front ≤ n = omega (arith, few) in
    let is : given_in base (option_copied c.args.evaluated) ≡ Some (given_as base e) = ap (λ v. given_in base (option_copied v)) c.in-Some.is in
    let got : c.in_ok-list_for_decision.field-0 ≡ given_as base e = c.in_ok-list_for_decision.ensures ∙ ap (λ b. given_as b e) c.base.ensures in
    ap (λ (x : Given). decide s (last_number s) q (Some x)) got ∙ old_agrees s (last_number s) n q (given_as base e) before after ∙ ap (decide s n q) (sym is)
