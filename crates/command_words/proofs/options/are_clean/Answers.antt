use Rattle.std.proofs.Common.{rules, arith, inl, inr, ◌≡◌, refl, String, Global, slice_index_or, string_bytes}
use Rattle.std.proofs.lemmas.Bool.{cases_lt}
use Rattle.command_words.specs.Parsing.{IsCleanWord}
use Rattle.command_words.proofs.RowFacts.{any_default, clean_all, clean_at}
use Rattle.command_words.proofs.options.are_clean.Goals as goal

pub returns-then-not-is_clean_word-clause-no : goal.returns-then-not-is_clean_word-clause-no
returns-then-not-is_clean_word-clause-no c e h =
    let k = clean_at (λ (s : String Global). string_bytes s) c.args.words.now c.loop-at.at c.index-words-at.result c.loop-at-test.true h in
    let here : IsCleanWord c.as_str.result.now = search (rules, k) in
    c.if-not-is_clean_word.ensures.no refl here

pub loop-at-preserved : goal.loop-at-preserved
loop-at-preserved c k d less = elim (cases_lt k c.loop-at.at) [
  | inl l ↦ c.loop-at.invariant k d l
  | inr g ↦ (let same : k ≡ c.loop-at.at = omega (arith, less, g) in
      let clean = c.if-not-is_clean_word.ensures.yes refl in
      let first : IsCleanWord (string_bytes (slice_index_or c.args.words.now c.loop-at.at c.index-words-at.result)) = search (rules, clean) in
      rw (same, any_default c.args.words.now c.loop-at.at d c.index-words-at.result c.loop-at-test.true) first)
]

pub returns-clause-yes : goal.returns-clause-yes
returns-clause-yes c e = clean_all (λ (s : String Global). string_bytes s) c.args.words.now (λ k d less. c.loop-at.invariant k d (omega (arith, less, c.loop-at-test.false)))
