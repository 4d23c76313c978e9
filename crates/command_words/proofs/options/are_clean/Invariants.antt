use Rattle.std.proofs.Common.{ℕ, ◌<◌, String, Global, slice_index_or, string_bytes}
use Rattle.command_words.specs.Parsing.{IsCleanWord}
use Rattle.command_words.proofs.options.are_clean.Given as goal

abbrev pub invariant-loop-at : goal.invariant-loop-at
invariant-loop-at l = (k : ℕ) (d : String Global) → k < l.at → IsCleanWord (string_bytes (slice_index_or l.words k d))
