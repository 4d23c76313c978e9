use Rattle.std.proofs.Common.{arith, ◌<◌, ◌≡◌, ◌∙◌, length, refl}
use Rattle.oe_http.proofs.LineFacts.{read_end, read_on, take_plain, late, fell_on}
use Rattle.oe_http.proofs.lines.LineReader.take_raw.Goals as goal

pub returns-in-Some-clause-raw : goal.returns-in-Some-clause-raw
returns-in-Some-clause-raw g c =
    let piece = c.in_ok-is_long-in-Some.ensures in
    read_end _ _ _ _ _ _ _ c.fill.new.self.bytes _ _ c.in-Some.at c.loop-self.invariant.read c.in_ok-fill.ensures.kept
    (rw c.pending.ensures.bytes at c.in-Some.ensures.feed) piece.bytes c.skip.ensures.bytes piece.kept

pub loop-self-preserved : goal.loop-self-preserved
loop-self-preserved g c =
    let before = c.loop-self.invariant in
    let fill = c.in_ok-fill.ensures in
    let piece = c.in_ok-is_long-in-None.ensures in
    let same : length c.pending-in-None.result.now ≡ length c.fill.new.self.bytes = rw c.pending-in-None.ensures.bytes refl in
    let some : 0 < length c.fill.new.self.bytes = rw c.if-branch.true at fill.found in
    record {
      read = read_on _ _ _ _ _ _ _ c.fill.new.self.bytes _ (length c.pending-in-None.result.now) before.read fill.kept piece.bytes
          (take_plain _ _ c.pending-in-None.ensures.bytes (rw c.pending.ensures.bytes at c.in-None.ensures.feed)) piece.kept;
      still = late _ _ _ _ _ _ _ before.still fill.still c.pending.ensures.bytes c.in-None.ensures.feed;
      turns = omega (arith, before.turns, fill.turns, piece.falls, piece.length);
      turns_long = λ _. omega (arith, before.turns, fill.turns, piece.falls, same, some);
      more = omega (arith, before.more, fill.reads.more, piece.taken);
      taken = rw piece.taken (fell_on _ _ _ _ _ _ before.more fill.reads.more before.taken fill.reads.taken);
      beside = fill.beside ∙ before.beside;
      later = omega (arith, before.later, fill.reads.later);
    }
