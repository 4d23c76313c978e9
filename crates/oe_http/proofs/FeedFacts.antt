-- Where the whole lines of a block end.
use Rattle.std.proofs.Common.{arith, ℕ, ◌+◌, ◌-◌, ◌≡◌, ◌≤◌, ◌<◌, ◌==◌, true, List, length, Some, None, refl, sym, ◌∙◌, subst, take, drop, drop-cons, get_or, ap, suc, ◌∷◌, get_or-take, get_or-drop, length-take, length-drop, slice_range}
use Rattle.memchr.specs.Find.{IsLastByte, is_byte}
use Rattle.oe_http.specs.Lines.{HasFeed}
use Rattle.oe_http.specs.Pieces.{WholeLinesEnd}

byte_test : (b : ℕ) → b ≡ 10 → (b == 10) ≡ true
byte_test b e = rw e refl

pub lines_end_at : (bs : List ℕ) (k : ℕ) → IsLastByte (is_byte 10) bs (Some k) → WholeLinesEnd bs (k + 1)
lines_end_at bs k h = record {
  within = omega (arith, h.0.high);
  feed = λ _. grind (arith, h.1);
  after = λ j low high e. h.0.after j low high (byte_test _ e);
}

pub lines_end_none : (bs : List ℕ) → IsLastByte (is_byte 10) bs None → WholeLinesEnd bs 0
lines_end_none bs h = record {
  within = omega arith;
  feed = λ lt. absurd (omega (arith, lt));
  after = λ j low high e. h j low high (byte_test _ e);
}

pub lines_end_empty : (bs : List ℕ) → WholeLinesEnd (take 0 bs) 0
lines_end_empty bs = record { within = omega arith; feed = λ lt. absurd (omega (arith, lt)); after = λ j low high e. omega (arith, high) }

-- a byte of a range
range_byte : (xs : List ℕ) (start end j : ℕ) → start + j < end → get_or (slice_range xs start end) j 0 ≡ get_or (take end xs) (start + j) 0
range_byte xs start end j lt =
    get_or-take (end - start) (drop start xs) j 0 (omega (arith, lt)) ∙ get_or-drop start xs j 0 ∙ sym (get_or-take end xs (start + j) 0 lt)

-- the first byte of a range, and those after it
pub range_first : (xs bs : List ℕ) (start end : ℕ) → slice_range xs start end ≡ bs → end ≤ length xs → 0 < length bs → bs ≡ get_or xs start 0 ∷ slice_range xs (start + 1) end
range_first xs bs start end e le some =
    let lt : start < end = omega (arith, some, ap length e, length-take (end - start) (drop start xs)) in
    let one : start + 1 ≡ suc start = omega arith in
    let m : end - start ≡ suc (end - suc start) = omega (arith, lt) in
    sym e ∙ rw (one, m, drop-cons xs start 0 (omega (arith, lt, le))) refl

range_feed : (xs : List ℕ) (start end feeds : ℕ) → WholeLinesEnd (take end xs) feeds → start < feeds → end ≤ length xs → HasFeed (slice_range xs start end)
range_feed xs start end feeds h lt le =
    let small : feeds ≤ end = omega (arith, h.within, length-take end xs) in
    let e : start + (feeds - 1 - start) ≡ feeds - 1 = omega (arith, lt) in (
      feeds - 1 - start,
      omega (arith, lt, small, le, length-take (end - start) (drop start xs), length-drop start xs),
      range_byte xs start end (feeds - 1 - start) (omega (arith, lt, small)) ∙ rw e (h.feed (omega (arith, lt))),
    )

pub pending_feed : (xs bs : List ℕ) (start end feeds : ℕ) → slice_range xs start end ≡ bs → WholeLinesEnd (take end xs) feeds → end ≤ length xs → start < feeds → HasFeed bs
pending_feed xs bs start end feeds e h le lt = subst HasFeed e (range_feed xs start end feeds h lt le)

range_none : (xs : List ℕ) (start end feeds : ℕ) → WholeLinesEnd (take end xs) feeds → feeds ≤ start → end ≤ length xs → HasFeed (slice_range xs start end) → ⊥
range_none xs start end feeds h low le p =
    let lt : start + p.0 < end = omega (arith, p.1, length-take (end - start) (drop start xs), length-drop start xs) in
    h.after (start + p.0) (omega (arith, low)) (omega (arith, lt, le, length-take end xs)) (sym (range_byte xs start end p.0 lt) ∙ p.2)

pub pending_none : (xs bs : List ℕ) (start end feeds : ℕ) → slice_range xs start end ≡ bs → WholeLinesEnd (take end xs) feeds → end ≤ length xs → feeds ≤ start → HasFeed bs → ⊥
pending_none xs bs start end feeds e h le low = subst (λ t. HasFeed t → ⊥) e (range_none xs start end feeds h low le)
