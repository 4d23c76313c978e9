-- A stream has one next message, and is refused only where it has none.
use Rattle.std.proofs.Common.{◌≡◌, ◌<◌, ◌⊎◌, ℕ, Bool, List, [], ◌∷◌, ◌++◌, length, refl, sym, ap, ◌∙◌, arith, append-nil, inl, inr, length-append}
use Rattle.httparse.specs.Grammar.{RequestHead, print_request}
use Rattle.httparse.proofs.GrammarLemmas.{request_unique}
use Rattle.http_messages.specs.Heads.{IsOpen}
use Rattle.http_messages.proofs.OutcomeFacts.{refused_once, good_not_large, good_not_malformed}
use Rattle.http_messages.specs.declared.request.Incoming.TheVariants as incoming
use Rattle.http_messages.specs.Frames.{Frame, Body, Refused, frame_of}
use Rattle.http_messages.specs.Messages.{BeginsWith, IsMessage, EndsInBody, IsRefused, Comes}
use Rattle.http_messages.proofs.MessageFacts.{head_some}

same_start : (stream : List ℕ) (h k : RequestHead) (r q : List ℕ) (f e : Frame) → BeginsWith stream h r f → BeginsWith stream k q e
    → (h ≡ k) × (r ≡ q) × (f ≡ e)
same_start stream h k r q f e x y =
    let same = request_unique stream h k r q x.reads y.reads in
    (same.0, same.1, sym x.framed ∙ ap frame_of same.0 ∙ y.framed)

same_size : (n m : ℕ) → Body n ≡ Body m → n ≡ m
same_size n m e = cc

same_number : (n m : ℕ) → Refused n ≡ Refused m → n ≡ m
same_number n m e = cc

other_frame : (n m : ℕ) → Body n ≡ Refused m → ⊥
other_frame n m e = absurd (cc)

split_same : (a b x y : List ℕ) → length a ≡ length b → a ++ x ≡ b ++ y → (a ≡ b) × (x ≡ y)
split_same [] [] x y n e = (refl, e)
split_same [] (d ∷ b) x y n e = absurd (omega (arith, n))
split_same (c ∷ a) [] x y n e = absurd (omega (arith, n))
split_same (c ∷ a) (d ∷ b) x y n e =
    let tails : a ++ x ≡ b ++ y = cc in
    let heads : c ≡ d = cc in
    let same = split_same a b x y (omega (arith, n)) tails in
    (rw (heads, same.0) refl, same.1)

-- two messages of a stream have one head, one body and leave the same
pub record AreOne (h k : RequestHead) (body text left after : List ℕ) : Type 0 where
  pub head : h ≡ k
  pub body_is : body ≡ text
  pub left_is : left ≡ after

pub one : (stream m t b n u d left after : List ℕ) (c e : Bool) (x : IsMessage stream m t b c left) (y : IsMessage stream n u d e after)
    → AreOne x.head y.head b d left after
one stream m t b n u d left after c e x y =
    let same = same_start stream x.head y.head _ _ _ _ x.begins y.begins in
    let split = split_same b d left after (same_size (length b) (length d) same.2) same.1 in
    record { head = same.0; body_is = split.0; left_is = split.1 }

pub some : (stream m t b left : List ℕ) (c : Bool) → IsMessage stream m t b c left → 0 < length stream
some stream m t b left c x =
    omega (arith, ap length x.begins.reads.1, length-append (print_request x.head) (b ++ left), head_some x.head)

-- of no front of an open stream anything is known, so none is a whole head
not_open : (stream rest : List ℕ) (h : RequestHead) (f : Frame) → BeginsWith stream h rest f → IsOpen stream → ⊥
not_open stream rest h f x opened =
    (opened.none (print_request h) rest x.reads.1).2 (h, (x.reads.0, sym (append-nil _)), x.few)

pub whole : (stream m t b left after : List ℕ) (c : Bool) → IsMessage stream m t b c left → Comes stream incoming.Truncated after → ⊥
whole stream m t b left after c x y = cut y.1
  where
    cut : IsOpen stream ⊎ EndsInBody stream → ⊥
    cut (inl opened) = not_open stream (b ++ left) x.head (Body (length b)) x.begins opened
    cut (inr ends) =
        let same = same_start stream x.head ends.head _ _ _ _ x.begins ends.begins in
        omega (arith, ends.short, same_size (length b) ends.size same.2, ap length same.1, length-append b left)

pub good : (stream m t b left after : List ℕ) (c : Bool) (status : ℕ) → IsMessage stream m t b c left
    → Comes stream (incoming.Refused status) after → ⊥
good stream m t b left after c status x (inl y) =
    good_not_large stream x.head (b ++ left) x.begins.reads x.begins.few x.begins.small y.1
good stream m t b left after c status x (inr (inl y)) =
    good_not_malformed stream x.head (b ++ left) x.begins.reads x.begins.few y.1
good stream m t b left after c status x (inr (inr y)) =
    let same = same_start stream x.head y.0 _ _ _ _ x.begins y.2 in
    other_frame (length b) status same.2

pub cut_not_refused : (stream left after : List ℕ) (status : ℕ) → Comes stream incoming.Truncated left
    → Comes stream (incoming.Refused status) after → ⊥
cut_not_refused stream left after status x y = cases x.1 y
  where
    cases : IsOpen stream ⊎ EndsInBody stream → IsRefused stream status → ⊥
    cases (inl opened) (inl y) = (opened.none y.1.front y.1.rest y.1.parts).0 y.1.large
    cases (inl opened) (inr (inl y)) = (opened.none y.1.front y.1.rest y.1.parts).1 y.1.hopeless
    cases (inl opened) (inr (inr y)) = not_open stream y.1 y.0 (Refused status) y.2 opened
    cases (inr ends) (inl y) =
        good_not_large stream ends.head ends.rest ends.begins.reads ends.begins.few ends.begins.small y.1
    cases (inr ends) (inr (inl y)) =
        good_not_malformed stream ends.head ends.rest ends.begins.reads ends.begins.few y.1
    cases (inr ends) (inr (inr y)) =
        let same = same_start stream ends.head y.0 _ _ _ _ ends.begins y.2 in
        other_frame ends.size status same.2

pub one_status : (stream left after : List ℕ) (n k : ℕ) → Comes stream (incoming.Refused n) left → Comes stream (incoming.Refused k) after → n ≡ k
one_status stream left after n k (inl x) (inl y) = x.0 ∙ sym y.0
one_status stream left after n k (inl x) (inr (inl y)) = absurd (refused_once stream x.1 y.1)
one_status stream left after n k (inl x) (inr (inr y)) = absurd (good_not_large stream y.0 y.1 y.2.reads y.2.few y.2.small x.1)
one_status stream left after n k (inr (inl x)) (inl y) = absurd (refused_once stream y.1 x.1)
one_status stream left after n k (inr (inl x)) (inr (inl y)) = x.0 ∙ sym y.0
one_status stream left after n k (inr (inl x)) (inr (inr y)) = absurd (good_not_malformed stream y.0 y.1 y.2.reads y.2.few x.1)
one_status stream left after n k (inr (inr x)) (inl y) = absurd (good_not_large stream x.0 x.1 x.2.reads x.2.few x.2.small y.1)
one_status stream left after n k (inr (inr x)) (inr (inl y)) = absurd (good_not_malformed stream x.0 x.1 x.2.reads x.2.few y.1)
one_status stream left after n k (inr (inr x)) (inr (inr y)) =
    let same = same_start stream x.0 y.0 _ _ _ _ x.2 y.2 in
    same_number n k same.2
