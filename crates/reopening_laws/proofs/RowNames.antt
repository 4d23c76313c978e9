-- The name of a row that is there.
use Rattle.std.proofs.Common.{◌≡◌, ◌≢◌, refl, sym, ap, ◌∙◌, ℕ, ◌==◌, List, [], ◌∷◌, ◌++◌, All, Option, Some, None, Bool, true, false, cond}
use Rattle.std.specs.Prelude.{◌||◌}
use Rattle.std.specs.Str.{bytes_eq}
use Rattle.std.specs.Ordering.{int_eq}
use Rattle.std.proofs.lemmas.Bool.Decides.{Decides-int_eq}
use Rattle.std.proofs.lemmas.List.Elements.{All-head, All-tail}
use Rattle.std.proofs.lemmas.Option.{cond_some, same_Some}
use Rattle.std.proofs.lemmas.Slice.Eq.{bytes_eq-Decides}
use Rattle.jiff_core.specs.declared.civil.date.Date.{Date}
use Rattle.jiff_core.specs.Date.{epoch_day}
use Rattle.jiff.proofs.Family.{same_date}
use Rattle.determination_dates.specs.Days.{IsLimited}
use Rattle.determination_dates.specs.Closed.{is_closed}
use Rattle.desk_tables.specs.Tables.{Found, AreNamed, ClosedOn, DayName, Format, HasCaller, HasFieldId, IsDayName, ReceiptName, RunwayName, Today, day_found}
use Rattle.desk_tables.specs.Tables.{day_key, key_of, runway_key}
use Rattle.desk_tables.proofs.Days.{one_day_name}
use Rattle.desk_tables.proofs.Split.{field_without_space, word_without_space}

module _ {N : Type 0} (IsName : N → Type 0) (key : N → List ℕ) (row : N → Option (List ℕ)) (found : Found) (are : AreNamed IsName key row found)
    (text x : List ℕ) (at : found text ≡ Some x) where
  -- a name whose row is this one
  pub record IsNameOf (n : N) : Type 0 where
    pub key_is : text ≡ key n
    pub row_is : row n ≡ Some x

  no_name : ((n : N) → IsName n → text ≢ key n) → ⊥
  no_name none = absurd (cc (are.only text none, at))

  -- no name has this key, or none but that of this row
  row_of : (n : N) → IsName n → text ≡ key n → row n ≡ Some x
  row_of n h k = sym (are.there n h) ∙ ap found (sym k) ∙ at

  name_by : (guess : N) (b : Bool) (o : Option (List ℕ)) (c : Bool) → bytes_eq text (key guess) ≡ b → row guess ≡ o
      → ((y : List ℕ) → o ≡ Some y → bytes_eq y x ≡ c)
      → ((n : N) → IsName n → text ≡ key n → row n ≡ Some x → n ≡ guess) → IsNameOf guess
  name_by guess false o c e r d sure =
      absurd (no_name (λ n h k. absurd (cc (e, (bytes_eq-Decides text (key guess)).1 (k ∙ ap key (sure n h k (row_of n h k)))))))
  name_by guess true None c e r d sure = absurd (no_name (λ n h k. absurd (cc (r, sym (ap row (sure n h k (row_of n h k))) ∙ row_of n h k))))
  name_by guess true (Some y) true e r d sure =
      record { key_is = (bytes_eq-Decides text (key guess)).0 e; row_is = r ∙ ap Some ((bytes_eq-Decides y x).0 (d y refl)) }
  name_by guess true (Some y) false e r d sure =
      absurd (no_name (λ n h k. (let same : y ≡ x = same_Some y x (sym r ∙ sym (ap row (sure n h k (row_of n h k))) ∙ row_of n h k) in
      absurd (cc (d y refl, (bytes_eq-Decides y x).1 same)))))

  -- a guess that is the name of the row if it has one is its name
  pub name_found : (guess : N) → ((n : N) → IsName n → text ≡ key n → row n ≡ Some x → n ≡ guess) → IsNameOf guess
  name_found guess sure = by_row (row guess) refl
    where
      by_row : (o : Option (List ℕ)) → row guess ≡ o → IsNameOf guess
      by_row None r = name_by guess (bytes_eq text (key guess)) None true refl r (λ y e. absurd (cc (e))) sure
      by_row (Some y) r = name_by guess (bytes_eq text (key guess)) (Some y) (bytes_eq y x) refl r (λ z e. ap (λ w. bytes_eq w x) (sym (same_Some y z e))) sure

-- ---- names in two parts, with a space between

front_of : List ℕ → List ℕ
front_of [] = []
front_of (b ∷ bs) = cond (b == 32) [] (b ∷ front_of bs)

rest_of : List ℕ → List ℕ
rest_of [] = []
rest_of (b ∷ bs) = cond (b == 32) bs (rest_of bs)

front_again : (xs ys : List ℕ) → All (λ b. (b == 32) ≡ false) xs → front_of (xs ++ 32 ∷ ys) ≡ xs
unfolding front_of
front_again [] ys h = refl
front_again (b ∷ bs) ys h = rw (All-head (λ b. (b == 32) ≡ false) b bs h) (ap (λ l. b ∷ l) (front_again bs ys (All-tail (λ b. (b == 32) ≡ false) b bs h)))

rest_again : (xs ys : List ℕ) → All (λ b. (b == 32) ≡ false) xs → rest_of (xs ++ 32 ∷ ys) ≡ ys
unfolding rest_of
rest_again [] ys h = refl
rest_again (b ∷ bs) ys h = rw (All-head (λ b. (b == 32) ≡ false) b bs h) (rest_again bs ys (All-tail (λ b. (b == 32) ≡ false) b bs h))

runway_name : List ℕ → List ℕ → RunwayName
runway_name airport runway = record { airport = airport; runway = runway }

pub runway_named : List ℕ → RunwayName
runway_named text = runway_name (front_of text) (rest_of text)

pub runway_sure : (text : List ℕ) (n : RunwayName) → HasFieldId n → text ≡ runway_key n → n ≡ runway_named text
unfolding runway_named runway_name
runway_sure text n h e =
    let front : front_of text ≡ n.airport = ap front_of e ∙ front_again n.airport n.runway (field_without_space n.airport h) in
    let rest : rest_of text ≡ n.runway = ap rest_of e ∙ rest_again n.airport n.runway (field_without_space n.airport h) in
    λ i. runway_name (sym front i) (sym rest i)

receipt_name : List ℕ → List ℕ → ReceiptName
receipt_name caller key = record { caller = caller; key = key }

pub receipt_named : List ℕ → ReceiptName
receipt_named text = receipt_name (front_of text) (rest_of text)

pub receipt_sure : (text : List ℕ) (n : ReceiptName) → HasCaller n → text ≡ key_of n → n ≡ receipt_named text
unfolding receipt_named receipt_name
receipt_sure text n h e =
    let front : front_of text ≡ n.caller = ap front_of e ∙ front_again n.caller n.key (word_without_space n.caller h) in
    let rest : rest_of text ≡ n.key = ap rest_of e ∙ rest_again n.caller n.key (word_without_space n.caller h) in
    λ i. receipt_name (sym front i) (sym rest i)

-- ---- the desk's days

closed_named : List ℕ → List Date → DayName
closed_named text [] = Format
closed_named text (d ∷ ds) = cond (bytes_eq text (day_key (ClosedOn d))) (ClosedOn d) (closed_named text ds)

or_rest : (a b : Bool) → (a || b) ≡ true → a ≡ false → b ≡ true
or_rest true b h n = absurd (cc (n))
or_rest false b h n = h

closed_by : (text : List ℕ) (d c : Date) (cs : List Date) (b t : Bool) → bytes_eq text (day_key (ClosedOn c)) ≡ b → int_eq (epoch_day d) (epoch_day c) ≡ t
    → IsLimited d → IsLimited c → text ≡ day_key (ClosedOn d)
    → (t ≡ false → ClosedOn d ≡ closed_named text cs) → ClosedOn d ≡ cond b (ClosedOn c) (closed_named text cs)
closed_by text d c cs true t e f h k at rest = one_day_name (ClosedOn d) (ClosedOn c) h k (sym at ∙ (bytes_eq-Decides text (day_key (ClosedOn c))).0 e)
closed_by text d c cs false true e f h k at rest =
    let day : d ≡ c = same_date d c ((Decides-int_eq (epoch_day d) (epoch_day c)).0 f) in
    absurd (cc (e, (bytes_eq-Decides text (day_key (ClosedOn c))).1 (at ∙ ap (λ x. day_key (ClosedOn x)) day)))
closed_by text d c cs false false e f h k at rest = rest refl

closed_sure : (text : List ℕ) (d : Date) (cs : List Date) → IsLimited d → All IsLimited cs → text ≡ day_key (ClosedOn d) → is_closed cs (epoch_day d) ≡ true
    → ClosedOn d ≡ closed_named text cs
unfolding closed_named
closed_sure text d [] h k at is = absurd (cc (is))
closed_sure text d (c ∷ cs) h k at is =
    closed_by text d c cs (bytes_eq text (day_key (ClosedOn c))) (int_eq (epoch_day d) (epoch_day c)) refl refl h (All-head IsLimited c cs k) at
    (λ other. closed_sure text d cs h (All-tail IsLimited c cs k) at (or_rest (int_eq (epoch_day d) (epoch_day c)) (is_closed cs (epoch_day d)) is other))

pub day_named : List ℕ → List Date → DayName
day_named text cs = cond (bytes_eq text (day_key Format)) Format (cond (bytes_eq text (day_key Today)) Today (closed_named text cs))

key_unlike : (text : List ℕ) (m n : DayName) → IsDayName m → IsDayName n → m ≢ n → text ≡ day_key n → bytes_eq text (day_key m) ≡ false
key_unlike text m n h k apart at = by (bytes_eq text (day_key m)) refl
  where
    by : (b : Bool) → bytes_eq text (day_key m) ≡ b → bytes_eq text (day_key m) ≡ false
    by true e = absurd (apart (one_day_name m n h k (sym ((bytes_eq-Decides text (day_key m)).0 e) ∙ at)))
    by false e = e

pub day_sure : (text x : List ℕ) (f : Bool) (day : Option Date) (cs : List Date) (n : DayName) → All IsLimited cs → IsDayName n → text ≡ day_key n
    → day_found f day cs n ≡ Some x → n ≡ day_named text cs
unfolding day_named
day_sure text x f day cs Format h k at row = rw ((bytes_eq-Decides text (day_key Format)).1 at) refl
day_sure text x f day cs Today h k at row =
    rw (key_unlike text Format Today tt tt (λ e. absurd (cc (e))) at, (bytes_eq-Decides text (day_key Today)).1 at) refl
day_sure text x f day cs (ClosedOn d) h k at row =
    rw (key_unlike text Format (ClosedOn d) tt k (λ e. absurd (cc (e))) at, key_unlike text Today (ClosedOn d) tt k (λ e. absurd (cc (e))) at)
    (closed_sure text d cs k h at ((cond_some (is_closed cs (epoch_day d)) _ x row).0))
