-- A table after one of its rows was put or taken out.
use Rattle.std.proofs.Common.{◌≡◌, ◌≢◌, refl, sym, ap, ◌∙◌, ℕ, List, Option, Bool, true, false}
use Rattle.std.specs.Str.{bytes_eq}
use Rattle.std.proofs.lemmas.Slice.Eq.{bytes_eq-Decides}
use Rattle.desk_tables.specs.Tables.{Found, AreNamed}

-- under one key stands this now, and under others what stood there
pub record IsPutAt (key : List ℕ) (row : Option (List ℕ)) (old new : Found) : Type 0 where
  pub here : new key ≡ row
  pub elsewhere : (k : List ℕ) → k ≢ key → new k ≡ old k

abbrev pub IsSame : Found → Found → Type 0
IsSame old new = (k : List ℕ) → new k ≡ old k

differ : {A : Type 0} (f : A → List ℕ) (m n : A) → bytes_eq (f m) (f n) ≡ false → m ≢ n
differ f m n e same = absurd (cc (sym e ∙ (bytes_eq-Decides (f m) (f n)).1 (ap f same)))

apart : (k l : List ℕ) → bytes_eq k l ≡ false → k ≢ l
apart k l e same = absurd (cc (sym e ∙ (bytes_eq-Decides k l).1 same))

module _ {N : Type 0} (IsName : N → Type 0) (key : N → List ℕ) where
  -- no two names have one key
  abbrev pub HasOneName : Type 0
  HasOneName = (m n : N) → IsName m → IsName n → key m ≡ key n → m ≡ n

  module _ (row later : N → Option (List ℕ)) (old new : Found) where
    put_there : (n m : N) (b : Bool) → bytes_eq (key m) (key n) ≡ b → HasOneName → AreNamed IsName key row old → IsName n → IsPutAt (key n) (later n) old new
        → ((m : N) → IsName m → m ≢ n → later m ≡ row m) → IsName m → new (key m) ≡ later m
    put_there n m true e one are h put others k =
        let same : m ≡ n = one m n k h ((bytes_eq-Decides (key m) (key n)).0 e) in
        ap (λ x. new (key x)) same ∙ put.here ∙ ap later (sym same)
    put_there n m false e one are h put others k = put.elsewhere (key m) (apart (key m) (key n) e) ∙ are.there m k ∙ sym (others m k (differ key m n e))

    -- the rows with one name's put
    pub named_put : (n : N) → HasOneName → AreNamed IsName key row old → IsName n → IsPutAt (key n) (later n) old new
        → ((m : N) → IsName m → m ≢ n → later m ≡ row m) → AreNamed IsName key later new
    named_put n one are h put others = record {
      there = λ m k. put_there n m (bytes_eq (key m) (key n)) refl one are h put others k;
      only = λ text none. put.elsewhere text (none n h) ∙ are.only text none;
    }

    -- the rows of a table that was left alone
    pub named_same : AreNamed IsName key row old → IsSame old new → ((m : N) → IsName m → later m ≡ row m) → AreNamed IsName key later new
    named_same are same others = record {
      there = λ m k. same (key m) ∙ are.there m k ∙ sym (others m k);
      only = λ text none. same text ∙ are.only text none;
    }
