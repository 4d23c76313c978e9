-- The links of the ports of a gate, one after another.
use Rattle.std.proofs.Common.{◌≡◌, ◌∙◌, ◌+◌, ℕ, zero, suc, List, [], ◌∷◌, ◌++◌, Option, Some, refl, sym, ap, ap₂, min, arith, map, take, drop, length}
use Rattle.std.proofs.lemmas.List.{map-append, drop-drop}
use Rattle.std.proofs.lemmas.Simd.{map-map}
use Rattle.std.proofs.Math.Seq.{drop-nil, take-nil}
use Rattle.std.proofs.lemmas.List.Sums.{sum_by-append}
use Rattle.std.specs.Prelude.{option_map}
use Rattle.std.specs.List.{sum_by}
use Rattle.link_gates.specs.Ports.{TakesList}
use Rattle.link_gates.specs.Teams.{together, served_in, first_lists, served_of}

-- so many ports were made: the gate has so many lists fewer, and the ports have those
pub record Opens {A : Type 0} (made : ℕ) (lists : List (List A)) (rest : Option (List (List A))) (links : List (Option (List A))) : Type 0 where
  pub rest_is : rest ≡ Some (drop made lists)
  pub told : links ≡ map (λ xs. Some xs) (first_lists made lists)

module _ {A : Type 0} where
  -- the list that the next port takes
  abbrev head_of : List (List A) → List A
  head_of [] = []
  head_of (xs ∷ lists) = xs

  -- and what is then left
  abbrev tail_of : List (List A) → List (List A)
  tail_of [] = []
  tail_of (xs ∷ lists) = lists

  grown : (k : ℕ) (lists : List (List A)) → first_lists (suc k) lists ≡ first_lists k lists ++ head_of (drop k lists) ∷ []
  grown zero [] = refl
  grown zero (xs ∷ lists) = refl
  grown (suc k) [] = ap (λ ls. [] ∷ ls) (grown k []) ∙ ap (λ d. [] ∷ first_lists k [] ++ head_of d ∷ []) (drop-nil k)
  grown (suc k) (xs ∷ lists) = ap (λ ls. xs ∷ ls) (grown k lists)

  tail_drop : (lists : List (List A)) → tail_of lists ≡ drop 1 lists
  tail_drop [] = refl
  tail_drop (xs ∷ lists) = refl

  taken : (d : List (List A)) (after : Option (List (List A))) (links : Option (List A)) → TakesList (Some d) after links → (after ≡ Some (tail_of d)) × (links ≡ Some (head_of d))
  taken [] after links t = t
  taken (xs ∷ lists) after links t = t

  pub opens_start : (lists : List (List A)) (rest : Option (List (List A))) → rest ≡ Some lists → Opens 0 lists rest []
  opens_start lists rest e = record { rest_is = e; told = refl }

  -- one port more was made
  opens_on : (k : ℕ) (lists : List (List A)) (before after : Option (List (List A))) (port : Option (List A)) (links : List (Option (List A)))
      → Opens k lists before links → TakesList before after port → Opens (k + 1) lists after (links ++ port ∷ [])
  opens_on k lists before after port links w t =
      let got = taken (drop k lists) after port (rw (← w.rest_is) t) in
      let count : k + 1 ≡ suc k = omega arith in
      record {
        rest_is = got.0 ∙ ap (λ d. Some d) (tail_drop (drop k lists) ∙ drop-drop 1 k lists);
        told = ap₂ (λ ls l. ls ++ l ∷ []) w.told got.1 ∙ sym (map-append (λ xs. Some xs) (first_lists k lists) (head_of (drop k lists) ∷ []))
            ∙ ap (map (λ xs. Some xs)) (sym (grown k lists)) ∙ ap (λ n. map (λ xs. Some xs) (first_lists n lists)) (sym count);
      }

  -- and put behind the others
  pub opens_push : {P : Type 0} (links : P → Option (List A)) (k : ℕ) (lists : List (List A)) (before after : Option (List (List A))) (items now : List P) (port : P)
      → now ≡ items ++ port ∷ [] → Opens k lists before (map links items) → TakesList before after (links port) → Opens (k + 1) lists after (map links now)
  opens_push links k lists before after items now port e w t =
      rw (ap (map links) e ∙ map-append links items (port ∷ [])) (opens_on k lists before after (links port) (map links items) w t)

module _ {A : Type 0} (turns : ℕ) where
  abbrev share : List A → ℕ
  share xs = min turns (length xs)

  one_more : (xs : List A) (lists : List (List A)) → sum_by share (xs ∷ lists) ≡ share xs + sum_by share lists
  one_more xs lists = let whole : sum_by share (xs ∷ lists) ≡ 0 + share xs + sum_by share lists = sum_by-append share (xs ∷ []) lists in whole ∙ omega arith

  served_first : (k : ℕ) (lists : List (List A)) → together (map (λ xs. served_in turns (Some xs)) (first_lists k lists)) ≡ Some (served_of k turns lists)
  served_first zero lists = refl
  served_first (suc k) [] =
      ap (option_map (λ more. min turns 0 + more)) (served_first k []) ∙ ap (λ n. Some n) (let none : served_of {A = A} k turns [] ≡ 0 = ap (sum_by share) (take-nil k) in omega arith)
  served_first (suc k) (xs ∷ lists) =
      ap (option_map (λ more. share xs + more)) (served_first k lists) ∙ ap (λ n. Some n) (sym (one_more xs (take k lists)))

  -- what is served of ports that have the first lists
  pub serves_opened : {P : Type 0} (links : P → Option (List A)) (ports : List P) (k : ℕ) (lists : List (List A))
      → map links ports ≡ map (λ xs. Some xs) (first_lists k lists) → together (map (λ port. served_in turns (links port)) ports) ≡ Some (served_of k turns lists)
  serves_opened links ports k lists e =
      ap together (sym (map-map (served_in turns) links ports) ∙ ap (map (served_in turns)) e ∙ map-map (served_in turns) (λ xs. Some xs) (first_lists k lists)) ∙ served_first k lists
