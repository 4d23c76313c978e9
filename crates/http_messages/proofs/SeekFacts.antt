-- Searches in the rows of the routes.
use Rattle.std.proofs.Common.{◌≡◌, ℕ, zero, suc, ◌-◌, ◌<◌, ◌==◌, Bool, true, false, cond, List, [], ◌∷◌, ◌++◌, length, All, refl, sym, ap, ◌∙◌, subst, arith, Option, Some, None, codes, take, drop, Fits, w8, not, nat_eq, slice_index, option_map, take-append-drop}
use Rattle.std.proofs.lemmas.List.{take-append-le, take_all}
use Rattle.std.proofs.lemmas.List.Elements.{All-head, All-tail, All-from_get_or}
use Rattle.std.proofs.lemmas.Bool.{ne_eqb, false≢true}
use Rattle.std.proofs.lemmas.Bool.Decides.{Decides-eqb}
use Rattle.std.specs.Bool.{Decides}
use Rattle.std.proofs.lemmas.Slice.Eq.{slice_eq-Decides}
use Rattle.std.specs.Cmp.Lexicographic.{pointwise}
use Rattle.matchit.specs.Seek.{seek, first, or_else, has_slash, step, param_step}
use Rattle.matchit.specs.Rows.{RowsOf, param_token}
use Rattle.matchit.proofs.OnLiterals.{matchit_on_literals}
use Rattle.matchit.specs.Router.{RouteOf}
use Rattle.http_messages.specs.Targets.{IsName, IsTarget, prefix}
use Rattle.http_messages.specs.Finds.{FindsAll}
use Rattle.http_messages.specs.declared.places.Place.{Place}
use Rattle.http_messages.specs.declared.places.Place.TheVariants as places

-- no rows, no route
none_rows : {K : Type 0} (skip : ℕ) (path : List ℕ) → seek {K = K} skip [] path ≡ None
unfolding matchit_on_literals
none_rows skip [] = refl
none_rows (suc skip) (b ∷ path) = none_rows skip path
none_rows {K} zero (b ∷ path) =
    ap (λ (o : Option K). or_else o (or_else (seek {K = K} ((param_step {K = K} [] (b ∷ path)).0 - 1) (param_step {K = K} []
    (b ∷ path)).1 path) None)) (none_rows {K = K} 0 path)
    ∙ elim (has_slash (b ∷ path)) as (λ s. or_else (seek {K = K} ((cond {A = ℕ × RowsOf K} s (0, []) (suc (length path), [])).0 - 1)
    (cond {A = ℕ × RowsOf K} s (0, []) (suc (length path), [])).1 path) None ≡ None) [
      | true ↦ ap (λ (o : Option K). or_else o None) (none_rows {K = K} 0 path)
      | false ↦ ap (λ (o : Option K). or_else o None) (none_rows {K = K} (suc (length path) - 1) path)
    ]

-- the rest of a path, skipped
skip_all : {K : Type 0} (key : K) (skip : ℕ) (path : List ℕ) → skip ≡ length path → seek skip (([], key) ∷ []) path ≡ Some key
unfolding matchit_on_literals
skip_all key skip [] e = refl
skip_all key zero (b ∷ path) e = absurd (omega (arith, e))
skip_all key (suc skip) (b ∷ path) e = skip_all key skip path (omega (arith, e))

no_slash : (name : List ℕ) → All (λ b. (b == 47) ≡ false) name → has_slash name ≡ false
no_slash [] all = refl
no_slash (b ∷ name) all = rw (All-head (λ c. (c == 47) ≡ false) b name all) (no_slash name (All-tail (λ c. (c == 47) ≡ false) b name all))

-- a parameter at the end takes a name
pub takes_name : {K : Type 0} (key : K) (name : List ℕ) → IsName name → All (λ b. b < 256) name
    → seek 0 ((param_token ∷ [], key) ∷ []) name ≡ Some key
unfolding matchit_on_literals
takes_name key [] good bytes = absurd (omega (arith, good.some))
takes_name {K} key (b ∷ name) good bytes =
    let byte : b < 256 = All-head (λ c. c < 256) b name bytes in
    let other : (256 == b) ≡ false = ne_eqb 256 b (λ e. omega (arith, e, byte)) in
    let first_plain : (b == 47) ≡ false = All-head (λ c. (c == 47) ≡ false) b name good.plain in
    let plain : has_slash name ≡ false = no_slash name (All-tail (λ c. (c == 47) ≡ false) b name good.plain) in
    rw (other, first_plain, plain) (rw (none_rows {K = K} 0 name) (ap (λ (o : Option K). or_else o None) (skip_all key (suc (length name) - 1) name
    (omega arith))))

-- the rows of the routes, in the router's order
abbrev pub table : {K : Type 0} → K → K → K → K → K → RowsOf K
table airfield case record_row report review =
    (codes "/airfield/" ++ param_token ∷ [], airfield) ∷ (codes "/case/" ++ param_token ∷ [], case) ∷ (codes "/record", record_row)
    ∷ (codes "/report/" ++ param_token ∷ [], report) ∷ (codes "/review", review) ∷ []

-- a byte of the path that goes on to a route
literal : {K : Type 0} (b : ℕ) (rs : RowsOf K) (path : List ℕ) (key : K) → seek 0 (step b rs) path ≡ Some key → seek 0 rs (b ∷ path) ≡ Some key
unfolding matchit_on_literals
literal b rs path key e = rw e refl

finds_record : {K : Type 0} (a c r p v : K) → first (table a c r p v) (codes "/record") ≡ Some r
unfolding matchit_on_literals
finds_record a c r p v = refl

finds_review : {K : Type 0} (a c r p v : K) → first (table a c r p v) (codes "/review") ≡ Some v
unfolding matchit_on_literals
finds_review a c r p v = refl

finds_airfield : {K : Type 0} (a c r p v : K) (name : List ℕ) → IsName name → All (λ b. b < 256) name
    → first (table a c r p v) (codes "/airfield/" ++ name) ≡ Some a
finds_airfield a c r p v name good bytes = literal 47 (table a c r p v) _ _ (literal 97 _ _ _ (literal 105 _ _ _ (literal 114 _ _ _
    (literal 102 _ _ _ (literal 105 _ _ _ (literal 101 _ _ _ (literal 108 _ _ _ (literal 100 _ _ _ (literal 47 _ _ _
    (takes_name a name good bytes))))))))))

finds_case : {K : Type 0} (a c r p v : K) (name : List ℕ) → IsName name → All (λ b. b < 256) name
    → first (table a c r p v) (codes "/case/" ++ name) ≡ Some c
finds_case a c r p v name good bytes = literal 47 (table a c r p v) _ _ (literal 99 _ _ _ (literal 97 _ _ _ (literal 115 _ _ _ (literal 101 _ _ _
    (literal 47 _ _ _ (takes_name c name good bytes))))))

finds_report : {K : Type 0} (a c r p v : K) (name : List ℕ) → IsName name → All (λ b. b < 256) name
    → first (table a c r p v) (codes "/report/" ++ name) ≡ Some p
finds_report a c r p v name good bytes = literal 47 (table a c r p v) _ _ (literal 114 _ _ _ (literal 101 _ _ _ (literal 112 _ _ _
    (literal 111 _ _ _ (literal 114 _ _ _ (literal 116 _ _ _ (literal 47 _ _ _ (takes_name p name good bytes))))))))

pub finds_all : (a c r p v : RouteOf Place) → a.value ≡ places.Airfield → c.value ≡ places.Case → r.value ≡ places.Record → p.value ≡ places.Report
    → v.value ≡ places.Review
    → FindsAll (table a c r p v)
finds_all a c r p v ea ec er ep ev places.Airfield name target is bytes = rw (is.1, finds_airfield a c r p v name is.0 bytes) (ap (λ
    (x : Place). Some x) ea)
finds_all a c r p v ea ec er ep ev places.Case name target is bytes = rw (is.1, finds_case a c r p v name is.0 bytes) (ap (λ (x : Place). Some x) ec)
finds_all a c r p v ea ec er ep ev places.Report name target is bytes = rw (is.1, finds_report a c r p v name is.0 bytes) (ap (λ
    (x : Place). Some x) ep)
finds_all a c r p v ea ec er ep ev places.Record name target is bytes = rw (is.1, is.0, finds_record a c r p v) (ap (λ (x : Place). Some x) er)
finds_all a c r p v ea ec er ep ev places.Review name target is bytes = rw (is.1, is.0, finds_review a c r p v) (ap (λ (x : Place). Some x) ev)

back_bytes : (p name : List ℕ) → All (λ b. b < 256) (p ++ name) → All (λ b. b < 256) name
back_bytes [] name all = all
back_bytes (x ∷ p) name all = back_bytes p name (All-tail (λ b. b < 256) x (p ++ name) all)

name_bytes : (target name : List ℕ) (place : Place) → ((i : ℕ) → Fits w8 (slice_index target i)) → IsTarget place name target
    → All (λ b. b < 256) name
name_bytes target name place fits is = back_bytes (prefix place) name (subst (All (λ b. b < 256)) is.1 (All-from_get_or (λ b. b < 256) target 0
    (λ i below. omega (arith, fits i))))

-- a target with a route is found
pub lost : (rows : RowsOf (RouteOf Place)) (target : List ℕ) → FindsAll rows → ((i : ℕ) → Fits w8 (slice_index target i)) → first rows target ≡ None
    → (place : Place) (name : List ℕ) → IsTarget place name target → ⊥
lost rows target finds fits none place name is =
    let found = finds place name target is (name_bytes target name place fits is) in
    let both : None ≡ Some place = ap (λ (o : Option (RouteOf Place)). option_map (λ route. route.value) o) (sym none) ∙ found in
    absurd (cc)

-- and no other place than its own
pub only : (rows : RowsOf (RouteOf Place)) (target : List ℕ) (route : RouteOf Place) → FindsAll rows → ((i : ℕ) → Fits w8 (slice_index target i))
    → first rows target ≡ Some route
    → (place : Place) (name : List ℕ) → IsTarget place name target → place ≡ route.value
only rows target route finds fits some place name is =
    let found = finds place name target is (name_bytes target name place fits is) in
    let both : Some route.value ≡ Some place = ap (λ (o : Option (RouteOf Place)). option_map (λ route. route.value) o) (sym some) ∙ found in
    cc

-- a front that is not the prefix
pub other_front : (target p name : List ℕ) → (take (length p) target ≡ p → ⊥) → target ≡ p ++ name → ⊥
other_front target p name other e = other (ap (λ (t : List ℕ). take (length p) t) e ∙ (take-append-le (length p) p name (omega arith)
    ∙ take_all (length p) p (omega arith)))

pub same_front : (target p : List ℕ) → take (length p) target ≡ p → target ≡ p ++ drop (length p) target
same_front target p e = sym (take-append-drop (length p) target) ∙ ap (λ (t : List ℕ). t ++ drop (length p) target) e

pub drop_of : (target p name : List ℕ) → target ≡ p ++ name → drop (length p) target ≡ name
drop_of target [] name e = e
drop_of [] (x ∷ p) name e = absurd (omega (arith, ap length e))
drop_of (y ∷ target) (x ∷ p) name e = let tail : target ≡ p ++ name = cc in drop_of target p name tail

-- two texts that a test tells apart are two
pub differ : (a b : List ℕ) (r : Bool) → r ≡ not (pointwise nat_eq a b) → r ≡ true → a ≡ b → ⊥
differ a b r e t same = by_cases (pointwise nat_eq a b) (slice_eq-Decides Decides-eqb a b _ refl) (sym e ∙ t) same
  where
    by_cases : (x : Bool) → Decides x (a ≡ b) → not x ≡ true → a ≡ b → ⊥
    by_cases true d n same = false≢true n
    by_cases false d n same = false≢true (d.1 same)
