-- Entries that are taken one after the other.
use Rattle.std.proofs.Common.{◌≡◌, ℕ, List, ◌++◌, Option, Result, Ok, Err, subst}
use Rattle.std.specs.Prelude.{OnOk}
use Rattle.airfield_findings.specs.Entries.{entries}
use Rattle.finding_lists.specs.declared.finding.Finding.{Finding}
use Rattle.finding_lists.specs.declared.finding.SurfaceKey.{SurfaceKey}
use Rattle.finding_lists.specs.declared.finding.Rule.{Rule}
use Rattle.airfield_findings.proofs.ListFacts.{both}

-- the list followed by some more findings was taken
abbrev pub Puts : (Old New : List Finding → Type 0) → List Finding → Type 0
Puts Old New more = (list : List Finding) → Old list → New (list ++ more)

-- what follows where a call returned
pub where_ok : {X E A B : Type 0} (r : Result X E) → (A → B) → OnOk r A → OnOk r B
where_ok (Ok x) f h = f h
where_ok (Err e) f h = h

-- an entry whose excess is known
pub told : (Old New : List Finding → Type 0) (rule : Rule) (key : SurfaceKey) (x y : Option ℕ) → x ≡ y → Puts Old New (entries rule key x) → Puts Old New (entries rule key y)
told Old New rule key x y e h list taken = subst (λ (z : Option ℕ). New (list ++ entries rule key z)) e (h list taken)

-- an entry whose key is known too
pub named : (Old New : List Finding → Type 0) (rule : Rule) (k l : SurfaceKey) (x y : Option ℕ) → k ≡ l → x ≡ y → Puts Old New (entries rule k x) → Puts Old New (entries rule l y)
named Old New rule k l x y d e h list taken = subst (λ (m : SurfaceKey). New (list ++ entries rule m y)) d (told Old New rule k x y e h list taken)

pub three : (T0 T1 T2 T3 : List Finding → Type 0) (a b d : List Finding) → Puts T0 T1 a → Puts T1 T2 b → Puts T2 T3 d → Puts T0 T3 (a ++ b ++ d)
three T0 T1 T2 T3 a b d h1 h2 h3 = both T0 T2 T3 (a ++ b) d (both T0 T1 T2 a b h1 h2) h3

pub six : (T0 T1 T2 T3 T4 T5 T6 : List Finding → Type 0) (a b d e f g : List Finding) → Puts T0 T1 a → Puts T1 T2 b → Puts T2 T3 d → Puts T3 T4 e → Puts T4 T5 f → Puts T5 T6 g
    → Puts T0 T6 (a ++ b ++ d ++ e ++ f ++ g)
six T0 T1 T2 T3 T4 T5 T6 a b d e f g h1 h2 h3 h4 h5 h6 =
    both T0 T5 T6 (a ++ b ++ d ++ e ++ f) g
    (both T0 T4 T5 (a ++ b ++ d ++ e) f (both T0 T3 T4 (a ++ b ++ d) e (three T0 T1 T2 T3 a b d h1 h2 h3) h4) h5) h6
