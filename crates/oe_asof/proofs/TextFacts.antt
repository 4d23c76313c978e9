-- Four parts, appended one after another.
use Rattle.std.proofs.Common.{◌≡◌, ℕ, List, ◌++◌, ◌∙◌, ap, append_assoc}

pub four : (o p q r s a b c d : List ℕ) → p ≡ o ++ a → q ≡ p ++ b → r ≡ q ++ c → s ≡ r ++ d → s ≡ o ++ (((a ++ b) ++ c) ++ d)
four o p q r s a b c d e f g h =
    let two : q ≡ o ++ (a ++ b) = f ∙ ap (λ (t : List ℕ). t ++ b) e ∙ append_assoc o a b in
    let three : r ≡ o ++ ((a ++ b) ++ c) = g ∙ ap (λ (t : List ℕ). t ++ c) two ∙ append_assoc o (a ++ b) c in
    h ∙ ap (λ (t : List ℕ). t ++ d) three ∙ append_assoc o ((a ++ b) ++ c) d
