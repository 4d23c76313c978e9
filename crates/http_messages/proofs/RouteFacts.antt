-- What a target's place says of its name.
use Rattle.std.proofs.Common.{◌≡◌, ◌≤◌, ℕ, List, ◌++◌, length, drop, ap, arith, length-append}
use Rattle.http_messages.proofs.SeekFacts.{drop_of}

-- the name stands behind the prefix
pub name_is : (target before name word : List ℕ) → target ≡ before ++ name → word ++ drop (length before) target ≡ word ++ name
name_is target before name word e = ap (λ (t : List ℕ). word ++ t) (drop_of target before name e)

-- the prefix lies in the target
pub prefix_fits : (target before : List ℕ) → ((name : List ℕ) × (target ≡ before ++ name)) → length before ≤ length target
prefix_fits target before x = omega (arith, ap length x.1, length-append before x.0)
