-- Pieces of a text, written one after another.
use Rattle.std.proofs.Common.{ℕ, List, [], ◌++◌, take, drop, Option, Some, None, refl, sym, append_assoc, append-nil}
use Rattle.std.proofs.lemmas.List.{take-append-drop}
use Rattle.std.specs.Io.KnownBytes.{Appends, Keeps}
use Rattle.oe_http.specs.Written.{Sent}

pub appends_on : (x y z : Option (List ℕ)) (p q : List ℕ) → Appends x y p → Appends y z q → Appends x z (p ++ q)
appends_on None y z p q h k = tt
appends_on (Some xs) None z p q h k = absurd h
appends_on (Some xs) (Some ys) None p q h k = absurd k
appends_on (Some xs) (Some ys) (Some zs) p q h k = rw (k, h, append_assoc xs p q) refl

pub appends_keep : (x y z : Option (List ℕ)) (p : List ℕ) → Appends x y p → Keeps y z → Appends x z p
appends_keep None y z p h k = tt
appends_keep (Some xs) None z p h k = absurd h
appends_keep (Some xs) (Some ys) None p h k = absurd k
appends_keep (Some xs) (Some ys) (Some zs) p h k = rw (k, h) refl

pub appends_none : (x : Option (List ℕ)) → Appends x x []
appends_none None = tt
appends_none (Some xs) = sym (append-nil xs)

pub sent_start : (x : Option (List ℕ)) (text : List ℕ) → Sent x x text text
sent_start x text = record { front = []; appends = appends_none x; split = refl }

pub sent_on : (x y z : Option (List ℕ)) (text rest : List ℕ) (n : ℕ) → Sent x y text rest → Appends y z (take n rest) → Sent x z text (drop n rest)
sent_on x y z text rest n h k = record {
  front = h.front ++ take n rest;
  appends = appends_on x y z h.front (take n rest) h.appends k;
  split = rw (append_assoc h.front (take n rest) (drop n rest), take-append-drop n rest) h.split;
}

pub sent_keep : (x y z : Option (List ℕ)) (text rest : List ℕ) → Sent x y text rest → Keeps y z → Sent x z text rest
sent_keep x y z text rest h k = record { front = h.front; appends = appends_keep x y z h.front h.appends k; split = h.split }
