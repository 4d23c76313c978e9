-- What a session leaves, by how it ended.
use Rattle.std.proofs.Common.{arith, ◌≡◌, ◌≢◌, ◌≤◌, ◌⊎◌, inl, inr, refl, ℕ, List, Option}
use Rattle.oe_http.specs.Causes.{Rose}
use Rattle.oe_http.specs.Lines.{TakesPart}
use Rattle.oe_http.specs.Pending.{Pending, unread_bytes}
use Rattle.oe_http.specs.declared.lines.ReadError.{ReadError}
use Rattle.oe_http.specs.declared.lines.ReadError.TheVariants as errors
use Rattle.oe_http.specs.Machine.{Step}
use Rattle.oe_http.specs.Session.{Completes, WritesWhole}
use Rattle.oe_http.specs.Replies.{EndsRead, ending_of}
use Rattle.oe_http.specs.declared.session.Ended.{Ended}
use Rattle.oe_http.specs.declared.session.Ended.TheVariants as endings
use Rattle.oe_http.proofs.SessionFacts.{Underway, underway_front, underway_read, read_to_end}

not_closed : (e : ReadError) (ended : Ended) → (ended ≡ ending_of e) ⊎ (ended ≡ endings.WriteFault) → ended ≡ endings.Closed → ⊥
not_closed errors.Failed ended (inl p) c = cc
not_closed errors.InputLong ended (inl p) c = cc
not_closed errors.NoMemory ended (inl p) c = cc
not_closed e ended (inr q) c = cc

not_wanting : (e : ReadError) (ended : Ended) → (ended ≡ ending_of e) ⊎ (ended ≡ endings.WriteFault) → (ended ≡ endings.ReadFault) ⊎ (ended ≡ endings.Long) → e ≢ errors.NoMemory
not_wanting e ended (inl p) (inl w) n = let q = rw n at p in cc
not_wanting e ended (inl p) (inr w) n = let q = rw n at p in cc
not_wanting e ended (inr p) (inl w) n = cc
not_wanting e ended (inr p) (inr w) n = cc

not_written : (ended : Ended) → (ended ≡ endings.ReadFault) ⊎ (ended ≡ endings.Long) → ended ≢ endings.WriteFault
not_written ended (inl w) f = cc
not_written ended (inr w) f = cc

not_whole : (ended : Ended) → (ended ≡ endings.Closed) ⊎ (ended ≡ endings.WriteFault) → (ended ≡ endings.ReadFault) ⊎ (ended ≡ endings.Long) → ⊥
not_whole ended (inl p) (inl w) = cc
not_whole ended (inl p) (inr w) = cc
not_whole ended (inr p) (inl w) = cc
not_whole ended (inr p) (inr w) = cc

not_memory : (ended : Ended) → (ended ≡ endings.Closed) ⊎ (ended ≡ endings.WriteFault) → ended ≡ endings.NoMemory → ⊥
not_memory ended (inl p) n = cc
not_memory ended (inr p) n = cc

-- what a session that an error of reading has ended leaves, once what waited was written
pub written_err : {St : Type 0} (step : Step St) (a b after : St) (x y left h m : Option (List ℕ)) (e : ReadError) (ended : Ended)
    → (ended ≢ endings.WriteFault → Underway step a b x y h m) → (e ≢ errors.NoMemory → TakesPart y left × (after ≡ b))
    → (ended ≡ ending_of e) ⊎ (ended ≡ endings.WriteFault) → WritesWhole step a after ended x left h m
written_err step a b after x y left h m e ended u part other = record {
  read_to_end = λ c. absurd (not_closed e ended other c);
  whole = λ w. let q = part (not_wanting e ended other w) in rw q.1 (underway_read step a b x y left h m (u (not_written ended w)) q.0);
  memory = λ n. underway_front step a b x y h m (u (λ f. absurd (cc)));
}

-- the same for a session whose input has ended
pub written_end : {St : Type 0} (step : Step St) (a b after : St) (x y left h k m : Option (List ℕ)) (p : Pending) (ended : Ended)
    → Underway step a b x y h k → EndsRead y (unread_bytes p left) → (ended ≡ endings.Closed) ⊎ (ended ≡ endings.WriteFault) → WritesWhole step a after ended x left h m
written_end step a b after x y left h k m p ended u e other = record {
  read_to_end = λ _. read_to_end step a b x y h k left p u e;
  whole = λ w. absurd (not_whole ended other w);
  memory = λ n. absurd (not_memory ended other n);
}

-- ---- over streams that did not fail

-- a count that rose later has risen
pub rose_since : (a b n : ℕ) → a ≤ b → Rose b n → Rose a n
rose_since a b n l rose = omega (arith, l, rose)

-- a session ends by a fault only where a count rose
pub completes : (ended : Ended) (r0 r1 w0 w1 : ℕ) → (ended ≡ endings.ReadFault → Rose r0 r1) → (ended ≡ endings.WriteFault → Rose w0 w1) → Completes ended r0 r1 w0 w1
completes endings.Closed r0 r1 w0 w1 read write = record { unharmed = λ calm. tt }
completes endings.Truncated r0 r1 w0 w1 read write = record { unharmed = λ calm. tt }
completes (endings.Refused status) r0 r1 w0 w1 read write = record { unharmed = λ calm. tt }
completes endings.ReadFault r0 r1 w0 w1 read write = record { unharmed = λ calm. calm.read (read refl) }
completes endings.WriteFault r0 r1 w0 w1 read write = record { unharmed = λ calm. calm.write (write refl) }
completes endings.Long r0 r1 w0 w1 read write = record { unharmed = λ calm. tt }
completes endings.NoMemory r0 r1 w0 w1 read write = record { unharmed = λ calm. tt }

pub not_read : (ended : Ended) → (ended ≡ endings.Closed) ⊎ (ended ≡ endings.WriteFault) → ended ≡ endings.ReadFault → ⊥
not_read ended (inl p) r = cc
not_read ended (inr p) r = cc

pub failed_read : (e : ReadError) (ended : Ended) → (ended ≡ ending_of e) ⊎ (ended ≡ endings.WriteFault) → ended ≡ endings.ReadFault → e ≡ errors.Failed
failed_read errors.Failed ended other r = refl
failed_read errors.InputLong ended (inl p) r = absurd (cc)
failed_read errors.InputLong ended (inr p) r = absurd (cc)
failed_read errors.NoMemory ended (inl p) r = absurd (cc)
failed_read errors.NoMemory ended (inr p) r = absurd (cc)

pub no_write : (e : ReadError) → ending_of e ≢ endings.WriteFault
no_write errors.Failed f = cc
no_write errors.InputLong f = cc
no_write errors.NoMemory f = cc
