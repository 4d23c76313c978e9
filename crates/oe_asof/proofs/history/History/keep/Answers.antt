use Rattle.std.proofs.Common.{◌≡◌, ◌≤◌, ℕ, Some, nat_eq, false, sym, ap, subst, IfSome}
use Rattle.std.specs.Option.{option_eq, option_map}
use Rattle.oe_asof.specs.Versions.{AreRising, Keeping, Version, latest, number_of}
use Rattle.oe_asof.proofs.VersionFacts.{rising_on}
use Rattle.oe_asof.proofs.history.History.keep.Goals as goal

pub invariant_of-self : goal.invariant_of-self
invariant_of-self c =
    let same = ap (λ (k : Keeping). k.versions) c.self.view_is in
    let number = ap number_of c.new.ensures in
    let order = subst (λ (n : ℕ). IfSome (latest c.args.self.now.versions) (λ (w : Version). w.number ≤ n)) (sym number) c.requires.order in
    let differ : option_eq nat_eq (option_map number_of (latest c.args.self.now.versions)) (Some c.new.result.number) ≡ false = cc (c.eq.ensures, c.last.ensures, c.if-eq.false, number) in
    rw (c.push_reserved.ensures.items, same) (rising_on c.args.self.now.versions c.new.result (subst AreRising same c.self.invariant) order differ)
