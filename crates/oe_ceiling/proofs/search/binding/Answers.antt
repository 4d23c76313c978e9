use Rattle.std.proofs.lemmas.Result.{IfOk-weaker}
use Rattle.oe_ceiling.proofs.Heights.{not_negative}
use Rattle.oe_ceiling.proofs.search.binding.Goals as goal

pub findings_above-requires : goal.findings_above-requires
findings_above-requires g c = record {
  least = not_negative c.args.sky.now c.args.filing.now c.ceiling-highest.result c.ceiling-highest.ensures.found;
  most = c.ceiling-highest.ensures.most;
}

pub returns-clause-found : goal.returns-clause-found
returns-clause-found g c =
    IfOk-weaker c.findings_above.result _ _ (λ list e. record { ceiling = c.ceiling-highest.result; is_ceiling = c.ceiling-highest.ensures.found; found = e }) c.findings_above.ensures.found
