use Rattle.row_cases.proofs.KeyFacts.{key_utf8}
use Rattle.row_cases.proofs.filing.key_bytes.Goals as goal

pub returns-clause-text : goal.returns-clause-text
returns-clause-text c = rw (c.digit.ensures, c.digit-2.ensures, c.digit-3.ensures, c.digit-4.ensures, c.digit-5.ensures, c.digit-6.ensures) (key_utf8 c.args.number)
