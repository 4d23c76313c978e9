use Rattle.std.proofs.Common.{inl, refl}
use Rattle.oe_journal.proofs.Loaded.{was_told, failed_says}
use Rattle.oe_journal.proofs.runs.load_again.Goals as goal

pub returns-in-Ok-clause-stands : goal.returns-in-Ok-clause-stands
returns-in-Ok-clause-stands g c = λ told stand so. record { acknowledges = λ _. c.in-Ok.ensures.acknowledges told; may_stand = λ rows now. inl (c.in-Ok.ensures.stands told rows now); telling = λ _ _. refl }

pub returns-in-Err-Failed-clause-stands : goal.returns-in-Err-Failed-clause-stands
returns-in-Err-Failed-clause-stands g c =
    λ told stand so.
    record {
      acknowledges = λ e. absurd cc;
      may_stand = λ rows now. so.may_stand rows ((c.load.ensures.crash told c.requires.open).stands rows now);
      telling = λ rows tells. absurd (failed_says (Unit {0}) c.in-Err-Failed.field-0 c.in-Err-Failed.field-0-is c.in-Err-Failed.ensures.untold rows tells);
    }

pub returns-in-Err-NoMemory-clause-stands : goal.returns-in-Err-NoMemory-clause-stands
returns-in-Err-NoMemory-clause-stands g c =
    λ told stand so.
    record {
      acknowledges = λ e. absurd cc;
      may_stand = λ rows now. so.may_stand rows ((c.load.ensures.crash told c.requires.open).stands rows now);
      telling = λ rows tells. was_told stand.is_told (c.in-Err-NoMemory.ensures.silent rows tells) (λ w. so.telling w.0 w.1);
    }
