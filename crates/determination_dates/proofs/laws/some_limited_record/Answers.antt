use Rattle.determination_dates.proofs.laws.some_limited_record.Goals as goal

pub returns : goal.returns
returns c issued decision reviewable limited = c.some_record.ensures issued decision reviewable c.args.closed.now limited c.order.ensures.limited
